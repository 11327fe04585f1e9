use Rattle.std.proofs.lemmas.List.Elements.{All-head}
use Rattle.binfarce_bytes.specs.Part.{part}
use Rattle.binfarce_elf.specs.Classes.{class_of}
use Rattle.binfarce_tables.specs.Readings.{parts_of, ◌>>=◌}
use Rattle.binfarce_tables.proofs.Sure.{unmeasured}
use Rattle.binfarce_needs.specs.NeedsReading.{needs_reading}
use Rattle.binfarce_needs.proofs.reading.read_needs.Goals as goal

pub returns-in_err-opened-clause-only : goal.returns-in_err-opened-clause-only
unfolding parts_of ◌>>=◌ needs_reading
returns-in_err-opened-clause-only g c = λ file known. unmeasured (part 0 (class_of c.args.width).header_length) (λ P all. All-head P _ _ all) c.in_err-opened.ensures.unsure

pub returns-clause-answer : goal.returns-clause-answer
returns-clause-answer g c = λ file known. rw c.in_ok-opened.ensures.source at ((c.read_file.ensures file (c.in_ok-opened.ensures.known file known)).answer)

pub returns-clause-only : goal.returns-clause-only
returns-clause-only g c = λ file known. rw c.in_ok-opened.ensures.source at ((c.read_file.ensures file (c.in_ok-opened.ensures.known file known)).only)
