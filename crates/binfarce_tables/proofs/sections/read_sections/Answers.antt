use Rattle.binfarce_elf.specs.Classes.{class_of}
use Rattle.binfarce_tables.proofs.ElfSure.{of_file_header}
use Rattle.binfarce_tables.proofs.Sure.{unmeasured}
use Rattle.binfarce_tables.proofs.sections.read_sections.Goals as goal

pub returns-in_err-opened-clause-only : goal.returns-in_err-opened-clause-only
returns-in_err-opened-clause-only g c = λ file known. unmeasured _ (λ P. of_file_header P (class_of c.args.width) c.args.byte_order file) c.in_err-opened.ensures.unsure

pub returns-clause-answer : goal.returns-clause-answer
returns-clause-answer g c = λ file known. rw c.in_ok-opened.ensures.source at (c.sections_of.ensures.answer file (c.in_ok-opened.ensures.known file known))

pub returns-clause-only : goal.returns-clause-only
returns-clause-only g c = λ file known. rw c.in_ok-opened.ensures.source at (c.sections_of.ensures.only file (c.in_ok-opened.ensures.known file known))
