use Rattle.std.proofs.Common.{[], Option, Ok, sym, ap, rules}
use Rattle.std.specs.Option.{option_map}
use Rattle.binfarce_elf.specs.ElfViews.{section_view}
use Rattle.binfarce_tables.proofs.ReadingSteps.{done, same}
use Rattle.binfarce_needs.specs.NeedsReading.{reading_if}
use Rattle.binfarce_needs.proofs.reading.read_if.Goals as goal

pub returns-in-Some : goal.returns-in-Some
returns-in-Some g c = λ file known.
    same file (ap (λ (s : Option _). reading_if (option_map (section_view (λ n. n)) s)) (sym c.in-Some.is)) (c.read_section.ensures file known)

pub returns-in-None : goal.returns-in-None
returns-in-None g c = λ file known.
    same file (ap (λ (s : Option _). reading_if (option_map (section_view (λ n. n)) s)) (sym c.in-None.is)) (done file (Ok []) _ (search rules))
