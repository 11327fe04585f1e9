use Rattle.std.proofs.Common.{Err, refl, arith}
use Rattle.binfarce_bytes.specs.Refusal.{malformed_input}
use Rattle.binfarce_elf.specs.ElfViews.{section_view}
use Rattle.binfarce_tables.proofs.ReadingSteps.{done, part_done, same}
use Rattle.binfarce_needs.proofs.TableSteps.{short, too_long}
use Rattle.binfarce_needs.proofs.reading.read_section.Goals as goal

pub returns-in_default : goal.returns-in_default
returns-in_default g c = λ file known.
    same file (too_long (section_view (λ n. n) c.args.section) (omega (arith, c.offset-offset.ensures, c.size-size.ensures, c.in_default.ensures))) (done file (Err malformed_input) _ refl)

pub returns : goal.returns
returns g c = λ file known.
    let s = section_view (λ n. n) c.args.section in
    same file (short s c.offset-offset.result c.size-size.result c.offset-offset.ensures c.size-size.ensures (omega (arith, c.in-Some.ensures, c.offset-offset.ensures, c.size-size.ensures)))
    (part_done file c.offset-offset.result c.size-size.result _ (c.within.ensures.answer file known) (c.within.ensures.only file known))
