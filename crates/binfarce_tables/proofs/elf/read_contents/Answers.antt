use Rattle.std.proofs.Common.{◌+◌, ◌≤◌, ℕ, Ok, ap, ap₂, sym, arith, length, subst}
use Rattle.std.specs.Prelude.{All}
use Rattle.binfarce_bytes.specs.Part.{whole_part}
use Rattle.binfarce_bytes.specs.Refusal.{refusal_of}
use Rattle.binfarce_elf.specs.ElfViews.{section_view}
use Rattle.binfarce_tables.proofs.Contents.{contents_read, contents_refused}
use Rattle.binfarce_tables.proofs.Readings.{held}
use Rattle.binfarce_tables.proofs.Sure.{ending, within}
use Rattle.binfarce_tables.proofs.elf.read_contents.Goals as goal

pub returns-in-Ok-clause-answer : goal.returns-in-Ok-clause-answer
returns-in-Ok-clause-answer g c = λ file known.
    let inside : c.offset-offset.result + c.size-size.result ≤ length file = omega (arith, known.1, c.in-Ok.ensures.lies) in
    let read = held (c.offset-offset.result + c.size-size.result) file _ _ (c.in-Ok.ensures.answer file known) in
    ap Ok (contents_read file c.in-Ok.bytes.items (section_view (λ n. n) c.args.section) c.offset-offset.result c.size-size.result c.offset-offset.ensures c.size-size.ensures inside read)

pub returns-in-Err-Refused-clause-answer : goal.returns-in-Err-Refused-clause-answer
returns-in-Err-Refused-clause-answer g c = λ file known.
    let is_known = rw c.in-Err-Refused.field-0-is at c.in-Err-Refused.ensures.answer in
    ap Ok (contents_refused file (refusal_of c.in-Err-Refused.field-0-0) (section_view (λ n. n) c.args.section) c.offset-offset.result c.size-size.result c.offset-offset.ensures c.size-size.ensures (is_known file known))

pub returns-in-Ok-clause-only : goal.returns-in-Ok-clause-only
returns-in-Ok-clause-only g c = λ file known.
    ending (within (λ P. subst (All P) (sym (ap₂ (λ (a b : ℕ). whole_part file a b) c.offset-offset.ensures c.size-size.ensures))) (c.within.ensures.only file known)) tt

pub returns-in-Err-Refused-clause-only : goal.returns-in-Err-Refused-clause-only
returns-in-Err-Refused-clause-only g c = λ file known.
    ending (within (λ P. subst (All P) (sym (ap₂ (λ (a b : ℕ). whole_part file a b) c.offset-offset.ensures c.size-size.ensures))) (c.within.ensures.only file known)) tt

pub returns-in-Err-clause-only : goal.returns-in-Err-clause-only
returns-in-Err-clause-only g c = λ file known.
    within (λ P. subst (All P) (sym (ap₂ (λ (a b : ℕ). whole_part file a b) c.offset-offset.ensures c.size-size.ensures))) (c.in-Err.ensures.only file known)
