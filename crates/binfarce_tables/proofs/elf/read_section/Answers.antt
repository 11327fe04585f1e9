use Rattle.std.proofs.Common.{◌≡◌, ℕ, ◌+◌, ◌<◌, ◌^◌, List, Result, Ok, ap₂, sym, ◌∙◌, arith, subst}
use Rattle.std.specs.Prelude.{All}
use Rattle.binfarce_bytes.specs.Number.{bytes_at}
use Rattle.binfarce_bytes.specs.Part.{whole_part}
use Rattle.binfarce_bytes.specs.Refusal.{Refusal, if_as_long_as}
use Rattle.binfarce_elf.specs.ElfViews.{section_view}
use Rattle.binfarce_tables.proofs.Contents.{data_malformed, data_below}
use Rattle.binfarce_tables.proofs.Readings.{instead}
use Rattle.binfarce_tables.proofs.Sure.{within}
use Rattle.binfarce_tables.proofs.elf.read_section.Goals as goal

pub returns-in_default-clause-answer : goal.returns-in_default-clause-answer
returns-in_default-clause-answer g c = λ file known.
    data_malformed file (section_view (λ n. n) c.args.section) (omega (arith, c.offset-offset.ensures, c.size-size.ensures, c.in_default.ensures))

pub returns-clause-answer : goal.returns-clause-answer
returns-clause-answer g c = λ file known.
    let s = section_view (λ n. n) c.args.section in
    let end : s.offset + s.size < 2 ^ 64 = omega (arith, c.in-Some.ensures, c.offset-offset.ensures, c.size-size.ensures) in
    let read : (offset size : ℕ) → Result (List ℕ) Refusal = λ offset size. if_as_long_as (offset + size) file (Ok (bytes_at file offset size)) in
    let same : read s.offset s.size ≡ read c.offset-offset.result c.size-size.result = ap₂ read (sym c.offset-offset.ensures) (sym c.size-size.ensures) in
    instead _ _ _ _ _ (data_below file s end ∙ same) (c.within.ensures.answer file known)

pub returns-clause-only : goal.returns-clause-only
returns-clause-only g c = λ file known.
    within (λ P. subst (All P) (sym (ap₂ (λ (a b : ℕ). whole_part file a b) c.offset-offset.ensures c.size-size.ensures))) (c.within.ensures.only file known)
