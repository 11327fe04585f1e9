use Rattle.std.proofs.Common.{◌≡◌, ◌+◌, List, ℕ, ap, arith, drop, sym, take, ◌∙◌}
use Rattle.binfarce_logs.specs.Maps.{before_blank, behind_blank, mapping_with}
use Rattle.std.proofs.lemmas.Bool.Decides.{nat_tests}
use Rattle.binfarce_logs.proofs.Mapped.{no_mapping_from}
use Rattle.binfarce_logs.proofs.maps.mapping_of.Goals as goal
use Rattle.binfarce_logs.proofs.maps.mapping_of.Goals.{then-is_empty-via-then-is_empty, then-is_empty-via-else-is_empty+then-not-is_ascii_hexdigit}

pub returns-then-is_empty : goal.returns-then-is_empty
returns-then-is_empty c =
    no_mapping_from c.args.line.now (elim c.then-is_empty.branch [
      | then-is_empty-via-then-is_empty w ↦ λ some. let empty = c.is_empty.ensures in let is = w.if-is_empty.true in grind (arith, nat_tests, some, empty, is)
      | then-is_empty-via-else-is_empty+then-not-is_ascii_hexdigit w ↦ λ some. sym w.is_ascii_hexdigit.ensures.value ∙ w.if-not-is_ascii_hexdigit.true
    ])

pub returns : goal.returns
returns c =
    let line = c.args.line.now in
    let len = c.len_before-len.ensures.len in
    let others : c.behind.result.now ≡ behind_blank line = c.behind.ensures ∙ ap (λ (n : ℕ). drop (n + 1) line) len in
    let rest = c.behind.result.now in
    c.mapping_with.ensures
    ∙ ap (λ (n : ℕ). mapping_with (take n line) (before_blank rest) (before_blank (behind_blank rest))) len
    ∙ ap (λ (x : List ℕ). mapping_with (before_blank line) (before_blank x) (before_blank (behind_blank x))) others
