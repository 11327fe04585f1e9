use Rattle.std.proofs.Common.{◌≡◌, ◌-◌, ◌<◌, true, List, ℕ, drop, take, length, sym, ap, ◌∙◌, arith}
use Rattle.std.proofs.lemmas.List.{drop-drop, length-drop}
use Rattle.binfarce_figures.specs.Modules.{begins_in}
use Rattle.binfarce_figures.proofs.Paths.{found, left}
use Rattle.binfarce_figures.proofs.module.below_crate.Goals as goal

pub returns-then-begins_in : goal.returns-then-begins_in
returns-then-begins_in c =
    let at = c.loop-at.at in
    let name = c.args.text.now in
    let crate_name = c.args.crate_name.now in
    let bytes = c.as_bytes-bytes.result.now in
    let begins : begins_in crate_name (drop at name) ≡ true =
    ap (begins_in crate_name) (sym (left at bytes name c.as_bytes-bytes.ensures.value))
    ∙ ap (λ (t : List ℕ). begins_in t (take (length bytes - at) (drop at bytes))) (sym c.as_bytes.ensures.value) ∙ sym c.begins_in.ensures ∙ c.if-begins_in.true in
    let some : 0 < length (drop at name) = let h = length-drop at name in let k = ap length c.as_bytes-bytes.ensures.value in let l = c.loop-at-test.true in omega arith in
    c.range_from.ensures.value ∙ sym (drop-drop (length crate_name) at name)
    ∙ sym (found crate_name (drop at name) c.loop-at.before (sym c.is_of_path.ensures ∙ c.if-not-is_of_path.true) begins some) ∙ c.loop-at.invariant.due
