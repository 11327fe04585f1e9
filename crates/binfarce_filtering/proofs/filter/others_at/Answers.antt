use Rattle.std.proofs.Common.{◌≡◌, ◌+◌, ◌-◌, ◌<◌, ℕ, true, drop, take, get_or, ◌∙◌, arith, length-take, subst}
use Rattle.std.specs.List.{prefix_len}
use Rattle.std.proofs.lemmas.Bool.Decides.{nat_tests}
use Rattle.std.proofs.lemmas.List.{get_or-drop, get_or-take}
use Rattle.std.proofs.lemmas.List.Sums.{prefix_len-le-length, prefix_len_passes}
use Rattle.binfarce_filtering.specs.machine.Scan.{is_other}
use Rattle.binfarce_filtering.proofs.filter.others_at.Goals as goal

no_underscore : (b : ℕ) → is_other b ≡ true → ¬ (b ≡ 95)
no_underscore b is = grind (arith, nat_tests)

pub returns-clause-within : goal.returns-clause-within
returns-clause-within c =
    let at = c.args.at in
    let bytes = take (at + 16 - at) (drop at c.args.text.now) in
    omega (arith, c.others_among.ensures, prefix_len-le-length is_other bytes, length-take (at + 16 - at) (drop at c.args.text.now), c.if-text-at-le-STRIDE.false)

pub returns-clause-others : goal.returns-clause-others
returns-clause-others c = λ k under.
    let text = c.args.text.now in
    let at = c.args.at in
    let n = at + 16 - at in
    let bytes = take n (drop at text) in
    let first : k < prefix_len is_other bytes = omega (arith, under, c.others_among.ensures) in
    let short : k < n = omega (arith, first, prefix_len-le-length is_other bytes, length-take n (drop at text)) in
    let here : get_or bytes k 0 ≡ get_or text (at + k) 0 = get_or-take n (drop at text) k 0 short ∙ get_or-drop at text k 0 in
    let P : ℕ → Type 0 = λ b. ¬ (b ≡ 95) in
    subst P here (no_underscore (get_or bytes k 0) (prefix_len_passes is_other bytes k 0 first))
