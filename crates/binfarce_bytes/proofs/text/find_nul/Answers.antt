use Rattle.std.proofs.Common.{◌≡◌, ℕ, ◌+◌, ◌≤◌, List, length, take, false, eqb, Option, sym, ap, ◌∙◌, arith, rules, tests}
use Rattle.std.specs.Option.{option_map}
use Rattle.std.specs.List.{list_any, between}
use Rattle.std.proofs.lemmas.Iterator.{YieldsList-from_slice}
use Rattle.std.proofs.lemmas.Iterator.Search.{position_from_yields_List}
use Rattle.std.proofs.lemmas.Slice.{between_to_end}
use Rattle.binfarce_bytes.specs.Text.{nul_at}
use Rattle.binfarce_bytes.proofs.Nuls.{nul_past}
use Rattle.binfarce_bytes.proofs.text.find_nul.Goals as goal

-- what is found in the part from an offset on
after_none : (bytes : List ℕ) (at : ℕ) (found : Option ℕ) → at ≤ length bytes → list_any (λ b. eqb b 0) (take at bytes) ≡ false
    → found ≡ nul_at (between at (length bytes) bytes) → nul_at bytes ≡ option_map (λ i. at + i) found
after_none bytes at found le none e =
    nul_past at bytes le none ∙ ap (λ (xs : List ℕ). option_map (λ i. at + i) (nul_at xs)) (sym (between_to_end bytes at (length bytes) (omega arith))) ∙ ap (option_map (λ (i : ℕ). at + i)) (sym e)

pub returns-in-None : goal.returns-in-None
returns-in-None c =
    let rest = between c.past_strides-at.result (length c.args.bytes.now) c.args.bytes.now in
    let found : c.position.result ≡ nul_at rest =
    position_from_yields_List (λ b. eqb b 0) _ _ c.position.result c.position.ensures.ran (YieldsList-from_slice rest cc) (λ x b q k. search (rules, tests)) in
    sym (after_none c.args.bytes.now c.past_strides-at.result _ c.past_strides-at.ensures.within c.past_strides-at.ensures.none (sym c.in-None.is ∙ found))

pub returns-in-Some : goal.returns-in-Some
returns-in-Some c =
    let rest = between c.past_strides-at.result (length c.args.bytes.now) c.args.bytes.now in
    let found : c.position.result ≡ nul_at rest =
    position_from_yields_List (λ b. eqb b 0) _ _ c.position.result c.position.ensures.ran (YieldsList-from_slice rest cc) (λ x b q k. search (rules, tests)) in
    sym (after_none c.args.bytes.now c.past_strides-at.result _ c.past_strides-at.ensures.within c.past_strides-at.ensures.none (sym c.in-Some.is ∙ found))
