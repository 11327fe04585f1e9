-- Bytes that are looked for in a text.
use Rattle.std.proofs.Common.{◌≡◌, ℕ, ◌+◌, ◌-◌, ◌<◌, Bool, true, false, List, ◌∷◌, length, drop, take, get_or, Option, Some, sym, ap, ◌∙◌, add-one, arith, drop-cons, length-drop}
use Rattle.std.specs.Prelude.{nat_eq, if◌then◌else◌}
use Rattle.std.specs.List.{starts_with}
use Rattle.std.proofs.lemmas.List.{take_all}
use Rattle.binfarce_logs.specs.Faults.{behind_mark}

-- they aren't here
pub mark_step : (mark text : List ℕ) (at : ℕ) → at < length text → starts_with nat_eq (drop at text) mark ≡ false → behind_mark mark (drop at text) ≡ behind_mark mark (drop (at + 1) text)
mark_step mark text at lt none =
    let b = get_or text at 0 in
    let rest : List ℕ = drop (at + 1) text in
    let here : drop at text ≡ b ∷ rest = drop-cons text at 0 lt ∙ ap (λ (n : ℕ). b ∷ drop n text) (sym (add-one at)) in
    let P : Bool → Option (List ℕ) = λ t. if t then Some (drop (length mark) (b ∷ rest)) else behind_mark mark rest in
    ap (behind_mark mark) here ∙ ap P (ap (λ (x : List ℕ). starts_with nat_eq x mark) (sym here) ∙ none)

-- they are
pub mark_here : (mark text : List ℕ) (at : ℕ) → at < length text → starts_with nat_eq (drop at text) mark ≡ true → behind_mark mark (drop at text) ≡ Some (drop (length mark) (drop at text))
mark_here mark text at lt some =
    let b = get_or text at 0 in
    let rest : List ℕ = drop (at + 1) text in
    let here : drop at text ≡ b ∷ rest = drop-cons text at 0 lt ∙ ap (λ (n : ℕ). b ∷ drop n text) (sym (add-one at)) in
    let P : Bool → Option (List ℕ) = λ t. if t then Some (drop (length mark) (b ∷ rest)) else behind_mark mark rest in
    ap (behind_mark mark) here ∙ ap P (ap (λ (x : List ℕ). starts_with nat_eq x mark) (sym here) ∙ some) ∙ ap (λ (x : List ℕ). Some (drop (length mark) x)) (sym here)

-- the text from a place on is all of it there
pub to_end : (at : ℕ) (text : List ℕ) → take (length text - at) (drop at text) ≡ drop at text
to_end at text = take_all (length text - at) (drop at text) (omega (arith, length-drop at text))
