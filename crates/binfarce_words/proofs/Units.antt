-- What comes before a unit.
use Rattle.std.proofs.Common.{◌≡◌, ℕ, Bool, List, Option, Some, None, Bor, ◌-◌, length, take, if◌then◌else◌, ap, sym, subst, arith, ◌∙◌, true, false}
use Rattle.std.specs.Str.{IsCharBoundary}
use Rattle.std.proofs.lemmas.Str.Pattern.{ends_text}
use Rattle.std.specs.Option.{MatchOption, option_map}
use Rattle.std.specs.Str.Pattern.{FindsTextSuffix, StripsSuffix}
use Rattle.binfarce_words.specs.Words.{before_unit}

-- what is left of a value without the unit that it ends with
pub before : (unit value : List ℕ) (r : Option (Bor (List ℕ))) → MatchOption r (FindsTextSuffix unit value None) (λ x. StripsSuffix (FindsTextSuffix unit) value x.now) → option_map (λ t. t.now) r ≡ before_unit unit value
before unit value None h = ap (λ (b : Bool). if b then Some (take (length value - length unit) value) else None) (ends_text false unit value h)
before unit value (Some x) h =
    ap (λ (l : List ℕ). Some l) (h.2 ∙ ap (λ (k : ℕ). take (length value - k) value) h.1.0)
    ∙ ap (λ (b : Bool). if b then Some (take (length value - length unit) value) else None) (ends_text true unit value (h.0, h.1, omega (arith, h.3), subst (λ (k : ℕ). IsCharBoundary value (length value - k)) (sym h.1.0) h.1.2))
