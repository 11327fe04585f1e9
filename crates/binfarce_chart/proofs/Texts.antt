-- Texts that are written in parts.
use Rattle.std.proofs.Common.{◌≡◌, ℕ, List, ◌++◌, Result, Ok, Err, ap, ◌∙◌, append_assoc}
use Rattle.std.specs.Prelude.{OnOk}

pub on_ok : {T E : Type 0} (P Q : Type 0) (r : Result T E) → (P → Q) → OnOk r P → OnOk r Q
on_ok P Q (Ok x) f h = f h
on_ok P Q (Err e) f h = tt

-- three parts after the text
pub three : (old x y z a b c : List ℕ) → a ≡ old ++ x → b ≡ a ++ y → c ≡ b ++ z → c ≡ old ++ (x ++ (y ++ z))
three old x y z a b c first second third =
    third ∙ ap (λ (t : List ℕ). t ++ z) (second ∙ ap (λ (t : List ℕ). t ++ y) first ∙ append_assoc old x y) ∙ append_assoc old (x ++ y) z ∙ ap (λ (t : List ℕ). old ++ t) (append_assoc x y z)
