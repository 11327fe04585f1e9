-- What is before and after the last such character of a text.
use Rattle.std.proofs.Common.{◌≡◌, ◌≢◌, ◌∙◌, ◌==◌, ◌<◌, ◌++◌, ℕ, suc, Bool, true, false, List, [], ◌∷◌, Option, Some, None, MatchOption, Bor, length, get_or, take, drop, ap, ap₂, arith, refl, sym, take-append-drop, if◌then◌else◌}
use Rattle.std.proofs.lemmas.Bool.Decides.{nat_tests}
use Rattle.std.proofs.lemmas.Str.Pattern.{NoCharPasses-char, drop_at_char}
use Rattle.std.specs.Option.{option_map}
use Rattle.std.specs.Str.Pattern.{RFindsChar, SplitsAroundMatch}
use Rattle.binfarce_limits.specs.Reading.{behind, split_last}

not_it : (x c : ℕ) → x ≢ c → (x == c) ≡ false
not_it x c other = grind (arith, nat_tests)

it : (c : ℕ) → (c == c) ≡ true
it c = grind (arith, nat_tests)

-- it has none
none_in : (c : ℕ) (text : List ℕ) → ((i : ℕ) → i < length text → get_or text i 0 ≢ c) → split_last c text ≡ None
none_in c [] free = refl
none_in c (x ∷ xs) free =
    ap (behind c x xs) (none_in c xs (λ i lt. free (suc i) (omega arith)))
    ∙ ap (λ (b : Bool). if b then Some ([], xs) else None) (not_it x c (free 0 (omega arith)))

-- it has one, and no other after it
last_in : (c : ℕ) (front back : List ℕ) → split_last c back ≡ None → split_last c (front ++ c ∷ back) ≡ Some (front, back)
last_in c [] back none = ap (behind c c back) none ∙ ap (λ (b : Bool). if b then Some ([], back) else None) (it c)
last_in c (x ∷ front) back none = ap (behind c x (front ++ c ∷ back)) (last_in c front back none)

abbrev pub views : Option (Bor (List ℕ) × Bor (List ℕ)) → Option (List ℕ × List ℕ)
views parts = option_map (λ p. (p.0.now, p.1.now)) parts

pub split_is : (c : ℕ) (text : List ℕ) (parts : Option (Bor (List ℕ) × Bor (List ℕ))) → c < 128
    → MatchOption parts (RFindsChar c text None) (λ x. SplitsAroundMatch (RFindsChar c) text x.0.now x.1.now) → views parts ≡ split_last c text
split_is c text None small none = sym (none_in c text (λ i lt. NoCharPasses-char c text i none small lt))
split_is c text (Some x) small (i, j, (free, at), front, back, below, before, behind) =
    let whole : text ≡ take i text ++ c ∷ drop j text = sym (take-append-drop i text) ∙ ap (λ (end : List ℕ). take i text ++ end) (drop_at_char c text i j at small) in
    let none : split_last c (drop j text) ≡ None = none_in c (drop j text) (λ k lt. NoCharPasses-char c (drop j text) k free small lt) in
    ap₂ (λ (a b : List ℕ). Some (a, b)) front back ∙ sym (ap (split_last c) whole ∙ last_in c (take i text) (drop j text) none)
