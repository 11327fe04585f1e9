-- What is found in a list, in one beside it, and in the list with its indices.
use Rattle.std.proofs.Common.{◌≡◌, ℕ, zero, suc, ◌+◌, ◌<◌, Bool, true, false, cond, eqb, List, [], ◌∷◌, length, get_or, Option, Some, None, refl, sym, ap, ◌∙◌, arith}
use Rattle.std.specs.Prelude.{find}
use Rattle.std.specs.List.{AllZip, enumerate_from, slice_get}
use Rattle.std.specs.Option.{option_map}
use Rattle.std.proofs.lemmas.Bool.{eq-eqb, ne_eqb}

-- both are nothing, or both are something, and related
abbrev pub BothOrNone : {A B : Type 0} → (A → B → Type 0) → Option A → Option B → Type 0
BothOrNone R None None = Unit {0}
BothOrNone R None (Some y) = ⊥
BothOrNone R (Some x) None = ⊥
BothOrNone R (Some x) (Some y) = R x y

by_test : {A B : Type 0} (R : A → B → Type 0) (x : A) (y : B) (o : Option A) (p : Option B) (f g : Bool) → f ≡ g → R x y → BothOrNone R o p → BothOrNone R (cond f (Some x) o) (cond g (Some y) p)
by_test R x y o p true true same r later = r
by_test R x y o p false false same r later = later
by_test R x y o p true false same r later = absurd cc
by_test R x y o p false true same r later = absurd cc

-- tests that agree on related things find related things
pub find_both : {A B : Type 0} (R : A → B → Type 0) (f : A → Bool) (g : B → Bool) → ((x : A) (y : B) → R x y → f x ≡ g y) → (xs : List A) (ys : List B) → AllZip R xs ys → BothOrNone R (find f xs) (find g ys)
find_both R f g agree [] [] all = tt
find_both R f g agree [] (y ∷ ys) all = absurd all
find_both R f g agree (x ∷ xs) [] all = absurd all
find_both R f g agree (x ∷ xs) (y ∷ ys) all = by_test R x y (find f xs) (find g ys) (f x) (g y) (agree x y all.0) all.0 (find_both R f g agree xs ys all.1)

-- things at one index are related
pub both_at : {A B : Type 0} (R : A → B → Type 0) (xs : List A) (ys : List B) (i : ℕ) (x : A) (y : B) → AllZip R xs ys → i < length xs → R (get_or xs i x) (get_or ys i y)
both_at R [] ys i x y all lt = absurd (omega arith)
both_at R (a ∷ xs) [] i x y all lt = absurd all
both_at R (a ∷ xs) (b ∷ ys) zero x y all lt = all.0
both_at R (a ∷ xs) (b ∷ ys) (suc i) x y all lt = both_at R xs ys i x y all.1 (omega arith)

-- where an element is, the list is longer
pub index_below : {A : Type 0} (xs : List A) (i : ℕ) (x : A) → slice_get xs i ≡ Some x → i < length xs
index_below [] i x found = absurd cc
index_below (y ∷ xs) zero x found = omega arith
index_below (y ∷ xs) (suc i) x found = omega (arith, index_below xs i x found)

passes_by : {A : Type 0} (g : A → Bool) (x y : A) (o : Option A) (b : Bool) → g x ≡ b → cond b (Some x) o ≡ Some y → (o ≡ Some y → g y ≡ true) → g y ≡ true
passes_by g x y o true e found later = let same : x ≡ y = cc in ap g (sym same) ∙ e
passes_by g x y o false e found later = later found

-- what is found passes the test
pub found_passes : {A : Type 0} (g : A → Bool) (xs : List A) (y : A) → find g xs ≡ Some y → g y ≡ true
found_passes g [] y found = absurd cc
found_passes g (x ∷ xs) y found = passes_by g x y (find g xs) (g x) refl found (found_passes g xs y)

same_by_test : {A : Type 0} (b : Bool) (i : ℕ) (x : A) (o : Option A) (p : Option (ℕ × A)) → o ≡ option_map (λ (q : ℕ × A). q.1) p
    → cond b (Some x) o ≡ option_map (λ (q : ℕ × A). q.1) (cond b (Some (i, x)) p)
same_by_test true i x o p e = refl
same_by_test false i x o p e = e

-- the indices beside the elements change nothing
pub find_numbered : {A : Type 0} (g : A → Bool) (i : ℕ) (xs : List A) → find g xs ≡ option_map (λ (q : ℕ × A). q.1) (find (λ (q : ℕ × A). g q.1) (enumerate_from i xs))
find_numbered g i [] = refl
find_numbered g i (x ∷ xs) = same_by_test (g x) i x (find g xs) (find (λ q. g q.1) (enumerate_from (i + 1) xs)) (find_numbered g (i + 1) xs)

-- the element of this index is the first that is numbered so
pub find_index : {A : Type 0} (i k n : ℕ) (xs : List A) → i + k ≡ n → slice_get xs k ≡ option_map (λ (q : ℕ × A). q.1) (find (λ (q : ℕ × A). eqb q.0 n) (enumerate_from i xs))
find_index i k n [] at = refl
find_index i zero n (x ∷ xs) at = rw (eq-eqb i n (omega arith)) refl
find_index i (suc k) n (x ∷ xs) at = let other : i ≡ n → ⊥ = λ e. absurd (omega arith) in rw (ne_eqb i n other) (find_index (i + 1) k n xs (omega arith))
