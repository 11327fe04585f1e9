-- Texts that begin with given bytes, and tests of each byte.
use Rattle.std.proofs.Common.{◌≡◌, ℕ, suc, ◌<◌, ◌≤◌, Bool, true, false, List, [], ◌∷◌, ◌++◌, length, get_or, drop, take, nat_eq, eqb, ◌&&◌, Some, refl, ap, ◌∙◌, arith}
use Rattle.std.proofs.lemmas.Bool.{both_ways, true_from_ne_false, false_from_ne_true}
use Rattle.std.proofs.lemmas.Bool.Decides.{Decides-eqb}
use Rattle.std.proofs.lemmas.List.{length-append, get_or_append_left}
use Rattle.std.proofs.lemmas.List.Folds.{list_all_at}
use Rattle.std.proofs.lemmas.Slice.Eq.{starts_is}
use Rattle.std.specs.List.{starts_with, list_all}
use Rattle.std.specs.Char.{is_ascii_graphic}
use Rattle.binfarce_text.specs.Suffixes.{is_allowed_rest}

-- a text that begins with p is p and then the rest
pub begins : (t p : List ℕ) → starts_with nat_eq t p ≡ true → t ≡ p ++ drop (length p) t
begins t p h = (starts_is Decides-eqb t p (starts_with nat_eq t p) refl).0 h

-- it is as long as p at least, and has the bytes of p
pub begins-length : (t p : List ℕ) → starts_with nat_eq t p ≡ true → length p ≤ length t
begins-length t p h = omega (arith, ap length (begins t p h), length-append p (drop (length p) t))

pub begins-at : (t p : List ℕ) (k : ℕ) → starts_with nat_eq t p ≡ true → k < length p → get_or t k 0 ≡ get_or p k 0
begins-at t p k h l = ap (λ x. get_or x k 0) (begins t p h) ∙ get_or_append_left p (drop (length p) t) 0 k l

-- where p and a rest make the text, it begins with p
pub begins-from : (t p rest : List ℕ) → t ≡ p ++ rest → starts_with nat_eq t p ≡ true
begins-from t p rest e = (starts_is Decides-eqb t p (starts_with nat_eq t p) refl).1 rest e

-- each element passes, where all do
pub list_all-each : (p : ℕ → Bool) (xs : List ℕ) (k : ℕ) → list_all p xs ≡ true → k < length xs → p (get_or xs k 0) ≡ true
list_all-each p xs k h l = true_from_ne_false (p (get_or xs k 0)) (λ e. both_ways (list_all p xs) (list_all_at p xs k 0 l e) h)

-- all pass, where each does
pub list_all-from : (p : ℕ → Bool) (xs : List ℕ) → ((k : ℕ) → k < length xs → p (get_or xs k 0) ≡ true) → list_all p xs ≡ true
list_all-from p [] h = refl
list_all-from p (x ∷ xs) h =
    let first : p x ≡ true = h 0 (omega arith) in
    let others : list_all p xs ≡ true = list_all-from p xs (λ k l. h (suc k) (omega arith)) in
    rw (first, others) refl

-- a text that begins with another byte does not begin with p
pub begins-not : (t p : List ℕ) → (get_or t 0 0 ≡ get_or p 0 0 → ⊥) → 0 < length p → starts_with nat_eq t p ≡ false
begins-not t p ne l = false_from_ne_true (starts_with nat_eq t p) (λ h. ne (begins-at t p 0 h l))

-- what may follow a mangling
pub is_allowed_rest-empty : (rest : List ℕ) → length rest ≡ 0 → true ≡ is_allowed_rest rest
unfolding is_allowed_rest
is_allowed_rest-empty [] h = refl
is_allowed_rest-empty (b ∷ rest) h = absurd (omega (arith, h))

pub is_allowed_rest-some : (rest : List ℕ) → 0 < length rest → is_allowed_rest rest ≡ (eqb (get_or rest 0 0) 46 && list_all is_ascii_graphic rest)
unfolding is_allowed_rest
is_allowed_rest-some [] h = absurd (omega (arith, h))
is_allowed_rest-some (b ∷ rest) h = refl

pub ruleset rests = (is_allowed_rest-empty, is_allowed_rest-some)

pub some_same : (x y : List ℕ) → Some x ≡ Some y → x ≡ y
some_same x y e = cc

pub take_one : (t : List ℕ) → 0 < length t → take 1 t ≡ get_or t 0 0 ∷ []
take_one [] h = absurd (omega (arith, h))
take_one (b ∷ t) h = refl
