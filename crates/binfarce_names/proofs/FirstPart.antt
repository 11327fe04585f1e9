-- A path is split where it first has `::`.
use Rattle.std.proofs.Common.{inl, inr, ◌≡◌, ℕ, zero, suc, ◌<◌, ◌≤◌, true, false, Bool, List, [], ◌∷◌, ◌++◌, length, take, drop, refl, sym, ◌∙◌, ap, arith}
use Rattle.std.specs.List.{starts_with}
use Rattle.std.specs.Prelude.{nat_eq, codes, if◌then◌else◌}
use Rattle.std.specs.Str.Pattern.{LacksTextAt}
use Rattle.std.proofs.lemmas.List.{take-append-drop}
use Rattle.std.proofs.lemmas.Slice.Eq.{bytes_eq-Decides}
use Rattle.binfarce_legacy.specs.Legacy.{IsFront}
use Rattle.binfarce_names.specs.Crates.{first_part, path_crate}

begins : (s rest : List ℕ) → s ≡ codes "::" ++ rest → starts_with nat_eq s (codes "::") ≡ true
begins s rest is = rw is refl

not_true : (b : Bool) → ¬ (b ≡ true) → b ≡ false
not_true true isnt = absurd (isnt refl)
not_true false isnt = refl

lacks : (s : List ℕ) → LacksTextAt (codes "::") s 0 → starts_with nat_eq s (codes "::") ≡ false
lacks s none = not_true (starts_with nat_eq s (codes "::")) (λ is.
    let e = (bytes_eq-Decides (codes "::") (take 2 s)).0 is in
    none (drop 2 s) (sym (take-append-drop 2 s) ∙ ap (λ (front : List ℕ). front ++ drop 2 s) (sym e)))

-- a text without `<` at its beginning
pub lacks_less : (s : List ℕ) → LacksTextAt (codes "<") s 0 → starts_with nat_eq s (codes "<") ≡ false
lacks_less s none = not_true (starts_with nat_eq s (codes "<")) (λ is.
    let e = (bytes_eq-Decides (codes "<") (take 1 s)).0 is in
    none (drop 1 s) (sym (take-append-drop 1 s) ∙ ap (λ (front : List ℕ). front ++ drop 1 s) (sym e)))

-- where the first `::` is
pub before_match : (i : ℕ) (s : List ℕ) → ((k : ℕ) → k < i → LacksTextAt (codes "::") s k) → (rest : List ℕ) → drop i s ≡ codes "::" ++ rest → first_part s ≡ take i s
before_match zero [] none rest at = refl
before_match zero (x ∷ xs) none rest at = rw (begins (x ∷ xs) rest at) refl
before_match (suc i) [] none rest at = refl
before_match (suc i) (x ∷ xs) none rest at =
    rw (lacks (x ∷ xs) (none 0 (omega arith)), before_match i xs (λ k below. none (suc k) (omega arith)) rest at) refl

-- if there is no `::`
pub no_match : (s : List ℕ) → ((k : ℕ) → k ≤ length s → LacksTextAt (codes "::") s k) → first_part s ≡ s
no_match [] none = refl
no_match (x ∷ xs) none = rw (lacks (x ∷ xs) (none 0 (omega arith)), no_match xs (λ k below. none (suc k) (omega arith))) refl

-- nothing after a `::` is looked at
split_first : (first more : List ℕ) → first_part ((first ++ codes "::") ++ more) ≡ first_part (first ++ codes "::")
split_first [] more = refl
split_first (x ∷ []) more = rw (split_first [] more) refl
split_first (x ∷ y ∷ first) more = rw (split_first (y ∷ first) more) refl

begins_same : (first more : List ℕ) → starts_with nat_eq ((first ++ codes "::") ++ more) (codes "<") ≡ starts_with nat_eq (first ++ codes "::") (codes "<")
begins_same [] more = refl
begins_same (x ∷ first) more = refl

crate_before : (first more : List ℕ) → path_crate (first ++ codes "::") ≡ path_crate ((first ++ codes "::") ++ more)
crate_before first more = rw (begins_same first more, split_first first more) refl

-- the crate that a path begins with is that of its front
pub crate_of_front : (front path : List ℕ) → IsFront front path → path_crate front ≡ path_crate path
crate_of_front front path (inl same) = ap path_crate same
crate_of_front front path (inr (inl (first, more, is, path_is))) =
    ap path_crate is ∙ crate_before first more ∙ ap (λ (x : List ℕ). path_crate (x ++ more)) (sym is) ∙ ap path_crate (sym path_is)
crate_of_front front path (inr (inr (is, (more, path_is)))) =
    ap path_crate is ∙ sym (ap path_crate (path_is ∙ ap (λ (x : List ℕ). x ++ more) is))

-- a path's first part
one_more : (stops : Bool) (x : ℕ) (first xs : List ℕ) → first ≡ take (length first) xs → (if stops then [] else x ∷ first) ≡ take (length (if stops then [] else x ∷ first)) (x ∷ xs)
one_more true x first xs is = refl
one_more false x first xs is = ap (λ (s : List ℕ). x ∷ s) is

first_part_front : (s : List ℕ) → first_part s ≡ take (length (first_part s)) s
first_part_front [] = refl
first_part_front (x ∷ xs) = one_more (starts_with nat_eq (x ∷ xs) (codes "::")) x (first_part xs) xs (first_part_front xs)

-- and it is a prefix of the path
pub taken_whole : (path first front : List ℕ) → first ≡ first_part path → path ≡ front → first ≡ take (length first) front
taken_whole path first front is same =
    is ∙ first_part_front path ∙ ap (λ (s : List ℕ). take (length s) path) (sym is) ∙ ap (take (length first)) same
