-- The crate of a module is the first part of its name.
use Rattle.std.proofs.Common.{◌≡◌, ◌⊎◌, inl, inr, ℕ, Bool, true, false, not, ◌&&◌, ◌||◌, List, [], ◌∷◌, ◌++◌, length, drop, take, if◌then◌else◌, eqb, refl, sym, ap, subst, ◌∙◌}
use Rattle.std.proofs.lemmas.Bool.{and_parts, or_parts, eqb-true}
use Rattle.std.proofs.lemmas.List.{take-append-drop}
use Rattle.std.proofs.lemmas.Slice.Eq.{bytes_eq-Decides}
use Rattle.std.specs.List.{list_any, starts_with}
use Rattle.std.specs.Prelude.{codes, nat_eq}
use Rattle.binfarce_names.specs.Crates.{first_part}
use Rattle.binfarce_figures.specs.Generic.{is_of_path}
use Rattle.binfarce_figures.specs.Modules.{NamesItsCrate, begins_in, begins_module, begins_name, below_crate, goes_on, leaves, modules}

-- a text is empty, or begins with `::`
abbrev IsBelow : List ℕ → Type 0
IsBelow text = (text ≡ []) ⊎ ((more : List ℕ) × (text ≡ 58 ∷ 58 ∷ more))

colons : (text : List ℕ) → starts_with nat_eq text (codes "::") ≡ true → text ≡ 58 ∷ 58 ∷ drop 2 text
colons text is = sym (take-append-drop 2 text) ∙ ap (λ (front : List ℕ). front ++ drop 2 text) (sym ((bytes_eq-Decides (codes "::") (take 2 text)).0 is))

below : (crate_name : List ℕ) (before : ℕ) (text : List ℕ) → IsBelow (below_crate crate_name before text)
below crate_name before [] = inl refl
below crate_name before (c ∷ others) = by_test (below crate_name c others) (not (is_of_path before) && begins_in crate_name (c ∷ others)) refl
  where
    by_test : IsBelow (below_crate crate_name c others) → (b : Bool) → (not (is_of_path before) && begins_in crate_name (c ∷ others)) ≡ b
        → IsBelow (if b then drop (length crate_name) (c ∷ others) else below_crate crate_name c others)
    by_test later true e = inr (drop 2 (drop (length crate_name) (c ∷ others)), colons (drop (length crate_name) (c ∷ others)) (and_parts _ _ (and_parts _ _ e).1).1)
    by_test later false e = later

-- a module's name begins with no colon
after_colon : (more : List ℕ) → begins_module more ≡ true → starts_with nat_eq (58 ∷ more) (codes "::") ≡ false
after_colon [] e = absurd cc
after_colon (d ∷ more) e = by_test (eqb 58 d) refl
  where
    by_test : (b : Bool) → eqb 58 d ≡ b → starts_with nat_eq (58 ∷ d ∷ more) (codes "::") ≡ false
    by_test true is = absurd (absurd_colon d more (eqb-true 58 d is) e)
      where
        absurd_colon : (n : ℕ) (l : List ℕ) → 58 ≡ n → begins_module (n ∷ l) ≡ true → ⊥
        absurd_colon n l same begins = cc_colon l (subst (λ (k : ℕ). begins_module (k ∷ l) ≡ true) (sym same) begins)
          where
            cc_colon : (l : List ℕ) → begins_module (58 ∷ l) ≡ true → ⊥
            cc_colon l e = absurd cc
    by_test false isnt = ap (λ (b : Bool). b && nat_eq 58 58) isnt

not_not : (b : Bool) → not (not b) ≡ true → b ≡ true
not_not true e = refl
not_not false e = absurd cc

-- what is kept of a path is empty, or begins with `::`
kept : (more : List ℕ) → IsBelow (modules (58 ∷ 58 ∷ more))
kept more = by_test (not (leaves (58 ∷ 58 ∷ more)) && goes_on (58 ∷ more)) refl
  where
    by_test : (b : Bool) → (not (leaves (58 ∷ 58 ∷ more)) && goes_on (58 ∷ more)) ≡ b → IsBelow (if b then 58 ∷ modules (58 ∷ more) else [])
    by_test false e = inl refl
    by_test true e =
        let parts = and_parts (not (leaves (58 ∷ 58 ∷ more))) (goes_on (58 ∷ more)) e in
        let none : starts_with nat_eq (58 ∷ more) (codes "::") ≡ false = after_colon more (not_not (begins_module more) parts.0) in
        let named = not (begins_module (drop 1 more)) in
        let ends = begins_name (drop 1 more) || starts_with nat_eq (drop 1 more) (codes "<impl ") in
        let goes : goes_on more ≡ true = subst (λ (s : Bool). ((s && ends) || (not (s && named) && goes_on more)) ≡ true) none parts.1 in
        let second : modules (58 ∷ more) ≡ 58 ∷ modules more =
        ap (λ (s : Bool). if not (s && named) && goes_on more then 58 ∷ modules more else []) none
        ∙ ap (λ (g : Bool). if g then 58 ∷ modules more else []) goes in
        inr (modules more, ap (λ (l : List ℕ). 58 ∷ l) second)

kept_of : (path : List ℕ) → IsBelow path → IsBelow (modules path)
kept_of path (inl is) = inl (ap modules is)
kept_of path (inr (more, is)) = subst (λ (p : List ℕ). IsBelow (modules p)) (sym is) (kept more)

no_colons : (b : ℕ) (rest : List ℕ) → nat_eq 58 b ≡ false → starts_with nat_eq (b ∷ rest) (codes "::") ≡ false
no_colons b rest isnt = ap (λ (x : Bool). x && starts_with nat_eq rest (codes ":")) isnt

first : (crate_name rest : List ℕ) → list_any (nat_eq 58) crate_name ≡ false → IsBelow rest → first_part (crate_name ++ rest) ≡ crate_name
first [] rest free (inl is) = ap first_part is
first [] rest free (inr (more, is)) = ap first_part is
first (b ∷ crate_name) rest free is =
    let parts = or_parts (nat_eq 58 b) (list_any (nat_eq 58) crate_name) free in
    ap (λ (x : Bool). if x then [] else b ∷ first_part (crate_name ++ rest)) (no_colons b (crate_name ++ rest) parts.0)
    ∙ ap (λ (l : List ℕ). b ∷ l) (first crate_name rest parts.1 is)

pub names_its_crate : (crate_name trimmed : List ℕ) → NamesItsCrate crate_name trimmed
names_its_crate crate_name trimmed = λ free. first crate_name _ free (kept_of _ (below crate_name 32 trimmed))
