-- Paths, character after character.
use Rattle.std.proofs.Common.{◌≡◌, ℕ, ◌+◌, ◌-◌, ◌<◌, Bool, true, false, not, ◌&&◌, ◌||◌, List, [], ◌∷◌, ◌++◌, length, take, drop, get_or, if◌then◌else◌, refl, sym, ap, ◌∙◌, append-nil, append_assoc, arith}
use Rattle.std.proofs.lemmas.Bool.{and_parts, eqb-true, or_parts}
use Rattle.std.proofs.lemmas.List.{drop_more, take_rest}
use Rattle.std.proofs.lemmas.Str.{IsCharBoundary-before_ascii}
use Rattle.std.specs.Str.{IsCharBoundary}
use Rattle.binfarce_figures.specs.Generic.{is_of_path}
use Rattle.binfarce_figures.specs.Modules.{begins_in, below_crate, goes_on, leaves, may_end, modules}

-- a path of the crate begins here
pub found : (crate_name rest : List ℕ) (before : ℕ) → is_of_path before ≡ false → begins_in crate_name rest ≡ true → 0 < length rest → below_crate crate_name before rest ≡ drop (length crate_name) rest
found crate_name [] before outside begins some = absurd (omega arith)
found crate_name (c ∷ others) before outside begins some =
    ap (λ (b : Bool). if not b && begins_in crate_name (c ∷ others) then drop (length crate_name) (c ∷ others) else below_crate crate_name c others) outside
    ∙ ap (λ (b : Bool). if b then drop (length crate_name) (c ∷ others) else below_crate crate_name c others) begins

-- what is left of the bytes of a text
pub left : (at : ℕ) (bytes text : List ℕ) → bytes ≡ text → take (length bytes - at) (drop at bytes) ≡ drop at text
left at bytes text same = take_rest bytes at ∙ ap (drop at) same

-- where no modules end there are none
none : (path : List ℕ) → goes_on path ≡ false → modules path ≡ []
none [] e = refl
none (c ∷ others) e = ap (λ (b : Bool). if b then c ∷ modules others else []) (or_parts (may_end (c ∷ others)) (not (leaves (c ∷ others)) && goes_on others) e).1

by_test : (path : List ℕ) (b : Bool) → goes_on path ≡ b → modules path ≡ (if b then modules path else [])
by_test path true e = refl
by_test path false e = none path e

pub whole : (path : List ℕ) → modules path ≡ (if goes_on path then modules path else [])
whole path = by_test path (goes_on path) refl

module _ (path : List ℕ) (at end c : ℕ) (others : List ℕ) (due : modules path ≡ (if goes_on (c ∷ others) then take at path ++ modules (c ∷ others) else take end path)) where
  abbrev Due : (go : Bool) (kept : List ℕ) → Type 0
  Due go kept = modules path ≡ (if go then take at path ++ kept else take end path)

  with_both : (go : Bool) (kept : List ℕ) → goes_on (c ∷ others) ≡ go → modules (c ∷ others) ≡ kept → Due go kept
  with_both go kept goes keeps =
      due ∙ ap (λ (b : Bool). if b then take at path ++ modules (c ∷ others) else take end path) goes
      ∙ ap (λ (l : List ℕ). if go then take at path ++ l else take end path) keeps

  -- the path leaves its modules here
  pub ends_here : (m : Bool) → may_end (c ∷ others) ≡ m → leaves (c ∷ others) ≡ true → take (if m then at else end) path ≡ modules path
  ends_here m ends left_is = closed m (with_both (m || false) [] goes keeps)
    where
      goes : goes_on (c ∷ others) ≡ (m || false)
      goes = ap (λ (b : Bool). b || (not (leaves (c ∷ others)) && goes_on others)) ends ∙ ap (λ (b : Bool). m || (not b && goes_on others)) left_is

      keeps : modules (c ∷ others) ≡ []
      keeps = ap (λ (b : Bool). if not b && goes_on others then c ∷ modules others else []) left_is

      closed : (b : Bool) → Due (b || false) [] → take (if b then at else end) path ≡ modules path
      closed true is = sym (is ∙ append-nil (take at path))
      closed false is = sym is

  -- it doesn't
  pub goes_past : (m : Bool) → may_end (c ∷ others) ≡ m → leaves (c ∷ others) ≡ false → take (at + 1) path ≡ take at path ++ c ∷ []
      → modules path ≡ (if goes_on others then take (at + 1) path ++ modules others else take (if m then at else end) path)
  goes_past m ends left_is taken = closed m (goes_on others) (with_both (m || goes_on others) (if goes_on others then c ∷ modules others else []) goes keeps)
    where
      goes : goes_on (c ∷ others) ≡ (m || goes_on others)
      goes = ap (λ (b : Bool). b || (not (leaves (c ∷ others)) && goes_on others)) ends ∙ ap (λ (b : Bool). m || (not b && goes_on others)) left_is

      keeps : modules (c ∷ others) ≡ (if goes_on others then c ∷ modules others else [])
      keeps = ap (λ (b : Bool). if not b && goes_on others then c ∷ modules others else []) left_is

      one_more : take at path ++ c ∷ modules others ≡ take (at + 1) path ++ modules others
      one_more = sym (ap (λ (l : List ℕ). l ++ modules others) taken ∙ append_assoc (take at path) (c ∷ []) (modules others))

      closed : (b go : Bool) → Due (b || go) (if go then c ∷ modules others else []) → modules path ≡ (if go then take (at + 1) path ++ modules others else take (if b then at else end) path)
      closed true true is = is ∙ one_more
      closed true false is = is ∙ append-nil (take at path)
      closed false true is = is ∙ one_more
      closed false false is = is

-- modules end before a colon
colon : (c : ℕ) (others : List ℕ) → may_end (c ∷ others) ≡ true → 58 ≡ c
colon c others e = eqb-true 58 c (and_parts _ _ (and_parts _ _ e).0).0

pub boundary : (path : List ℕ) (at : ℕ) → at < length path → may_end (drop at path) ≡ true → IsCharBoundary path at
boundary path at below ends =
    let is = colon (get_or path at 0) (drop (at + 1) path) (ap may_end (sym (drop_more path at 0 below)) ∙ ends) in
    IsCharBoundary-before_ascii path at below (omega arith)
