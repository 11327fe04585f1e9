-- The crate of a name that begins with a type or a trait.
use Rattle.std.proofs.Common.{◌≡◌, ℕ, Bool, true, false, List, [], ◌∷◌, ◌++◌, Option, Some, None, length, ◌==◌, inl, inr, arith, refl, sym, ap, subst, ◌∙◌}
use Rattle.std.proofs.lemmas.Bool.{eqb-true}
use Rattle.std.specs.Option.{is_some, unwrap_or}
use Rattle.binfarce_legacy.specs.Legacy.{Element, IsLegacy}
use Rattle.binfarce_names.specs.Crates.{GrowsByCrate, crate_of}
use Rattle.binfarce_names.specs.Name.{Name}
use Rattle.binfarce_names.specs.declared.demangle.Kind.TheVariants.{Legacy}
use Rattle.binfarce_names.specs.Named.{IsNamed, legacy}
use Rattle.binfarce_names.proofs.NameLemmas.{answers_same}
use Rattle.binfarce_names.proofs.Trimmed.{named_legacy}
use Rattle.binfarce_text.specs.Suffixes.{without_llvm}
use Rattle.binfarce_tools.specs.Report.{unknown_crate}
use Rattle.binfarce_figures.specs.Keys.{counted_crate, inner_crate_of, or_unknown}

-- the answer of a legacy mangling is that of its elements
pub legacy_is : (name text part rest : List ℕ) (elements : List Element) (n : Name) → text ≡ without_llvm name → IsLegacy text part elements rest → IsNamed name n → n ≡ legacy elements
legacy_is name text part rest elements n e is named = answers_same name n (legacy elements) named (named_legacy name text part rest elements (legacy elements) e is refl)

-- another name has no crate there
pub of_other : (name text : List ℕ) (n : Name) → text ≡ without_llvm name → ((part : List ℕ) (elements : List Element) (rest : List ℕ) → ¬ (IsLegacy text part elements rest)) → IsNamed name n → [] ≡ inner_crate_of n.kind n.trimmed
unfolding IsNamed
of_other name text n e not named = elim named [
  | inl m ↦ absurd (not m.part m.elements m.rest (subst (λ (t : List ℕ). IsLegacy t m.part m.elements m.rest) (sym e) m.mangling))
  | inr other ↦ elim other [
    | inl v ↦ sym (ap (λ (m : Name). inner_crate_of m.kind m.trimmed) v.name_is)
    | inr u ↦ sym (ap (λ (m : Name). inner_crate_of m.kind m.trimmed) u.name_is)
  ]
]

by_crate : (c : Option (List ℕ)) (new other : List ℕ) → true ≡ is_some c → new ≡ [] ++ unwrap_or c [] → new ≡ unwrap_or c other
by_crate (Some x) new other some is = is
by_crate None new other some is = absurd cc

-- a name with a crate counts for it
pub found : (n : Name) (crate_found : Bool) (old new : List ℕ) → GrowsByCrate (crate_of n) crate_found old new → crate_found ≡ true → old ≡ [] → new ≡ counted_crate n
found n crate_found old new (is, grown) true_is empty =
    by_crate (crate_of n) new (or_unknown (inner_crate_of n.kind n.trimmed)) (sym true_is ∙ is) (grown ∙ ap (λ (t : List ℕ). t ++ unwrap_or (crate_of n) []) empty)

by_none : (c : Option (List ℕ)) (other : List ℕ) → false ≡ is_some c → other ≡ unwrap_or c other
by_none (Some x) other none = absurd cc
by_none None other none = refl

some_known : (text : List ℕ) → (length text == 0) ≡ false → text ≡ or_unknown text
some_known [] some = absurd cc
some_known (c ∷ others) some = refl

-- a name without one counts for that of the type or trait
pub inner : (n : Name) (crate_found : Bool) (old new text : List ℕ) → GrowsByCrate (crate_of n) crate_found old new → crate_found ≡ false → text ≡ inner_crate_of n.kind n.trimmed → (length text == 0) ≡ false → text ≡ counted_crate n
inner n crate_found old new text (is, grown) false_is text_is some =
    some_known text some ∙ ap or_unknown text_is ∙ by_none (crate_of n) (or_unknown (inner_crate_of n.kind n.trimmed)) (sym false_is ∙ is)

no_text : (text : List ℕ) → (length text == 0) ≡ true → text ≡ []
no_text [] none = refl
no_text (c ∷ others) none = absurd (omega (arith, eqb-true (length (c ∷ others)) 0 none))

-- or is unknown
pub none : (n : Name) (crate_found : Bool) (old new text pushed : List ℕ) → GrowsByCrate (crate_of n) crate_found old new → crate_found ≡ false → text ≡ inner_crate_of n.kind n.trimmed → (length text == 0) ≡ true → pushed ≡ text ++ unknown_crate → pushed ≡ counted_crate n
none n crate_found old new text pushed (is, grown) false_is text_is empty is_pushed =
    is_pushed ∙ ap (λ (t : List ℕ). t ++ unknown_crate) (no_text text empty) ∙ ap or_unknown (sym (no_text text empty) ∙ text_is) ∙ by_none (crate_of n) (or_unknown (inner_crate_of n.kind n.trimmed)) (sym false_is ∙ is)

-- the answer of a name that isn't a legacy one has the crate that it counts for, or it is unknown
pub by_answer : (text : List ℕ) (n : Name) → IsNamed text n → ¬ (n.kind ≡ Legacy) → unwrap_or n.crate_name unknown_crate ≡ counted_crate n
unfolding IsNamed crate_of
by_answer text n named other = elim named [
  | inl m ↦ absurd (other (ap (λ (m : Name). m.kind) m.name_is))
  | inr rest ↦ elim rest [
    | inl v ↦ subst (λ (m : Name). unwrap_or m.crate_name unknown_crate ≡ counted_crate m) (sym v.name_is) refl
    | inr u ↦ subst (λ (m : Name). unwrap_or m.crate_name unknown_crate ≡ counted_crate m) (sym u.name_is) refl
  ]
]
