use Rattle.std.proofs.Common.{ℕ, List, inl, inr, refl, subst}
use Rattle.binfarce_legacy.specs.Legacy.{Element, IsLegacy}
use Rattle.binfarce_names.specs.Named.{IsMangled}
use Rattle.binfarce_v0.specs.Mangling.{IsV0}
use Rattle.binfarce_names.proofs.demangle.demangle.Goals as goal

pub returns-in-Some-mangled_part : goal.returns-in-Some-mangled_part
unfolding IsMangled
returns-in-Some-mangled_part c =
    record { mangled = inr (inl (record { mangling = subst (λ text. IsV0 text c.in-Some-mangled_part.part.now) c.without_llvm-text.ensures c.in-Some-mangled_part.ensures; kind_is = refl })) }

pub returns-in-None : goal.returns-in-None
unfolding IsMangled
returns-in-None c =
    let P : List ℕ → Type 0 = λ text. (part : List ℕ) (elements : List Element) (rest : List ℕ) → IsLegacy text part elements rest → ⊥ in
    let Q : List ℕ → Type 0 = λ text. (part : List ℕ) → IsV0 text part → ⊥ in
    record { mangled = inr (inr (record { not_legacy = subst P c.without_llvm-text.ensures c.in_default.ensures; not_v0 = subst Q c.without_llvm-text.ensures c.in-None.ensures; all = refl })) }
