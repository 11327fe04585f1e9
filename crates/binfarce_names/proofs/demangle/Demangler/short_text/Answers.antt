use Rattle.std.proofs.Common.{◌≡◌, ℕ, List, [], Some, refl, subst, rules}
use Rattle.std.specs.String.{string_bytes}
use Rattle.binfarce_legacy.specs.Legacy.{Element, IsLegacy}
use Rattle.binfarce_v0.proofs.Validating.{no_mangling}
use Rattle.binfarce_names.specs.Named.{legacy}
use Rattle.binfarce_names.proofs.Trimmed.{IsOther, named_legacy, on_ok, pushed, replaced, unchanged_grows}
use Rattle.binfarce_names.proofs.demangle.Demangler.short_text.Goals as goal

pub returns-in-Some : goal.returns-in-Some
returns-in-Some c =
    let is = c.in-Some.ensures in
    on_ok _ _ c.short_legacy.result
    (λ h. (legacy is.0, named_legacy c.args.name.now c.without_llvm-stripped.result.now c.in-Some.part.now _ is.0 (legacy is.0) c.without_llvm-stripped.ensures is.1 refl, h is.0 _ is.1.reads))
    c.short_legacy.ensures

pub returns-in_default-candidate : goal.returns-in_default-candidate
returns-in_default-candidate c =
    let name = c.args.name.now in
    let other : IsOther name c.without_llvm-stripped.result.now = record { stripped = c.without_llvm-stripped.ensures; not_legacy = c.in_default.ensures } in
    let old = string_bytes c.clear.new.self in
    let new = string_bytes c.push_str.new.self in
    let empty : old ≡ [] = search rules in
    let none = no_mangling c.without_llvm-stripped.result.now c.in_default-candidate.ensures in
    pushed c.push_str.result old new name _
    (λ grown. replaced c.args.full c.args.below name [] old new empty (unchanged_grows c.args.full (Some c.args.below) name c.without_llvm-stripped.result.now old new other none grown))
    c.push_str.ensures.bytes

pub push_candidate-requires-clause-not_legacy : goal.push_candidate-requires-clause-not_legacy
push_candidate-requires-clause-not_legacy c =
    subst (λ t. (part : List ℕ) (elements : List Element) (rest : List ℕ) → IsLegacy t part elements rest → ⊥) c.without_llvm-stripped.ensures c.in_default.ensures

pub returns : goal.returns
returns c =
    let old = string_bytes c.clear.new.self in
    let empty : old ≡ [] = search rules in
    replaced c.args.full c.args.below c.args.name.now _ old (string_bytes c.push_candidate.new.text) empty c.in_ok-push_candidate.ensures.grown
