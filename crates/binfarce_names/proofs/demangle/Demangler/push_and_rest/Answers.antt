use Rattle.std.proofs.Common.{ℕ, List, false, None, subst}
use Rattle.std.specs.String.{string_bytes}
use Rattle.binfarce_legacy.specs.Legacy.{Element, IsLegacy}
use Rattle.binfarce_v0.proofs.Validating.{no_mangling}
use Rattle.binfarce_names.proofs.Trimmed.{IsOther, legacy_grows, unchanged_grows}
use Rattle.binfarce_names.proofs.demangle.Demangler.push_and_rest.Goals as goal

pub returns-in-Some-clause-trimmed : goal.returns-in-Some-clause-trimmed
returns-in-Some-clause-trimmed c =
    let is = c.in-Some.ensures in
    legacy_grows c.args.name.now c.without_llvm-stripped.result.now c.in-Some.part.now c.in-Some.rest.now is.0 (string_bytes c.args.text.now) (string_bytes c.push_trimmed.new.text) c.without_llvm-stripped.ensures is.1
    c.in_ok-push_trimmed.ensures.bytes

pub returns-in_default-candidate-clause-trimmed : goal.returns-in_default-candidate-clause-trimmed
returns-in_default-candidate-clause-trimmed c =
    let other : IsOther c.args.name.now c.without_llvm-stripped.result.now = record { stripped = c.without_llvm-stripped.ensures; not_legacy = c.in_default.ensures } in
    let none = no_mangling c.without_llvm-stripped.result.now c.in_default-candidate.ensures in
    unchanged_grows false None c.args.name.now c.without_llvm-stripped.result.now (string_bytes c.args.text.now) (string_bytes c.push_str.new.self) other none c.in_ok-push_str.ensures.bytes

pub push_candidate-requires-clause-not_legacy : goal.push_candidate-requires-clause-not_legacy
push_candidate-requires-clause-not_legacy c =
    subst (λ t. (part : List ℕ) (elements : List Element) (rest : List ℕ) → IsLegacy t part elements rest → ⊥) c.without_llvm-stripped.ensures c.in_default.ensures
