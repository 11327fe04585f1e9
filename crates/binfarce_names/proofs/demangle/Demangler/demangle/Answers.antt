use Rattle.std.proofs.Common.{◌≡◌}
use Rattle.binfarce_names.specs.Name.{name_view}
use Rattle.binfarce_names.specs.Named.{IsNamed, unknown}
use Rattle.binfarce_names.proofs.NameLemmas.{if_ok}
use Rattle.binfarce_names.proofs.Trimmed.{IsOther, named_legacy, named_texts, named_unchanged}
use Rattle.binfarce_names.proofs.demangle.Demangler.demangle.Goals as goal

pub returns-in-Some : goal.returns-in-Some
returns-in-Some c =
    let is = c.in-Some.ensures in
    record { named = if_ok _ (λ n. IsNamed c.args.name.now (name_view n)) c.legacy_name.result (λ n e. named_legacy c.args.name.now c.without_llvm-stripped.result.now c.in-Some.part.now _ is.0 (name_view n) c.without_llvm-stripped.ensures is.1 (e is.0 _ is.1.reads)) c.legacy_name.ensures }

pub returns-in-Some-2 : goal.returns-in-Some-2
returns-in-Some-2 c =
    let other : IsOther c.args.name.now c.without_llvm-stripped.result.now = record { stripped = c.without_llvm-stripped.ensures; not_legacy = c.in_default.ensures } in
    record { named = named_texts c.args.name.now c.without_llvm-stripped.result.now _ _ _ other (rw c.in-Some-2.is at c.in_ok-texts.ensures) }

pub returns-in-None : goal.returns-in-None
returns-in-None c =
    let other : IsOther c.args.name.now c.without_llvm-stripped.result.now = record { stripped = c.without_llvm-stripped.ensures; not_legacy = c.in_default.ensures } in
    let none = rw c.in-None.is at c.in_ok-texts.ensures in
    record { named = if_ok (λ n. name_view n ≡ unknown c.args.name.now) (λ n. IsNamed c.args.name.now (name_view n)) c.unknown.result (λ n e. named_unchanged c.args.name.now c.without_llvm-stripped.result.now (name_view n) other none e) c.unknown.ensures }
