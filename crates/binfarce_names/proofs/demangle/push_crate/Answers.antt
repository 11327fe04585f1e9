use Rattle.std.specs.String.{string_bytes}
use Rattle.binfarce_names.proofs.NameLemmas.{if_ok}
use Rattle.binfarce_names.proofs.Trimmed.{IsOther, GrewByCrate, legacy_grew, other_grew}
use Rattle.binfarce_names.proofs.demangle.push_crate.Goals as goal

pub returns-in-Some-clause-crate_found : goal.returns-in-Some-clause-crate_found
returns-in-Some-clause-crate_found c =
    let is = c.in-Some.ensures in
    let old = string_bytes c.args.text.now in
    let new = string_bytes c.push_path_crate.new.text in
    if_ok _ (λ crate_found. GrewByCrate c.args.name.now crate_found old new) c.push_path_crate.result
    (λ crate_found path. legacy_grew c.args.name.now c.without_llvm-stripped.result.now c.in-Some.part.now _ is.0 crate_found old new c.without_llvm-stripped.ensures is.1 path)
    c.push_path_crate.ensures.crate_found

pub returns-in-None-clause-crate_found : goal.returns-in-None-clause-crate_found
returns-in-None-clause-crate_found c =
    let other : IsOther c.args.name.now c.without_llvm-stripped.result.now = record { stripped = c.without_llvm-stripped.ensures; not_legacy = c.in-None.ensures } in
    let old = string_bytes c.args.text.now in
    let new = string_bytes c.push_crate_name.new.text in
    if_ok _ (λ crate_found. GrewByCrate c.args.name.now crate_found old new) c.push_crate_name.result
    (λ crate_found is. other_grew c.args.name.now c.without_llvm-stripped.result.now is.0 crate_found old new other is.1 (is.2, is.3))
    c.push_crate_name.ensures.crate_found
