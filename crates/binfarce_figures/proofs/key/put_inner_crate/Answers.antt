use Rattle.std.proofs.Common.{◌≡◌, ◌++◌, ℕ, List, sym, ap, ◌∙◌}
use Rattle.std.proofs.lemmas.Result.{on_ok_weaker}
use Rattle.std.specs.Prelude.{encode_utf8_all}
use Rattle.std.specs.Str.{chars}
use Rattle.std.specs.String.{string_bytes}
use Rattle.binfarce_legacy.specs.Legacy.{legacy_chars, without_last_part}
use Rattle.binfarce_names.specs.Crates.{first_part}
use Rattle.binfarce_names.specs.Name.{Name}
use Rattle.binfarce_figures.specs.Keys.{inner_crate_of, last_name}
use Rattle.binfarce_figures.proofs.InnerCrates.{legacy_is, of_other}
use Rattle.binfarce_figures.proofs.key.put_inner_crate.Goals as goal

pub returns-in-None : goal.returns-in-None
returns-in-None c = λ n named. c.clear.ensures.bytes ∙ of_other c.args.name.now c.without_llvm.result.now n c.without_llvm.ensures c.in-None.ensures named

pub returns-in_ok-push_trimmed-in-Some : goal.returns-in_ok-push_trimmed-in-Some
returns-in_ok-push_trimmed-in-Some c =
    let is = c.in-Some.ensures in
    let read = encode_utf8_all (without_last_part (legacy_chars is.0)) in
    let path : string_bytes c.push_trimmed.new.text ≡ read = c.in_ok-push_trimmed-in-Some.ensures.bytes is.0 c.in-Some.field-0-1.now is.1.reads ∙ ap (λ (t : List ℕ). t ++ read) c.new-path.ensures.bytes in
    let front : c.first_part.result.now ≡ first_part read = c.first_part.ensures ∙ ap first_part (c.as_str.ensures.value ∙ path) in
    on_ok_weaker c.put_last_name.result (λ w n named. w ∙ ap (λ (t : List ℕ). encode_utf8_all (last_name (chars t))) front ∙ sym (ap (λ (m : Name). inner_crate_of m.kind m.trimmed) (legacy_is c.args.name.now c.without_llvm.result.now c.in-Some.part.now c.in-Some.field-0-1.now is.0 n c.without_llvm.ensures is.1 named))) c.put_last_name.ensures
