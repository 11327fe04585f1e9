use Rattle.std.proofs.Common.{◌≡◌, ◌++◌, ℕ, List, [], false, Option, Result, Ok, Err, ap, sym, ◌∙◌}
use Rattle.std.proofs.lemmas.Bool.{false≢true}
use Rattle.std.specs.Option.{option_map, unwrap_or}
use Rattle.std.specs.Result.{OnOk, is_ok}
use Rattle.std.specs.Bool.{if◌then◌else◌}
use Rattle.std.specs.String.{string_bytes}
use Rattle.std.specs.Prelude.{String}
use Rattle.std.specs.Global.{Global}
use denote.Enum.Bare.{sameb}
use Rattle.binfarce_names.specs.contracts.demangle.Kind.{the_type}
use Rattle.binfarce_names.specs.declared.demangle.Kind.{Kind}
use Rattle.binfarce_names.specs.declared.demangle.Kind.TheVariants.{Legacy}
use Rattle.binfarce_names.specs.Name.{Name, name_view}
use Rattle.binfarce_names.specs.Named.{IsNamed}
use Rattle.binfarce_tools.specs.Report.{unknown_crate}
use Rattle.binfarce_figures.specs.Keys.{IsCrateOf}
use Rattle.binfarce_figures.proofs.InnerCrates.{by_answer}
use Rattle.binfarce_figures.proofs.key.put_crate_of.Goals as goal

isnt_legacy : (kind : Kind) → false ≡ sameb the_type kind Legacy → ¬ (kind ≡ Legacy)
isnt_legacy kind e is = false≢true (e ∙ ap (λ (k : Kind). sameb the_type k Legacy) is)

-- the crate that an answer has was written to a text that was empty
written : {A E : Type 0} (name old text new : List ℕ) (n : Name) (r : Result A E) → IsNamed name n → ¬ (n.kind ≡ Legacy) → old ≡ [] → text ≡ unwrap_or n.crate_name unknown_crate
    → new ≡ (if is_ok r then old ++ text else old) → OnOk r (IsCrateOf name new)
written name old text new n (Ok x) named other empty is grown = (n, named, grown ∙ ap (λ (t : List ℕ). t ++ text) empty ∙ is ∙ by_answer name n named other)
written name old text new n (Err e) named other empty is grown = tt

pub returns-in-Some : goal.returns-in-Some
returns-in-Some c =
    let answer = name_view c.args.answer.now in
    written c.args.name.now (string_bytes c.clear.new.self) c.as_str.result.now _ answer c.push_str.result c.requires (isnt_legacy c.args.answer.now.kind c.if-eq.ensures) c.clear.ensures.bytes
    (c.as_str.ensures.value ∙ ap (λ (o : Option (String Global)). unwrap_or (option_map string_bytes o) unknown_crate) (sym c.in-Some.is)) c.push_str.ensures.bytes

pub returns-in-None : goal.returns-in-None
returns-in-None c =
    let answer = name_view c.args.answer.now in
    written c.args.name.now (string_bytes c.clear.new.self) unknown_crate _ answer c.push_str-in-None.result c.requires (isnt_legacy c.args.answer.now.kind c.if-eq.ensures) c.clear.ensures.bytes
    (ap (λ (o : Option (String Global)). unwrap_or (option_map string_bytes o) unknown_crate) (sym c.in-None.is)) c.push_str-in-None.ensures.bytes
