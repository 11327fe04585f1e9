use Rattle.std.proofs.Common.{◌≡◌, ◌∙◌, find, reverse, sym, rules, tests}
use Rattle.std.specs.Str.{bytes_eq}
use Rattle.std.proofs.lemmas.Iterator.Adapters.{YieldsList-from_rev_slice, option_map_id}
use Rattle.std.proofs.lemmas.Iterator.Consumers.{YieldsList-from_copied}
use Rattle.std.proofs.lemmas.Iterator.Search.{find_from_yields_List}
use Rattle.binfarce_words.specs.Words.{flag_name}
use Rattle.binfarce_words.proofs.LastGiven.{last_value}
use Rattle.binfarce_words.proofs.given.Arguments.value.Goals as goal

pub returns-in-Some : goal.returns-in-Some
returns-in-Some c =
    let name = c.name-name.result.now in
    let options = c.as_slice-options.result.now in
    let found : c.find.result ≡ find (λ it. bytes_eq (flag_name it.0) name) (reverse options) =
    sym (option_map_id c.find.result)
    ∙ find_from_yields_List (λ it. bytes_eq (flag_name it.0) name) _ _ _ c.find.ensures.ran (YieldsList-from_copied (YieldsList-from_rev_slice options cc)) (λ x b q k. search (rules, tests)) in
    last_value c.args.flag c.args.self.now name options _ c.name-name.ensures c.as_slice-options.ensures.value (sym c.in-Some.is ∙ found)

pub returns-in-None : goal.returns-in-None
returns-in-None c =
    let name = c.name-name.result.now in
    let options = c.as_slice-options.result.now in
    let found : c.find.result ≡ find (λ it. bytes_eq (flag_name it.0) name) (reverse options) =
    sym (option_map_id c.find.result)
    ∙ find_from_yields_List (λ it. bytes_eq (flag_name it.0) name) _ _ _ c.find.ensures.ran (YieldsList-from_copied (YieldsList-from_rev_slice options cc)) (λ x b q k. search (rules, tests)) in
    last_value c.args.flag c.args.self.now name options _ c.name-name.ensures c.as_slice-options.ensures.value (sym c.in-None.is ∙ found)
