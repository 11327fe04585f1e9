use Rattle.std.proofs.Common.{◌≡◌, ◌∙◌, find, inr, ap, sym, rules, tests}
use Rattle.std.specs.Str.{bytes_eq}
use Rattle.std.proofs.lemmas.Iterator.{YieldsList-from_slice}
use Rattle.std.proofs.lemmas.Iterator.Adapters.{option_map_id}
use Rattle.std.proofs.lemmas.Iterator.Consumers.{YieldsList-from_copied}
use Rattle.std.proofs.lemmas.Iterator.Search.{find_from_yields_List}
use Rattle.binfarce_words.specs.Words.{command_name, commands, required, unknown_command}
use Rattle.binfarce_words.proofs.call.command_named.Goals as goal

pub returns-in-None : goal.returns-in-None
returns-in-None c =
    let found : c.find.result ≡ find (λ it. bytes_eq (command_name it) c.args.word.now) commands =
    sym (option_map_id c.find.result)
    ∙ find_from_yields_List (λ it. bytes_eq (command_name it) c.args.word.now) _ _ _ c.find.ensures.ran (YieldsList-from_copied (YieldsList-from_slice commands cc)) (λ x b q k. search (rules, tests)) in
    inr (ap (required (unknown_command c.args.word.now)) (sym found ∙ c.in-None.is), c.nearest.ensures)
