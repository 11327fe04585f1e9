use Rattle.std.proofs.Common.{◌-◌, ◌≡◌, take, drop, rules, ◌∙◌, arith, length-drop}
use Rattle.std.proofs.lemmas.List.{take_all}
use Rattle.binfarce_v0_state.proofs.HexDigits.{shown_is_utf8}
use Rattle.binfarce_v0_state.proofs.text.DisambiguatorLeaf.push.Goals as goal

pub unwrap-requires : goal.unwrap-requires
unwrap-requires c =
    let start = c.put_disambiguator-start.result in
    let shown = c.put_disambiguator-start.new.shown in
    let all : take (18 - start) (drop start shown) ≡ drop start shown = take_all (18 - start) (drop start shown) (omega (arith, length-drop start shown, c.put_disambiguator-start.auto.shown)) in
    let text = shown_is_utf8 c.args.self.0 (take (18 - start) (drop start shown)) (all ∙ c.put_disambiguator-start.ensures.text) in
    search (rules, text)
