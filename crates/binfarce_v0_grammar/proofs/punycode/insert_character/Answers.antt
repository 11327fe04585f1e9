use Rattle.binfarce_v0_grammar.proofs.PunycodeLemmas.{take-moved}
use Rattle.binfarce_v0_grammar.proofs.punycode.insert_character.Goals as goal

pub returns : goal.returns
returns c = take-moved _ _ _ _ _ c.requires.within c.requires.room c.put_first.ensures
