-- The views of a decoded Punycode text that clauses use.
use Rattle.std.specs.Prelude.{ℕ, List, take}
use Rattle.binfarce_v0_grammar.specs.declared.punycode.text.Decoded.{Decoded}

-- its characters, as their code points
abbrev pub characters_of : Decoded → List ℕ
characters_of text = take text.count text.characters
