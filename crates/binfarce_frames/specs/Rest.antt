-- What is left to be written of a text with frames.
use Rattle.std.specs.Prelude.{ℕ, Bool, true, false, List, ◌∷◌, map}
use Rattle.binfarce_frames.specs.Frames.{framed}
use Rattle.binfarce_frames.specs.declared.Frames.{Frames}

-- a parenthesis that is held back comes first
abbrev pub text_with : (held : Bool) → (text : List ℕ) → List ℕ
text_with true text = 41 ∷ text
text_with false text = text

-- of a state, and the text that follows
abbrev pub names_of : Frames → List (List ℕ)
names_of state = map (λ name. name.now) state.names.now

abbrev pub rest : Frames → (text : List ℕ) → List ℕ
rest state text = framed (names_of state) state.line.items (text_with state.is_held text)
