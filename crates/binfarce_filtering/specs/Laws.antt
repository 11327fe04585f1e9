-- Laws of a text's output: what follows from its definition, proved in `laws`.
use Rattle.std.specs.Prelude.{◌≡◌, ℕ, List, ◌++◌}
use Rattle.binfarce_text.specs.Streams.{IsBeginningOf}

-- text has an output
abbrev pub HasAnOutput : (IsOutput : (text output : List ℕ) → Type 0) (text : List ℕ) → Type 0
HasAnOutput IsOutput text = (output : List ℕ) × IsOutput text output

-- text has no more than one output
abbrev pub HasOneOutput : (IsOutput : (text output : List ℕ) → Type 0) (text : List ℕ) → Type 0
HasOneOutput IsOutput text = (first second : List ℕ) → IsOutput text first → IsOutput text second → first ≡ second

-- what was written of text, if a write or an allocation failed, is a prefix of its output
abbrev pub HasPrefixWritten : (IsOutput : (text output : List ℕ) → Type 0) (text : List ℕ) → Type 0
HasPrefixWritten IsOutput text =
    (written output : List ℕ) → IsBeginningOf IsOutput text written → IsOutput text output → (more : List ℕ) × (output ≡ written ++ more)
