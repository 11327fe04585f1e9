-- The steps of passing a stream.
use Rattle.std.specs.Prelude.{◌≡◌, ◌≢◌, ℕ, Bool, true, false, List, ◌++◌, Option, Result, Ok, Err}
use Rattle.std.specs.Io.KnownBytes.{Appends, IsAtEnd}
use Rattle.binfarce_text.specs.Streams.{Writes}
use Rattle.binfarce_text.specs.declared.streams.StreamError.{StreamError}
use Rattle.binfarce_text.specs.declared.streams.StreamError.TheVariants.{Read, Write}

-- a pass takes the next part of its text, and makes more
abbrev pub Goes : {P : Type 0} → (Holds : P → P → (text made : List ℕ) → Type 0) (old new : P) (part more : List ℕ) → Type 0
Goes {P} Holds old new part more = (first : P) (text made : List ℕ) → Holds first old text made → Holds first new (text ++ part) (made ++ more)

-- its output is complete with more
abbrev pub Ends : {P : Type 0} → (Holds : P → P → (text made : List ℕ) → Type 0) (IsDone : P → P → Bool → (text made : List ℕ) → Type 0) (old new : P) (ended : Bool) (more : List ℕ) → Type 0
Ends {P} Holds IsDone old new ended more = (first : P) (text made : List ℕ) → Holds first old text made → IsDone first new ended text (made ++ more)

-- the output may break off after what was made of a text or before, whatever part of the text comes next
abbrev pub BreaksOff : {P : Type 0} → (Holds : P → P → (text made : List ℕ) → Type 0) (May : P → (text made : List ℕ) → Type 0) → Type 0
BreaksOff {P} Holds May = (first now : P) (text part made others : List ℕ) → Holds first now text (made ++ others) → May first (text ++ part) made

-- a complete output may break off anywhere
abbrev pub BreaksOffDone : {P : Type 0} → (IsDone : P → P → Bool → (text made : List ℕ) → Type 0) (May : P → (text made : List ℕ) → Type 0) → Type 0
BreaksOffDone {P} IsDone May = (first now : P) (ended : Bool) (text made others : List ℕ) → IsDone first now ended text (made ++ others) → May first text made

-- all bytes were written, or a beginning of them
abbrev pub WritesAll : (old new : Option (List ℕ)) (bytes : List ℕ) → Result (Unit {0}) StreamError → Type 0
WritesAll old new bytes (Ok x) = Appends old new bytes
WritesAll old new bytes (Err e) = (e ≡ Write) × ((beginning : List ℕ) × (others : List ℕ) × (bytes ≡ beginning ++ others) × Appends old new beginning)

-- the next part of a text was passed, or its output broke off
abbrev pub Passes : {P : Type 0} → (Holds : P → P → (text made : List ℕ) → Type 0) (May : P → (text made : List ℕ) → Type 0) (before after : P) (part : List ℕ) (old new : Option (List ℕ)) → Result (Unit {0}) StreamError → Type 0
Passes {P} Holds May before after part old new (Ok x) =
    (more : List ℕ) × Goes Holds before after part more × Appends old new more
Passes {P} Holds May before after part old new (Err e) =
    (e ≢ Read) × ((more : List ℕ) × ((first : P) (text made : List ℕ) → Holds first before text made → May first (text ++ part) (made ++ more)) × Appends old new more)

-- the next bytes of a part were taken: of what waited before and what they made, a beginning was written, and the rest waits; or the output broke off
abbrev pub Steps : {P : Type 0} → (Holds : P → P → (text made : List ℕ) → Type 0) (May : P → (text made : List ℕ) → Type 0) (before after : P) (bytes waited waits : List ℕ) (old new : Option (List ℕ)) → Result (Unit {0}) StreamError → Type 0
Steps {P} Holds May before after bytes waited waits old new (Ok x) =
    (more : List ℕ) × (written : List ℕ) × Goes Holds before after bytes more × (waited ++ more ≡ written ++ waits) × Appends old new written
Steps {P} Holds May before after bytes waited waits old new (Err e) =
    (e ≢ Read) × ((written : List ℕ) × ((first : P) (text made rest : List ℕ) → Holds first before text (made ++ waited) → May first (text ++ (bytes ++ rest)) (made ++ written)) × Appends old new written)

-- at the reader's end nothing is left
abbrev pub HasEnded : (ended : Bool) (left : Option (List ℕ)) → Type 0
HasEnded true left = IsAtEnd left
HasEnded false left = Unit {0}

-- all that the reader gave was passed, up to its end or to its failure; or the output broke off
abbrev pub PassesAll : (Holds May : (text made : List ℕ) → Type 0) (given left old new : Option (List ℕ)) → Result Bool StreamError → Type 0
PassesAll Holds May given left old new (Ok ended) = HasEnded ended left × Writes Holds given left old new
PassesAll Holds May given left old new (Err e) = (e ≢ Read) × Writes May given left old new
