-- What is read of a stream, and what is written for it.
use Rattle.std.specs.Prelude.{◌≡◌, ℕ, Bool, true, List, ◌++◌, codes, Option, Result, Ok, Err}
use Rattle.std.specs.Io.KnownBytes.{Appends, Consumes, IsAtEnd}
use Rattle.binfarce_text.specs.declared.streams.StreamError.{StreamError}
use Rattle.binfarce_text.specs.declared.streams.StreamError.TheVariants.{Read, Write, OutOfMemory}

-- the words of an error
abbrev pub stream_words : (e : StreamError) → List ℕ
stream_words Read = codes "read failed"
stream_words Write = codes "write failed"
stream_words OutOfMemory = codes "out of memory"

-- whether a write has failed afterwards: where one failed; anything else leaves it as it was
abbrev pub Fails : {X : Type 0} → Bool → Bool → Result X StreamError → Type 0
Fails old new (Err Write) = new ≡ true
Fails old new result = new ≡ old

-- a text was read, and a written text is its output. The reader had the bytes `given`, and now has `left`; the writer had `old`, and now has `new`;
-- each may be unknown
abbrev pub Writes : (IsOutput : (text written : List ℕ) → Type 0) (given left old new : Option (List ℕ)) → Type 0
Writes IsOutput given left old new = (text : List ℕ) × (written : List ℕ) × Consumes given left text × IsOutput text written × Appends old new written

-- either all was read, and its whole output was written; or the reader failed, and the output of all before was written; or a write or an allocation
-- failed, and a beginning of an output
abbrev pub Streams : {X : Type 0} → (IsWhole : X → (text written : List ℕ) → Type 0) (IsCut IsBeginning : (text written : List ℕ) → Type 0) (given left old new : Option (List ℕ)) → Result X StreamError → Type 0
Streams IsWhole IsCut IsBeginning given left old new (Ok x) = IsAtEnd left × Writes (IsWhole x) given left old new
Streams IsWhole IsCut IsBeginning given left old new (Err Read) = Writes IsCut given left old new
Streams IsWhole IsCut IsBeginning given left old new (Err Write) = Writes IsBeginning given left old new
Streams IsWhole IsCut IsBeginning given left old new (Err OutOfMemory) = Writes IsBeginning given left old new

-- written is a beginning of the text's output: the text has two parts, and for any output of the second, what was made and that are the text's, and
-- written is a beginning of what was made
abbrev pub IsBeginningOf : (IsOutput : (text output : List ℕ) → Type 0) (text written : List ℕ) → Type 0
IsBeginningOf IsOutput text written =
    (before : List ℕ) × (after : List ℕ) × (others : List ℕ) × (text ≡ before ++ after)
    × ((output : List ℕ) → IsOutput after output → IsOutput text ((written ++ others) ++ output))
