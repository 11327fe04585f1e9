-- The `ListError` of a reader's error, its printed text, the outcome of a listing, and the bytes that a sink takes of a whole text.
use Rattle.std.specs.Prelude.{◌≡◌, ℕ, List, codes, Option, Result, Ok, Err}
use Rattle.std.specs.Io.KnownBytes.{Appends}
use Rattle.binfarce.specs.Refusal.{refusal_of, words}
use Rattle.binfarce.specs.declared.ParseError.{ParseError}
use Rattle.binfarce.specs.declared.ParseError.TheVariants as errors
use Rattle.binfarce_tools.specs.declared.list.ListError.{ListError}
use Rattle.binfarce_tools.specs.declared.list.ListError.TheVariants.{Unknown, Parse, OutOfMemory, Write}
use Rattle.binfarce_tools.specs.Writing.{Outcome, AppendsBeginning, written, write_failed, unknown_format, refused, no_memory}

-- a failed allocation is `OutOfMemory`, and any other error is `Parse`
abbrev pub list_error_of : ParseError → ListError
list_error_of errors.OutOfMemory = OutOfMemory
list_error_of e = Parse e

-- the printed text
abbrev pub list_words : ListError → List ℕ
list_words Unknown = codes "unknown file format"
list_words (Parse e) = words (refusal_of e)
list_words OutOfMemory = codes "out of memory"
list_words Write = codes "write failed"

-- the outcome of a listing
abbrev pub outcome_of : Result (Unit {0}) ListError → Outcome
outcome_of (Ok _) = written
outcome_of (Err Unknown) = unknown_format
outcome_of (Err (Parse e)) = refused (refusal_of e)
outcome_of (Err OutOfMemory) = no_memory
outcome_of (Err Write) = write_failed

-- the bytes that a sink takes of a whole text: all, or if a write failed a beginning
abbrev pub Writes : Option (List ℕ) → Option (List ℕ) → List ℕ → Result (Unit {0}) ListError → Type 0
Writes old new bytes (Ok _) = Appends old new bytes
Writes old new bytes (Err e) = (e ≡ Write) × AppendsBeginning old new bytes
