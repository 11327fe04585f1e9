-- The result and the effect of a call that makes a text from a file's answer and then writes it, for any text and any error type.
use Rattle.std.specs.Prelude.{◌≡◌, ◌⊎◌, ◌++◌, ℕ, List, [], Bool, true, Option, Some, None, Result, Ok, Err, String}
use Rattle.std.specs.Io.KnownBytes.{Appends}
use Rattle.std.specs.String.{string_bytes}
use Rattle.binfarce.specs.Refusal.{Refusal}

-- the outcome of a call: its text was written; a write of its sink failed; or, before its first write: the file's format is unknown, the reader
-- refused the file, an allocation failed, a number of the text exceeds 64 bits. For a program also: the file can't be read, no file is named
pub data Outcome : Type 0 where
  written : Outcome
  write_failed : Outcome
  unknown_format : Outcome
  refused : Refusal → Outcome
  no_memory : Outcome
  too_large : Outcome
  unreadable : Outcome
  wrong_usage : Outcome

-- the outcome for a file's answer of any kind; its text can be made if Fits holds. An unknown format, a refusal and a text that can't be made are
-- reported exactly if they hold. A failed allocation may replace a refusal only if that refusal needs memory
abbrev pub EndsAs : {L : Type 0} → (L → Type 0) → (Result L Refusal → Type 0) → Option (Result L Refusal) → Outcome → Type 0
EndsAs Fits NeedsMemory None outcome = outcome ≡ unknown_format
EndsAs Fits NeedsMemory (Some (Err refusal)) outcome = (outcome ≡ refused refusal) ⊎ (NeedsMemory (Err refusal) × (outcome ≡ no_memory))
EndsAs Fits NeedsMemory (Some (Ok listed)) outcome = (outcome ≡ no_memory)
    ⊎ (Fits listed × ((outcome ≡ written) ⊎ (outcome ≡ write_failed)))
    ⊎ ((¬ (Fits listed)) × (outcome ≡ too_large))

-- the same for a program, which reads the file first: it reports an unreadable file only if MayFail holds; a failed allocation may be reported for
-- any file
abbrev pub ProgramEndsAs : {L : Type 0} → Type 0 → (L → Type 0) → (Result L Refusal → Type 0) → Option (Result L Refusal) → Outcome → Type 0
ProgramEndsAs MayFail Fits NeedsMemory answer outcome = (MayFail × (outcome ≡ unreadable)) ⊎ (outcome ≡ no_memory) ⊎ EndsAs Fits NeedsMemory answer outcome

-- text is due: a text of this kind, of a file that has an answer
abbrev pub IsDue : {L : Type 0} → (L → List ℕ → Type 0) → Option (Result L Refusal) → List ℕ → Type 0
IsDue IsTextOf (Some (Ok listed)) text = IsTextOf listed text
IsDue IsTextOf (Some (Err refusal)) text = ⊥
IsDue IsTextOf None text = ⊥

-- the bytes that were taken, where they are known, grow by the beginning of a text
abbrev pub AppendsBeginning : Option (List ℕ) → Option (List ℕ) → List ℕ → Type 0
AppendsBeginning old new text = (beginning : List ℕ) × (others : List ℕ) × (text ≡ beginning ++ others) × Appends old new beginning

-- the bytes that were taken: the text that is due; if a write failed, a beginning of it; otherwise nothing
abbrev pub Takes : {L : Type 0} → (L → List ℕ → Type 0) → Option (Result L Refusal) → Option (List ℕ) → Option (List ℕ) → Outcome → Type 0
Takes IsTextOf answer old new written = (text : List ℕ) × IsDue IsTextOf answer text × Appends old new text
Takes IsTextOf answer old new write_failed = (text : List ℕ) × IsDue IsTextOf answer text × AppendsBeginning old new text
Takes IsTextOf answer old new outcome = Appends old new []

-- whether the sink has failed afterwards: it has if a write failed; otherwise this is unchanged
abbrev pub Fails : Bool → Bool → Outcome → Type 0
Fails old new write_failed = new ≡ true
Fails old new outcome = new ≡ old

-- an outcome before the first write leaves the sink unchanged
abbrev pub Leaves : {S : Type 0} → S → S → Outcome → Type 0
Leaves old new written = Unit {0}
Leaves old new write_failed = Unit {0}
Leaves old new outcome = new ≡ old

-- the text that was made was taken whole, or if a write failed a beginning of it; nothing was taken if no text was made
abbrev pub WritesMade : {Y E : Type 0} → Result (String Y) E → Option (List ℕ) → Option (List ℕ) → Outcome → Type 0
WritesMade (Ok text) old new outcome = ((outcome ≡ written) × Appends old new (string_bytes text)) ⊎ ((outcome ≡ write_failed) × AppendsBeginning old new (string_bytes text))
WritesMade (Err e) old new outcome = (outcome ≡ no_memory) × Appends old new []
