-- The parts of a file that were read.
use Rattle.std.specs.Prelude.{◌≡◌, ℕ, Bool, true, List, length, Option, Some, Result, Ok, Err}
use Rattle.binfarce_bytes.specs.Refusal.{Refusal, refusal_of}
use Rattle.binfarce_tables.specs.declared.error.ReadError.{ReadError}
use Rattle.binfarce_tables.specs.declared.error.ReadError.TheVariants.{Refused, Unreadable, OutOfMemory}

-- a reading gives the file's answer, through a view; or a source that may fail is unreadable, or an allocation failed
abbrev pub Reads : {X Y : Type 0} → Bool → (X → Y) → Result Y Refusal → Result X ReadError → Type 0
Reads may_fail view answer (Ok x) = answer ≡ Ok (view x)
Reads may_fail view answer (Err (Refused e)) = answer ≡ Err (refusal_of e)
Reads may_fail view answer (Err Unreadable) = may_fail ≡ true
Reads may_fail view answer (Err OutOfMemory) = Unit {0}

-- the bytes are known, and have this length
abbrev pub Known : Option (List ℕ) → ℕ → List ℕ → Type 0
Known bytes len file = (bytes ≡ Some file) × (len ≡ length file)
