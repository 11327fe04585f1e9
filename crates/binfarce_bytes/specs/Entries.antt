-- Entries, which are the function symbols of a file, and the results of a call that lists them.
use Rattle.std.specs.Prelude.{◌≡◌, ◌≢◌, ◌⊎◌, ℕ, List, [], Result, Ok, Err}
use Rattle.binfarce_bytes.specs.declared.error.ParseError.{ParseError}
use Rattle.binfarce_bytes.specs.Refusal.{Refusal, refusal_of, out_of_memory}

-- a function symbol of the file: its name as it is stored, its address, and its size in bytes
pub record Entry : Type 0 where
  pub name : List ℕ
  pub address : ℕ
  pub size : ℕ

-- the entries, and a size: in ELF that of the section that was asked for, in Mach-O and PE that of the text
pub record Listed : Type 0 where
  pub entries : List Entry
  pub section_size : ℕ

-- the answer is a list that isn't empty
abbrev pub ListsSome : Result Listed Refusal → Type 0
ListsSome (Ok listed) = listed.entries ≢ []
ListsSome (Err refusal) = ⊥

-- what a call returns for the file's answer: a value that holds what the answer has, or the refusal. Only where the answer needs memory may it return
-- `OutOfMemory` instead
abbrev pub Answers : {L X : Type 0} → (L → X → Type 0) → (Result L Refusal → Type 0) → Result L Refusal → Result X ParseError → Type 0
Answers Holds NeedsMemory (Ok listed) (Ok value) = Holds listed value
Answers Holds NeedsMemory (Ok listed) (Err e) = (refusal_of e ≡ out_of_memory) × NeedsMemory (Ok listed)
Answers Holds NeedsMemory (Err refusal) (Ok value) = ⊥
Answers Holds NeedsMemory (Err refusal) (Err e) = (refusal_of e ≡ refusal) ⊎ ((refusal_of e ≡ out_of_memory) × NeedsMemory (Err refusal))
