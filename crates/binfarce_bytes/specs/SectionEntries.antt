-- Entries with their sections: the function symbols of all sections of a file, and the sections' names.
use Rattle.std.specs.Prelude.{◌≡◌, ◌≢◌, ◌⊎◌, ℕ, Bool, List, [], map, Option, Some, None, Result, Ok, Err, unwrap_or}
use Rattle.std.specs.List.{sum_by}
use Rattle.binfarce_bytes.specs.declared.error.ParseError.{ParseError}
use Rattle.binfarce_bytes.specs.Refusal.{Refusal, refusal_of, out_of_memory}
use Rattle.binfarce_bytes.specs.Entries.{Entry, Listed}

-- an entry, the number of its section, and in an ELF file the binding and type of its symbol (`st_info`) and its version (its row in `.gnu.version`; 0 if
-- there is none), in other files 0
pub record SectionEntry : Type 0 where
  pub section : ℕ
  pub info : ℕ
  pub version : ℕ
  pub entry : Entry

-- the function symbols of the selected sections of a file; the size of the selected section, and none where all are selected; the name of the section of each number, where the selection has it; whether the sections share addresses; and the name of each version, where the file defines it
pub record SelectedSymbols : Type 0 where
  pub entries : List SectionEntry
  pub section_size : Option ℕ
  pub section_name : ℕ → Option (List ℕ)
  pub shares_addresses : Bool
  pub version_name : ℕ → Option (List ℕ)

-- the answer has an entry
abbrev pub SelectsSome : Result SelectedSymbols Refusal → Type 0
SelectsSome (Ok selected) = selected.entries ≢ []
SelectsSome (Err refusal) = ⊥

-- the entries as one list, with the size of the selected section; where all are selected, with the sum of the entries' sizes
abbrev pub as_listed : SelectedSymbols → Listed
as_listed selected =
    let entries = map (λ e. e.entry) selected.entries in
    record { entries = entries; section_size = unwrap_or selected.section_size (sum_by (λ e. e.size) entries) }

-- entries of a file that isn't ELF, with the number of their section
abbrev pub in_section : ℕ → List Entry → List SectionEntry
in_section number entries = map (λ e. record { section = number; info = 0; version = 0; entry = e }) entries

-- the value, unless there is a refusal
abbrev pub unless : {A : Type 0} → Option Refusal → A → Result A Refusal
unless None value = Ok value
unless (Some refusal) value = Err refusal

-- what a call returns for the file's answer: a value that holds the entries, or the refusal. Where the file needs memory, it may return `OutOfMemory`
-- instead of either
abbrev pub AnswersAll : {X : Type 0} → (List SectionEntry → X → Type 0) → Type 0 → Result (List SectionEntry) Refusal → Result X ParseError → Type 0
AnswersAll Holds NeedsMemory (Ok entries) (Ok value) = Holds entries value
AnswersAll Holds NeedsMemory (Ok entries) (Err e) = (refusal_of e ≡ out_of_memory) × NeedsMemory
AnswersAll Holds NeedsMemory (Err refusal) (Ok value) = ⊥
AnswersAll Holds NeedsMemory (Err refusal) (Err e) = (refusal_of e ≡ refusal) ⊎ ((refusal_of e ≡ out_of_memory) × NeedsMemory)
