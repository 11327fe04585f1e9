-- The beginning of a file, from which its sections are read.
use Rattle.std.specs.Prelude.{◌≡◌, ℕ, Bool, true, List, length, take, Result, Ok, Err}
use Rattle.binfarce_bytes.specs.Refusal.{Refusal, refusal_of, if_as_long_as}
use Rattle.binfarce_bytes.specs.Walk.{Walk}
use Rattle.binfarce_macho.specs.Macho as macho
use Rattle.binfarce_pe.specs.Pe as pe
use Rattle.binfarce_tables.specs.declared.beginning.Beginning.{Beginning}
use Rattle.binfarce_tables.specs.declared.error.ReadError.{ReadError}
use Rattle.binfarce_tables.specs.declared.error.ReadError.TheVariants.{Refused, Unreadable, OutOfMemory}

-- the sections of a file that has a header
abbrev pub macho_sections : List ℕ → Result (Walk macho.Section) Refusal
macho_sections file = if_as_long_as macho.least_length file (Ok (macho.walk file))

abbrev pub pe_sections : List ℕ → Result (Walk pe.Section) Refusal
pe_sections file = if_as_long_as (pe.least_length file) file (Ok (pe.walk file))

-- the bytes of a file's beginning, and how many bytes the file has
abbrev pub bytes_of : Beginning → List ℕ
bytes_of b = b.bytes.items

abbrev pub file_length_of : Beginning → ℕ
file_length_of b = b.file_length

-- these are some first bytes of the file
abbrev pub Begins : List ℕ → List ℕ → Type 0
Begins file first = (count : ℕ) × (first ≡ take count file)

-- a file's beginning, which has the file's sections, and the file's length; or its refusal, or a source that may fail is unreadable, or an allocation
-- failed
abbrev pub ReadsBeginning : {Y : Type 0} → Bool → (List ℕ → Result Y Refusal) → List ℕ → Result Beginning ReadError → Type 0
ReadsBeginning may_fail sections file (Ok b) = Begins file (bytes_of b) × (sections (bytes_of b) ≡ sections file) × (file_length_of b ≡ length file)
ReadsBeginning may_fail sections file (Err (Refused e)) = sections file ≡ Err (refusal_of e)
ReadsBeginning may_fail sections file (Err Unreadable) = may_fail ≡ true
ReadsBeginning may_fail sections file (Err OutOfMemory) = Unit {0}
