-- The tables of a file's sections.
use Rattle.std.specs.Prelude.{◌≡◌, ℕ, Bool, true, List, length, Some, Result, Ok, Err}
use Rattle.binfarce.specs.declared.Format.TheVariants as formats
use Rattle.binfarce.specs.Format.{format_of}
use Rattle.binfarce.specs.Refusal.{refusal_of}
use Rattle.binfarce.specs.Walk.{Walk, ended}
use Rattle.binfarce_tables.specs.BeginningReading.{bytes_of, file_length_of}
use Rattle.binfarce_tables.specs.SectionReading.{sections_view}
use Rattle.binfarce_tables.specs.declared.error.ReadError.{ReadError}
use Rattle.binfarce_tables.specs.declared.error.ReadError.TheVariants.{Refused, Unreadable, OutOfMemory}
use Rattle.binfarce_sections.specs.Section.{Section, elf_named, mapped, sections_of, macho_sections, pe_sections_by}
use Rattle.binfarce_sections.specs.Views.{named_by}
use Rattle.binfarce_sections.specs.declared.tables.Tables.{Tables}
use Rattle.binfarce_sections.specs.declared.tables.Tables.TheVariants.{Elf, Macho, Pe, Unknown}

-- the file's sections are these
abbrev pub Has : List ℕ → Walk Section → Type 0
Has file walk = sections_of (format_of file) file ≡ Some walk

-- the tables have the file's sections, and its length
abbrev pub AreTablesOf : List ℕ → Tables → Type 0
AreTablesOf file (Elf parts) = let seen = sections_view parts in Has file (mapped (elf_named (named_by seen.names)) seen.sections) × (seen.file_length ≡ length file)
AreTablesOf file (Macho beginning) = Has file (macho_sections (bytes_of beginning)) × (file_length_of beginning ≡ length file)
AreTablesOf file (Pe parts) = Has file (pe_sections_by parts.strings.items (bytes_of parts.beginning)) × (file_length_of parts.beginning ≡ length file)
AreTablesOf file Unknown = format_of file ≡ formats.Unknown

-- such a length
abbrev pub HasLength : Tables → ℕ → Type 0
HasLength (Elf parts) n = n ≡ (sections_view parts).file_length
HasLength (Macho beginning) n = n ≡ file_length_of beginning
HasLength (Pe parts) n = n ≡ file_length_of parts.beginning
HasLength Unknown n = n ≡ 0

-- the result of a reading of this file: its tables, or the refusal that comes before any section; or a source that may fail is unreadable, or an
-- allocation failed
abbrev pub ReadsTables : Bool → List ℕ → Result Tables ReadError → Type 0
ReadsTables may_fail file (Ok tables) = AreTablesOf file tables
ReadsTables may_fail file (Err (Refused e)) = Has file (ended (Some (refusal_of e)))
ReadsTables may_fail file (Err Unreadable) = may_fail ≡ true
ReadsTables may_fail file (Err OutOfMemory) = Unit {0}
