-- The tables of a file's function symbols, and the result of reading them.
use Rattle.std.specs.Prelude.{◌≡◌, ℕ, Bool, true, false, List, map, Option, Some, None, Result, Ok, Err}
use Rattle.binfarce.specs.declared.Format.TheVariants as formats
use Rattle.binfarce.specs.SelectionViews.{version_names}
use Rattle.binfarce.specs.Format.{format_of}
use Rattle.binfarce.specs.MachoSelection as macho_file
use Rattle.binfarce.specs.Refusal.{Refusal, refusal_of}
use Rattle.binfarce.specs.SectionEntries.{SelectedSymbols}
use Rattle.binfarce.specs.SymbolViews.{section_function_view}
use Rattle.binfarce_tables.specs.ElfReading as elf
use Rattle.binfarce_tables.specs.MachoReading as macho
use Rattle.binfarce_tables.specs.PeReading as pe
use Rattle.binfarce_tables.specs.declared.error.ReadError.{ReadError}
use Rattle.binfarce_tables.specs.declared.error.ReadError.TheVariants.{Refused, Unreadable, OutOfMemory}
use Rattle.binfarce.specs.declared.SymbolTable.{SymbolTable}
use Rattle.binfarce.specs.declared.SymbolTable.TheVariants.{Symtab}
use Rattle.binfarce_tools.specs.Answer.{MemoryIn, selected_answer}
use Rattle.binfarce_tools.specs.Entries.{all_left, GetsAs}
use Rattle.binfarce_tools.specs.declared.functions.Selected.{Selected}
use Rattle.binfarce_tools.specs.declared.list.ListError.{ListError}
use Rattle.binfarce_tools.specs.declared.tables.Tables.{Tables}
use Rattle.binfarce_tools.specs.declared.tables.Tables.TheVariants.{Elf, Macho, Pe, Unknown, Whole, Made}

-- the tables are those of this file's answer for a selection by this symbol table: its parts have its function symbols; for an unknown format there are none; a whole file has its own answer for its section by the symbol table; and
-- what was made has the entries, the size and the names of versions of a section's answer
unfoldable pub AreTablesOf : SymbolTable → (file : List ℕ) → (section : Option (List ℕ)) → Tables → Type 0
AreTablesOf which file section (Elf parts) = selected_answer which section file ≡ Some (Ok (elf.parts_view parts))
AreTablesOf which file section (Macho parts) =
    (format_of file ≡ formats.Macho) × (selected_answer which section file ≡ Some (Ok (macho_file.symbols_of (macho.parts_view parts))))
    × (macho_file.selected_file_tables section file ≡ Ok (macho.parts_view parts))
AreTablesOf which file section (Pe parts) = (format_of file ≡ formats.PE) × (selected_answer which section file ≡ Some (Ok (pe.selected_view parts)))
AreTablesOf which file section Unknown = format_of file ≡ formats.Unknown
AreTablesOf which file section (Whole whole named) = (which ≡ Symtab) × (file ≡ whole.now) × (section ≡ Some named.now)
AreTablesOf which file section (Made functions size versions) =
    (selected : SelectedSymbols) × (selected_answer which section file ≡ Some (Ok selected)) × (map section_function_view functions.items ≡ selected.entries)
    × (selected.section_size ≡ Some size) × ((version : ℕ) → version_names versions version ≡ selected.version_name version)

-- what a reading of a file with this answer gives: tables that are its own, or its refusal; or a read failed, which it may only if MayFail says so; or an allocation failed
abbrev pub ReadsAs : {L T : Type 0} → (T → Type 0) → Type 0 → Option (Result L Refusal) → Result T ReadError → Type 0
ReadsAs AreTables MayFail answer (Ok tables) = AreTables tables
ReadsAs AreTables MayFail answer (Err (Refused e)) = answer ≡ Some (Err (refusal_of e))
ReadsAs AreTables MayFail answer (Err Unreadable) = MayFail
ReadsAs AreTables MayFail answer (Err OutOfMemory) = Unit {0}

-- so for a selection
abbrev pub ReadsTables : Type 0 → SymbolTable → (file : List ℕ) → (section : Option (List ℕ)) → Result Tables ReadError → Type 0
ReadsTables MayFail which file section result = ReadsAs (AreTablesOf which file section) MayFail (selected_answer which section file) result

-- whether a file's answer may be a refusal though these are its tables
abbrev pub may_be_refused : Tables → Bool
may_be_refused (Elf parts) = false
may_be_refused (Macho parts) = false
may_be_refused (Pe parts) = false
may_be_refused Unknown = true
may_be_refused (Whole whole named) = true
may_be_refused (Made functions size versions) = false

-- what asking a file's tables for its answer gives: these tables where it has function symbols, and why it has none; an allocation may fail where the answer needs memory
abbrev pub AcceptsTables : SymbolTable → (file : List ℕ) → (section : Option (List ℕ)) → Result Tables ListError → Type 0
AcceptsTables which file section result = GetsAs (λ selected. AreTablesOf which file section) (MemoryIn file section) (selected_answer which section file) result

-- all bytes of a file, of which nothing was read
abbrev pub is_whole : Tables → Bool
is_whole (Whole whole named) = true
is_whole tables = false

-- the names of the sections that were read, by their numbers
abbrev pub section_names : Tables → ℕ → Option (List ℕ)
section_names (Elf parts) = (elf.parts_view parts).section_name
section_names (Macho parts) = (macho_file.symbols_of (macho.parts_view parts)).section_name
section_names (Pe parts) = (pe.selected_view parts).section_name
section_names tables = λ number. None

-- whether the sections that were read share addresses
abbrev pub shares_addresses_of : Tables → Bool
shares_addresses_of (Elf parts) = (elf.parts_view parts).shares_addresses
shares_addresses_of (Pe parts) = (pe.selected_view parts).shares_addresses
shares_addresses_of tables = false

-- the names of versions that were read
abbrev pub version_names_of : Tables → ℕ → Option (List ℕ)
version_names_of (Elf parts) = (elf.parts_view parts).version_name
version_names_of (Made functions size versions) = version_names versions
version_names_of tables = λ version. None

-- what the tables and the function symbols that they give have
abbrev pub given_by : Tables → Selected → SelectedSymbols
given_by tables selected = record {
  entries = all_left selected.functions;
  section_size = selected.size;
  section_name = section_names tables;
  shares_addresses = shares_addresses_of tables;
  version_name = version_names_of tables;
}
