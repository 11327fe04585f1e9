-- What a file of any format answers for a selection: for the function symbols of a section, or for those of all sections.
use Rattle.std.specs.Prelude.{ℕ, Bool, false, List, map, codes, Option, Some, None, Result, Ok, Err}
use Rattle.binfarce.specs.declared.Format.{Format}
use Rattle.binfarce.specs.declared.Format.TheVariants.{Elf32, Elf64, Macho, PE, Unknown}
use Rattle.binfarce.specs.Format.{format_of}
use Rattle.binfarce.specs.Refusal.{◌>>=◌, Refusal, section_is_missing}
use Rattle.binfarce.specs.SectionEntries.{SelectedSymbols, SelectsSome, as_listed}
use Rattle.binfarce.specs.Symbol.{Entry, Listed}
use Rattle.binfarce.specs.Elf.{elf32, elf64}
use Rattle.binfarce.specs.ElfSelection.{selected_file_answer}
use Rattle.binfarce.specs.MachoSections.{HasSection}
use Rattle.binfarce.specs.MachoSelection as macho
use Rattle.binfarce.specs.PeSelection as pe
use Rattle.binfarce.specs.declared.SymbolTable.{SymbolTable}
use Rattle.binfarce.specs.declared.SymbolTable.TheVariants.{Symtab, Dynsym}

-- an answer by this symbol table: a Mach-O or PE file has no dynamic one
abbrev pub by_symbol_table : {A : Type 0} → SymbolTable → Result A Refusal → Result A Refusal
by_symbol_table Symtab answer = answer
by_symbol_table Dynsym answer = Err (section_is_missing (codes ".dynsym"))

-- what a file of the format answers for a selection by this symbol table: a section is that of an ELF file, and of a Mach-O or PE file the code section;
-- none for an unknown format
unfoldable pub selected_symbols : SymbolTable → (section : Option (List ℕ)) → Format → List ℕ → Option (Result SelectedSymbols Refusal)
selected_symbols which section (Elf32 order) file = Some (selected_file_answer which elf32 order file section)
selected_symbols which section (Elf64 order) file = Some (selected_file_answer which elf64 order file section)
selected_symbols which section Macho file = Some (by_symbol_table which (macho.selected_file_answer section file))
selected_symbols which section PE file = Some (by_symbol_table which (pe.selected_file_answer section file))
selected_symbols which section Unknown file = None

-- what a file answers for a selection by this symbol table, by the format that its first bytes name
abbrev pub selected_answer : SymbolTable → (section : Option (List ℕ)) → (file : List ℕ) → Option (Result SelectedSymbols Refusal)
selected_answer which section file = selected_symbols which section (format_of file) file

-- for a section by the symbol table
abbrev pub file_answer : (file section : List ℕ) → Option (Result SelectedSymbols Refusal)
file_answer file section = selected_answer Symtab (Some section) file

-- the answers that need memory, which alone a failed allocation may replace: function symbols, if there are some; and any answer of a Mach-O file that has
-- a section
unfoldable pub NeedsMemory : Format → (file : List ℕ) → Result SelectedSymbols Refusal → Type 0
NeedsMemory (Elf32 order) file answer = SelectsSome answer
NeedsMemory (Elf64 order) file answer = SelectsSome answer
NeedsMemory Macho file answer = HasSection file
NeedsMemory PE file answer = SelectsSome answer
NeedsMemory Unknown file answer = ⊥

-- those of a file for a selection
abbrev pub MemoryIn : (file : List ℕ) → (section : Option (List ℕ)) → Result SelectedSymbols Refusal → Type 0
MemoryIn file section answer = NeedsMemory (format_of file) file answer

-- the entries of an answer, without their sections
abbrev pub entries_of : SelectedSymbols → List Entry
entries_of selected = map (λ e. e.entry) selected.entries

-- an answer as that of one list
abbrev pub one_list : Result SelectedSymbols Refusal → Result Listed Refusal
one_list answer = answer >>= λ selected. Ok (as_listed selected)

-- an answer is that of sections that share addresses
abbrev pub addresses_are_shared : Option (Result SelectedSymbols Refusal) → Bool
addresses_are_shared None = false
addresses_are_shared (Some (Err refusal)) = false
addresses_are_shared (Some (Ok selected)) = selected.shares_addresses
