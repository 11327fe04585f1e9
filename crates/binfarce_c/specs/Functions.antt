-- The results of the exports that list the function symbols of a file.
use Rattle.std.specs.Prelude.{◌≡◌, ◌⊎◌, ℕ, List, Option, Some, None, Result, Ok, Err, length, map, nat_eq, if◌then◌else◌}
use Rattle.std.specs.List.{AllZip}
use Rattle.std.specs.Str.{IsUtf8}
use Rattle.binfarce.specs.declared.ByteOrder.{ByteOrder}
use Rattle.binfarce.specs.declared.Format.{Format}
use Rattle.binfarce.specs.declared.Format.TheVariants.{Elf32, Elf64, Macho, PE, Unknown}
use Rattle.binfarce.specs.declared.SymbolTable.{SymbolTable}
use Rattle.binfarce.specs.declared.SymbolTable.TheVariants.{Symtab, Dynsym}
use Rattle.binfarce.specs.Elf.{ElfClass, elf32, elf64, section_table}
use Rattle.binfarce.specs.ElfSelection.{Selected, elf_selected}
use Rattle.binfarce.specs.Format.{format_of}
use Rattle.binfarce.specs.Macho.{least_length}
use Rattle.binfarce.specs.MachoSections as macho_sections
use Rattle.binfarce.specs.MachoSelection as macho
use Rattle.binfarce.specs.Pe as pe_file
use Rattle.binfarce.specs.PeSelection as pe
use Rattle.binfarce.specs.Refusal.{◌>>=◌, Refusal, if_as_long_as, out_of_memory}
use Rattle.binfarce.specs.SectionEntries.{SectionEntry}
use Rattle.binfarce.specs.Symbol.{Entry, Listed}
use Rattle.binfarce_foreign.specs.declared.Foreign.{Foreign}
use Rattle.binfarce_foreign.specs.Foreign.{foreign_in}
use Rattle.binfarce_tools.specs.Answer.{by_symbol_table}
use Rattle.binfarce_tools.specs.SectionAnswer.{NeedsMemory, readers_answer}
use Rattle.binfarce_c.specs.declared.functions.Function.{Function}
use Rattle.binfarce_c.specs.declared.functions.Functions.{Functions}
use Rattle.binfarce_c.specs.Buffer.{put, PointsTo}
use Rattle.binfarce_c.specs.Status.{ok, not_utf8, unknown_format, status_of, detail_of, foreign_status}

-- the entry's numbers, the length of its name, and a pointer to it
pub record IsFunctionOf (entry : Entry) (function : Function) : Type 0 where
  pub name : PointsTo entry.name function.name
  pub name_length : function.name_length ≡ length entry.name
  pub address : function.address ≡ entry.address
  pub size : function.size ≡ entry.size

-- the functions are the entries, in order
abbrev pub AreFunctionsOf : (entries : List Entry) (functions : List Function) → Type 0
AreFunctionsOf entries functions = AllZip IsFunctionOf entries functions

-- all functions of the list were given: their number, the section's size, and as many of them as the array has room for
pub record HoldsAll (listed : Listed) (old : List Function) (new : List Function) (given : Functions) : Type 0 where
  pub functions : List Function
  pub are : AreFunctionsOf listed.entries functions
  pub given_is : given ≡ record { status = ok; detail = 0; count = length functions; section_size = listed.section_size }
  pub new_is : new ≡ put old functions

-- no functions were given, and the array is unchanged
abbrev pub HoldsNothing : (status : ℕ) (detail : ℕ) (old : List Function) (new : List Function) (given : Functions) → Type 0
HoldsNothing status detail old new given = (given ≡ record { status = status; detail = detail; count = 0; section_size = 0 }) × (new ≡ old)

abbrev pub HoldsRefusal : (refusal : Refusal) (old : List Function) (new : List Function) (given : Functions) → Type 0
HoldsRefusal refusal old new given = HoldsNothing (status_of refusal) (detail_of refusal) old new given

-- the result for the file's answer: the list, the refusal, or that its format is unknown. Instead of a list, or of a refusal that needs memory, it
-- may be that an allocation failed
abbrev pub GivesAnswer : (Needs : Refusal → Type 0) (answer : Option (Result Listed Refusal)) (old : List Function) (new : List Function) (given : Functions) → Type 0
GivesAnswer Needs None old new given = HoldsNothing unknown_format 0 old new given
GivesAnswer Needs (Some (Ok listed)) old new given = HoldsAll listed old new given ⊎ HoldsRefusal out_of_memory old new given
GivesAnswer Needs (Some (Err refusal)) old new given = HoldsRefusal refusal old new given ⊎ (Needs refusal × HoldsRefusal out_of_memory old new given)

-- a file that no reader reads is refused by what it is; of any other `Gives` holds
abbrev pub OfKnown : (foreign : Option Foreign) (Gives : Type 0) (old : List Function) (new : List Function) (given : Functions) → Type 0
OfKnown None Gives old new given = Gives
OfKnown (Some foreign) Gives old new given = HoldsNothing (foreign_status foreign) 0 old new given

-- `binfarce_functions`: a section's name that isn't UTF-8 is refused first; else the answer is that of the format's reader
unfoldable pub GivesFunctions : (file : List ℕ) (section : List ℕ) (old : List Function) (new : List Function) (given : Functions) → Type 0
GivesFunctions file section old new given =
    ((¬ (IsUtf8 section)) × HoldsNothing not_utf8 0 old new given)
    ⊎ (IsUtf8 section × OfKnown (foreign_in file) (GivesAnswer (λ refusal. NeedsMemory file (Err refusal)) (readers_answer file section) old new given) old new given)

-- `enum binfarce_symbol_table`; a number that isn't in it means the dynamic symbol table
abbrev pub table_of : ℕ → SymbolTable
table_of number = if nat_eq number 0 then Symtab else Dynsym

-- entries as one list; a size of the section is given only of one section
abbrev pub as_one : List SectionEntry → Listed
as_one entries = record { entries = map (λ e. e.entry) entries; section_size = 0 }

-- what `all_functions` of its reader selects of an ELF file, by this symbol table, and the functions of all sections
abbrev pub elf_selected_in : ElfClass → ByteOrder → SymbolTable → (file : List ℕ) → Result Selected Refusal
elf_selected_in class order which file =
    if_as_long_as class.header_length file (elf_selected which class (section_table class (record { order = order; bytes = file })) None)

abbrev pub elf_all : ElfClass → ByteOrder → SymbolTable → (file : List ℕ) → Result Listed Refusal
elf_all class order which file = elf_selected_in class order which file >>= λ selected. Ok (as_one selected.entries)

-- those of a Mach-O file
abbrev pub macho_entries : (file : List ℕ) → Result (List SectionEntry) Refusal
macho_entries file = if_as_long_as least_length file (macho.all_answer file)

abbrev pub macho_all : (file : List ℕ) → Result Listed Refusal
macho_all file = macho_entries file >>= λ entries. Ok (as_one entries)

-- those of a PE file
abbrev pub pe_entries : (file : List ℕ) → Result (List SectionEntry) Refusal
pe_entries file = if_as_long_as (pe_file.least_length file) file (pe.all_answer file)

abbrev pub pe_all : (file : List ℕ) → Result Listed Refusal
pe_all file = pe_entries file >>= λ entries. Ok (as_one entries)

-- those of a file of this format, which only in ELF may have a dynamic symbol table
unfoldable pub all_answer : Format → SymbolTable → (file : List ℕ) → Option (Result Listed Refusal)
all_answer (Elf32 order) which file = Some (elf_all elf32 order which file)
all_answer (Elf64 order) which file = Some (elf_all elf64 order which file)
all_answer Macho which file = Some (by_symbol_table which (macho_all file))
all_answer PE which file = Some (by_symbol_table which (pe_all file))
all_answer Unknown which file = None

-- a refusal of such a file needs memory: not in ELF, and in Mach-O and PE where the file has a section
unfoldable pub AllNeedMemory : Format → (file : List ℕ) → Type 0
AllNeedMemory (Elf32 order) file = ⊥
AllNeedMemory (Elf64 order) file = ⊥
AllNeedMemory Macho file = macho_sections.HasSection file
AllNeedMemory PE file = pe.HasSection file
AllNeedMemory Unknown file = ⊥

-- `binfarce_all_functions`
unfoldable pub GivesAllFunctions : SymbolTable → (file : List ℕ) (old : List Function) (new : List Function) (given : Functions) → Type 0
GivesAllFunctions which file old new given =
    OfKnown (foreign_in file) (GivesAnswer (λ _. AllNeedMemory (format_of file) file) (all_answer (format_of file) which file) old new given) old new given
