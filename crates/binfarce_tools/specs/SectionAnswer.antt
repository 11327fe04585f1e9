-- What `list` and `report` promise: the answer of a file for a section, which answers need memory, and the listing and the report of an answer.
use Rattle.std.specs.Prelude.{◌≡◌, ◌<◌, ◌^◌, ℕ, Bool, true, false, List, [], ◌∷◌, ◌++◌, Option, Some, None, Result}
use Rattle.std.specs.List.{AllZip, concat, sum_by}
use Rattle.binfarce_names.specs.Name.{Name}
use Rattle.binfarce_names.specs.Named.{IsNamed}
use Rattle.binfarce.specs.declared.Format.{Format}
use Rattle.binfarce.specs.declared.Format.TheVariants.{Elf32, Elf64, Macho, PE, Unknown}
use Rattle.binfarce.specs.Format.{format_of}
use Rattle.binfarce.specs.Refusal.{Refusal}
use Rattle.binfarce.specs.Symbol.{Entry, Listed, ListsSome}
use Rattle.binfarce.specs.Elf.{elf32, elf64}
use Rattle.binfarce.specs.ElfSymbols.{elf_file_answer}
use Rattle.binfarce.specs.MachoSymbols.{macho_file_answer, HasAddress}
use Rattle.binfarce.specs.PeSymbols.{pe_file_answer}
use Rattle.binfarce_rows.specs.Columns.{line_head}
use Rattle.binfarce_tools.specs.Listing.{size_line}
use Rattle.binfarce_tools.specs.Report.{Share, IsShareOf, IsReportOfShares}

-- the answer of the format's reader: for this section of an ELF file, and for the text of a Mach-O or PE file; none for an unknown format
unfoldable pub format_answer : Format → (file section : List ℕ) → Option (Result Listed Refusal)
format_answer (Elf32 order) file section = Some (elf_file_answer elf32 order file section)
format_answer (Elf64 order) file section = Some (elf_file_answer elf64 order file section)
format_answer Macho file section = Some (macho_file_answer file)
format_answer PE file section = Some (pe_file_answer file)
format_answer Unknown file section = None

abbrev pub is_elf : Format → Bool
is_elf (Elf32 order) = true
is_elf (Elf64 order) = true
is_elf format = false

-- the answer of a file for a section, by the format that its first bytes name
abbrev pub readers_answer : (file section : List ℕ) → Option (Result Listed Refusal)
readers_answer file section = format_answer (format_of file) file section

-- the answers of a format's reader that need memory: of an ELF or PE file a list that isn't empty, and any of a Mach-O file whose symbol table has an address
unfoldable pub ReaderNeedsMemory : Format → (file : List ℕ) → Result Listed Refusal → Type 0
ReaderNeedsMemory (Elf32 order) file answer = ListsSome answer
ReaderNeedsMemory (Elf64 order) file answer = ListsSome answer
ReaderNeedsMemory Macho file answer = HasAddress file
ReaderNeedsMemory PE file answer = ListsSome answer
ReaderNeedsMemory Unknown file answer = ⊥

-- the answers of a file that need memory, by its format
abbrev pub NeedsMemory : (file : List ℕ) → Result Listed Refusal → Type 0
NeedsMemory file answer = ReaderNeedsMemory (format_of file) file answer

-- line is `{address:016x} {size:>10} {trimmed}` of an entry, by the answer of its name, and a line feed
abbrev pub IsLineOf : Entry → List ℕ → Type 0
IsLineOf entry line = (name : Name) × IsNamed entry.name name × (line ≡ line_head entry.address entry.size ++ (name.trimmed ++ 10 ∷ []))

-- text is the listing of an answer: a line for each entry, in order, and then `text {size}`
abbrev pub IsListingOf : Listed → List ℕ → Type 0
IsListingOf listed text = (lines : List (List ℕ)) × AllZip IsLineOf listed.entries lines × (text ≡ concat lines ++ size_line listed.section_size)

-- text is the report of an answer: each entry adds its share, and the last line is `text {size}`
abbrev pub IsReportOf : Listed → List ℕ → Type 0
IsReportOf listed text = (shares : List Share) × AllZip IsShareOf listed.entries shares × IsReportOfShares shares (size_line listed.section_size) text

-- a report can be made where the sum of all sizes is a number of 64 bits
abbrev pub ReportFits : Listed → Type 0
ReportFits listed = sum_by (λ entry. entry.size) listed.entries < 2 ^ 64
