-- The parts of an ELF file that are read.
use Rattle.std.specs.Prelude.{ℕ, ◌+◌, ◌*◌, List, [], ◌∷◌, ◌++◌, length, min, Option, Some, None, Result, Ok, Err, nat_eq, nat_lt, if◌then◌else◌}
use Rattle.binfarce_bytes.specs.declared.ByteOrder.{ByteOrder}
use Rattle.binfarce_bytes.specs.Part.{Part, part, whole_part, parts_if}
use Rattle.binfarce_bytes.specs.Refusal.{Refusal}
use Rattle.binfarce_bytes.specs.Walk.{Walk}
use Rattle.binfarce_elf.specs.Classes.{class_of}
use Rattle.binfarce_elf.specs.Elf.{ElfClass, SectionTable, Section, header_of, section_table, walk, whole_headers, names_bytes, names_section}
use Rattle.binfarce_elf_memory.specs.Descriptors.{descriptors_section, stored}
use Rattle.binfarce_elf_memory.specs.ElfEnds.{file_kind}
use Rattle.binfarce_elf_memory.specs.ElfSegments.{programs_size}
use Rattle.binfarce_elf.specs.SymbolTables.{TableSections, table_sections}
use Rattle.binfarce_elf_memory.specs.Versions.{definitions_section, versions_section}
use Rattle.binfarce_elf.specs.declared.class.Width.{Width}
use Rattle.binfarce_elf.specs.declared.symbol_table.SymbolTable.{SymbolTable}

-- the section header table as a file's header describes it
abbrev pub table_of : ElfClass → ByteOrder → List ℕ → SectionTable
table_of class order file = section_table class (record { order = order; bytes = file })

-- the bytes of a section, if it lies in the file
abbrev pub section_parts : List ℕ → Section → List Part
section_parts file section = whole_part file section.offset section.size

-- the header of the section names' own section, if it is whole: its index may be past the count
abbrev pub names_header : ElfClass → SectionTable → List Part
names_header class table =
    if nat_lt table.shstrndx (whole_headers class table)
    then part (table.shoff + table.shstrndx * class.section_length) class.section_length ∷ []
    else []

-- that header, and the section names
unfoldable pub names_parts : ElfClass → SectionTable → List Part
names_parts class table = names_header class table ++ parts_if (names_section class table) (section_parts table.file)

-- how many bytes the section headers have that are whole and below the count
abbrev pub headers_size : ElfClass → SectionTable → ℕ
headers_size class table = min table.shnum (whole_headers class table) * class.section_length

-- these headers, of a table that begins in the file; of one without headers, its first byte
unfoldable pub headers_parts : ElfClass → SectionTable → List Part
headers_parts class table =
    if nat_lt table.shoff (length table.file)
    then part table.shoff (if nat_eq table.shnum 0 then 1 else headers_size class table) ∷ []
    else []

-- the section names and the section headers
abbrev pub table_parts : ElfClass → SectionTable → List Part
table_parts class table = names_parts class table ++ headers_parts class table

-- the strings and the rows of a symbol table
abbrev pub rows_parts : List ℕ → TableSections → List Part
rows_parts file sections = section_parts file sections.strings ++ section_parts file sections.symbols

-- those of a symbol table that is found
unfoldable pub found_parts : List ℕ → Result TableSections Refusal → List Part
found_parts file (Ok sections) = rows_parts file sections
found_parts file (Err refusal) = []

-- a section of descriptors, if it has bytes in the file and they lie there
abbrev pub descriptor_parts : List ℕ → Option Section → List Part
descriptor_parts file None = []
descriptor_parts file (Some section) = parts_if (stored section) (section_parts file)

-- the section of descriptors that a file's functions have
abbrev pub file_descriptors : ElfClass → ByteOrder → List ℕ → Option Section
file_descriptors class order file =
    let table = table_of class order file in
    descriptors_section class (file_kind (header_of class order file)) (walk class table) (names_bytes class table)

-- the versions of a symbol table's rows, and their definitions, if they lie in the file
abbrev pub version_parts : SymbolTable → List ℕ → Walk Section → List Part
version_parts which file sections = parts_if (versions_section which sections) (section_parts file) ++ parts_if (definitions_section which sections) (section_parts file)

-- what a reading of the sections reads: the file header, the section names and the section headers
unfoldable pub elf_section_parts : ElfClass → ByteOrder → List ℕ → List Part
elf_section_parts class order file = part 0 class.header_length ∷ table_parts class (table_of class order file)

-- what a reading of the function symbols reads: that, and the strings, the rows and the versions of this symbol table; and where functions have them their
-- descriptors
unfoldable pub elf_parts : SymbolTable → ElfClass → ByteOrder → List ℕ → List Part
elf_parts which class order file =
    let sections = walk class (table_of class order file) in
    elf_section_parts class order file
    ++ (found_parts file (table_sections which sections) ++ (descriptor_parts file (file_descriptors class order file) ++ version_parts which file sections))

-- what a reading of the load address reads: the file header, and the program headers, if they lie in the file
unfoldable pub elf_load_parts : Width → ByteOrder → List ℕ → List Part
elf_load_parts width order file =
    let header = header_of (class_of width) order file in
    part 0 (class_of width).header_length ∷ whole_part file header.phoff (programs_size width header)
