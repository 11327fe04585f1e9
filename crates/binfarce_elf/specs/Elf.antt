-- ELF files of both classes: the offsets and widths of fields, and their values (System V gABI, chapter 4).
use Rattle.std.specs.Prelude.{◌≡◌, ℕ, ◌+◌, ◌-◌, ◌*◌, ◌/◌, ◌&&◌, List, length, map, Option, Some, None, nat_eq, nat_lt, nat_le, bit_and, min, if◌then◌else◌}
use Rattle.std.specs.List.{range_with_len}
use Rattle.binfarce_bytes.specs.declared.ByteOrder.{ByteOrder}
use Rattle.binfarce_bytes.specs.Steps.{◌>>=◌}
use Rattle.binfarce_bytes.specs.Field.{Field, field, value_at}
use Rattle.binfarce_bytes.specs.Number.{bytes_at}
use Rattle.binfarce_bytes.specs.Text.{text_at}
use Rattle.binfarce_bytes.specs.Refusal.{unexpected_eof}
use Rattle.binfarce_bytes.specs.Walk.{Walk}

-- ELF Header: one A for each field after the identification
pub record Header (A : Type 0) : Type 0 where
  pub elf_type : A
  pub machine : A
  pub version : A
  pub entry : A
  pub phoff : A
  pub shoff : A
  pub flags : A
  pub ehsize : A
  pub phentsize : A
  pub phnum : A
  pub shentsize : A
  pub shnum : A
  pub shstrndx : A

-- Section Header: one A for each field
pub record SectionHeader (A : Type 0) : Type 0 where
  pub name : A
  pub kind : A
  pub flags : A
  pub addr : A
  pub offset : A
  pub size : A
  pub link : A
  pub info : A
  pub addralign : A
  pub entry_size : A

-- Symbol Table Entry: one A for each field
pub record SymbolRow (A : Type 0) : Type 0 where
  pub name : A
  pub value : A
  pub size : A
  pub info : A
  pub other : A
  pub section : A

-- the lengths of a class's structures, and the offsets and widths of their fields
pub record ElfClass : Type 0 where
  pub header_length : ℕ
  pub section_length : ℕ
  pub symbol_length : ℕ
  pub header : Header Field
  pub section : SectionHeader Field
  pub symbol : SymbolRow Field

-- ELFCLASS32
unfoldable pub elf32 : ElfClass
elf32 = record {
  header_length = 52;
  section_length = 40;
  symbol_length = 16;
  header = record {
    elf_type = field 16 2;
    machine = field 18 2;
    version = field 20 4;
    entry = field 24 4;
    phoff = field 28 4;
    shoff = field 32 4;
    flags = field 36 4;
    ehsize = field 40 2;
    phentsize = field 42 2;
    phnum = field 44 2;
    shentsize = field 46 2;
    shnum = field 48 2;
    shstrndx = field 50 2;
  };
  section = record {
    name = field 0 4;
    kind = field 4 4;
    flags = field 8 4;
    addr = field 12 4;
    offset = field 16 4;
    size = field 20 4;
    link = field 24 4;
    info = field 28 4;
    addralign = field 32 4;
    entry_size = field 36 4;
  };
  symbol = record {
    name = field 0 4;
    value = field 4 4;
    size = field 8 4;
    info = field 12 1;
    other = field 13 1;
    section = field 14 2;
  };
}

-- ELFCLASS64
unfoldable pub elf64 : ElfClass
elf64 = record {
  header_length = 64;
  section_length = 64;
  symbol_length = 24;
  header = record {
    elf_type = field 16 2;
    machine = field 18 2;
    version = field 20 4;
    entry = field 24 8;
    phoff = field 32 8;
    shoff = field 40 8;
    flags = field 48 4;
    ehsize = field 52 2;
    phentsize = field 54 2;
    phnum = field 56 2;
    shentsize = field 58 2;
    shnum = field 60 2;
    shstrndx = field 62 2;
  };
  section = record {
    name = field 0 4;
    kind = field 4 4;
    flags = field 8 8;
    addr = field 16 8;
    offset = field 24 8;
    size = field 32 8;
    link = field 40 4;
    info = field 44 4;
    addralign = field 48 8;
    entry_size = field 56 8;
  };
  symbol = record {
    name = field 0 4;
    info = field 4 1;
    other = field 5 1;
    section = field 6 2;
    value = field 8 8;
    size = field 16 8;
  };
}

-- the file's header
unfoldable pub header_of : ElfClass → ByteOrder → List ℕ → Header ℕ
header_of class order file = record {
  elf_type = value_at order file 0 class.header.elf_type;
  machine = value_at order file 0 class.header.machine;
  version = value_at order file 0 class.header.version;
  entry = value_at order file 0 class.header.entry;
  phoff = value_at order file 0 class.header.phoff;
  shoff = value_at order file 0 class.header.shoff;
  flags = value_at order file 0 class.header.flags;
  ehsize = value_at order file 0 class.header.ehsize;
  phentsize = value_at order file 0 class.header.phentsize;
  phnum = value_at order file 0 class.header.phnum;
  shentsize = value_at order file 0 class.header.shentsize;
  shnum = value_at order file 0 class.header.shnum;
  shstrndx = value_at order file 0 class.header.shstrndx;
}

-- the values of a section header, and the section's index
pub record Section : Type 0 where
  pub index : ℕ
  pub name_offset : ℕ
  pub kind : ℕ
  pub flags : ℕ
  pub address : ℕ
  pub link : ℕ
  pub offset : ℕ
  pub size : ℕ
  pub entry_size : ℕ

-- how many entries of a size there are; none where that size is 0
abbrev pub entry_count : ℕ → ℕ → ℕ
entry_count size entry_size = if nat_eq entry_size 0 then 0 else size / entry_size

-- the section of this index, whose header begins at start
unfoldable pub section_at : ElfClass → ByteOrder → List ℕ → ℕ → ℕ → Section
section_at class order file start index = record {
  index = index;
  name_offset = value_at order file start class.section.name;
  kind = value_at order file start class.section.kind;
  flags = value_at order file start class.section.flags;
  address = value_at order file start class.section.addr;
  link = value_at order file start class.section.link;
  offset = value_at order file start class.section.offset;
  size = value_at order file start class.section.size;
  entry_size = value_at order file start class.section.entry_size;
}

-- how many bytes the section has in the file: sh_size, but none where its type is SHT_NOBITS (8)
abbrev pub file_size : Section → ℕ
file_size s = if nat_eq s.kind 8 then 0 else s.size

-- how many bytes it has in memory: sh_size where its flags have SHF_ALLOC (2), else none
abbrev pub memory_size : Section → ℕ
memory_size s = if nat_eq (bit_and s.flags 2) 0 then 0 else s.size

-- a file's bytes, and the order that its numbers are read in
pub record ElfFile : Type 0 where
  pub order : ByteOrder
  pub bytes : List ℕ

-- a file, and its section header table as the file header states it: its offset, its count, and the index of the section names
pub record SectionTable : Type 0 where
  pub order : ByteOrder
  pub file : List ℕ
  pub shoff : ℕ
  pub shnum : ℕ
  pub shstrndx : ℕ

unfoldable pub section_table : ElfClass → ElfFile → SectionTable
section_table class file = record {
  order = file.order;
  file = file.bytes;
  shoff = (header_of class file.order file.bytes).shoff;
  shnum = (header_of class file.order file.bytes).shnum;
  shstrndx = (header_of class file.order file.bytes).shstrndx;
}

-- section header i of the table
abbrev pub section_of : ElfClass → SectionTable → ℕ → Section
section_of class table i = section_at class table.order table.file (table.shoff + i * class.section_length) i

-- how many section headers the file has room for, from the table's offset on
abbrev pub whole_headers : ElfClass → SectionTable → ℕ
whole_headers class table = (length table.file - table.shoff) / class.section_length

-- the sections are those numbered below the count, up to the first whose header is truncated; a table that doesn't begin in the file is refused even where it is empty
unfoldable pub walk : ElfClass → SectionTable → Walk Section
walk class table = record {
  items = map (section_of class table) (range_with_len 0 (min table.shnum (whole_headers class table)));
  refusal = if nat_lt table.shoff (length table.file) && nat_le table.shnum (whole_headers class table) then None else Some unexpected_eof;
}

-- the bytes of a section, where they lie in the file
abbrev pub contents : List ℕ → Section → Option (List ℕ)
contents file section = if nat_le (section.offset + section.size) (length file) then Some (bytes_at file section.offset section.size) else None

-- the section of the section names, where its header is whole; its index isn't checked against the count
abbrev pub names_section : ElfClass → SectionTable → Option Section
names_section class table = if nat_lt table.shstrndx (whole_headers class table) then Some (section_of class table table.shstrndx) else None

-- the bytes of the section names, where they lie in the file
abbrev pub names_bytes : ElfClass → SectionTable → Option (List ℕ)
names_bytes class table = do
  names ← names_section class table
  contents table.file names

-- the name at an offset among the section names, if there are any
abbrev pub name_among : Option (List ℕ) → ℕ → Option (List ℕ)
name_among names offset = do
  strings ← names
  text_at strings offset

-- a section's name, if it has one: the text at its name offset among the section names
unfoldable pub name_of : ElfClass → SectionTable → Section → Option (List ℕ)
name_of class table section = name_among (names_bytes class table) section.name_offset

-- the name is the bytes of the file at its offset among the section names
abbrev pub NameIsInFile : ElfClass → SectionTable → Section → List ℕ → Type 0
NameIsInFile class table section name =
    (names : Section) × (names_section class table ≡ Some names) × (bytes_at table.file (names.offset + section.name_offset) (length name) ≡ name)
