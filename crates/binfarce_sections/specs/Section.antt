-- The sections of a file of any format.
use Rattle.std.specs.Prelude.{ℕ, Bool, ◌&&◌, ◌||◌, List, length, map, Option, Some, None, nat_eq, nat_lt, not, min, if◌then◌else◌}
use Rattle.binfarce.specs.declared.ByteOrder.{ByteOrder}
use Rattle.binfarce.specs.declared.Format.{Format}
use Rattle.binfarce.specs.declared.Format.TheVariants.{Elf32, Elf64, Macho, PE, Unknown}
use Rattle.binfarce.specs.Refusal.{unexpected_eof}
use Rattle.binfarce.specs.Walk.{Walk, ended}
use Rattle.binfarce.specs.Elf as elf
use Rattle.binfarce.specs.Elf.{elf32, elf64}
use Rattle.binfarce.specs.Macho as macho
use Rattle.binfarce.specs.Pe as pe
use Rattle.binfarce_pe.specs.PeNames.{full_name, strings_of}
use Rattle.binfarce_sections.specs.declared.kinds.SectionType.{SectionType}
use Rattle.binfarce_sections.specs.declared.kinds.SectionType.TheVariants as types

-- a section: its segment's name in Mach-O, its own name, which an ELF section may lack, its address in memory, where it begins in the file, its size in bytes, and whether it has bytes in the file;
-- its type, its flags, and how many bytes it has in the file and in memory
pub record Section : Type 0 where
  pub segment : Option (List ℕ)
  pub name : Option (List ℕ)
  pub address : ℕ
  pub offset : ℕ
  pub size : ℕ
  pub has_bytes : Bool
  pub kind : SectionType
  pub flags : ℕ
  pub file_size : ℕ
  pub memory_size : ℕ

-- an ELF section with such a name: a section of type 8 (SHT_NOBITS) has no bytes in the file (gABI, "Sections"), and one without the flag SHF_ALLOC none in memory
abbrev pub elf_named : (elf.Section → Option (List ℕ)) → elf.Section → Section
elf_named name s = record {
  segment = None;
  name = name s;
  address = s.address;
  offset = s.offset;
  size = s.size;
  has_bytes = not (nat_eq s.kind 8);
  kind = types.Elf s.kind;
  flags = s.flags;
  file_size = elf.file_size s;
  memory_size = elf.memory_size s;
}

abbrev pub elf_section : elf.ElfClass → elf.SectionTable → elf.Section → Section
elf_section class table = elf_named (elf.name_of class table)

-- a Mach-O section: one that is filled with zeros, or has the offset 0, has no bytes in the file. Its type is the low byte of its flags
abbrev pub macho_section : macho.Section → Section
macho_section s = record {
  segment = Some s.segment_name;
  name = Some s.section_name;
  address = s.address;
  offset = s.offset;
  size = s.size;
  has_bytes = not (macho.is_zero_filled s || nat_eq s.offset 0);
  kind = types.Macho (macho.section_type s);
  flags = s.flags;
  file_size = macho.file_size s;
  memory_size = s.size;
}

-- the size of a PE section: the smaller one of the two, or the other one where one is 0. In an image SizeOfRawData is rounded up; in an object file
-- VirtualSize is 0
abbrev pub pe_size : ℕ → ℕ → ℕ
pe_size virtual raw = if nat_eq virtual 0 then raw else if nat_eq raw 0 then virtual else min virtual raw

-- a PE section with this name: one without raw data has no bytes in the file (PE Format, "Section Table"). In the file it has all of its raw data, also what
-- is rounded up
abbrev pub pe_named : (name : List ℕ) → pe.Section → Section
pe_named name s = record {
  segment = None;
  name = Some name;
  address = s.virtual_address;
  offset = s.pointer_to_raw_data;
  size = pe_size s.virtual_size s.size_of_raw_data;
  has_bytes = not (nat_eq s.pointer_to_raw_data 0) && not (nat_eq s.size_of_raw_data 0);
  kind = types.Pe;
  flags = s.characteristics;
  file_size = pe.file_size s;
  memory_size = pe.memory_size s;
}

-- with its own name: one of more than 8 bytes is in this string table
abbrev pub pe_section : (strings : List ℕ) → pe.Section → Section
pe_section strings s = pe_named (full_name strings s.name) s

-- a walk with each item converted
abbrev pub mapped : {S T : Type 0} → (S → T) → Walk S → Walk T
mapped f walk = record { items = map f walk.items; refusal = walk.refusal }

-- the sections of an ELF file: a file that is too short for its header is truncated
abbrev pub elf_sections : elf.ElfClass → ByteOrder → List ℕ → Walk Section
elf_sections class order file =
    let table = elf.section_table class (record { order = order; bytes = file }) in
    if nat_lt (length file) class.header_length then ended (Some unexpected_eof) else mapped (elf_section class table) (elf.walk class table)

abbrev pub macho_sections : List ℕ → Walk Section
macho_sections file = if nat_lt (length file) macho.least_length then ended (Some unexpected_eof) else mapped macho_section (macho.walk file)

abbrev pub pe_sections_by : (strings : List ℕ) → List ℕ → Walk Section
pe_sections_by strings file = if nat_lt (length file) (pe.least_length file) then ended (Some unexpected_eof) else mapped (pe_section strings) (pe.walk file)

abbrev pub pe_sections : List ℕ → Walk Section
pe_sections file = pe_sections_by (strings_of file) file

-- the sections of a file of this format, in file order; none for an unknown format
unfoldable pub sections_of : Format → List ℕ → Option (Walk Section)
sections_of (Elf32 order) file = Some (elf_sections elf32 order file)
sections_of (Elf64 order) file = Some (elf_sections elf64 order file)
sections_of Macho file = Some (macho_sections file)
sections_of PE file = Some (pe_sections file)
sections_of Unknown file = None

-- how many bytes a file of this format has at least: those up to the end of its header
abbrev pub least_length : Format → List ℕ → ℕ
least_length (Elf32 order) file = elf32.header_length
least_length (Elf64 order) file = elf64.header_length
least_length Macho file = macho.least_length
least_length PE file = pe.least_length file
least_length Unknown file = 0
