-- What is read of an ELF file for the symbols that it needs (System V gABI, "Sections").
use Rattle.std.specs.Prelude.{ℕ, ◌+◌, ◌*◌, ◌^◌, List, [], codes, Option, Some, None, Ok, Err, nat_eq, nat_le, if◌then◌else◌}
use Rattle.binfarce_bytes.specs.declared.ByteOrder.{ByteOrder}
use Rattle.binfarce_bytes.specs.Refusal.{malformed_input, section_is_missing}
use Rattle.binfarce_elf.specs.Classes.{class_of}
use Rattle.binfarce_elf.specs.Elf.{Section, header_of, walk}
use Rattle.binfarce_elf.specs.ElfSymbols.{whole_rows}
use Rattle.binfarce_elf.specs.declared.class.Width.{Width}
use Rattle.binfarce_elf_memory.specs.ElfParts.{headers_alone}
use Rattle.binfarce_tables.specs.Readings.{◌>>=◌, Reading, answered, part_reading}
use Rattle.binfarce_needs.specs.Needs.{NeedSections, NeedTables, need_sections}

-- the bytes of a section: their end has to be below 2^64, and to lie in the file
unfoldable pub section_reading : Section → Reading (List ℕ)
section_reading s = if nat_le (2 ^ 64) (s.offset + s.size) then answered (Err malformed_input) else part_reading s.offset s.size

-- those of a section, if there is one; else none
abbrev pub reading_if : Option Section → Reading (List ℕ)
reading_if None = answered (Ok [])
reading_if (Some section) = section_reading section

-- the tables in these sections
unfoldable pub tables_reading : Width → NeedSections → Reading NeedTables
tables_reading width sections = do
  strings ← section_reading sections.table.strings
  bytes ← section_reading sections.table.symbols
  rows ← answered (whole_rows (class_of width) bytes)
  versions ← reading_if sections.versions
  needed ← reading_if sections.needed
  answered (Ok (record { rows = rows; strings = strings; versions = versions; needed = needed }))

-- those of a file with so many section headers from an offset on; one without them has no symbol table
unfoldable pub headers_reading : Width → ByteOrder → (shoff shnum : ℕ) → Reading NeedTables
headers_reading width order shoff shnum =
    if nat_eq shnum 0 then answered (Err (section_is_missing (codes ".symtab"))) else (do
      headers ← part_reading shoff (shnum * (class_of width).section_length)
      sections ← answered (need_sections (walk (class_of width) (headers_alone order headers shnum)))
      tables_reading width sections)

-- those of a file, whose header states where its section headers are
unfoldable pub needs_reading : Width → ByteOrder → Reading NeedTables
needs_reading width order = do
  head ← part_reading 0 (class_of width).header_length
  headers_reading width order (header_of (class_of width) order head).shoff (header_of (class_of width) order head).shnum
