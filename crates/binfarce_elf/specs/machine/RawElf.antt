-- Views of the values that files of both classes are read into, for private clauses, and the layouts by the width of a word.
use Rattle.std.specs.Prelude.{ℕ, ◌+◌, ◌-◌, ◌*◌, map, min, Option, Some, None}
use Rattle.std.specs.List.{range_with_len}
use Rattle.binfarce_bytes.specs.Walk.{Walk, ended}
use Rattle.binfarce_bytes.specs.Field.{Field, field}
use Rattle.binfarce_elf.specs.declared.class.SymbolRow.{SymbolRow}
use Rattle.binfarce_elf.specs.declared.sections.Table.{Table}
use Rattle.binfarce_elf.specs.declared.symbols.Rows.{Rows}
use Rattle.binfarce_elf.specs.Elf as elf
use Rattle.binfarce_elf.specs.Elf.{ElfClass, Header, SectionHeader, SectionTable, section_of, whole_headers, walk}
use Rattle.binfarce_elf.specs.SymbolTables as symbols

-- the file header's fields, where a word has w bytes
abbrev pub fields_of_header : ℕ → Header Field
fields_of_header w = record {
  elf_type = field 16 2;
  machine = field 18 2;
  version = field 20 4;
  entry = field 24 w;
  phoff = field (24 + w) w;
  shoff = field (24 + 2 * w) w;
  flags = field (24 + 3 * w) 4;
  ehsize = field (28 + 3 * w) 2;
  phentsize = field (30 + 3 * w) 2;
  phnum = field (32 + 3 * w) 2;
  shentsize = field (34 + 3 * w) 2;
  shnum = field (36 + 3 * w) 2;
  shstrndx = field (38 + 3 * w) 2;
}

-- a section header's fields, where a word has w bytes
abbrev pub fields_of_section : ℕ → SectionHeader Field
fields_of_section w = record {
  name = field 0 4;
  kind = field 4 4;
  flags = field 8 w;
  addr = field (8 + w) w;
  offset = field (8 + 2 * w) w;
  size = field (8 + 3 * w) w;
  link = field (8 + 4 * w) 4;
  info = field (12 + 4 * w) 4;
  addralign = field (16 + 4 * w) w;
  entry_size = field (16 + 5 * w) w;
}

abbrev pub symbol_view : SymbolRow → elf.SymbolRow ℕ
symbol_view r = record { name = r.name; value = r.value; size = r.size; info = r.info; other = r.other; section = r.section }

abbrev pub table_view : Table → SectionTable
table_view t = record { order = t.byte_order; file = t.data.now; shoff = t.shoff; shnum = t.shnum; shstrndx = t.shstrndx }

-- how many sections there are
abbrev pub section_count : ElfClass → SectionTable → ℕ
section_count class table = min table.shnum (whole_headers class table)

-- the walk from the section of this index on; after a refusal nothing is left
abbrev pub walk_from : ElfClass → SectionTable → Option ℕ → Walk elf.Section
walk_from class table None = ended None
walk_from class table (Some k) = record {
  items = map (section_of class table) (range_with_len k (section_count class table - k));
  refusal = (walk class table).refusal;
}

-- the strings and the rows of a symbol table
abbrev pub rows_view : Rows → symbols.TableRows
rows_view r = record { strings = r.strings.now; rows = r.rows.now }
