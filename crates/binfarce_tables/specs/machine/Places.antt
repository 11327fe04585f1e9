-- Views of a reading of a file's parts, for private clauses.
use Rattle.std.specs.Prelude.{ℕ, List, ◌++◌, Result, Ok}
use Rattle.binfarce_bytes.specs.declared.ByteOrder.{ByteOrder}
use Rattle.binfarce_bytes.specs.Refusal.{Refusal, if_as_long_as}
use Rattle.binfarce_elf.specs.Elf.{ElfClass, SectionTable}
use Rattle.binfarce_elf.specs.SymbolTables.{TableRows}
use Rattle.binfarce_bytes.specs.Part.{Part}
use Rattle.binfarce_elf_memory.specs.ElfSelection.{NeededSections, needed_descriptors, rows_taken}
use Rattle.binfarce_tables.specs.ElfReads.{table_of, rows_parts, descriptor_parts}
use Rattle.binfarce_tables.specs.SectionReading.{FileSections}
use Rattle.binfarce_tables.specs.declared.elf.TableParts.{TableParts}
use Rattle.binfarce_elf_memory.specs.declared.parts.HeaderTable.{HeaderTable}

-- the table at this place of a file
abbrev pub table_at : List ℕ → HeaderTable → SectionTable
table_at file place = record { order = place.byte_order; file = file; shoff = place.shoff; shnum = place.shnum; shstrndx = place.shstrndx }

-- the file's table, where the file holds a header
abbrev pub table_step : ElfClass → ByteOrder → List ℕ → Result SectionTable Refusal
table_step class order file = if_as_long_as class.header_length file (Ok (table_of class order file))

-- the strings and the rows of a selection of a file with these sections, and the parts that have them
abbrev pub rows_in_file : List ℕ → FileSections → NeededSections → Result TableRows Refusal
rows_in_file file seen needs = rows_taken seen.class seen.order seen.sections seen.names seen.kind file needs

abbrev pub placed_parts : List ℕ → FileSections → NeededSections → List Part
placed_parts file seen needs = rows_parts file needs.table ++ descriptor_parts file (needed_descriptors seen.class seen.sections seen.names seen.kind needs.taken)

-- a `TableParts`
abbrev pub rows_view : TableParts → TableRows
rows_view t = record { strings = t.strings.items; rows = t.rows.items }
