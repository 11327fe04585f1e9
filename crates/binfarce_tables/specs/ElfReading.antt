-- The parts of an ELF file that were read.
use Rattle.std.specs.Prelude.{ℕ, List, Option}
use Rattle.std.specs.BTreeMap.{get}
use Rattle.std.specs.Ordering.{nat_cmp}
use Rattle.binfarce_bytes.specs.SectionEntries.{SelectedSymbols}
use Rattle.binfarce_elf_memory.specs.ElfSelection.{Taken, symbols_of}
use Rattle.binfarce_elf.specs.SymbolTables.{TableRows}
use Rattle.binfarce_elf_memory.specs.ElfEnds.{has_modes}
use Rattle.binfarce_elf_memory.specs.SelectionViews.{taken_view, sized_from}
use Rattle.binfarce_elf_memory.specs.Versions.{name_by}
use Rattle.binfarce_tables.specs.SectionReading.{FileSections, sections_view}
use Rattle.binfarce_tables.specs.declared.elf.Parts.{Parts}

-- what a selection takes of a file with these sections, by the rows of its symbol table with their versions, which have these names, and by the sizes of all
-- rows
abbrev pub symbols_by : FileSections → Taken → TableRows → (versions sizes : List ℕ) → (ℕ → Option (List ℕ)) → SelectedSymbols
symbols_by seen taken found versions sizes version_name =
    symbols_of (record { entries = sized_from seen.class seen.order taken (has_modes seen.kind) found versions sizes 0; taken = taken; strings = found.strings })
    seen.names seen.sections seen.kind.elf_type version_name

-- the content of a file's parts
abbrev pub parts_view : Parts → SelectedSymbols
parts_view p =
    symbols_by (sections_view p.sections) (taken_view p.taken) (record { strings = p.strings.items; rows = p.rows.items }) p.versions.rows.items p.sizes.items
    (name_by p.strings.items (get nat_cmp p.versions.names))
