-- The versions of the rows of a symbol table and their names, by what was read.
use Rattle.std.proofs.Common.{◌≡◌, ℕ, ◌%◌, ◌<◌, cond, leb, List, Option, None, sym, ap, ap₂, arith}
use Rattle.std.specs.BTreeMap.{BTreeMap, get}
use Rattle.std.specs.Option.{option_and_then}
use Rattle.std.specs.Ordering.{nat_cmp}
use Rattle.std.proofs.Math.Nat.{mod-lt}
use Rattle.std.proofs.Math.Path.{fun_ext}
use Rattle.binfarce_bytes.specs.declared.ByteOrder.{ByteOrder}
use Rattle.binfarce_bytes.specs.Text.{text_at}
use Rattle.binfarce_bytes.specs.SectionEntries.{SelectedSymbols}
use Rattle.binfarce_elf_memory.specs.ElfSelection.{Taken, selected_from, symbols_of}
use Rattle.binfarce_elf.specs.SymbolTables.{TableRows}
use Rattle.binfarce_elf_memory.specs.Versions.{bytes_if, definitions, definitions_section, index_of, name_by, name_offset, version_name, versions_section}
use Rattle.binfarce_elf.specs.declared.symbol_table.SymbolTable.{SymbolTable}
use Rattle.binfarce_tables.specs.SectionReading.{FileSections}

-- what a selection takes of a file with these sections, by the rows of its symbol table with their versions, which have these names
abbrev pub symbols_in : FileSections → Taken → TableRows → List ℕ → (ℕ → Option (List ℕ)) → SelectedSymbols
symbols_in seen taken found versions version_name =
    symbols_of (selected_from seen.class seen.order seen.sections seen.kind taken found versions) seen.names seen.sections seen.kind.elf_type version_name

-- the names by the offsets that were kept
names_read : (order : ByteOrder) (strings bytes : List ℕ) (offsets : BTreeMap ℕ ℕ) → ((index : ℕ) → index < 32768 → get nat_cmp offsets index ≡ name_offset (definitions order bytes) index)
    → version_name order strings bytes ≡ name_by strings (get nat_cmp offsets)
names_read order strings bytes offsets kept =
    fun_ext (λ version. ap (λ (o : Option ℕ). cond (leb (index_of version) 1) None (option_and_then (λ offset. text_at strings offset) o)) (sym (kept (index_of version) (below version))))
  where
    below : (version : ℕ) → version % 32768 < 32768
    below version = mod-lt version (omega arith)

-- what a selection takes by them
pub versions_read : (which : SymbolTable) (file : List ℕ) (seen : FileSections) (taken : Taken) (found : TableRows) (versions : List ℕ) (offsets : BTreeMap ℕ ℕ) → versions ≡ bytes_if file (versions_section which seen.sections)
    → ((index : ℕ) → index < 32768 → get nat_cmp offsets index ≡ name_offset (definitions seen.order (bytes_if file (definitions_section which seen.sections))) index)
    → symbols_in seen taken found (bytes_if file (versions_section which seen.sections)) (version_name seen.order found.strings (bytes_if file (definitions_section which seen.sections)))
    ≡ symbols_in seen taken found versions (name_by found.strings (get nat_cmp offsets))
versions_read which file seen taken found versions offsets rows kept =
    ap₂ (λ (v : List ℕ) (names : ℕ → Option (List ℕ)). symbols_in seen taken found v names) (sym rows) (names_read seen.order found.strings (bytes_if file (definitions_section which seen.sections)) offsets kept)
