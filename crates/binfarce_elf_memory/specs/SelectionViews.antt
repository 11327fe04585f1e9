-- The views of selections and of what they take, which clauses use.
use Rattle.std.specs.Prelude.{ℕ, ◌-◌, Bool, List, Option, Some, None, slice_index_or}
use Rattle.std.specs.BTreeMap.{BTreeMap, get}
use Rattle.std.specs.Borrow.{Bor}
use Rattle.std.specs.Global.{Vec}
use Rattle.std.specs.List.{range_with_len, filter_map}
use Rattle.std.specs.Ordering.{nat_cmp}
use Rattle.binfarce_bytes.specs.declared.ByteOrder.{ByteOrder}
use Rattle.binfarce_bytes.specs.declared.functions.SectionFunction.{SectionFunction}
use Rattle.binfarce_bytes.specs.SectionEntries.{SectionEntry}
use Rattle.binfarce_bytes.specs.SymbolViews.{HoldsSectionFunctions}
use Rattle.binfarce_elf.specs.Classes.{class_of}
use Rattle.binfarce_elf.specs.Elf.{ElfClass}
use Rattle.binfarce_elf.specs.ElfSymbols.{row_count, row_of}
use Rattle.binfarce_elf.specs.ElfViews.{table_sections_view}
use Rattle.binfarce_elf.specs.SymbolTables.{TableRows}
use Rattle.binfarce_elf_memory.specs.declared.ends.FileKind as code_kind
use Rattle.binfarce_elf_memory.specs.declared.selection.Functions.{Functions}
use Rattle.binfarce_elf_memory.specs.declared.selection.Needed.{Needed}
use Rattle.binfarce_elf_memory.specs.declared.selection.Taken as code
use Rattle.binfarce_elf_memory.specs.declared.selection.Taken.TheVariants.{Section, All}
use Rattle.binfarce_elf_memory.specs.declared.versions.VersionNames.{VersionNames}
use Rattle.binfarce_elf_memory.specs.ElfEnds.{FileKind}
use Rattle.binfarce_elf_memory.specs.ElfSelection.{NeededSections, Selected, Taken, one_section, all_sections, entry_taken}
use Rattle.binfarce_elf_memory.specs.Versions.{name_by, version_of}

-- a `Taken`
abbrev pub taken_view : code.Taken → Taken
taken_view (Section index size indirect) = one_section index size indirect
taken_view (All count) = all_sections count

-- a `Needed`
abbrev pub needed_view : Needed → NeededSections
needed_view n = record { taken = taken_view n.taken; table = table_sections_view n.table }

-- a `FileKind`
abbrev pub kind_view : code_kind.FileKind → FileKind
kind_view k = record { elf_type = k.elf_type; machine = k.machine; flags = k.flags }

-- the entries that a selection takes of the rows numbered from k on, if these are the versions and the sizes in memory of all rows
abbrev pub sized_from : ElfClass → ByteOrder → Taken → (has_modes : Bool) → TableRows → (versions sizes : List ℕ) → ℕ → List SectionEntry
sized_from class order taken has_modes found versions sizes k =
    filter_map (λ k. entry_taken found.strings taken has_modes (row_of class order found.rows k) (version_of order versions k) (slice_index_or sizes k 0)) (range_with_len k (row_count class found.rows - k))

-- the entries that an iterator of function symbols has left
abbrev pub functions_left : Functions → List SectionEntry
functions_left f = sized_from (class_of f.width) f.byte_order (taken_view f.taken) f.has_modes (record { strings = f.strings.now; rows = f.rows.now }) f.versions.now f.sizes.now f.next

-- with what the selection takes, and the strings
abbrev pub selected_view : Functions → Selected
selected_view f = record { entries = functions_left f; taken = taken_view f.taken; strings = f.strings.now }

-- a list that holds the entries that a selection takes
abbrev pub HoldsAllFunctions : Selected → Vec SectionFunction → Type 0
HoldsAllFunctions selected functions = HoldsSectionFunctions selected.entries functions

-- the offset of the name of the version of this index, if there are versions
abbrev pub name_at : Option (Bor (BTreeMap ℕ ℕ)) → ℕ → Option ℕ
name_at None index = None
name_at (Some offsets) index = get nat_cmp offsets.now index

-- the names of versions
abbrev pub version_names : VersionNames → ℕ → Option (List ℕ)
version_names names version = name_by names.strings.now (name_at names.offsets) version
