-- The answer for a selection, where its steps were taken.
use Rattle.std.proofs.Common.{◌≡◌, ℕ, Bool, true, List, Option, Some, Result, Ok, Err, refl, ap, sym, ◌∙◌}
use Rattle.std.specs.Prelude.{is_some}
use Rattle.std.specs.List.{range_with_len, filter_map}
use Rattle.binfarce_bytes.specs.Refusal.{◌>>=◌, Refusal, symbols_section_is_missing}
use Rattle.binfarce_bytes.specs.SectionEntries.{SectionEntry}
use Rattle.binfarce_bytes.specs.Walk.{Walk}
use Rattle.binfarce_bytes.specs.declared.ByteOrder.{ByteOrder}
use Rattle.binfarce_elf.specs.Elf.{ElfClass, SectionTable, Section, walk, names_bytes, name_among}
use Rattle.binfarce_elf_memory.specs.ElfEnds.{FileKind, ends_of, has_modes, kind_of}
use Rattle.binfarce_elf.specs.SymbolTables.{TableSections, TableRows, table_sections, rows_at}
use Rattle.binfarce_elf_memory.specs.ElfSelection.{Taken, NeededSections, one_section as of_one, all_sections, size_taken, placed, rows_taken, entry_sized, taken, taken_from, needed, selected_from, elf_selected, has_indirect}
use Rattle.binfarce_elf.specs.ElfSymbols.{is_named, row_count, row_of, sought}
use Rattle.binfarce_elf_memory.specs.Versions.{bytes_if, version_of, versions_section}
use Rattle.binfarce_elf.specs.declared.symbol_table.SymbolTable.{SymbolTable}

-- a selection's rows of a file
abbrev pub placed_in : ElfClass → SectionTable → Taken → TableRows → TableRows
placed_in class table selected found = placed class table.order (walk class table) (names_bytes class table) (kind_of class table) table.file selected found

abbrev rows_in : ElfClass → SectionTable → NeededSections → Result TableRows Refusal
rows_in class table needs = rows_taken class table.order (walk class table) (names_bytes class table) (kind_of class table) table.file needs

-- of one section as the file stores them
pub as_stored : (class : ElfClass) (table : SectionTable) (selected : Taken) (found : TableRows) → is_some (size_taken selected) ≡ true → placed_in class table selected found ≡ found
as_stored class table (of_one index size indirect) found one = refl
as_stored class table (all_sections count) found one = absurd cc

pub selected_is : (which : SymbolTable) (class : ElfClass) (table : SectionTable) (section : Option (List ℕ)) (n : NeededSections) (found : TableRows)
    → needed which (walk class table) (names_bytes class table) table.shnum section ≡ Ok n → rows_at class table.file n.table ≡ Ok found
    → elf_selected which class table section
    ≡ Ok (selected_from class table.order (walk class table) (kind_of class table) n.taken (placed_in class table n.taken found) (bytes_if table.file (versions_section which (walk class table))))
unfolding elf_selected rows_taken
selected_is which class table section n found is also =
    ap (λ (a : Result NeededSections Refusal). a >>= λ needs. rows_in class table needs >>= λ f. Ok (selected_from class table.order (walk class table) (kind_of class table) needs.taken f (bytes_if table.file (versions_section which (walk class table))))) is
    ∙ ap
    (λ (a : Result TableRows Refusal). (a >>= λ f. Ok (placed_in class table n.taken f)) >>= λ f. Ok (selected_from class table.order (walk class table) (kind_of class table) n.taken f (bytes_if table.file (versions_section which (walk class table)))))
    also

-- what a name selects has a size
pub one_section : (which : SymbolTable) (sections : Walk Section) (names : Option (List ℕ)) (count : ℕ) (name : List ℕ) (n : NeededSections)
    → needed which sections names count (Some name) ≡ Ok n → is_some (size_taken n.taken) ≡ true
unfolding needed taken
one_section which sections names count name n is = by_section (sought symbols_section_is_missing (λ s. is_named name (name_among names s.name_offset)) sections) is
  where
    of_section : Section → Taken
    of_section section = of_one section.index section.size (has_indirect which)

    by_table : (section : Section) (r : Result TableSections Refusal) → (r >>= λ t. Ok (record { taken = of_section section; table = t })) ≡ Ok n → is_some (size_taken n.taken) ≡ true
    by_table section (Ok t) e = let same : record { taken = of_section section; table = t } ≡ n = cc in sym (ap (λ (m : NeededSections). is_some (size_taken m.taken)) same)
    by_table section (Err refusal) e = absurd cc

    by_section : (r : Result Section Refusal) → ((r >>= λ section. Ok (of_section section)) >>= λ selected. table_sections which sections >>= λ t. Ok (record { taken = selected; table = t })) ≡ Ok n → is_some (size_taken n.taken) ≡ true
    by_section (Ok section) e = by_table section (table_sections which sections) e
    by_section (Err refusal) e = absurd cc

-- the entries that were listed by another name of the class and of the kind
pub listed_is : (class other : ElfClass) (order : ByteOrder) (sections : Walk Section) (kind read : FileKind) (modes : Bool) (taken : Taken) (found : TableRows) (versions : List ℕ) (items : List SectionEntry)
    → other ≡ class → read ≡ kind → modes ≡ has_modes read
    → items ≡ filter_map (λ k. entry_sized found.strings taken modes (ends_of class order sections read found) (row_of other order found.rows k) (version_of order versions k)) (range_with_len 0 (row_count other found.rows))
    → items ≡ taken_from class order sections kind taken found versions
listed_is class other order sections kind read modes taken found versions items same also is given =
    given
    ∙ ap (λ (c : ElfClass). filter_map (λ k. entry_sized found.strings taken modes (ends_of class order sections read found) (row_of c order found.rows k) (version_of order versions k)) (range_with_len 0 (row_count c found.rows))) same
    ∙ ap (λ (m : Bool). filter_map (λ k. entry_sized found.strings taken m (ends_of class order sections read found) (row_of class order found.rows k) (version_of order versions k)) (range_with_len 0 (row_count class found.rows))) is
    ∙ ap (λ (k : FileKind). taken_from class order sections k taken found versions) also
