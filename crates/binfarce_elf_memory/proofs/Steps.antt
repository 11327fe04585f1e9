-- The answer for a section by a symbol table, step by step.
use Rattle.std.proofs.Common.{◌≡◌, ℕ, eqb, List, Result, Ok, Err, refl, ap, ◌∙◌}
use Rattle.std.proofs.Math.Path.{fun_ext}
use Rattle.binfarce_bytes.specs.Refusal.{◌>>=◌, Refusal, symbols_section_is_missing, section_is_missing}
use Rattle.binfarce_bytes.specs.Entries.{Listed}
use Rattle.binfarce_elf.specs.Elf.{ElfClass, SectionTable, Section, walk, name_of, names_bytes}
use Rattle.binfarce_elf.specs.SymbolTables.{TableSections, TableRows, table_sections, rows_at, section_type, table_name, strings_name}
use Rattle.binfarce_elf_memory.specs.ElfSelection.{Taken, NeededSections, Selected, one_section, placed, rows_taken, taken, needed, selected_from, elf_selected, listed_of, has_indirect, section_answer}
use Rattle.binfarce_elf.specs.ElfSymbols.{sought, is_named, section_data, string_table_kind, whole_rows}
use Rattle.binfarce_elf_memory.specs.ElfEnds.{kind_of}
use Rattle.binfarce_elf_memory.specs.Versions.{bytes_if, versions_section}
use Rattle.binfarce_elf.specs.declared.symbol_table.SymbolTable.{SymbolTable}

pub assoc : {A B C : Type 0} (r : Result A Refusal) (f : A → Result B Refusal) (g : B → Result C Refusal) → ((r >>= f) >>= g) ≡ (r >>= λ x. f x >>= g)
assoc (Ok x) f g = refl
assoc (Err e) f g = refl

module _ (which : SymbolTable) (class : ElfClass) (table : SectionTable) where
  abbrev symbols_step : Result Section Refusal
  symbols_step = sought (section_is_missing (table_name which)) (λ s. eqb s.kind (section_type which)) (walk class table)

  abbrev linked_step : Section → Result Section Refusal
  linked_step symbols = sought (section_is_missing (strings_name which)) (λ s. eqb s.index symbols.link) (walk class table)

  abbrev of_linked : Section → Section → Result TableSections Refusal
  of_linked symbols linked = string_table_kind linked >>= λ strings. Ok (record { symbols = symbols; strings = strings })

  abbrev of_symbols : Section → Result TableSections Refusal
  of_symbols symbols = linked_step symbols >>= of_linked symbols

  -- what follows the sections of a symbol table follows their last step
  sections_then : {X : Type 0} (next : TableSections → Result X Refusal) → (table_sections which (walk class table) >>= next)
      ≡ (symbols_step >>= λ symbols. linked_step symbols >>= λ linked. string_table_kind linked >>= λ strings. next (record { symbols = symbols; strings = strings }))
  unfolding table_sections
  sections_then {X} next =
      assoc symbols_step of_symbols next
      ∙ ap (λ (k : Section → Result X Refusal). symbols_step >>= k) (fun_ext (λ symbols.
      assoc (linked_step symbols) (of_linked symbols) next
      ∙ ap (λ (k : Section → Result X Refusal). linked_step symbols >>= k) (fun_ext (λ linked.
      assoc (string_table_kind linked) (λ strings. Ok (record { symbols = symbols; strings = strings })) next))))

  abbrev from_bytes : List ℕ → List ℕ → Result TableRows Refusal
  from_bytes strings bytes = whole_rows class bytes >>= λ rows. Ok (record { strings = strings; rows = rows })

  abbrev from_strings : TableSections → List ℕ → Result TableRows Refusal
  from_strings sections strings = section_data table.file sections.symbols >>= from_bytes strings

  -- what follows their bytes
  abbrev bytes_then : {X : Type 0} → (TableRows → Result X Refusal) → TableSections → Result X Refusal
  bytes_then next sections = section_data table.file sections.strings >>= λ strings. section_data table.file sections.symbols >>= λ bytes. whole_rows class bytes >>= λ rows. next (record { strings = strings; rows = rows })

  rows_then : {X : Type 0} (next : TableRows → Result X Refusal) (sections : TableSections) → (rows_at class table.file sections >>= next) ≡ bytes_then next sections
  unfolding rows_at
  rows_then {X} next sections =
      assoc (section_data table.file sections.strings) (from_strings sections) next
      ∙ ap (λ (k : List ℕ → Result X Refusal). section_data table.file sections.strings >>= k) (fun_ext (λ strings.
      assoc (section_data table.file sections.symbols) (from_bytes strings) next
      ∙ ap (λ (k : List ℕ → Result X Refusal). section_data table.file sections.symbols >>= k) (fun_ext (λ bytes.
      assoc (whole_rows class bytes) (λ rows. Ok (record { strings = strings; rows = rows })) next))))

  -- what the section's name selects
  abbrev by_section : Section → Taken
  by_section section = one_section section.index section.size (has_indirect which)

  abbrev with_table : Taken → Result NeededSections Refusal
  with_table selected = table_sections which (walk class table) >>= λ sections. Ok (record { taken = selected; table = sections })

  abbrev selected_of : Taken → TableRows → Selected
  selected_of selected found = selected_from class table.order (walk class table) (kind_of class table) selected found (bytes_if table.file (versions_section which (walk class table)))

  abbrev of_file : Taken → TableRows → TableRows
  of_file selected found = placed class table.order (walk class table) (names_bytes class table) (kind_of class table) table.file selected found

  abbrev taken_rows : NeededSections → Result TableRows Refusal
  taken_rows sections = rows_taken class table.order (walk class table) (names_bytes class table) (kind_of class table) table.file sections

  abbrev of_needed : NeededSections → Result Selected Refusal
  of_needed sections = taken_rows sections >>= λ found. Ok (selected_of sections.taken found)

  -- the list of a section's functions among these rows
  abbrev pub listed : Section → TableRows → Result Listed Refusal
  listed section found = Ok (listed_of (selected_of (by_section section) found))

  abbrev then_listed : NeededSections → Result Listed Refusal
  then_listed sections = rows_at class table.file sections.table >>= λ found. Ok (listed_of (selected_of sections.taken (of_file sections.taken found)))

  abbrev section_step : List ℕ → Result Section Refusal
  section_step name = sought symbols_section_is_missing (λ s. is_named name (name_of class table s)) (walk class table)

  abbrev all_needed : List ℕ → Result NeededSections Refusal
  all_needed name = (section_step name >>= λ section. Ok (by_section section)) >>= with_table

  -- the steps to an answer that is made of the section and the rows so
  abbrev pub answer_by : (Section → TableRows → Result Listed Refusal) → List ℕ → Result Listed Refusal
  answer_by next name =
      section_step name >>= λ section. symbols_step >>= λ symbols. linked_step symbols >>= λ linked. string_table_kind linked >>= λ strings. bytes_then (next section) (record { symbols = symbols; strings = strings })

  pub answer_steps : (name : List ℕ) → section_answer which class table name ≡ answer_by listed name
  unfolding section_answer elf_selected needed taken rows_taken name_of
  answer_steps name =
      assoc (all_needed name) of_needed (λ selected. Ok (listed_of selected))
      ∙ ap (λ (k : NeededSections → Result Listed Refusal). all_needed name >>= k) (fun_ext (λ sections.
      assoc (taken_rows sections) (λ found. Ok (selected_of sections.taken found)) (λ selected. Ok (listed_of selected))
      ∙ assoc (rows_at class table.file sections.table) (λ found. Ok (of_file sections.taken found)) (λ found. Ok (listed_of (selected_of sections.taken found)))))
      ∙ ap (λ (r : Result NeededSections Refusal). r >>= then_listed) (assoc (section_step name) (λ section. Ok (by_section section)) with_table)
      ∙ assoc (section_step name) (λ section. with_table (by_section section)) then_listed
      ∙ ap (λ (k : Section → Result Listed Refusal). section_step name >>= k) (fun_ext (λ section.
      assoc (table_sections which (walk class table)) (λ sections. Ok (record { taken = by_section section; table = sections })) then_listed
      ∙ ap (λ (k : TableSections → Result Listed Refusal). table_sections which (walk class table) >>= k) (fun_ext (rows_then (listed section)))
      ∙ sections_then (bytes_then (listed section))))
