-- What a file of each format answers for a section is the answer of its reader, with the size of the section.
use Rattle.std.proofs.Common.{◌≡◌, ◌≢◌, ℕ, Bool, true, false, ◌&&◌, cond, ltb, List, [], ◌∷◌, map, length, Option, Some, None, is_some, unwrap_or, Result, Ok, Err, refl, sym, ap, subst, ◌∙◌}
use Rattle.std.proofs.Math.Path.{fun_ext}
use Rattle.std.specs.Option.{option_map, option_and_then}
use Rattle.std.specs.Prelude.{nat_le, is_none}
use Rattle.std.specs.List.{sum_by}
use Rattle.binfarce.specs.declared.ByteOrder.{ByteOrder}
use Rattle.binfarce.specs.declared.Format.{Format}
use Rattle.binfarce.specs.declared.Format.TheVariants as formats
use Rattle.binfarce.specs.declared.SymbolTable.{SymbolTable}
use Rattle.binfarce.specs.declared.SymbolTable.TheVariants.{Symtab, Dynsym}
use Rattle.binfarce.specs.Format.{format_of}
use Rattle.binfarce.specs.Refusal.{◌>>=◌, Refusal, required, unexpected_eof, symbols_section_is_missing}
use Rattle.binfarce.specs.SectionEntries.{SectionEntry, SelectedSymbols, in_section, unless}
use Rattle.binfarce.specs.Symbol.{Entry, Listed}
use Rattle.binfarce.specs.Elf.{ElfClass, SectionTable, Section, elf32, elf64, header_of, section_table, walk, names_bytes, name_among}
use Rattle.binfarce.specs.ElfEnds.{kind_of}
use Rattle.binfarce.specs.ElfSelection as elf
use Rattle.binfarce.specs.SymbolTables.{TableSections, TableRows, table_sections}
use Rattle.binfarce.specs.ElfSelection.{NeededSections, Taken, one_section, all_sections, size_taken, taken, needed, elf_selected, has_indirect, section_answer, section_file_answer}
use Rattle.binfarce.specs.ElfSymbols.{sought, is_named, elf_file_answer}
use Rattle.binfarce.specs.Text.{text_at}
use Rattle.binfarce.specs.Versions.{bytes_if, definitions_from, definitions_section, index_of, version_name, versions_section}
use Rattle.binfarce.specs.Macho.{least_length}
use Rattle.binfarce.specs.MachoSections.{NumberedSection, HasSection, numbered_sections}
use Rattle.binfarce.specs.MachoSelection as macho
use Rattle.binfarce.specs.MachoSymbols.{SymtabCommand, Symbols, table_of, symbols_by}
use Rattle.binfarce.specs.Pe as pe_file
use Rattle.binfarce.specs.PeSelection as pe
use Rattle.binfarce_elf_memory.proofs.Answered.{section_is_answered}
use Rattle.binfarce_macho.proofs.Selected.{some_numbered}
use Rattle.binfarce_pe.specs.PeParts.{TextPlace, SectionTable as PeSections, places_of, section_table as pe_sections}
use Rattle.binfarce_pe.specs.PeSymbols as pe_symbols
use Rattle.binfarce_tools.specs.Answer.{by_symbol_table, one_list, selected_symbols, selected_answer}

-- a section has a size, and shares no addresses; all sections have none
abbrev pub IsSized : Option (List ℕ) → SelectedSymbols → Type 0
IsSized section seen = (is_some seen.section_size ≡ is_some section) × (is_some section ≡ true → seen.shares_addresses ≡ false)

abbrev sizes : SelectedSymbols → ℕ
sizes s = sum_by (λ (e : Entry). e.size) (map (λ (e : SectionEntry). e.entry) s.entries)

ok_is : {A : Type 0} {a b : A} → Path (Result A Refusal) (Ok a) (Ok b) → a ≡ b
ok_is e = cc

-- ELF
module _ (which : SymbolTable) (class : ElfClass) (order : ByteOrder) (file : List ℕ) where
  abbrev table : SectionTable
  table = section_table class (record { order = order; bytes = file })

  abbrev sections_of : Option (List ℕ) → Result Taken Refusal
  sections_of section = taken which (walk class table) (names_bytes class table) table.shnum section

  taken_size : (section : Option (List ℕ)) (t : Taken) → sections_of section ≡ Ok t → is_some (size_taken t) ≡ is_some section
  unfolding taken
  taken_size (Some name) t is = by_found (sought symbols_section_is_missing (λ s. is_named name (name_among (names_bytes class table) s.name_offset)) (walk class table)) is
    where
      by_found : (r : Result Section Refusal) → (r >>= λ section. Ok (one_section section.index section.size (has_indirect which))) ≡ Ok t → is_some (size_taken t) ≡ true
      by_found (Err why) e = absurd cc
      by_found (Ok s) e = ap (λ (t : Taken). is_some (size_taken t)) (sym (ok_is e))
  taken_size None t is = by_end (walk class table).refusal is
    where
      by_end : (end : Option Refusal) → unless end (all_sections table.shnum) ≡ Ok t → is_some (size_taken t) ≡ false
      by_end (Some why) e = absurd cc
      by_end None e = ap (λ (t : Taken). is_some (size_taken t)) (sym (ok_is e))

  with_table : Taken → TableSections → Result NeededSections Refusal
  with_table t sections = Ok (record { taken = t; table = sections })

  with_rows : Taken → TableRows → Result elf.Selected Refusal
  with_rows t found = Ok (elf.selected_from class table.order (walk class table) (kind_of class table) t found (bytes_if table.file (versions_section which (walk class table))))

  rows_of : NeededSections → Result TableRows Refusal
  rows_of sections = elf.rows_taken class table.order (walk class table) (names_bytes class table) (kind_of class table) table.file sections

  of_needed : NeededSections → Result elf.Selected Refusal
  of_needed sections = rows_of sections >>= with_rows sections.taken

  elf_size : (section : Option (List ℕ)) (s : elf.Selected) → elf_selected which class table section ≡ Ok s → is_some (size_taken s.taken) ≡ is_some section
  unfolding elf_selected needed with_table with_rows rows_of of_needed
  elf_size section s is = by_taken (sections_of section) refl is
    where
      by_rows : (t : Taken) (r : Result TableRows Refusal) → (r >>= with_rows t) ≡ Ok s → size_taken s.taken ≡ size_taken t
      by_rows t (Err why) e = absurd cc
      by_rows t (Ok found) e = ap (λ (s : elf.Selected). size_taken s.taken) (sym (ok_is e))

      by_table : (t : Taken) (r : Result TableSections Refusal) → ((r >>= with_table t) >>= of_needed) ≡ Ok s → size_taken s.taken ≡ size_taken t
      by_table t (Err why) e = absurd cc
      by_table t (Ok sections) e = by_rows t (rows_of (record { taken = t; table = sections })) e

      by_taken : (r : Result Taken Refusal) → sections_of section ≡ r → ((r >>= λ t. table_sections which (walk class table) >>= with_table t) >>= of_needed) ≡ Ok s → is_some (size_taken s.taken) ≡ is_some section
      by_taken (Err why) at e = absurd cc
      by_taken (Ok t) at e = ap is_some (by_table t (table_sections which (walk class table)) e) ∙ taken_size section t at

  shown : elf.Selected → SelectedSymbols
  shown s = elf.symbols_of s (names_bytes class table) (walk class table) (header_of class order file).elf_type (version_name order s.strings (bytes_if file (definitions_section which (walk class table))))

  shares_none : (t : Taken) (elf_type : ℕ) → is_some (size_taken t) ≡ true → elf.share_addresses t elf_type ≡ false
  shares_none (one_section index size indirect) elf_type is = refl
  shares_none (all_sections count) elf_type is = absurd cc

  elf_sized : (section : Option (List ℕ)) (seen : SelectedSymbols) → elf.selected_file_answer which class order file section ≡ Ok seen → IsSized section seen
  unfolding elf.selected_file_answer shown
  elf_sized section seen is = by_test (ltb (length file) class.header_length) is
    where
      by_selected : (r : Result elf.Selected Refusal) → elf_selected which class table section ≡ r → (r >>= λ s. Ok (shown s)) ≡ Ok seen → IsSized section seen
      by_selected (Err why) at e = absurd cc
      by_selected (Ok s) at e =
          let size = elf_size section s at in
          subst (IsSized section) (ok_is e) (size, λ one. shares_none s.taken (header_of class order file).elf_type (size ∙ one))

      by_test : (short : Bool) → cond short (Err unexpected_eof) (elf_selected which class table section >>= λ s. Ok (shown s)) ≡ Ok seen → IsSized section seen
      by_test true e = absurd cc
      by_test false e = by_selected (elf_selected which class table section) refl e

  -- by the symbol table no version has a name
  no_names : (strings : List ℕ) → version_name order strings [] ≡ (λ version. None)
  unfolding definitions_from
  no_names strings = fun_ext (λ version. by_test version (nat_le (index_of version) 1))
    where
      by_test : (version : ℕ) (none : Bool) → cond none None (option_and_then (λ offset. text_at strings offset) None) ≡ None
      by_test version true = refl
      by_test version false = refl

  elf_unversioned : (section : Option (List ℕ)) (seen : SelectedSymbols) → which ≡ Symtab → elf.selected_file_answer which class order file section ≡ Ok seen → seen.version_name ≡ (λ version. None)
  unfolding elf.selected_file_answer shown
  elf_unversioned section seen by is = by_test (ltb (length file) class.header_length) is
    where
      unversioned : (s : elf.Selected) → (shown s).version_name ≡ (λ version. None)
      unversioned s = ap (λ (w : SymbolTable). version_name order s.strings (bytes_if file (definitions_section w (walk class table)))) by ∙ no_names s.strings

      by_selected : (r : Result elf.Selected Refusal) → (r >>= λ s. Ok (shown s)) ≡ Ok seen → seen.version_name ≡ (λ version. None)
      by_selected (Err why) e = absurd cc
      by_selected (Ok s) e = ap (λ (s : SelectedSymbols). s.version_name) (sym (ok_is e)) ∙ unversioned s

      by_test : (short : Bool) → cond short (Err unexpected_eof) (elf_selected which class table section >>= λ s. Ok (shown s)) ≡ Ok seen → seen.version_name ≡ (λ version. None)
      by_test true e = absurd cc
      by_test false e = by_selected (elf_selected which class table section) e

  pub section_listed : (name : List ℕ) → section_file_answer which class order file name ≡ one_list (elf.selected_file_answer which class order file (Some name))
  unfolding section_answer elf.selected_file_answer shown
  section_listed name = by_test (ltb (length file) class.header_length)
    where
      by_size : (s : elf.Selected) (size : Option ℕ) → is_some size ≡ true
          → Path (Result Listed Refusal) (Ok (record { entries = map (λ e. e.entry) s.entries; section_size = unwrap_or size 0 })) (Ok (record { entries = map (λ e. e.entry) s.entries; section_size = unwrap_or size (sizes (shown s)) }))
      by_size s (Some n) is = refl
      by_size s None is = absurd cc

      by_selected : (r : Result elf.Selected Refusal) → elf_selected which class table (Some name) ≡ r → (r >>= λ s. Ok (elf.listed_of s)) ≡ one_list (r >>= λ s. Ok (shown s))
      by_selected (Err why) at = refl
      by_selected (Ok s) at = by_size s (size_taken s.taken) (elf_size (Some name) s at)

      by_test : (short : Bool) → cond short (Err unexpected_eof) (elf_selected which class table (Some name) >>= λ s. Ok (elf.listed_of s)) ≡ one_list (cond short (Err unexpected_eof) (elf_selected which class table (Some name) >>= λ s. Ok (shown s)))
      by_test true = refl
      by_test false = by_selected (elf_selected which class table (Some name)) refl

pub elf_listed : (class : ElfClass) (order : ByteOrder) (file name : List ℕ) → elf_file_answer class order file name ≡ one_list (elf.selected_file_answer Symtab class order file (Some name))
elf_listed class order file name =
    ap (λ (answer : Result Listed Refusal). cond (ltb (length file) class.header_length) (Err unexpected_eof) answer) (section_is_answered class (section_table class (record { order = order; bytes = file })) name)
    ∙ section_listed Symtab class order file name

-- Mach-O
module _ (file : List ℕ) where
  -- what the tables of a selection are made of
  abbrev Made : Option (List ℕ) → macho.SelectedTables → Type 0
  Made section t = (macho.sections_in section file ≡ Ok t.sections) × ((table : Option (SymtabCommand ℕ)) × (table_of file ≡ Ok table) × (symbols_by file table ≡ Ok t.symbols))

  made : (section : Option (List ℕ)) (t : macho.SelectedTables) → macho.selected_file_tables section file ≡ Ok t → Made section t
  unfolding macho.selected_tables
  made section t is = by_test (ltb (length file) least_length) is
    where
      by_symbols : (sections : macho.SelectedSections) (table : Option (SymtabCommand ℕ)) (r : Result (Option Symbols) Refusal) → symbols_by file table ≡ r
          → (r >>= λ symbols. Ok (record { sections = sections; symbols = symbols })) ≡ Ok t → (sections ≡ t.sections) × (symbols_by file table ≡ Ok t.symbols)
      by_symbols sections table (Err why) at e = absurd cc
      by_symbols sections table (Ok symbols) at e =
          (ap (λ (t : macho.SelectedTables). t.sections) (ok_is e), at ∙ ap (λ (t : macho.SelectedTables). Ok t.symbols) (ok_is e))

      by_table : (sections : macho.SelectedSections) (r : Result (Option (SymtabCommand ℕ)) Refusal) → table_of file ≡ r
          → (r >>= λ table. symbols_by file table >>= λ symbols. Ok (record { sections = sections; symbols = symbols })) ≡ Ok t
          → (sections ≡ t.sections) × ((table : Option (SymtabCommand ℕ)) × (table_of file ≡ Ok table) × (symbols_by file table ≡ Ok t.symbols))
      by_table sections (Err why) at e = absurd cc
      by_table sections (Ok table) at e = let both = by_symbols sections table (symbols_by file table) refl e in (both.0, (table, at, both.1))

      by_sections : (r : Result macho.SelectedSections Refusal) → macho.sections_in section file ≡ r
          → (r >>= λ sections. table_of file >>= λ table. symbols_by file table >>= λ symbols. Ok (record { sections = sections; symbols = symbols })) ≡ Ok t → Made section t
      by_sections (Err why) at e = absurd cc
      by_sections (Ok sections) at e =
          let both = by_table sections (table_of file) refl e in (at ∙ ap (λ (s : macho.SelectedSections). Ok s) both.0, both.1)

      by_test : (short : Bool) → cond short (Err unexpected_eof) (macho.selected_tables section file) ≡ Ok t → Made section t
      by_test true e = absurd cc
      by_test false e = by_sections (macho.sections_in section file) refl e

  -- so those that have a section are of a file that has one
  pub macho_needs : (section : Option (List ℕ)) (t : macho.SelectedTables) → macho.selected_file_tables section file ≡ Ok t → t.sections.sections ≢ [] → HasSection file
  macho_needs section t is = some_numbered section file t.sections (made section t is).0

  -- the code section has a size
  code_size : (section : Option (List ℕ)) (sections : List NumberedSection) (code : Option macho.CodeSection) → macho.code_of section sections ≡ Ok code → is_some (option_map (λ c. c.size) code) ≡ is_some section
  code_size None sections code is = let none : None ≡ code = cc in ap (λ (c : Option macho.CodeSection). is_some (option_map (λ c. c.size) c)) (sym none)
  code_size (Some name) sections code is = by_found (macho.code_among 0 sections) is
    where
      by_found : (o : Option macho.CodeSection) → (required symbols_section_is_missing o >>= λ code. Ok (Some code)) ≡ Ok code → is_some (option_map (λ c. c.size) code) ≡ true
      by_found None e = absurd cc
      by_found (Some found) e = ap (λ (c : Option macho.CodeSection). is_some (option_map (λ c. c.size) c)) (sym (ok_is e))

  macho_size : (section : Option (List ℕ)) (selected : macho.SelectedSections) → macho.sections_in section file ≡ Ok selected → is_some (macho.section_size selected) ≡ is_some section
  unfolding macho.sections_in
  macho_size section selected is = by_sections (numbered_sections file) is
    where
      by_code : (sections : List NumberedSection) (r : Result (Option macho.CodeSection) Refusal) → macho.code_of section sections ≡ r → (r >>= λ code. Ok (record { sections = sections; code = code })) ≡ Ok selected
          → is_some (macho.section_size selected) ≡ is_some section
      by_code sections (Err why) at e = absurd cc
      by_code sections (Ok code) at e = ap (λ (s : macho.SelectedSections). is_some (macho.section_size s)) (sym (ok_is e)) ∙ code_size section sections code at

      by_sections : (r : Result (List NumberedSection) Refusal) → (r >>= λ sections. macho.code_of section sections >>= λ code. Ok (record { sections = sections; code = code })) ≡ Ok selected → is_some (macho.section_size selected) ≡ is_some section
      by_sections (Err why) e = absurd cc
      by_sections (Ok sections) e = by_code sections (macho.code_of section sections) refl e

  macho_sized : (section : Option (List ℕ)) (seen : SelectedSymbols) → macho.selected_file_answer section file ≡ Ok seen → IsSized section seen
  macho_sized section seen is = by_tables (macho.selected_file_tables section file) refl is
    where
      by_tables : (r : Result macho.SelectedTables Refusal) → macho.selected_file_tables section file ≡ r → (r >>= λ tables. Ok (macho.symbols_of tables)) ≡ Ok seen → IsSized section seen
      by_tables (Err why) at e = absurd cc
      by_tables (Ok t) at e = subst (IsSized section) (ok_is e) (macho_size section t.sections (made section t at).0, λ one. refl)

  macho_unversioned : (section : Option (List ℕ)) (seen : SelectedSymbols) → macho.selected_file_answer section file ≡ Ok seen → seen.version_name ≡ (λ version. None)
  macho_unversioned section seen is = by_tables (macho.selected_file_tables section file) is
    where
      by_tables : (r : Result macho.SelectedTables Refusal) → (r >>= λ tables. Ok (macho.symbols_of tables)) ≡ Ok seen → seen.version_name ≡ (λ version. None)
      by_tables (Err why) e = absurd cc
      by_tables (Ok t) e = ap (λ (s : SelectedSymbols). s.version_name) (sym (ok_is e))

-- PE
pe_code_size : (section : Option (List ℕ)) (sections : PeSections) (code : Option TextPlace) → pe.code_of section sections ≡ Ok code → is_some (option_map (λ c. c.size) code) ≡ is_some section
pe_code_size None sections code is = let none : None ≡ code = cc in ap (λ (c : Option TextPlace). is_some (option_map (λ c. c.size) c)) (sym none)
pe_code_size (Some name) sections code is = by_found (pe.code_section sections) is
  where
    by_found : (o : Option pe_file.Section) → (required symbols_section_is_missing o >>= λ (s : pe_file.Section). Ok (Some (record { index = s.index; size = pe.memory_size sections s.index }))) ≡ Ok code → is_some (option_map (λ c. c.size) code) ≡ true
    by_found None e = absurd cc
    by_found (Some found) e = ap (λ (c : Option TextPlace). is_some (option_map (λ c. c.size) c)) (sym (ok_is e))

no_and : (b : Bool) → (b && false) ≡ false
no_and true = refl
no_and false = refl

module _ (file : List ℕ) where
  by_table : (chosen : pe.SelectedSections) (seen : SelectedSymbols) (table : Result pe_symbols.CoffTable Refusal) → (table >>= λ symbols. Ok (pe.symbols_of chosen symbols)) ≡ Ok seen
      → (seen.section_size ≡ pe.section_size chosen) × (seen.shares_addresses ≡ pe.shares_addresses chosen)
  by_table chosen seen (Err why) e = absurd cc
  by_table chosen seen (Ok symbols) e = (ap (λ (s : SelectedSymbols). s.section_size) (sym (ok_is e)), ap (λ (s : SelectedSymbols). s.shares_addresses) (sym (ok_is e)))

  pe_sized : (section : Option (List ℕ)) (seen : SelectedSymbols) → pe.selected_file_answer section file ≡ Ok seen → IsSized section seen
  unfolding pe.selected_answer
  pe_sized section seen is = by_test (ltb (length file) (pe_file.least_length file)) is
    where
      by_size : (code : Option TextPlace) (shared : Bool) → is_some (option_map (λ c. c.size) code) ≡ is_some section → is_some section ≡ true → (shared && is_none code) ≡ false
      by_size None shared size one = let never : false ≡ true = size ∙ one in absurd cc
      by_size (Some code) shared size one = no_and shared

      by_code : (base : Option ℕ) (sections : PeSections) (r : Result (Option TextPlace) Refusal) → pe.code_of section sections ≡ r
          → ((r >>= λ code. Ok (pe.in_memory base sections code)) >>= λ chosen. pe_symbols.symbol_table file >>= λ symbols. Ok (pe.symbols_of chosen symbols)) ≡ Ok seen → IsSized section seen
      by_code base sections (Err why) at e = absurd cc
      by_code base sections (Ok code) at e =
          let both = by_table (pe.in_memory base sections code) seen (pe_symbols.symbol_table file) e in
          let size = pe_code_size section sections code at in
          (ap is_some both.0 ∙ size, λ one. both.1 ∙ by_size code (is_none base) size one)

      by_whole : (base : Option ℕ) (r : Result PeSections Refusal)
          → ((r >>= λ sections. pe.code_of section sections >>= λ code. Ok (pe.in_memory base sections code)) >>= λ chosen. pe_symbols.symbol_table file >>= λ symbols. Ok (pe.symbols_of chosen symbols)) ≡ Ok seen → IsSized section seen
      by_whole base (Err why) e = absurd cc
      by_whole base (Ok sections) e = by_code base sections (pe.code_of section sections) refl e

      by_test : (short : Bool) → cond short (Err unexpected_eof) (pe.selected_answer section file) ≡ Ok seen → IsSized section seen
      by_test true e = absurd cc
      by_test false e = by_whole (pe.base_at file (places_of file)) (pe.whole_sections (pe_sections file)) e

  pe_unversioned : (section : Option (List ℕ)) (seen : SelectedSymbols) → pe.selected_file_answer section file ≡ Ok seen → seen.version_name ≡ (λ version. None)
  unfolding pe.selected_answer
  pe_unversioned section seen is = by_test (ltb (length file) (pe_file.least_length file)) is
    where
      by_symbols : (chosen : pe.SelectedSections) (symbols : Result pe_symbols.CoffTable Refusal) → (symbols >>= λ symbols. Ok (pe.symbols_of chosen symbols)) ≡ Ok seen → seen.version_name ≡ (λ version. None)
      by_symbols chosen (Err why) e = absurd cc
      by_symbols chosen (Ok symbols) e = ap (λ (s : SelectedSymbols). s.version_name) (sym (ok_is e))

      by_chosen : (r : Result pe.SelectedSections Refusal) → (r >>= λ chosen. pe_symbols.symbol_table file >>= λ symbols. Ok (pe.symbols_of chosen symbols)) ≡ Ok seen → seen.version_name ≡ (λ version. None)
      by_chosen (Err why) e = absurd cc
      by_chosen (Ok chosen) e = by_symbols chosen (pe_symbols.symbol_table file) e

      by_test : (short : Bool) → cond short (Err unexpected_eof) (pe.selected_answer section file) ≡ Ok seen → seen.version_name ≡ (λ version. None)
      by_test true e = absurd cc
      by_test false e = by_chosen (pe.sections_in section file) e

-- a file of any format
some_is : {A : Type 0} {a b : A} → Path (Option A) (Some a) (Some b) → a ≡ b
some_is e = cc

by_symtab : {A : Type 0} (which : SymbolTable) (answer : Result A Refusal) (x : A) → Path (Option (Result A Refusal)) (Some (by_symbol_table which answer)) (Some (Ok x)) → answer ≡ Ok x
by_symtab Symtab answer x e = some_is e
by_symtab Dynsym answer x e = absurd cc

module _ (which : SymbolTable) (file : List ℕ) where
  pub sized_in : (section : Option (List ℕ)) (seen : SelectedSymbols) → selected_answer which section file ≡ Some (Ok seen) → IsSized section seen
  unfolding selected_symbols
  sized_in section seen is = by_format (format_of file) is
    where
      by_format : (format : Format) → selected_symbols which section format file ≡ Some (Ok seen) → IsSized section seen
      by_format (formats.Elf32 order) e = elf_sized which elf32 order file section seen (some_is e)
      by_format (formats.Elf64 order) e = elf_sized which elf64 order file section seen (some_is e)
      by_format formats.Macho e = macho_sized file section seen (by_symtab which (macho.selected_file_answer section file) seen e)
      by_format formats.PE e = pe_sized file section seen (by_symtab which (pe.selected_file_answer section file) seen e)
      by_format formats.Unknown e = absurd cc

  -- by the symbol table no version has a name
  pub unversioned_in : (section : Option (List ℕ)) (seen : SelectedSymbols) → which ≡ Symtab → selected_answer which section file ≡ Some (Ok seen) → seen.version_name ≡ (λ version. None)
  unfolding selected_symbols
  unversioned_in section seen by is = by_format (format_of file) is
    where
      by_format : (format : Format) → selected_symbols which section format file ≡ Some (Ok seen) → seen.version_name ≡ (λ version. None)
      by_format (formats.Elf32 order) e = elf_unversioned which elf32 order file section seen by (some_is e)
      by_format (formats.Elf64 order) e = elf_unversioned which elf64 order file section seen by (some_is e)
      by_format formats.Macho e = macho_unversioned file section seen (by_symtab which (macho.selected_file_answer section file) seen e)
      by_format formats.PE e = pe_unversioned file section seen (by_symtab which (pe.selected_file_answer section file) seen e)
      by_format formats.Unknown e = absurd cc
