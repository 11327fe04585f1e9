-- The answer for a selection, by the parts that were read of a file.
use Rattle.std.proofs.Common.{◌≡◌, ℕ, ◌-◌, ◌/◌, ◌%◌, ◌<◌, ◌≤◌, Bool, true, false, cond, ltb, eqb, List, length, min, Option, None, Some, Result, Ok, Err, refl, sym, ap, subst, ◌∙◌, arith}
use Rattle.std.specs.Prelude.{All}
use Rattle.std.proofs.lemmas.List.Elements.{All-append}
use Rattle.binfarce_bytes.specs.Part.{Part}
use Rattle.std.proofs.Math.Nat.{zero-div}
use Rattle.std.proofs.Math.Path.{fun_ext}
use Rattle.std.proofs.lemmas.Bool.{le-ltb, lt-ltb, le-leb}
use Rattle.binfarce_bytes.specs.declared.ByteOrder.{ByteOrder}
use Rattle.binfarce_bytes.specs.Refusal.{◌>>=◌, Refusal, unexpected_eof}
use Rattle.binfarce_bytes.specs.SectionEntries.{SelectedSymbols}
use Rattle.binfarce_bytes.specs.Walk.{ended}
use Rattle.binfarce_elf.specs.Elf.{ElfClass, SectionTable, header_of, section_table, walk, whole_headers, names_bytes}
use Rattle.binfarce_elf.specs.SymbolTables.{TableSections, TableRows, table_sections, rows_at}
use Rattle.binfarce_elf_memory.specs.ElfSelection.{NeededSections, Selected, Taken, needed, needed_descriptors, selected_from, elf_selected, symbols_of, selected_file_answer}
use Rattle.binfarce_elf.specs.ElfSymbols.{section_data, whole_rows}
use Rattle.binfarce_elf_memory.specs.ElfEnds.{file_kind}
use Rattle.binfarce_elf_memory.specs.Versions.{bytes_if, definitions_section, version_name, versions_section}
use Rattle.binfarce_elf.specs.declared.symbol_table.SymbolTable.{SymbolTable}
use Rattle.binfarce_elf_memory.proofs.Steps.{assoc}
use Rattle.binfarce_tables.specs.ElfReads.{table_of, descriptor_parts, elf_parts, rows_parts}
use Rattle.binfarce_tables.specs.SectionReading.{FileSections, file_sections}
use Rattle.binfarce_tables.specs.machine.Places.{placed_parts, rows_in_file}
use Rattle.binfarce_tables.proofs.ElfSure.{needed_table, of_needed_descriptors, of_rows}
use Rattle.binfarce_tables.proofs.VersionsRead.{symbols_in}

-- nothing is found after the file's end
pub walk_outside : (class : ElfClass) (table : SectionTable) → length table.file ≤ table.shoff → walk class table ≡ ended (Some unexpected_eof)
unfolding walk
walk_outside class table outside =
    let room : length table.file - table.shoff ≡ 0 = omega arith in
    let whole : whole_headers class table ≡ 0 = ap (λ (n : ℕ). n / class.section_length) room ∙ zero-div class.section_length in
    let count : min table.shnum (whole_headers class table) ≡ 0 = omega arith in
    rw (count, le-ltb table.shoff (length table.file) outside) refl

-- nothing is found if there are no sections
pub walk_of_none : (class : ElfClass) (table : SectionTable) → table.shoff < length table.file → table.shnum ≡ 0 → walk class table ≡ ended None
unfolding walk
walk_of_none class table inside empty =
    let count : min table.shnum (whole_headers class table) ≡ 0 = omega arith in
    rw (count, lt-ltb table.shoff (length table.file) inside, le-leb table.shnum (whole_headers class table) (omega arith)) refl

-- rows that are whole are those that were given
rows_are : (class : ElfClass) (bytes rows : List ℕ) → whole_rows class bytes ≡ Ok rows → whole_rows class bytes ≡ Ok bytes
rows_are class bytes rows whole = by_test (eqb (length bytes % class.symbol_length) 0) whole
  where
    by_test : (b : Bool) → cond b (Ok bytes) (Err unexpected_eof) ≡ Ok rows → cond b (Ok bytes) (Err unexpected_eof) ≡ Ok bytes
    by_test true e = refl
    by_test false e = absurd cc

-- what follows the bytes of a table's rows, and those of its strings
abbrev pub after_rows : ElfClass → List ℕ → List ℕ → Result TableRows Refusal
after_rows class strings bytes = whole_rows class bytes >>= λ rows. Ok (record { strings = strings; rows = rows })

abbrev pub after_strings : ElfClass → List ℕ → TableSections → List ℕ → Result TableRows Refusal
after_strings class file sections strings = section_data file sections.symbols >>= after_rows class strings

-- the bytes of a table's sections, from a step on, where those before it were taken
module _ (class : ElfClass) (file : List ℕ) (sections : TableSections) where
  pub from_sections : rows_at class file sections ≡ (section_data file sections.strings >>= after_strings class file sections)
  unfolding rows_at
  from_sections = refl

  module _ (strings : List ℕ) (holds : section_data file sections.strings ≡ Ok strings) where
    pub from_strings : rows_at class file sections ≡ after_strings class file sections strings
    from_strings = from_sections ∙ ap (λ (a : Result (List ℕ) Refusal). a >>= after_strings class file sections) holds

    module _ (bytes : List ℕ) (lists : section_data file sections.symbols ≡ Ok bytes) where
      pub from_rows : rows_at class file sections ≡ after_rows class strings bytes
      from_rows = from_strings ∙ ap (λ (a : Result (List ℕ) Refusal). a >>= after_rows class strings) lists

      pub rows_read : (rows : List ℕ) → whole_rows class bytes ≡ Ok rows → rows_at class file sections ≡ Ok (record { strings = strings; rows = bytes })
      rows_read rows whole = from_rows ∙ ap (λ (a : Result (List ℕ) Refusal). a >>= λ r. Ok (record { strings = strings; rows = r })) (rows_are class bytes rows whole)

-- what follows what is needed of a file with these sections, up to the answer
abbrev pub after_found : SymbolTable → List ℕ → FileSections → NeededSections → TableRows → SelectedSymbols
after_found which file seen needs found =
    symbols_in seen needs.taken found (bytes_if file (versions_section which seen.sections)) (version_name seen.order found.strings (bytes_if file (definitions_section which seen.sections)))

abbrev pub after_needed : SymbolTable → List ℕ → FileSections → NeededSections → Result SelectedSymbols Refusal
after_needed which file seen needs = rows_in_file file seen needs >>= λ found. Ok (after_found which file seen needs found)

-- what is needed of them
abbrev pub needed_of : SymbolTable → Option (List ℕ) → FileSections → Result NeededSections Refusal
needed_of which section seen = needed which seen.sections seen.names seen.count section

-- what follows these sections
abbrev pub after_sections : SymbolTable → Option (List ℕ) → List ℕ → FileSections → Result SelectedSymbols Refusal
after_sections which section file seen = needed_of which section seen >>= after_needed which file seen

-- the sections of a file that has a header
abbrev sections_in : ElfClass → ByteOrder → List ℕ → FileSections
sections_in class order file =
    let table = table_of class order file in
    record { class = class; order = order; kind = file_kind (header_of class order file); count = table.shnum; sections = walk class table; names = names_bytes class table; file_length = length file }

sections_are : (class : ElfClass) (order : ByteOrder) (file : List ℕ) (seen : FileSections) → file_sections class order file ≡ Ok seen → sections_in class order file ≡ seen
sections_are class order file seen given = by_test (ltb (length file) class.header_length) given
  where
    by_test : (short : Bool) → cond short (Err unexpected_eof) (Ok (sections_in class order file)) ≡ Ok seen → sections_in class order file ≡ seen
    by_test true is = absurd cc
    by_test false is = cc

-- a file's answer for a selection from a step on, where those before it were taken
module _ (which : SymbolTable) (class : ElfClass) (order : ByteOrder) (file : List ℕ) (section : Option (List ℕ)) where
  pub from_file : selected_file_answer which class order file section ≡ (file_sections class order file >>= after_sections which section file)
  unfolding selected_file_answer elf_selected section_table
  from_file = by_test (ltb (length file) class.header_length)
    where
      table : SectionTable
      table = table_of class order file

      seen : FileSections
      seen = sections_in class order file

      selected : NeededSections → TableRows → Result Selected Refusal
      selected needs found = Ok (selected_from class order seen.sections seen.kind needs.taken found (bytes_if file (versions_section which seen.sections)))

      shown : Selected → Result SelectedSymbols Refusal
      shown s = Ok (symbols_of s seen.names seen.sections seen.kind.elf_type (version_name order s.strings (bytes_if file (definitions_section which seen.sections))))

      steps : (elf_selected which class table section >>= shown) ≡ after_sections which section file seen
      steps =
          assoc (needed_of which section seen) (λ needs. rows_in_file file seen needs >>= selected needs) shown
          ∙ ap (λ (k : NeededSections → Result SelectedSymbols Refusal). needed_of which section seen >>= k) (fun_ext (λ needs. assoc (rows_in_file file seen needs) (selected needs) shown))

      by_test : (short : Bool) → cond short (Err unexpected_eof) (elf_selected which class table section >>= shown) ≡ (cond short (Err unexpected_eof) (Ok seen) >>= after_sections which section file)
      by_test true = refl
      by_test false = steps

  module _ (seen : FileSections) (given : file_sections class order file ≡ Ok seen) where
    pub from_seen : selected_file_answer which class order file section ≡ after_sections which section file seen
    from_seen = from_file ∙ ap (λ (a : Result FileSections Refusal). a >>= after_sections which section file) given

    pub from_needed : (needs : NeededSections) → needed_of which section seen ≡ Ok needs → selected_file_answer which class order file section ≡ after_needed which file seen needs
    from_needed needs is = from_seen ∙ ap (λ (a : Result NeededSections Refusal). a >>= after_needed which file seen) is

    -- of the descriptors that are needed of it
    pub of_descriptors : (P : Part → Type 0) (selected : Taken) → All P (elf_parts which class order file) → All P (descriptor_parts file (needed_descriptors seen.class seen.sections seen.names seen.kind selected))
    of_descriptors P selected all =
        subst (λ (s : FileSections). All P (descriptor_parts file (needed_descriptors s.class s.sections s.names s.kind selected))) (sections_are class order file seen given) (of_needed_descriptors P class order file which selected all)

    -- and of the rows with them
    pub of_placed : (P : Part → Type 0) (needs : NeededSections) → table_sections which (walk class (table_of class order file)) ≡ Ok needs.table → All P (elf_parts which class order file)
        → All P (placed_parts file seen needs)
    of_placed P needs found all =
        All-append P (rows_parts file needs.table) (descriptor_parts file (needed_descriptors seen.class seen.sections seen.names seen.kind needs.taken))
        (of_rows P class order file which needs.table found all) (of_descriptors P needs.taken all)

    -- its sections, its length, and the sections of its symbol table
    pub walk_is : walk class (table_of class order file) ≡ seen.sections
    walk_is = ap (λ (s : FileSections). s.sections) (sections_are class order file seen given)

    pub length_is : seen.file_length ≡ length file
    length_is = ap (λ (s : FileSections). s.file_length) (sym (sections_are class order file seen given))

    pub table_found : (needs : NeededSections) → needed_of which section seen ≡ Ok needs → table_sections which (walk class (table_of class order file)) ≡ Ok needs.table
    table_found needs is =
        ap (λ (s : FileSections). table_sections which s.sections) (sections_are class order file seen given)
        ∙ needed_table which seen.sections seen.names seen.count section needs is
