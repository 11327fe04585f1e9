-- What is true of each part of an ELF file that is read, by the step that reads it.
use Rattle.std.proofs.Common.{◌≡◌, ℕ, ◌+◌, ◌*◌, ◌<◌, Bool, true, false, cond, ltb, eqb, List, ◌++◌, length, Option, Some, Result, Ok, Err, ap, subst, sym, arith}
use Rattle.std.specs.Prelude.{All}
use Rattle.std.proofs.lemmas.Bool.{lt-ltb, ne_eqb, eq-eqb}
use Rattle.std.proofs.lemmas.List.Elements.{All-nil, All-head, All-tail}
use Rattle.binfarce_bytes.specs.declared.ByteOrder.{ByteOrder}
use Rattle.binfarce_bytes.specs.Part.{Part, part, parts_if, whole_part}
use Rattle.binfarce_bytes.specs.Refusal.{◌>>=◌, Refusal, unexpected_eof}
use Rattle.binfarce_bytes.specs.Walk.{Walk}
use Rattle.binfarce_elf.specs.Classes.{class_of}
use Rattle.binfarce_elf.specs.Elf.{ElfClass, SectionTable, Section, header_of, walk, whole_headers, names_bytes, names_section}
use Rattle.binfarce_elf_memory.specs.ElfSegments.{program_length, programs_size}
use Rattle.binfarce_elf.specs.SymbolTables.{TableSections, table_sections}
use Rattle.binfarce_elf_memory.specs.ElfSelection.{Taken, NeededSections, one_section, all_sections, taken, needed, needed_descriptors}
use Rattle.binfarce_elf_memory.specs.ElfEnds.{file_kind}
use Rattle.binfarce_elf_memory.specs.Versions.{definitions_section, versions_section}
use Rattle.binfarce_elf.specs.declared.class.Width.{Width}
use Rattle.binfarce_elf.specs.declared.symbol_table.SymbolTable.{SymbolTable}
use Rattle.binfarce_tables.specs.ElfReads.{table_of, section_parts, names_header, names_parts, headers_size, headers_parts, table_parts, rows_parts, found_parts, descriptor_parts, file_descriptors, version_parts, elf_section_parts, elf_parts, elf_load_parts}
use Rattle.binfarce_tables.specs.machine.Places.{table_step}
use Rattle.binfarce_tables.proofs.Sure.{front, back, only, of_some}

module _ (P : Part → Type 0) (class : ElfClass) (table : SectionTable) where
  -- of the header of the section names' own section
  pub of_names_header : table.shstrndx < whole_headers class table → All P (names_parts class table) → P (part (table.shoff + table.shstrndx * class.section_length) class.section_length)
  unfolding names_parts
  of_names_header lt all =
      let header : All P (names_header class table) = front P (names_header class table) (parts_if (names_section class table) (section_parts table.file)) all in
      only P (part (table.shoff + table.shstrndx * class.section_length) class.section_length) (rw (lt-ltb table.shstrndx (whole_headers class table) lt) at header)

  -- of the section names
  pub of_names : (section : Section) → names_section class table ≡ Some section → All P (names_parts class table) → All P (section_parts table.file section)
  unfolding names_parts
  of_names section is all = of_some P (names_section class table) section (section_parts table.file) is (back P (names_header class table) (parts_if (names_section class table) (section_parts table.file)) all)

  of_first : table.shoff < length table.file → All P (headers_parts class table) → P (part table.shoff (cond (eqb table.shnum 0) 1 (headers_size class table)))
  unfolding headers_parts
  of_first inside all = only P (part table.shoff (cond (eqb table.shnum 0) 1 (headers_size class table))) (rw (lt-ltb table.shoff (length table.file) inside) at all)

  -- of the section headers
  pub of_headers : table.shoff < length table.file → 0 < table.shnum → All P (headers_parts class table) → P (part table.shoff (headers_size class table))
  of_headers inside any all = subst (λ (none : Bool). P (part table.shoff (cond none 1 (headers_size class table)))) (ne_eqb table.shnum 0 (λ e. omega (arith, e, any))) (of_first inside all)

  -- of the first byte of a table without headers
  pub of_no_header : table.shoff < length table.file → table.shnum ≡ 0 → All P (headers_parts class table) → P (part table.shoff 1)
  of_no_header inside none all = subst (λ (is : Bool). P (part table.shoff (cond is 1 (headers_size class table)))) (eq-eqb table.shnum 0 none) (of_first inside all)

-- of the strings and the rows of a symbol table that is found
pub of_found : (P : Part → Type 0) (file : List ℕ) (found : Result TableSections Refusal) (sections : TableSections) → found ≡ Ok sections → All P (found_parts file found) → All P (rows_parts file sections)
unfolding found_parts
of_found P file found sections is all = subst (λ (f : Result TableSections Refusal). All P (found_parts file f)) is all

-- a file's table, where the file has a header
table_found : (class : ElfClass) (order : ByteOrder) (file : List ℕ) (table : SectionTable) → table_step class order file ≡ Ok table → table_of class order file ≡ table
table_found class order file table step = by_test (ltb (length file) class.header_length) step
  where
    by_test : (short : Bool) → cond short (Err unexpected_eof) (Ok (table_of class order file)) ≡ Ok table → table_of class order file ≡ table
    by_test true is = absurd cc
    by_test false is = cc

module _ (P : Part → Type 0) (class : ElfClass) (order : ByteOrder) (file : List ℕ) where
  -- of the file header
  pub of_file_header : All P (elf_section_parts class order file) → P (part 0 class.header_length)
  unfolding elf_section_parts
  of_file_header all = All-head P (part 0 class.header_length) (table_parts class (table_of class order file)) all

  -- of the section names and the section headers
  pub of_tables : All P (elf_section_parts class order file) → All P (table_parts class (table_of class order file))
  unfolding elf_section_parts
  of_tables all = All-tail P (part 0 class.header_length) (table_parts class (table_of class order file)) all

  abbrev sections : Walk Section
  sections = walk class (table_of class order file)

  abbrev after_parts : SymbolTable → List Part
  after_parts which = found_parts file (table_sections which sections) ++ (descriptor_parts file (file_descriptors class order file) ++ version_parts which file sections)

  abbrev behind_rows : SymbolTable → List Part
  behind_rows which = descriptor_parts file (file_descriptors class order file) ++ version_parts which file sections

  -- of the parts of its sections, and of those of the symbol table
  pub of_sections : (which : SymbolTable) → All P (elf_parts which class order file) → All P (elf_section_parts class order file)
  unfolding elf_parts
  of_sections which all = front P (elf_section_parts class order file) (after_parts which) all

  of_after : (which : SymbolTable) → All P (elf_parts which class order file) → All P (after_parts which)
  unfolding elf_parts
  of_after which all = back P (elf_section_parts class order file) (after_parts which) all

  pub of_symbols : (which : SymbolTable) → All P (elf_parts which class order file) → All P (found_parts file (table_sections which sections))
  of_symbols which all = front P (found_parts file (table_sections which sections)) (behind_rows which) (of_after which all)

  of_behind : (which : SymbolTable) → All P (elf_parts which class order file) → All P (behind_rows which)
  of_behind which all = back P (found_parts file (table_sections which sections)) (behind_rows which) (of_after which all)

  -- of the descriptors that a selection needs
  pub of_needed_descriptors : (which : SymbolTable) (selected : Taken) → All P (elf_parts which class order file)
      → All P (descriptor_parts file (needed_descriptors class sections (names_bytes class (table_of class order file)) (file_kind (header_of class order file)) selected))
  of_needed_descriptors which (one_section index size indirect) all = All-nil P
  of_needed_descriptors which (all_sections count) all = front P (descriptor_parts file (file_descriptors class order file)) (version_parts which file sections) (of_behind which all)

  -- of the versions and their definitions
  pub of_versions : (which : SymbolTable) (walked : Walk Section) → sections ≡ walked → All P (elf_parts which class order file) → All P (version_parts which file walked)
  of_versions which walked is all =
      subst (λ (w : Walk Section). All P (version_parts which file w)) is (back P (descriptor_parts file (file_descriptors class order file)) (version_parts which file sections) (of_behind which all))

  -- of the strings and the rows of its symbol table
  pub of_rows : (which : SymbolTable) (sections : TableSections) → table_sections which (walk class (table_of class order file)) ≡ Ok sections → All P (elf_parts which class order file) → All P (rows_parts file sections)
  of_rows which sections found all = of_found P file (table_sections which (walk class (table_of class order file))) sections found (of_symbols which all)

  -- those of a table that was found
  pub of_table : (table : SectionTable) → table_step class order file ≡ Ok table → All P (elf_section_parts class order file) → All P (table_parts class table)
  of_table table placed all = subst (λ (t : SectionTable). All P (table_parts class t)) (table_found class order file table placed) (of_tables all)

-- of the versions, and of their definitions, which were found
module _ (P : Part → Type 0) (file : List ℕ) (which : SymbolTable) (sections : Walk Section) (s : Option Section) where
  abbrev rows : List Part
  rows = parts_if (versions_section which sections) (section_parts file)

  abbrev definitions : List Part
  definitions = parts_if (definitions_section which sections) (section_parts file)

  pub of_row_versions : s ≡ versions_section which sections → All P (version_parts which file sections) → All P (parts_if s (section_parts file))
  of_row_versions is all = subst (λ (o : Option Section). All P (parts_if o (section_parts file))) (sym is) (front P rows definitions all)

  pub of_definitions : s ≡ definitions_section which sections → All P (version_parts which file sections) → All P (parts_if s (section_parts file))
  of_definitions is all = subst (λ (o : Option Section). All P (parts_if o (section_parts file))) (sym is) (back P rows definitions all)

-- the symbol table that is needed is the one that is found
pub needed_table : (which : SymbolTable) (sections : Walk Section) (names : Option (List ℕ)) (count : ℕ) (section : Option (List ℕ)) (found : NeededSections)
    → needed which sections names count section ≡ Ok found → table_sections which sections ≡ Ok found.table
unfolding needed
needed_table which sections names count section found is = by_taken (taken which sections names count section) is
  where
    by_table : (selected : Taken) (tables : Result TableSections Refusal) → (tables >>= λ table. Ok (record { taken = selected; table = table })) ≡ Ok found → tables ≡ Ok found.table
    by_table selected (Ok table) e =
        let same : record { taken = selected; table = table } ≡ found = cc in
        ap (λ (n : NeededSections). Ok n.table) same
    by_table selected (Err refusal) e = absurd cc

    by_taken : (o : Result Taken Refusal) → (o >>= λ selected. table_sections which sections >>= λ table. Ok (record { taken = selected; table = table })) ≡ Ok found → table_sections which sections ≡ Ok found.table
    by_taken (Ok selected) e = by_table selected (table_sections which sections) e
    by_taken (Err refusal) e = absurd cc

module _ (P : Part → Type 0) (width : Width) (order : ByteOrder) (file : List ℕ) where
  -- of the file header, by which a file's load address is read
  pub of_load_header : All P (elf_load_parts width order file) → P (part 0 (class_of width).header_length)
  unfolding elf_load_parts
  of_load_header all =
      let header = header_of (class_of width) order file in
      All-head P (part 0 (class_of width).header_length) (whole_part file header.phoff (programs_size width header)) all

  -- of the program headers, at the place that was read
  pub of_programs : (phoff phnum : ℕ) → phoff ≡ (header_of (class_of width) order file).phoff → phnum ≡ (header_of (class_of width) order file).phnum
      → All P (elf_load_parts width order file) → All P (whole_part file phoff (phnum * program_length width))
  unfolding elf_load_parts
  of_programs phoff phnum begins many all =
      let header = header_of (class_of width) order file in
      rw (begins, many) (All-tail P (part 0 (class_of width).header_length) (whole_part file header.phoff (programs_size width header)) all)
