-- By the symbol table, what a section's name selects is the answer for this section.
use Rattle.std.proofs.Common.{◌≡◌, ℕ, ◌%◌, Bool, true, false, cond, eqb, not, ◌&&◌, ◌||◌, List, [], ◌∷◌, map, Option, Some, None, Result, Ok, refl, sym, ap, ◌∙◌}
use Rattle.std.proofs.Math.Path.{fun_ext}
use Rattle.std.specs.List.{cons_option, filter_map, range_with_len}
use Rattle.std.specs.Option.{option_map}
use Rattle.binfarce_bytes.specs.Entries.{Entry, Listed}
use Rattle.binfarce_bytes.specs.Refusal.{Refusal}
use Rattle.binfarce_bytes.specs.SectionEntries.{SectionEntry}
use Rattle.binfarce_bytes.specs.Text.{text_at}
use Rattle.binfarce_elf.specs.Elf.{ElfClass, SectionTable, Section, SymbolRow, walk}
use Rattle.binfarce_elf.specs.ElfSymbols.{elf_answer, entries_of, entry_of, row_count, row_of}
use Rattle.binfarce_elf.specs.SymbolTables.{TableRows}
use Rattle.binfarce_elf.specs.declared.symbol_table.SymbolTable.TheVariants.{Symtab}
use Rattle.binfarce_elf_memory.specs.ElfEnds.{ends_of, has_modes, kind_of, size_of}
use Rattle.binfarce_elf_memory.specs.ElfSelection.{SectionIsAnswered, entry_sized, entry_taken, function_name, one_section}
use Rattle.binfarce_elf_memory.specs.Versions.{bytes_if, version_of, versions_section}
use Rattle.binfarce_elf_memory.proofs.Steps.{answer_by, answer_steps, listed}

-- a list of what is kept, mapped
map_kept : {X Y Z : Type 0} (g : Y → Z) (f : X → Option Y) (xs : List X) → map g (filter_map f xs) ≡ filter_map (λ x. option_map g (f x)) xs
map_kept g f [] = refl
map_kept g f (x ∷ xs) = first (f x) (filter_map f xs) ∙ ap (cons_option (option_map g (f x))) (map_kept g f xs)
  where
    first : (o : Option _) (ys : List _) → map g (cons_option o ys) ≡ cons_option (option_map g o) (map g ys)
    first None ys = refl
    first (Some y) ys = refl

-- a row's entry of one section, whatever its version, its size in memory and the file's modes are
module _ (strings : List ℕ) (index size : ℕ) (modes : Bool) (row : SymbolRow ℕ) (version own : ℕ) where
  abbrev short : List ℕ → Entry
  short name = record { name = name; address = row.value; size = row.size }

  abbrev long : List ℕ → SectionEntry
  long name = record { section = row.section; info = row.info; version = version; entry = short name }

  by_tests : (of_section has_size has_name is_function other : Bool) (name : Option (List ℕ))
      → option_map (λ (e : SectionEntry). e.entry) (option_map long (cond ((of_section && has_size && (is_function || (false && other))) && has_name) name None))
      ≡ cond (of_section && has_size && has_name && is_function) (option_map short name) None
  by_tests false b c d e o = refl
  by_tests true false c d e o = refl
  by_tests true true false false e o = refl
  by_tests true true false true e o = refl
  by_tests true true true false e o = refl
  by_tests true true true true e None = refl
  by_tests true true true true e (Some name) = refl

  entry_is : option_map (λ (e : SectionEntry). e.entry) (entry_taken strings (one_section index size false) modes row version own) ≡ entry_of strings index row
  unfolding entry_of function_name
  entry_is = by_tests (eqb row.section index) (not (eqb row.size 0)) (not (eqb row.name 0)) (eqb (row.info % 16) 2) (eqb (row.info % 16) 10) (text_at strings row.name)

module _ (class : ElfClass) (table : SectionTable) where
  -- the entries of a section, and its size
  abbrev short_list : Section → TableRows → Result Listed Refusal
  short_list section found = Ok (record { entries = entries_of class table.order found.strings found.rows section.index; section_size = section.size })

  listed_is : (section : Section) (found : TableRows) → listed Symtab class table section found ≡ short_list section found
  unfolding entries_of
  listed_is section found =
      let order = table.order in
      let modes = has_modes (kind_of class table) in
      let ends = ends_of class order (walk class table) (kind_of class table) found in
      let versions = bytes_if table.file (versions_section Symtab (walk class table)) in
      let rows = range_with_len 0 (row_count class found.rows) in
      let sized : ℕ → Option SectionEntry = λ k. entry_sized found.strings (one_section section.index section.size false) modes ends (row_of class order found.rows k) (version_of order versions k) in
      ap (λ (entries : List Entry). Ok (record { entries = entries; section_size = section.size }))
      (map_kept (λ (e : SectionEntry). e.entry) sized rows
      ∙ ap (λ (f : ℕ → Option Entry). filter_map f rows)
      (fun_ext (λ k. entry_is found.strings section.index section.size modes (row_of class order found.rows k) (version_of order versions k) (size_of ends modes (row_of class order found.rows k)))))

  pub section_is_answered : (name : List ℕ) → SectionIsAnswered class table name
  unfolding elf_answer
  section_is_answered name =
      sym (answer_steps Symtab class table name
      ∙ ap (λ (next : Section → TableRows → Result Listed Refusal). answer_by Symtab class table next name) (fun_ext (λ section. fun_ext (listed_is section))))
