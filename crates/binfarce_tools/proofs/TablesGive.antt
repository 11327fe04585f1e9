-- What the tables of a file give is what the file answers for the selection.
use Rattle.std.proofs.Common.{◌≡◌, ◌≢◌, ℕ, [], Bool, true, false, List, map, Option, Some, None, is_some, Result, Ok, Err, refl, sym, ap, subst, ◌∙◌, inl, inr}
use Rattle.std.specs.Global.{Vec}
use Rattle.std.proofs.Math.Path.{fun_ext}
use Rattle.std.specs.Result.{IsErrAnd}
use Rattle.binfarce.specs.declared.Format.{Format}
use Rattle.binfarce.specs.declared.Format.TheVariants as formats
use Rattle.binfarce.specs.declared.ParseError.{ParseError}
use Rattle.binfarce.specs.declared.SectionFunction.{SectionFunction}
use Rattle.binfarce.specs.declared.SymbolTable.{SymbolTable}
use Rattle.binfarce.specs.declared.SymbolTable.TheVariants.{Symtab}
use Rattle.binfarce.specs.Format.{format_of}
use Rattle.binfarce.specs.MachoSelection as macho
use Rattle.binfarce.specs.Refusal.{Refusal}
use Rattle.binfarce.specs.SectionEntries.{SectionEntry, SelectedSymbols, SelectsSome}
use Rattle.binfarce.specs.Symbol.{Answers}
use Rattle.binfarce.specs.SymbolViews.{HoldsSelected, section_function_view}
use Rattle.binfarce_elf_memory.specs.declared.versions.VersionNames.{VersionNames}
use Rattle.binfarce_tables.specs.ElfReading as elf_reading
use Rattle.binfarce_tables.specs.MachoReading as macho_reading
use Rattle.binfarce_tables.specs.PeReading as pe_reading
use Rattle.binfarce_tools.specs.declared.functions.Selected.{Selected}
use Rattle.binfarce_tools.specs.declared.list.ListError.{ListError}
use Rattle.binfarce_tools.specs.declared.list.ListError.TheVariants as errors
use Rattle.binfarce_tools.specs.declared.tables.Tables.{Tables}
use Rattle.binfarce_tools.specs.declared.tables.Tables.TheVariants as variants
use Rattle.binfarce_tools.specs.Answer.{selected_symbols, selected_answer, MemoryIn, NeedsMemory}
use Rattle.binfarce_tools.specs.Entries.{all_left, GetsAs, GetsIn, HoldsLeft}
use Rattle.binfarce_tools.specs.ListWords.{list_error_of}
use Rattle.binfarce_tools.specs.Tables.{AcceptsTables, AreTablesOf, given_by, may_be_refused, section_names, shares_addresses_of, version_names_of}
use Rattle.binfarce_tools.proofs.Listings.{reported_refusal}
use Rattle.binfarce_tools.proofs.Reported.{Reported}
use Rattle.binfarce_tools.proofs.Selected.{sized_in, unversioned_in, macho_needs}
use Rattle.binfarce_tools.proofs.TablesRead.{of_format}

some_ok : {A : Type 0} {a b : A} → Path (Option (Result A Refusal)) (Some (Ok a)) (Some (Ok b)) → a ≡ b
some_ok e = cc

module _ (which : SymbolTable) (file : List ℕ) (section : Option (List ℕ)) where
  abbrev P : Option (Result SelectedSymbols Refusal) → Result Selected ListError → Type 0
  P answer result = GetsAs HoldsLeft (MemoryIn file section) answer result

  -- function symbols that are those of the file's answer
  pub given : (seen : SelectedSymbols) (value : Selected) → selected_answer which section file ≡ Some (Ok seen) → HoldsLeft seen value → GetsIn which file section (Ok value)
  given seen value is held = subst (λ (a : Option (Result SelectedSymbols Refusal)). P a (Ok value)) (sym is) held

  -- and why there are none
  pub not_given : (N : Result SelectedSymbols Refusal → Type 0) (answer : Result SelectedSymbols Refusal) (e : ParseError) (result : Result Selected ListError) → selected_answer which section file ≡ Some answer
      → (N answer → MemoryIn file section answer) → Reported answer → Answers {X = Vec SectionFunction} HoldsSelected N answer (Err e) → IsErrAnd result (λ f. f ≡ list_error_of e) → GetsIn which file section result
  not_given N answer e result is memory reported answers err =
      subst (λ (a : Option (Result SelectedSymbols Refusal)). P a result) (sym is) (reported_refusal HoldsLeft (MemoryIn file section) answer e result reported (as_left answer memory answers) err)
    where
      as_left : (answer : Result SelectedSymbols Refusal) → (N answer → MemoryIn file section answer) → Answers {X = Vec SectionFunction} HoldsSelected N answer (Err e) → Answers {X = Selected} HoldsLeft (MemoryIn file section) answer (Err e)
      as_left (Ok seen) memory h = (h.0, memory h.1)
      as_left (Err why) memory (inl h) = inl h
      as_left (Err why) memory (inr h) = inr (h.0, memory h.1)

  -- the parts of a Mach-O file that have a section are of a file that needs memory
  pub macho_memory : (t : macho.SelectedTables) (answer : Result SelectedSymbols Refusal) → format_of file ≡ formats.Macho → macho.selected_file_tables section file ≡ Ok t → t.sections.sections ≢ [] → MemoryIn file section answer
  unfolding NeedsMemory
  macho_memory t answer format is need = subst (λ (f : Format). NeedsMemory f file answer) (sym format) (macho_needs file section t is need)

  -- and so are the function symbols of a PE file
  pub pe_memory : (answer : Result SelectedSymbols Refusal) → format_of file ≡ formats.PE → SelectsSome answer → MemoryIn file section answer
  unfolding NeedsMemory
  pe_memory answer format some = subst (λ (f : Format). NeedsMemory f file answer) (sym format) some

  -- a file of an unknown format has no answer
  pub of_unknown : format_of file ≡ formats.Unknown → GetsIn which file section (Err errors.Unknown)
  unfolding selected_symbols
  of_unknown is = subst (λ (a : Option (Result SelectedSymbols Refusal)). P a (Err errors.Unknown)) (sym (of_format which section file formats.Unknown is)) refl

  -- what was made of an answer is that answer
  pub of_made : (functions : Vec SectionFunction) (size : ℕ) (versions : VersionNames) (value : Selected) → AreTablesOf which file section (variants.Made functions size versions) → all_left value.functions ≡ map section_function_view functions.items → value.size ≡ Some size → GetsIn which file section (Ok value)
  unfolding AreTablesOf
  of_made functions size versions value are left sized = subst (λ (a : Option (Result SelectedSymbols Refusal)). P a (Ok value)) (sym are.1) (left ∙ are.2, sized ∙ sym are.3)

  -- what a whole file gives is its own answer for its section by the symbol table
  pub of_whole : (whole named : List ℕ) (result : Result Selected ListError) → (which ≡ Symtab) × (file ≡ whole) × (section ≡ Some named) → GetsIn Symtab whole (Some named) result → GetsIn which file section result
  of_whole whole named result is gets =
      subst (λ (w : SymbolTable). GetsIn w file section result) (sym is.0)
      (subst (λ (s : Option (List ℕ)). GetsIn Symtab file s result) (sym is.2) (subst (λ (f : List ℕ). GetsIn Symtab f (Some named) result) (sym is.1) gets))

  abbrev IsAnswered : Type 0
  IsAnswered = (seen : SelectedSymbols) × (selected_answer which section file ≡ Some (Ok seen))

  abbrev Accepted : Option (Result SelectedSymbols Refusal) → Result Tables ListError → Type 0
  Accepted answer result = GetsAs (λ selected. AreTablesOf which file section) (MemoryIn file section) answer result

  -- tables of an answer are accepted
  pub accepted : (read : Tables) → AreTablesOf which file section read → IsAnswered → AcceptsTables which file section (Ok read)
  accepted read are answered = subst (λ (a : Option (Result SelectedSymbols Refusal)). Accepted a (Ok read)) (sym answered.1) are

  -- what gives function symbols has an answer
  pub is_answered : (value : Selected) → GetsIn which file section (Ok value) → IsAnswered
  is_answered value gets = by_answer (selected_answer which section file) refl gets
    where
      by_answer : (answer : Option (Result SelectedSymbols Refusal)) → selected_answer which section file ≡ answer → P answer (Ok value) → IsAnswered
      by_answer (Some (Ok seen)) is h = (seen, is)
      by_answer (Some (Err why)) is h = absurd h
      by_answer None is h = absurd h

  -- why there are none is why no tables are accepted
  pub not_accepted : (e : ListError) → GetsIn which file section (Err e) → AcceptsTables which file section (Err e)
  not_accepted e gets = by_answer (selected_answer which section file) gets
    where
      by_answer : (answer : Option (Result SelectedSymbols Refusal)) → P answer (Err e) → Accepted answer (Err e)
      by_answer (Some (Ok seen)) h = h
      by_answer (Some (Err why)) h = h
      by_answer None h = h

  -- tables that can't be refused are of an answer
  pub answered : (read : Tables) → AreTablesOf which file section read → may_be_refused read ≡ false → IsAnswered
  unfolding AreTablesOf
  answered (variants.Elf parts) are sure = (elf_reading.parts_view parts, are)
  answered (variants.Macho parts) are sure = (macho.symbols_of (macho_reading.parts_view parts), are.1)
  answered (variants.Pe parts) are sure = (pe_reading.selected_view parts, are.1)
  answered variants.Unknown are sure = absurd cc
  answered (variants.Whole whole named) are sure = absurd cc
  answered (variants.Made functions size versions) are sure = (are.0, are.1)

  -- the sections' names that were read are those of the answer for all sections
  pub names_are : (read : Tables) (seen : SelectedSymbols) → AreTablesOf which file section read → selected_answer which section file ≡ Some (Ok seen) → seen.section_size ≡ None → section_names read ≡ seen.section_name
  unfolding AreTablesOf selected_symbols
  names_are (variants.Elf parts) seen are is none = ap (λ (a : SelectedSymbols). a.section_name) (some_ok (sym are ∙ is))
  names_are (variants.Macho parts) seen are is none = ap (λ (a : SelectedSymbols). a.section_name) (some_ok (sym are.1 ∙ is))
  names_are (variants.Pe parts) seen are is none = ap (λ (a : SelectedSymbols). a.section_name) (some_ok (sym are.1 ∙ is))
  names_are variants.Unknown seen are is none =
      let e : Path (Option (Result SelectedSymbols Refusal)) None (Some (Ok seen)) = sym (of_format which section file formats.Unknown are) ∙ is in absurd cc
  names_are (variants.Whole whole named) seen are is none =
      let never : false ≡ true = sym (ap is_some none) ∙ (sized_in which file section seen is).0 ∙ ap is_some are.2 in absurd cc
  names_are (variants.Made functions size versions) seen are is none =
      let never : None ≡ Some size = sym none ∙ ap (λ (a : SelectedSymbols). a.section_size) (some_ok (sym is ∙ are.1)) ∙ are.3 in absurd cc

  -- they share addresses where those of the answer do
  pub sharing_is : (read : Tables) (seen : SelectedSymbols) → AreTablesOf which file section read → selected_answer which section file ≡ Some (Ok seen) → shares_addresses_of read ≡ seen.shares_addresses
  unfolding AreTablesOf selected_symbols
  sharing_is (variants.Elf parts) seen are is = ap (λ (a : SelectedSymbols). a.shares_addresses) (some_ok (sym are ∙ is))
  sharing_is (variants.Macho parts) seen are is = ap (λ (a : SelectedSymbols). a.shares_addresses) (some_ok (sym are.1 ∙ is))
  sharing_is (variants.Pe parts) seen are is = ap (λ (a : SelectedSymbols). a.shares_addresses) (some_ok (sym are.1 ∙ is))
  sharing_is variants.Unknown seen are is =
      let e : Path (Option (Result SelectedSymbols Refusal)) None (Some (Ok seen)) = sym (of_format which section file formats.Unknown are) ∙ is in absurd cc
  sharing_is (variants.Whole whole named) seen are is = sym ((sized_in which file section seen is).1 (ap is_some are.2))
  sharing_is (variants.Made functions size versions) seen are is =
      let sized = sized_in which file section seen is in
      let same : seen.section_size ≡ Some size = ap (λ (a : SelectedSymbols). a.section_size) (some_ok (sym is ∙ are.1)) ∙ are.3 in
      sym (sized.1 (sym sized.0 ∙ ap is_some same))

  -- the names of versions that were read are those of the answer
  pub versions_are : (read : Tables) (seen : SelectedSymbols) → AreTablesOf which file section read → selected_answer which section file ≡ Some (Ok seen) → version_names_of read ≡ seen.version_name
  unfolding AreTablesOf selected_symbols
  versions_are (variants.Elf parts) seen are is = ap (λ (a : SelectedSymbols). a.version_name) (some_ok (sym are ∙ is))
  versions_are (variants.Macho parts) seen are is = ap (λ (a : SelectedSymbols). a.version_name) (some_ok (sym are.1 ∙ is))
  versions_are (variants.Pe parts) seen are is = ap (λ (a : SelectedSymbols). a.version_name) (some_ok (sym are.1 ∙ is))
  versions_are variants.Unknown seen are is =
      let e : Path (Option (Result SelectedSymbols Refusal)) None (Some (Ok seen)) = sym (of_format which section file formats.Unknown are) ∙ is in absurd cc
  versions_are (variants.Whole whole named) seen are is = sym (unversioned_in which file section seen are.0 is)
  versions_are (variants.Made functions size versions) seen are is =
      fun_ext (λ version. are.4 version) ∙ ap (λ (a : SelectedSymbols). a.version_name) (some_ok (sym are.1 ∙ is))

  -- a text of what the tables give is one of the file's answer, if names count only if there is no size
  pub as_answered : (IsText : SelectedSymbols → Type 0) (read : Tables) (selected : Selected) (seen : SelectedSymbols) → AreTablesOf which file section read → selected_answer which section file ≡ Some (Ok seen) → HoldsLeft seen selected
      → ((entries : List SectionEntry) (size : ℕ) (names other : ℕ → Option (List ℕ)) (shares : Bool) (versions : ℕ → Option (List ℕ)) → IsText (record { entries = entries; section_size = Some size; section_name = names; shares_addresses = shares; version_name = versions })
      → IsText (record { entries = entries; section_size = Some size; section_name = other; shares_addresses = shares; version_name = versions }))
      → IsText (given_by read selected) → IsText seen
  as_answered IsText read selected seen are is held unnamed text = by_size seen.section_size refl (subst Versioned (versions_are read seen are is) (subst Sharing (sharing_is read seen are is) (subst Sized held.1 (subst Having held.0 text))))
    where
      Having : List SectionEntry → Type 0
      Having entries = IsText (record { entries = entries; section_size = selected.size; section_name = section_names read; shares_addresses = shares_addresses_of read; version_name = version_names_of read })

      Sized : Option ℕ → Type 0
      Sized size = IsText (record { entries = seen.entries; section_size = size; section_name = section_names read; shares_addresses = shares_addresses_of read; version_name = version_names_of read })

      Sharing : Bool → Type 0
      Sharing shares = IsText (record { entries = seen.entries; section_size = seen.section_size; section_name = section_names read; shares_addresses = shares; version_name = version_names_of read })

      Versioned : (ℕ → Option (List ℕ)) → Type 0
      Versioned versions = IsText (record { entries = seen.entries; section_size = seen.section_size; section_name = section_names read; shares_addresses = seen.shares_addresses; version_name = versions })

      With : Option ℕ → (ℕ → Option (List ℕ)) → Type 0
      With size names = IsText (record { entries = seen.entries; section_size = size; section_name = names; shares_addresses = seen.shares_addresses; version_name = seen.version_name })

      by_size : (size : Option ℕ) → seen.section_size ≡ size → With seen.section_size (section_names read) → With seen.section_size seen.section_name
      by_size None none text = subst (With seen.section_size) (names_are read seen are is none) text
      by_size (Some n) sized text =
          subst (λ (o : Option ℕ). With o seen.section_name) (sym sized) (unnamed seen.entries n (section_names read) seen.section_name seen.shares_addresses seen.version_name (subst (λ (o : Option ℕ). With o (section_names read)) sized text))
