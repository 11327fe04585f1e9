-- The function symbols of the text without their sections, and of all sections.
use Rattle.std.proofs.Common.{◌≡◌, ◌≢◌, ℕ, zero, suc, ◌+◌, ◌*◌, ◌<◌, min, Bool, true, false, cond, List, [], ◌∷◌, ◌++◌, codes, map, Option, Some, None, Result, Ok, Err, IsErrAnd, inl, refl, sym, ap, subst, ◌∙◌, arith}
use Rattle.std.specs.Global.{Vec}
use Rattle.std.specs.Prelude.{find}
use Rattle.std.specs.Option.{option_map}
use Rattle.std.specs.List.{range_with_len, flat_map, filter_map, cons_option}
use Rattle.binfarce_bytes.specs.Field.{number_in}
use Rattle.binfarce_bytes.specs.Number.{bytes_at}
use Rattle.binfarce_bytes.specs.Refusal.{◌>>=◌, Refusal, refusal_of, required, symbols_section_is_missing}
use Rattle.binfarce_bytes.specs.Text.{padded_text}
use Rattle.binfarce_bytes.specs.Walk.{first, found_or_end}
use Rattle.binfarce_bytes.specs.declared.error.ParseError.{ParseError}
use Rattle.binfarce_bytes.specs.declared.error.ParseError.TheVariants.{OutOfMemory}
use Rattle.binfarce_bytes.specs.declared.functions.SectionFunction.{SectionFunction}
use Rattle.binfarce_bytes.specs.Entries.{Entry, Listed, Answers, ListsSome}
use Rattle.binfarce_bytes.specs.SymbolViews.{section_function_view}
use Rattle.binfarce_bytes.specs.SectionEntries.{SectionEntry, SelectedSymbols, in_section, unless}
use Rattle.binfarce_pe.specs.Pe.{Section, section_at, section_fields, section_length, characteristics_at, is_named}
use Rattle.binfarce_pe.specs.PeParts.{TextPlace, SectionTable, places_of, section_table, section_in, table_walk, text_place, whole_in}
use Rattle.binfarce_pe.specs.PeSelection.{Rules, SelectedSections, HasSection, HasHeader, IsWhole, the_text, in_memory, base_at, code_section, code_of, memory_size, IsWithin, rules_of, moved, section_entries, entries_by, symbols_of, selected_answer}
use Rattle.binfarce_pe.specs.PeSymbols.{CoffTable, text_section, symbol_table, entries_of, pe_answer}
use Rattle.binfarce_pe.specs.PeRules.{text_rules, entries_under}
use Rattle.binfarce_pe.proofs.TextRules.{text_entries_are}
use Rattle.binfarce_pe.proofs.Walks.{text_of}

without_section : (n : ℕ) (es : List Entry) → map (λ e. e.entry) (in_section n (map (moved (λ value. value)) es) ++ []) ≡ es
without_section n [] = refl
without_section n (e ∷ es) = ap (λ (rest : List Entry). e ∷ rest) (without_section n es)

text_entries : (text : TextPlace) (symbols : CoffTable) → map (λ e. e.entry) (entries_by (rules_of (the_text text)) symbols) ≡ entries_of symbols text.index text.size
text_entries text symbols =
    without_section (text.index + 1) (entries_under symbols (text_rules text.index text.size)) ∙ text_entries_are symbols text.index text.size

-- the answer of the text, from the entries that its rules give
module _ (file : List ℕ) where
  pub answer_is : (r : Result TextPlace Refusal) → text_place (section_table file) ≡ r
      → pe_answer file ≡ (r >>= λ text. symbol_table file >>= λ symbols. Ok (record { entries = entries_of symbols text.index text.size; section_size = text.size }))
  unfolding pe_answer
  answer_is r at = by_section (text_section file) ∙ ap (λ (t : Result Section Refusal). steps (t >>= place)) (sym (text_of file (section_table file) refl)) ∙ ap steps at
    where
      place : Section → Result TextPlace Refusal
      place text = Ok (record { index = text.index; size = text.size_of_raw_data })

      steps : Result TextPlace Refusal → Result Listed Refusal
      steps r = r >>= λ text. symbol_table file >>= λ symbols. Ok (record { entries = entries_of symbols text.index text.size; section_size = text.size })

      by_section : (t : Result Section Refusal) → (t >>= λ text. symbol_table file >>= λ table. Ok (record { entries = entries_of table text.index text.size_of_raw_data; section_size = text.size_of_raw_data })) ≡ steps (t >>= place)
      by_section (Ok text) = refl
      by_section (Err why) = refl

  pub text_refused : (why : Refusal) → text_place (section_table file) ≡ Err why → pe_answer file ≡ Err why
  text_refused why at = answer_is (Err why) at

  module _ (text : TextPlace) (at : text_place (section_table file) ≡ Ok text) where
    pub symbols_refused : (why : Refusal) → symbol_table file ≡ Err why → pe_answer file ≡ Err why
    symbols_refused why is = answer_is (Ok text) at ∙ ap (λ (r : Result CoffTable Refusal). r >>= λ symbols. Ok (record { entries = entries_of symbols text.index text.size; section_size = text.size })) is

    pub text_answered : (symbols : CoffTable) → symbol_table file ≡ Ok symbols
        → pe_answer file ≡ Ok (record { entries = map (λ e. e.entry) (entries_by (rules_of (the_text text)) symbols); section_size = text.size })
    text_answered symbols is =
        answer_is (Ok text) at ∙ ap (λ (r : Result CoffTable Refusal). r >>= λ symbols. Ok (record { entries = entries_of symbols text.index text.size; section_size = text.size })) is
        ∙ ap (λ (es : List Entry). Ok (record { entries = es; section_size = text.size })) (sym (text_entries text symbols))

-- where there is an entry, there is a section
none_of : (rules : Rules) (symbols : CoffTable) → rules.count ≡ 0 → entries_by rules symbols ≡ []
none_of rules symbols none = ap (λ (n : ℕ). flat_map (section_entries rules symbols) (range_with_len rules.first n)) none

of_whole : (base : Option ℕ) (sections : SectionTable) (why : Option Refusal) (table : Result CoffTable Refusal) (selected : SelectedSymbols)
    → ((unless why sections >>= λ sections. Ok (in_memory base sections None)) >>= λ chosen. table >>= λ symbols. Ok (symbols_of chosen symbols)) ≡ Ok selected → selected.entries ≢ [] → sections.count ≢ 0
of_whole base sections (Some why) table selected is some none = absurd cc
of_whole base sections None (Err e) selected is some none = absurd cc
of_whole base sections None (Ok symbols) selected is some none =
    let same : symbols_of (in_memory base sections None) symbols ≡ selected = cc in
    some (ap (λ (s : SelectedSymbols). s.entries) (sym same) ∙ none_of (rules_of (in_memory base sections None)) symbols none)

pub has_section : (file : List ℕ) (selected : SelectedSymbols) → selected_answer None file ≡ Ok selected → selected.entries ≢ [] → HasSection file
unfolding selected_answer
has_section file selected is some = of_whole (base_at file (places_of file)) (section_table file) (table_walk (section_table file)).refusal (symbol_table file) selected is some

-- each section that is selected has a header
pub has_header : (chosen : SelectedSections) (at : ℕ) → IsWhole chosen → at < (rules_of chosen).count → HasHeader chosen ((rules_of chosen).first + at)
has_header (the_text text) at whole within = tt
has_header (in_memory base sections None) at whole within = omega (arith, whole.0, within)
has_header (in_memory base sections (Some code)) at whole within = omega (arith, whole.0, whole.1, within)

-- a section that is found is one of the table's
module _ (table : SectionTable) (accepts : Section → Bool) where
  abbrev found_in : ℕ → ℕ → Option Section
  found_in k n = find accepts (filter_map (section_in table) (range_with_len k n))

  found_below : (k n : ℕ) (s : Section) → found_in k n ≡ Some s → s.index < k + n
  unfolding section_at
  found_below k zero s is = absurd cc
  found_below k (suc n) s is =
      by_name (padded_text (bytes_at table.bytes (table.offset + k * section_length + section_fields.name.offset) section_fields.name.width)) (λ e. found_below (k + 1) n s e) is
    where
      header : List ℕ → Section
      header name = record {
        name = name;
        virtual_size = number_in table.bytes (table.offset + k * section_length) section_fields.virtual_size;
        virtual_address = number_in table.bytes (table.offset + k * section_length) section_fields.virtual_address;
        size_of_raw_data = number_in table.bytes (table.offset + k * section_length) section_fields.size_of_raw_data;
        pointer_to_raw_data = number_in table.bytes (table.offset + k * section_length) section_fields.pointer_to_raw_data;
        characteristics = characteristics_at table.bytes (table.offset + k * section_length);
        index = k;
      }

      by_test : (name : List ℕ) (b : Bool) → (found_in (k + 1) n ≡ Some s → s.index < k + 1 + n) → cond b (Some (header name)) (found_in (k + 1) n) ≡ Some s → s.index < k + suc n
      by_test name true next e = let same : header name ≡ s = cc in omega (arith, ap (λ (s : Section). s.index) same)
      by_test name false next e = omega (arith, next e)

      by_name : (name : Option (List ℕ)) → (found_in (k + 1) n ≡ Some s → s.index < k + 1 + n) → find accepts (cons_option (option_map header name) (filter_map (section_in table) (range_with_len (k + 1) n))) ≡ Some s → s.index < k + suc n
      by_name None next e = omega (arith, next e)
      by_name (Some name) next e = by_test name (accepts (header name)) next e

pub code_below : (table : SectionTable) (code : Section) → code_section table ≡ Some code → code.index < table.count
unfolding table_walk
code_below table code is = omega (arith, found_below table (is_named (codes ".text")) 0 (min table.count (whole_in table)) code is)

pub code_within : (section : Option (List ℕ)) (table : SectionTable) (code : Option TextPlace) → code_of section table ≡ Ok code → IsWithin code table.count
code_within None table code is = let none : None ≡ code = cc in subst (λ (c : Option TextPlace). IsWithin c table.count) none tt
code_within (Some name) table code is = by_item (code_section table) refl is
  where
    by_item : (item : Option Section) → code_section table ≡ item → (required symbols_section_is_missing item >>= λ (s : Section). Ok (Some (record { index = s.index; size = memory_size table s.index }))) ≡ Ok code → IsWithin code table.count
    by_item None at e = absurd cc
    by_item (Some s) at e =
        let same : Some (record { index = s.index; size = memory_size table s.index }) ≡ code = cc in
        subst (λ (c : Option TextPlace). IsWithin c table.count) same (code_below table s at)

-- what a search over the sections finds is the first of them
pub code_found : (table : SectionTable) (o : Option Section) → first (is_named (codes ".text")) (table_walk table) ≡ Ok o → code_section table ≡ o
code_found table o is = by_item (code_section table) (table_walk table).refusal is
  where
    by_item : (item : Option Section) (end : Option Refusal) → found_or_end item end ≡ Ok o → item ≡ o
    by_item (Some s) end e = cc
    by_item None None e = cc
    by_item None (Some why) e = absurd cc

pub code_refused : (table : SectionTable) (why : Refusal) → first (is_named (codes ".text")) (table_walk table) ≡ Err why → code_section table ≡ None
code_refused table why is = by_item (code_section table) (table_walk table).refusal is
  where
    by_item : (item : Option Section) (end : Option Refusal) → found_or_end item end ≡ Err why → item ≡ None
    by_item (Some s) end e = absurd cc
    by_item None end e = refl

-- the function symbols of the text, and its size
abbrev pub HoldsText : Listed → Vec SectionFunction × ℕ → Type 0
HoldsText listed given = (map (λ e. e.entry) (map section_function_view given.0.items) ≡ listed.entries) × (given.1 ≡ listed.section_size)

module _ (answer : Result Listed Refusal) where
  pub text_err : (error : ParseError) (result : Result (Vec SectionFunction × ℕ) ParseError) → answer ≡ Err (refusal_of error) → IsErrAnd result (λ e. e ≡ error) → Answers HoldsText ListsSome answer result
  text_err error (Ok value) at is = absurd is
  text_err error (Err e) at is = subst (λ (a : Result Listed Refusal). Answers {X = Vec SectionFunction × ℕ} HoldsText ListsSome a (Err e)) (sym at) (inl (ap refusal_of is))

  pub text_memory : (entries : List SectionEntry) (size : ℕ) (result : Result (Vec SectionFunction × ℕ) ParseError) → answer ≡ Ok (record { entries = map (λ e. e.entry) entries; section_size = size }) → entries ≢ []
      → IsErrAnd result (λ e. e ≡ OutOfMemory) → Answers HoldsText ListsSome answer result
  text_memory entries size (Ok value) at some is = absurd is
  text_memory entries size (Err e) at some is =
      subst (λ (a : Result Listed Refusal). Answers {X = Vec SectionFunction × ℕ} HoldsText ListsSome a (Err e)) (sym at) (ap refusal_of is, alone entries some)
    where
      alone : (entries : List SectionEntry) → entries ≢ [] → map (λ e. e.entry) entries ≢ []
      alone [] some = absurd (some refl)
      alone (e ∷ es) some = λ none. cc

  pub text_ok : (entries : List SectionEntry) (size : ℕ) (functions : Vec SectionFunction) → answer ≡ Ok (record { entries = map (λ e. e.entry) entries; section_size = size }) → map section_function_view functions.items ≡ entries
      → Answers HoldsText ListsSome answer (Ok (functions, size))
  text_ok entries size functions at are =
      subst (λ (a : Result Listed Refusal). Answers HoldsText ListsSome a (Ok (functions, size))) (sym at) (ap (map (λ (e : SectionEntry). e.entry)) are, refl)
