-- The answer of the text, from the steps to it.
use Rattle.std.proofs.Common.{◌≡◌, ◌≢◌, ℕ, List, [], ◌∷◌, map, Option, Some, None, Result, Ok, Err, IsErrAnd, inl, inr, refl, sym, ap, subst, ◌∙◌}
use Rattle.std.specs.Global.{Vec}
use Rattle.binfarce_bytes.specs.declared.error.ParseError.{ParseError}
use Rattle.binfarce_bytes.specs.declared.functions.FunctionSymbol.{FunctionSymbol}
use Rattle.binfarce_bytes.specs.declared.functions.SectionFunction.{SectionFunction}
use Rattle.binfarce_bytes.specs.Refusal.{◌>>=◌, Refusal, refusal_of}
use Rattle.binfarce_bytes.specs.Entries.{Entry, Listed, Answers}
use Rattle.binfarce_bytes.specs.SectionEntries.{SectionEntry, in_section}
use Rattle.binfarce_bytes.specs.Sizes.{arranged}
use Rattle.binfarce_bytes.specs.SymbolViews.{function_view, section_function_view, HoldsFunctions}
use Rattle.binfarce_macho.specs.MachoSelection.{SomeAddress}
use Rattle.binfarce_macho.specs.MachoSymbols.{SymtabCommand, Extent, Symbols, Located, text_extent, table_of, symbols_by, text_end_of, located_by, located_at, located, entry_of, kept, row_addresses, answer_of, macho_answer, HasAddress}
use Rattle.binfarce_macho.specs.machine.RawMacho.{HoldsInFirst}
use Rattle.binfarce_macho.proofs.MachoAnswers.{needs_address}

-- the value has the entries of the text, and its size
abbrev pub HoldsText : Listed → Vec SectionFunction × ℕ → Type 0
HoldsText listed given = (map (λ e. e.entry) (map section_function_view given.0.items) ≡ listed.entries) × (given.1 ≡ listed.section_size)

-- from entries with section number 1
module _ (N M : Type 0) (now : List SectionEntry) (a : Result (List SectionEntry) Refusal) (b : Result Listed Refusal) (same : a ≡ (b >>= λ listed. Ok (in_section 1 listed.entries))) where
  abbrev Given : List SectionEntry → Unit {0} → Type 0
  Given entries x = now ≡ entries

  pub first_error : (error : ParseError) (result : Result (Vec SectionFunction) ParseError) → (N → M) → Answers Given (λ _. N) a (Err error) → IsErrAnd result (λ e. e ≡ error) → Answers HoldsInFirst (λ _. M) b result
  first_error error (Ok value) more given is = absurd is
  first_error error (Err e) more given is = by_answer b (subst (λ (r : Result (List SectionEntry) Refusal). Answers Given (λ _. N) r (Err error)) same given)
    where
      by_answer : (b : Result Listed Refusal) → Answers Given (λ _. N) (b >>= λ listed. Ok (in_section 1 listed.entries)) (Err error) → Answers {X = Vec SectionFunction} HoldsInFirst (λ _. M) b (Err e)
      by_answer (Ok listed) h = (ap refusal_of is ∙ h.0, more h.1)
      by_answer (Err why) (inl refused) = inl (ap refusal_of is ∙ refused)
      by_answer (Err why) (inr both) = inr (ap refusal_of is ∙ both.0, more both.1)

  pub first_given : (functions : Vec SectionFunction) → ((entries : List SectionEntry) → now ≡ entries → map section_function_view functions.items ≡ entries)
      → Answers Given (λ _. N) a (Ok tt) → Answers HoldsInFirst (λ _. M) b (Ok functions)
  first_given functions holds given = by_answer b (subst (λ (r : Result (List SectionEntry) Refusal). Answers Given (λ _. N) r (Ok tt)) same given)
    where
      by_answer : (b : Result Listed Refusal) → Answers Given (λ _. N) (b >>= λ listed. Ok (in_section 1 listed.entries)) (Ok tt) → Answers {X = Vec SectionFunction} HoldsInFirst (λ _. M) b (Ok functions)
      by_answer (Ok listed) h = holds (in_section 1 listed.entries) h
      by_answer (Err why) h = h

-- the size of an answer is the text's
size_is : (text : Extent) (symbols : Symbols) (listed : Listed) → (located_by text (Some symbols) >>= answer_of) ≡ Ok listed → text.size ≡ listed.section_size
unfolding located_at answer_of
size_is text symbols listed is = by_end (text_end_of text) is
  where
    by_kept : (r : Result (List Entry) Refusal) → (r >>= λ entries. Ok (record { entries = entries; section_size = text.size })) ≡ Ok listed → text.size ≡ listed.section_size
    by_kept (Err why) e = absurd cc
    by_kept (Ok entries) e =
        let same : record { entries = entries; section_size = text.size } ≡ listed = cc in ap (λ (l : Listed). l.section_size) same

    by_end : (r : Result ℕ Refusal) → (((r >>= λ text_end. Ok (record { text_end = text_end; text_size = text.size; strings = symbols.strings; rows = symbols.rows })) >>= λ found. Ok (Some found)) >>= answer_of) ≡ Ok listed
        → text.size ≡ listed.section_size
    by_end (Err why) e = absurd cc
    by_end (Ok end) e = by_kept (kept (entry_of (record { text_end = end; text_size = text.size; strings = symbols.strings; rows = symbols.rows })) (arranged (row_addresses symbols.rows))) e

entries_alone : (entries : List Entry) → map (λ e. e.entry) (in_section 1 entries) ≡ entries
entries_alone [] = refl
entries_alone (e ∷ entries) = ap (λ (es : List Entry). e ∷ es) (entries_alone entries)

module _ (file : List ℕ) where
  -- a step is refused
  pub text_refused : (why : Refusal) → text_extent file ≡ Err why → macho_answer file ≡ Err why
  unfolding macho_answer located
  text_refused why at = rw at refl

  module _ (text : Extent) (at : text_extent file ≡ Ok text) where
    pub table_refused : (why : Refusal) → table_of file ≡ Err why → macho_answer file ≡ Err why
    unfolding macho_answer located
    table_refused why is = rw (at, is) refl

    module _ (table : Option (SymtabCommand ℕ)) (tables : table_of file ≡ Ok table) where
      pub symbols_refused : (why : Refusal) → symbols_by file table ≡ Err why → macho_answer file ≡ Err why
      unfolding macho_answer located
      symbols_refused why is = rw (at, tables, is) refl

      -- without a symbol table there are no entries
      pub nothing_listed : symbols_by file table ≡ Ok None → macho_answer file ≡ Ok (record { entries = []; section_size = 0 })
      unfolding macho_answer located answer_of
      nothing_listed none = rw (at, tables, none) refl

      module _ (symbols : Symbols) (is : symbols_by file table ≡ Ok (Some symbols)) where
        located_is : located file ≡ located_by text (Some symbols)
        unfolding located
        located_is = rw (at, tables, is) refl

        answer_is : macho_answer file ≡ (located_by text (Some symbols) >>= answer_of)
        unfolding macho_answer
        answer_is = ap (λ (r : Result (Option Located) Refusal). r >>= answer_of) located_is

        needs : SomeAddress (located_by text (Some symbols)) → HasAddress file
        needs = by_location (located_by text (Some symbols)) located_is
          where
            by_location : (l : Result (Option Located) Refusal) → located file ≡ l → SomeAddress l → HasAddress file
            by_location (Ok (Some found)) e some = record { found = found; is_located = e; some = some }
            by_location (Ok None) e some = absurd some
            by_location (Err why) e some = absurd some

        pub text_error : (error : ParseError) (result : Result (Vec SectionFunction × ℕ) ParseError)
            → Answers {X = Vec SectionFunction} HoldsInFirst (λ _. SomeAddress (located_by text (Some symbols))) (located_by text (Some symbols) >>= answer_of) (Err error)
            → IsErrAnd result (λ e. e ≡ error) → Answers HoldsText (λ _. HasAddress file) (macho_answer file) result
        text_error error (Ok value) given err = absurd err
        text_error error (Err e) given err =
            subst (λ (a : Result Listed Refusal). Answers {X = Vec SectionFunction × ℕ} HoldsText (λ _. HasAddress file) a (Err e)) (sym answer_is) (by_answer (located_by text (Some symbols) >>= answer_of) given)
          where
            by_answer : (a : Result Listed Refusal) → Answers {X = Vec SectionFunction} HoldsInFirst (λ _. SomeAddress (located_by text (Some symbols))) a (Err error)
                → Answers {X = Vec SectionFunction × ℕ} HoldsText (λ _. HasAddress file) a (Err e)
            by_answer (Ok listed) h = (ap refusal_of err ∙ h.0, needs h.1)
            by_answer (Err why) (inl refused) = inl (ap refusal_of err ∙ refused)
            by_answer (Err why) (inr both) = inr (ap refusal_of err ∙ both.0, needs both.1)

        pub text_given : (functions : Vec SectionFunction) → Answers HoldsInFirst (λ _. SomeAddress (located_by text (Some symbols))) (located_by text (Some symbols) >>= answer_of) (Ok functions)
            → Answers HoldsText (λ _. HasAddress file) (macho_answer file) (Ok (functions, text.size))
        text_given functions given =
            subst (λ (a : Result Listed Refusal). Answers HoldsText (λ _. HasAddress file) a (Ok (functions, text.size))) (sym answer_is) (by_answer (located_by text (Some symbols) >>= answer_of) refl given)
          where
            by_answer : (a : Result Listed Refusal) → (located_by text (Some symbols) >>= answer_of) ≡ a → Answers HoldsInFirst (λ _. SomeAddress (located_by text (Some symbols))) a (Ok functions)
                → Answers HoldsText (λ _. HasAddress file) a (Ok (functions, text.size))
            by_answer (Err why) e h = h
            by_answer (Ok listed) e h = (ap (map (λ e. e.entry)) h ∙ entries_alone listed.entries, size_is text symbols listed e)

  -- without their sections
  module _ (functions : Vec SectionFunction) (size : ℕ) (given : Answers HoldsText (λ _. HasAddress file) (macho_answer file) (Ok (functions, size))) where
    pub alone_given : (alone : Vec FunctionSymbol) → map function_view alone.items ≡ map (λ e. e.entry) (map section_function_view functions.items)
        → Answers HoldsFunctions (λ _. HasAddress file) (macho_answer file) (Ok (alone, size))
    alone_given alone are = by_answer (macho_answer file) given
      where
        by_answer : (a : Result Listed Refusal) → Answers HoldsText (λ _. HasAddress file) a (Ok (functions, size)) → Answers HoldsFunctions (λ _. HasAddress file) a (Ok (alone, size))
        by_answer (Err why) h = h
        by_answer (Ok listed) h = (are ∙ h.0, h.1)

    -- where there are some, the symbol table has an address
    pub text_needs : functions.items ≢ [] → HasAddress file
    text_needs some = by_items functions.items refl
      where
        by_answer : (f : SectionFunction) (others : List SectionFunction) → functions.items ≡ f ∷ others → (a : Result Listed Refusal) → macho_answer file ≡ a
            → Answers HoldsText (λ _. HasAddress file) a (Ok (functions, size)) → HasAddress file
        by_answer f others are (Err why) is h = absurd h
        by_answer f others are (Ok listed) is h =
            needs_address file listed (section_function_view f).entry (map (λ e. e.entry) (map section_function_view others)) is
            (sym h.0 ∙ ap (λ (fs : List SectionFunction). map (λ e. e.entry) (map section_function_view fs)) are)

        by_items : (fs : List SectionFunction) → functions.items ≡ fs → HasAddress file
        by_items [] none = absurd (some none)
        by_items (f ∷ others) are = by_answer f others are (macho_answer file) refl given

  pub alone_error : (error : ParseError) (result : Result (Vec FunctionSymbol × ℕ) ParseError) → Answers {X = Vec SectionFunction × ℕ} HoldsText (λ _. HasAddress file) (macho_answer file) (Err error)
      → IsErrAnd result (λ e. e ≡ error) → Answers HoldsFunctions (λ _. HasAddress file) (macho_answer file) result
  alone_error error (Ok value) given is = absurd is
  alone_error error (Err e) given is = by_answer (macho_answer file) given
    where
      by_answer : (a : Result Listed Refusal) → Answers {X = Vec SectionFunction × ℕ} HoldsText (λ _. HasAddress file) a (Err error) → Answers {X = Vec FunctionSymbol × ℕ} HoldsFunctions (λ _. HasAddress file) a (Err e)
      by_answer (Ok listed) h = (ap refusal_of is ∙ h.0, h.1)
      by_answer (Err why) (inl refused) = inl (ap refusal_of is ∙ refused)
      by_answer (Err why) (inr both) = inr (ap refusal_of is ∙ both.0, both.1)
