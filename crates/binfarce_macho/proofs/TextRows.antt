-- The rows of the text, as a loop lists their entries.
use Rattle.std.proofs.Common.{◌≡◌, ℕ, ◌+◌, ◌<◌, List, [], ◌∷◌, ◌++◌, length, get_or, map, take, Option, None, Some, Result, Ok, Err, refl, sym, ap, ◌∙◌, append_assoc}
use Rattle.std.specs.List.{cons_option}
use Rattle.std.proofs.lemmas.List.{append-nil, map-append}
use Rattle.binfarce_bytes.specs.Refusal.{◌>>=◌, Refusal}
use Rattle.binfarce_bytes.specs.Entries.{Entry, Listed}
use Rattle.binfarce_bytes.specs.declared.functions.FunctionSymbol.{FunctionSymbol}
use Rattle.binfarce_bytes.specs.declared.functions.SectionFunction.{SectionFunction}
use Rattle.binfarce_bytes.specs.declared.sizes.RowAddress as code
use Rattle.binfarce_bytes.specs.RowViews.{row_view, rows_view}
use Rattle.binfarce_bytes.specs.SectionEntries.{SectionEntry, in_section}
use Rattle.binfarce_bytes.specs.Sizes.{RowAddress, arranged}
use Rattle.binfarce_bytes.specs.SymbolViews.{function_view, section_function_view}
use Rattle.binfarce_macho.specs.MachoSymbols.{Extent, Symbols, Located, row_addresses, text_end_of, located_at, located_by, entry_of, kept, answer_of}
use Rattle.binfarce_macho.proofs.Kept.{kept_more, kept_refused, kept_view}

-- what rows add to the entries
module _ (before : List SectionEntry) (f : RowAddress → Result (Option Entry) Refusal) where
  abbrev pub listed : List RowAddress → Result (List SectionEntry) Refusal
  listed rows = kept f rows >>= λ entries. Ok (before ++ in_section 1 entries)

  pub listed_none : listed [] ≡ Ok before
  unfolding kept
  listed_none = ap Ok (append-nil before)

  pub listed_empty : (rows : List RowAddress) → rows ≡ [] → listed (arranged rows) ≡ Ok before
  unfolding arranged
  listed_empty rows none = rw none listed_none

  module _ (rows : List code.RowAddress) (k : ℕ) (d : code.RowAddress) (now : List SectionEntry) (lt : k < length rows) (so_far : listed (rows_view (take k rows)) ≡ Ok now) where
    -- row k adds what is made of it
    listed_more : (o : Option Entry) → f (row_view (get_or rows k d)) ≡ Ok o → listed (rows_view (take (k + 1) rows)) ≡ Ok (now ++ in_section 1 (cons_option o []))
    listed_more o here = by_kept (kept f (rows_view (take k rows))) refl so_far
      where
        by_kept : (r : Result (List Entry) Refusal) → kept f (rows_view (take k rows)) ≡ r → (r >>= λ entries. Ok (before ++ in_section 1 entries)) ≡ Ok now
            → listed (rows_view (take (k + 1) rows)) ≡ Ok (now ++ in_section 1 (cons_option o []))
        by_kept (Err why) e is = absurd cc
        by_kept (Ok us) e is =
            let now_is : before ++ in_section 1 us ≡ now = cc in
            let more : kept f (rows_view (take (k + 1) rows)) ≡ Ok (us ++ cons_option o []) =
            kept_view f row_view (take (k + 1) rows) ∙ kept_more (λ r. f (row_view r)) rows k d us o lt (sym (kept_view f row_view (take k rows)) ∙ e) here in
            ap (λ (r : Result (List Entry) Refusal). r >>= λ entries. Ok (before ++ in_section 1 entries)) more
            ∙ ap Ok (ap (λ (es : List SectionEntry). before ++ es) (map-append (λ (e : Entry). record { section = 1; info = 0; version = 0; entry = e }) us (cons_option o []))
            ∙ sym (append_assoc before (in_section 1 us) (in_section 1 (cons_option o [])))
            ∙ ap (λ (es : List SectionEntry). es ++ in_section 1 (cons_option o [])) now_is)

    pub listed_over : f (row_view (get_or rows k d)) ≡ Ok None → listed (rows_view (take (k + 1) rows)) ≡ Ok now
    listed_over here = listed_more None here ∙ ap Ok (append-nil now)

    pub listed_one : (functions : List SectionFunction) (g : FunctionSymbol) → now ≡ map section_function_view functions → f (row_view (get_or rows k d)) ≡ Ok (Some (function_view g))
        → listed (rows_view (take (k + 1) rows)) ≡ Ok (map section_function_view (functions ++ record { section = 1; info = 0; version = 0; function = g } ∷ []))
    listed_one functions g are here =
        let one : SectionFunction = record { section = 1; info = 0; version = 0; function = g } in
        listed_more (Some (function_view g)) here
        ∙ ap Ok (ap (λ (es : List SectionEntry). es ++ section_function_view one ∷ []) are ∙ sym (map-append section_function_view functions (one ∷ [])))

    -- row k refuses all
    pub listed_refused : (why : Refusal) → f (row_view (get_or rows k d)) ≡ Err why → listed (rows_view rows) ≡ Err why
    listed_refused why here = by_kept (kept f (rows_view (take k rows))) refl so_far
      where
        by_kept : (r : Result (List Entry) Refusal) → kept f (rows_view (take k rows)) ≡ r → (r >>= λ entries. Ok (before ++ in_section 1 entries)) ≡ Ok now → listed (rows_view rows) ≡ Err why
        by_kept (Err w) e is = absurd cc
        by_kept (Ok us) e is =
            ap (λ (r : Result (List Entry) Refusal). r >>= λ entries. Ok (before ++ in_section 1 entries))
            (kept_view f row_view rows ∙ kept_refused (λ r. f (row_view r)) rows k d us why lt (sym (kept_view f row_view (take k rows)) ∙ e) here)

-- the entries of a text
module _ (text : Extent) (symbols : Symbols) where
  abbrev answered : Result Listed Refusal
  answered = located_by text (Some symbols) >>= answer_of

  pub end_refused : (why : Refusal) → text_end_of text ≡ Err why → answered ≡ Err why
  unfolding located_at
  end_refused why e = rw e refl

  module _ (end : ℕ) (is : text_end_of text ≡ Ok end) where
    pub text_located : located_by text (Some symbols) ≡ Ok (Some (record { text_end = end; text_size = text.size; strings = symbols.strings; rows = symbols.rows }))
    unfolding located_at
    text_located = rw is refl

    pub text_listed : listed [] (λ at. entry_of (record { text_end = end; text_size = 0; strings = symbols.strings; rows = symbols.rows }) at) (arranged (row_addresses symbols.rows))
        ≡ (answered >>= λ listed. Ok (in_section 1 listed.entries))
    unfolding answer_of entry_of
    text_listed =
        by_kept (kept (entry_of (record { text_end = end; text_size = text.size; strings = symbols.strings; rows = symbols.rows })) (arranged (row_addresses symbols.rows)))
        ∙ sym (ap (λ (r : Result (Option Located) Refusal). (r >>= answer_of) >>= λ (listed : Listed). Ok (in_section 1 listed.entries)) text_located)
      where
        by_kept : (r : Result (List Entry) Refusal) → (r >>= λ entries. Ok ([] ++ in_section 1 entries)) ≡ ((r >>= λ entries. Ok (record { entries = entries; section_size = text.size })) >>= λ (listed : Listed). Ok (in_section 1 listed.entries))
        by_kept (Err why) = refl
        by_kept (Ok entries) = refl
