-- The sizes of a PE file's symbols, which their addresses give.
use Rattle.std.proofs.Common.{◌≡◌, ℕ, List, [], ◌∷◌, All, Option, Some, None, Result, Ok, Err, sym, ap, ◌∙◌}
use Rattle.std.specs.Global.{Vec}
use Rattle.std.specs.Option.{option_map}
use Rattle.std.specs.List.{filter_map, cons_option}
use Rattle.std.proofs.lemmas.List.Elements.{All-nil, All-cons, All-contains}
use Rattle.binfarce_names.specs.declared.demangle.SymbolData.{SymbolData}
use Rattle.binfarce_bytes.specs.Refusal.{◌>>=◌, Refusal}
use Rattle.binfarce_bytes.specs.Sizes.{RowAddress, arranged, addresses_of}
use Rattle.binfarce_bytes.specs.Entries.{Listed, Answers, ListsSome}
use Rattle.binfarce.specs.Symbol.{AreSymbolsOf, HoldsSymbols}
use Rattle.binfarce_pe.specs.Pe.{Section}
use Rattle.binfarce_pe.specs.PeSymbols.{CoffTable, function_name, kept_rows, size_among, entry_of, entries_of, text_section, symbol_table, pe_answer}
use Rattle.binfarce.specs.PeSizes.{EqualAddressesEqualSizes}

-- each symbol's size is what its own address gives
sizes_are : (table : CoffTable) (index : ℕ) (members : List ℕ) (rows : List RowAddress) (symbols : List SymbolData) → AreSymbolsOf (filter_map (entry_of table index members) rows) symbols
    → All (λ s. s.size ≡ size_among members s.address) symbols
sizes_are table index members [] [] all = All-nil (λ s. s.size ≡ size_among members s.address)
sizes_are table index members [] (y ∷ ys) all = absurd all
sizes_are table index members (r ∷ rows) symbols all = by_name (function_name table index r.row) symbols (λ ys rest. sizes_are table index members rows ys rest) all
  where
    by_name : (o : Option (List ℕ)) (ys : List SymbolData)
        → ((zs : List SymbolData) → AreSymbolsOf (filter_map (entry_of table index members) rows) zs → All (λ s. s.size ≡ size_among members s.address) zs)
        → AreSymbolsOf (cons_option (option_map (λ (name : List ℕ). record { name = name; address = r.address; size = size_among members r.address }) o) (filter_map (entry_of table index members) rows)) ys
        → All (λ s. s.size ≡ size_among members s.address) ys
    by_name None ys rest all = rest ys all
    by_name (Some name) [] rest all = absurd all
    by_name (Some name) (y ∷ ys) rest all =
        All-cons (λ s. s.size ≡ size_among members s.address) y ys (all.0.size ∙ ap (size_among members) (sym all.0.address)) (rest ys all.1)

-- symbols of equal address have equal sizes
equal_sizes : (table : CoffTable) (index text_size : ℕ) (symbols : List SymbolData) → AreSymbolsOf (entries_of table index text_size) symbols → EqualAddressesEqualSizes symbols
unfolding entries_of
equal_sizes table index text_size symbols all a b has_a has_b same =
    let members = text_size ∷ addresses_of (kept_rows table index) in
    let sizes = sizes_are table index members (arranged (kept_rows table index)) symbols all in
    All-contains (λ s. s.size ≡ size_among members s.address) symbols a sizes has_a ∙ ap (size_among members) same ∙ sym (All-contains (λ s. s.size ≡ size_among members s.address) symbols b sizes has_b)

-- at equal addresses the symbols of an answer have equal sizes
pub sizes_agree : (file : List ℕ) (symbols : Vec SymbolData) (size : ℕ) → Answers HoldsSymbols ListsSome (pe_answer file) (Ok (symbols, size)) → EqualAddressesEqualSizes symbols.items
unfolding pe_answer
sizes_agree file symbols size holds = by_text (text_section file) holds
  where
    listed : Section → CoffTable → Listed
    listed text table = record { entries = entries_of table text.index text.size_of_raw_data; section_size = text.size_of_raw_data }

    by_table : (text : Section) (table : Result CoffTable Refusal) → Answers HoldsSymbols ListsSome (table >>= λ table. Ok (listed text table)) (Ok (symbols, size)) → EqualAddressesEqualSizes symbols.items
    by_table text (Ok table) h = equal_sizes table text.index text.size_of_raw_data symbols.items h.0
    by_table text (Err e) h = absurd h

    by_text : (text : Result Section Refusal) → Answers HoldsSymbols ListsSome (text >>= λ text. symbol_table file >>= λ table. Ok (listed text table)) (Ok (symbols, size)) → EqualAddressesEqualSizes symbols.items
    by_text (Ok text) h = by_table text (symbol_table file) h
    by_text (Err e) h = absurd h
