-- The rows of a symbol table read back, each where it was written.
use Rattle.std.proofs.Common.{◌≡◌, ℕ, ◌+◌, ◌*◌, ◌^◌, ◌<◌, Bool, List, [], ◌∷◌, ◌++◌, length, replicate, refl, sym, ap, ap₂, ◌∙◌, append_assoc, arith, false}
use Rattle.std.specs.List.{range_with_len, AllByRecursion, filter_map, cons_option, flat_map}
use Rattle.std.proofs.lemmas.Bool.{lt-leb}
use Rattle.std.proofs.lemmas.List.{length-append, length-replicate}
use Rattle.binfarce.specs.declared.ByteOrder.{ByteOrder}
use Rattle.binfarce.specs.Field.{Field, value_at}
use Rattle.binfarce.specs.Elf.{ElfClass, SymbolRow}
use Rattle.binfarce.specs.ElfSymbols.{symbol_at, entry_of}
use Rattle.binfarce.specs.Symbol.{Entry}
use Rattle.binfarce_image.specs.declared.image.ElfLayout.{ElfLayout}
use Rattle.binfarce_image.specs.declared.image.Row.{Row}
use Rattle.binfarce_image.specs.Image.{class_of, order_of, symbol_numbers, symbol_bytes}
use Rattle.binfarce_image.specs.ImageSymbols.{RowFits, symbol_of}
use Rattle.binfarce_image.proofs.Lengths.{symbol_fits, length-symbol_bytes}
use Rattle.binfarce_image.proofs.Fields.{IsPut, field_back}
use Rattle.binfarce_image.proofs.Classes.{SymbolPut, is_class}

next_row : (i size : ℕ) → i * size + size ≡ (i + 1) * size
next_row i size = grind arith

module _ (layout : ElfLayout) where
  abbrev class : ElfClass
  class = class_of layout

  abbrev order : ByteOrder
  order = order_of layout

  -- one field of one row
  field_of_symbol : (front behind : List ℕ) (start : ℕ) (row : Row) (f : Field) (n bound : ℕ) → length front ≡ start → n < bound
      → IsPut class.symbol_length f (symbol_numbers class row) n bound → value_at order (front ++ (symbol_bytes class order row ++ behind)) start f ≡ n
  unfolding symbol_bytes
  field_of_symbol front behind start row f n bound at small put =
      field_back order front (replicate class.symbol_length 0) behind f (symbol_numbers class row) start class.symbol_length n bound at (length-replicate class.symbol_length 0) (symbol_fits layout row) small put

  -- one row
  symbol_back : (front behind : List ℕ) (start : ℕ) (row : Row) → RowFits row → length front ≡ start
      → symbol_at class order (front ++ (symbol_bytes class order row ++ behind)) start ≡ symbol_of row
  unfolding symbol_at
  symbol_back front behind start row fits at =
      let put : SymbolPut class row = (is_class layout).symbol_put row in
      same_row
      (field_of_symbol front behind start row class.symbol.name row.name (2 ^ 32) at fits.name put.name)
      (field_of_symbol front behind start row class.symbol.value row.address (2 ^ 32) at fits.address put.value)
      (field_of_symbol front behind start row class.symbol.size row.size (2 ^ 32) at fits.size put.size)
      (field_of_symbol front behind start row class.symbol.info row.info (2 ^ 8) at fits.info put.info)
      (field_of_symbol front behind start row class.symbol.other row.other (2 ^ 8) at fits.other put.other)
      (field_of_symbol front behind start row class.symbol.section row.section (2 ^ 16) at fits.section put.section)
    where
      same_row : {a b c d e f a' b' c' d' e' f' : ℕ} → a ≡ a' → b ≡ b' → c ≡ c' → d ≡ d' → e ≡ e' → f ≡ f'
          → Path (SymbolRow ℕ) (record { name = a; value = b; size = c; info = d; other = e; section = f }) (record { name = a'; value = b'; size = c'; info = d'; other = e'; section = f' })
      same_row p q r s t u = cc

  -- the entries of the rows that are found from this index on are those of the rows that were written
  pub rows_back : (strings : List ℕ) (index : ℕ) (bytes front : List ℕ) (i : ℕ) (rows : List Row) → bytes ≡ front ++ flat_map (symbol_bytes class order) rows → length front ≡ i * class.symbol_length
      → AllByRecursion RowFits rows
      → filter_map (λ k. entry_of strings index (symbol_at class order bytes (k * class.symbol_length))) (range_with_len i (length rows)) ≡ filter_map (λ row. entry_of strings index (symbol_of row)) rows
  rows_back strings index bytes front i [] split_is at fits = refl
  rows_back strings index bytes front i (row ∷ rows) split_is at fits =
      let start = i * class.symbol_length in
      let written = symbol_bytes class order row in
      let rest = flat_map (symbol_bytes class order) rows in
      let here : symbol_at class order bytes start ≡ symbol_of row = ap (λ (xs : List ℕ). symbol_at class order xs start) split_is ∙ symbol_back front rest start row fits.0 at in
      let further : length (front ++ written) ≡ (i + 1) * class.symbol_length =
      length-append front written ∙ ap (λ (n : ℕ). n + length written) at ∙ ap (λ (n : ℕ). start + n) (length-symbol_bytes layout order row) ∙ next_row i class.symbol_length in
      let others = rows_back strings index bytes (front ++ written) (i + 1) rows (split_is ∙ sym (append_assoc front written rest)) further fits.1 in
      ap (λ (s : SymbolRow ℕ). cons_option (entry_of strings index s) (filter_map (λ k. entry_of strings index (symbol_at class order bytes (k * class.symbol_length))) (range_with_len (i + 1) (length rows)))) here
      ∙ ap (λ (xs : List Entry). cons_option (entry_of strings index (symbol_of row)) xs) others
