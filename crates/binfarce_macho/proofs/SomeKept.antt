-- Whether a row is kept of a selected section, as one loop goes over all rows.
use Rattle.std.proofs.Common.{◌≡◌, ◌≢◌, ℕ, zero, suc, ◌+◌, ◌<◌, ◌/◌, Bool, true, false, cond, List, [], length, slice_get, map, unwrap_or, Option, None, Some, refl, sym, ap, subst, ◌∙◌, arith}
use Rattle.std.specs.List.{range_with_len, filter_map}
use Rattle.std.specs.Option.{option_map}
use Rattle.std.proofs.lemmas.List.{length-map}
use Rattle.std.proofs.lemmas.List.FromFn.{get_or-map-range_with_len}
use Rattle.std.proofs.lemmas.List.Sorted.{length_permutation}
use Rattle.binfarce_bytes.specs.SectionEntries.{SectionEntry}
use Rattle.binfarce_bytes.specs.Sizes.{RowAddress, arranged}
use Rattle.binfarce_bytes.proofs.Arranging.{arranged_same}
use Rattle.binfarce_bytes.proofs.SomeListed.{none_listed, some_listed}
use Rattle.binfarce_macho.specs.MachoSections.{NumberedSection, entries_at}
use Rattle.binfarce_macho.specs.MachoSelection.{SelectedSections, entries_of_selected, is_selected, selected_at}
use Rattle.binfarce_macho.specs.MachoSymbols.{Symbols, symbol_of}
use Rattle.binfarce_macho.specs.machine.RawMacho.{function_in, named_in, name_in, row_in}
use Rattle.binfarce_macho.proofs.EachSection.{listed_none, section_listed}
use Rattle.binfarce_macho.proofs.Kept.{empty, some_kept}
use Rattle.binfarce_macho.proofs.SectionLists.{of_none, of_selected}

none_kept : {X : Type 0} (f : ℕ → Option X) (a n : ℕ) → ((j : ℕ) → j < n → f (a + j) ≡ None) → filter_map f (range_with_len a n) ≡ []
none_kept f a zero none = refl
none_kept f a (suc n) none =
    let here : f a ≡ None = subst (λ (m : ℕ). f m ≡ None) (omega arith) (none 0 (omega arith)) in
    rw here (none_kept f (a + 1) n (λ j lt. subst (λ (m : ℕ). f m ≡ None) (omega arith) (none (suc j) (omega arith))))

module _ (selected : SelectedSections) (symbols : Symbols) where
  -- none of the first k rows is kept of a selected section
  abbrev pub NoneBelow : ℕ → Type 0
  NoneBelow k = (i j : ℕ) → j < k → is_selected selected.code i ≡ true → name_in selected.sections symbols i j ≡ None

  abbrev rows : ℕ → List RowAddress
  rows i = filter_map (row_in selected.sections symbols i) (range_with_len 0 (length symbols.rows / 16))

  module _ (i : ℕ) (section : NumberedSection) (at : slice_get selected.sections i ≡ Some section) (is : is_selected selected.code i ≡ true) where
    names : List (List ℕ)
    names = map (λ k. unwrap_or (name_in selected.sections symbols i k) []) (range_with_len 0 (length symbols.rows / 16))

    entry : RowAddress → SectionEntry
    entry = function_in section.extent (i + 1) names (arranged (rows i))

    -- the entries of a section are made of its rows
    made_at : selected_at selected symbols i ≡ map entry (arranged (rows i))
    unfolding names entry
    made_at =
        of_selected selected symbols i (Some section) at is
        ∙ sym (section_listed selected.sections symbols i section names (rows i) at refl
        (λ k name lt e. get_or-map-range_with_len (λ k. unwrap_or (name_in selected.sections symbols i k) []) 0 (length symbols.rows / 16) k k [] lt (omega arith) ∙ ap (λ (o : Option (List ℕ)). unwrap_or o []) e))

    none_at : rows i ≡ [] → selected_at selected symbols i ≡ []
    none_at none = made_at ∙ listed_none entry (rows i) none

    some_at : rows i ≢ [] → selected_at selected symbols i ≢ []
    some_at some none = some (empty (rows i) (omega (arith, length_permutation (rows i) (arranged (rows i)) (arranged_same (rows i)), length-map (arranged (rows i)) entry, ap length (sym made_at ∙ none))))

  -- where none of all rows is kept there is no entry
  pub none_selected : NoneBelow (length symbols.rows / 16) → entries_of_selected selected symbols ≡ []
  unfolding entries_of_selected
  none_selected none = none_listed (selected_at selected symbols) 0 255 (λ i lt. subst (λ (m : ℕ). selected_at selected symbols m ≡ []) (omega arith) (by_test i (is_selected selected.code i) refl))
    where
      none_here : (i j : ℕ) → name_in selected.sections symbols i j ≡ None → row_in selected.sections symbols i j ≡ None
      none_here i j none = ap (option_map (λ (_ : List ℕ). record { address = (symbol_of symbols.rows j).value; row = j })) none

      no_rows : (i : ℕ) → is_selected selected.code i ≡ true → rows i ≡ []
      no_rows i is = none_kept (row_in selected.sections symbols i) 0 (length symbols.rows / 16) (λ j lt. subst (λ (m : ℕ). row_in selected.sections symbols i m ≡ None) (omega arith) (none_here i j (none i j lt is)))

      by_section : (i : ℕ) → is_selected selected.code i ≡ true → (o : Option NumberedSection) → slice_get selected.sections i ≡ o → selected_at selected symbols i ≡ []
      by_section i is None at = of_none selected symbols i at
      by_section i is (Some section) at = none_at i section at is (no_rows i is)

      by_test : (i : ℕ) (b : Bool) → is_selected selected.code i ≡ b → selected_at selected symbols i ≡ []
      by_test i false is = ap (λ (b : Bool). cond b (entries_at symbols (i + 1) (slice_get selected.sections i)) []) is
      by_test i true is = by_section i is (slice_get selected.sections i) refl

  -- where one is kept there is an entry
  pub some_selected : (i k : ℕ) (name : List ℕ) → i < 255 → k < length symbols.rows / 16 → is_selected selected.code i ≡ true → name_in selected.sections symbols i k ≡ Some name → entries_of_selected selected symbols ≢ []
  unfolding entries_of_selected
  some_selected i k name below lt is kept = some_listed (selected_at selected symbols) 0 255 i below (subst (λ (m : ℕ). selected_at selected symbols m ≢ []) (omega arith) (by_section (slice_get selected.sections i) refl))
    where
      row : RowAddress
      row = record { address = (symbol_of symbols.rows k).value; row = k }

      some_row : rows i ≢ []
      some_row = some_kept (row_in selected.sections symbols i) (length symbols.rows / 16) k row (ap (option_map (λ _. row)) kept) lt

      by_section : (o : Option NumberedSection) → slice_get selected.sections i ≡ o → selected_at selected symbols i ≢ []
      by_section None at = absurd (not_both (ap (λ (o : Option NumberedSection). named_in symbols.strings (i + 1) o (symbol_of symbols.rows k)) (sym at) ∙ kept))
        where
          not_both : None ≡ Some name → ⊥
          not_both e = cc
      by_section (Some section) at = some_at i section at is some_row
