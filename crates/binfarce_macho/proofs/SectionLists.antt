-- The sections of a file by their numbers, as a loop lists their entries.
use Rattle.std.proofs.Common.{◌≡◌, ◌≢◌, ℕ, zero, suc, ◌+◌, Bool, true, false, cond, ◌&&◌, nat_lt, List, [], ◌∷◌, ◌++◌, slice_get, take, Option, None, Some, Ok, refl, length, sym, ap, ◌∙◌, arith}
use Rattle.std.specs.List.{range_with_len, flat_map}
use Rattle.std.proofs.lemmas.Grind.{flat_map-append}
use Rattle.std.proofs.lemmas.Bool.{ltb-false}
use Rattle.std.proofs.lemmas.List.{append-nil}
use Rattle.std.proofs.lemmas.Option.{slice_get_past}
use Rattle.binfarce_bytes.specs.Refusal.{Refusal}
use Rattle.binfarce_bytes.specs.SectionEntries.{SectionEntry, unless}
use Rattle.binfarce_bytes.proofs.Rows.{range_more}
use Rattle.binfarce_macho.specs.Macho.{commands, walk}
use Rattle.binfarce_macho.specs.MachoSections.{NumberedSection, section_starts, starts_among, HasSection, entries_at}
use Rattle.binfarce_macho.specs.MachoSelection.{SelectedSections, is_selected, selected_at, entries_of_selected}
use Rattle.binfarce_macho.specs.MachoSymbols.{Symbols}

-- where there is a start there is a section
pub has_start : (file starts : List ℕ) → section_starts file ≡ Ok starts → starts ≢ [] → HasSection file
unfolding section_starts
has_start file starts at some none = by_refusal (walk file).refusal at
  where
    by_refusal : (o : Option Refusal) → unless o (take 255 (starts_among file (commands file).items)) ≡ Ok starts → ⊥
    by_refusal (Some why) at = absurd cc
    by_refusal None at =
        let same : take 255 (starts_among file (commands file).items) ≡ starts = cc in
        some (sym same ∙ ap (take 255) none)

nothing : (b : Bool) → Path (List SectionEntry) (cond b [] []) []
nothing true = refl
nothing false = refl

module _ (selected : SelectedSections) (symbols : Symbols) where
  one_section_more : (k : ℕ) → flat_map (selected_at selected symbols) (range_with_len 0 (k + 1)) ≡ flat_map (selected_at selected symbols) (range_with_len 0 k) ++ selected_at selected symbols k
  one_section_more k =
      ap (flat_map (selected_at selected symbols)) (range_more 0 k ∙ ap (λ (m : ℕ). range_with_len 0 k ++ m ∷ []) (omega arith))
      ∙ flat_map-append (selected_at selected symbols) (range_with_len 0 k) (k ∷ [])
      ∙ ap (λ (xs : List SectionEntry). flat_map (selected_at selected symbols) (range_with_len 0 k) ++ xs) (append-nil (selected_at selected symbols k))

  -- what the section of this index has, where it is selected
  pub of_selected : (k : ℕ) (o : Option NumberedSection) → slice_get selected.sections k ≡ o → is_selected selected.code k ≡ true → selected_at selected symbols k ≡ entries_at symbols (k + 1) o
  of_selected k o at is = ap (λ (b : Bool). cond b (entries_at symbols (k + 1) (slice_get selected.sections k)) []) is ∙ ap (entries_at symbols (k + 1)) at

  -- there is none of this index
  pub of_none : (k : ℕ) → slice_get selected.sections k ≡ None → selected_at selected symbols k ≡ []
  of_none k none = ap (λ (o : Option NumberedSection). cond (is_selected selected.code k) (entries_at symbols (k + 1) o) []) none ∙ nothing (is_selected selected.code k)

  -- or it isn't selected
  pub of_other : (k : ℕ) → (nat_lt k (length selected.sections) && is_selected selected.code k) ≡ false → selected_at selected symbols k ≡ []
  of_other k other = by_test (nat_lt k (length selected.sections)) refl other
    where
      by_test : (b : Bool) → nat_lt k (length selected.sections) ≡ b → (b && is_selected selected.code k) ≡ false → selected_at selected symbols k ≡ []
      by_test false past is = of_none k (slice_get_past selected.sections k (ltb-false k (length selected.sections) past))
      by_test true within is = ap (λ (b : Bool). cond b (entries_at symbols (k + 1) (slice_get selected.sections k)) []) is

  -- what the section of this index adds
  pub section_added : (k : ℕ) (before after : List SectionEntry) → before ≡ flat_map (selected_at selected symbols) (range_with_len 0 k)
      → after ≡ before ++ selected_at selected symbols k → after ≡ flat_map (selected_at selected symbols) (range_with_len 0 (k + 1))
  section_added k before after so_far is = is ∙ ap (λ (es : List SectionEntry). es ++ selected_at selected symbols k) so_far ∙ sym (one_section_more k)

  pub all_added : (k : ℕ) (entries : List SectionEntry) → k ≡ 255 → entries ≡ flat_map (selected_at selected symbols) (range_with_len 0 k) → entries ≡ entries_of_selected selected symbols
  unfolding entries_of_selected
  all_added k entries all is = is ∙ ap (λ (n : ℕ). flat_map (selected_at selected symbols) (range_with_len 0 n)) all

  -- no section has an entry
  pub no_sections : length selected.sections ≡ 0 → entries_of_selected selected symbols ≡ []
  unfolding entries_of_selected
  no_sections none = each 0 255
    where
      each : (a n : ℕ) → flat_map (selected_at selected symbols) (range_with_len a n) ≡ []
      each a zero = refl
      each a (suc n) =
          ap (λ (es : List SectionEntry). es ++ flat_map (selected_at selected symbols) (range_with_len (a + 1) n)) (of_none a (slice_get_past selected.sections a (omega arith))) ∙ each (a + 1) n
