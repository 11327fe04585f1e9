-- What a filter has written is a beginning of a text's replacement.
use Rattle.std.proofs.Common.{◌≡◌, ℕ, List, [], ◌∷◌, ◌++◌, Bool, true, false, refl, sym, ◌∙◌, ap, subst, append_assoc, append-nil, Option, take, drop, length, ◌+◌, ◌-◌, arith, length-drop}
use Rattle.std.proofs.Math.Seq.{take-add}
use Rattle.std.proofs.lemmas.List.{take-append-drop, take_all}
use Rattle.std.specs.Io.KnownBytes.{Appends}
use Rattle.std.proofs.KnownBytes.{Appends-trans}
use Rattle.binfarce_text.specs.Streams.{IsBeginningOf}
use Rattle.binfarce_filtering.specs.Filter.{IsFiltered, IsShownIf, is_run, is_run_byte, is_too_long}
use Rattle.binfarce_filtering.specs.Filter.IsFiltered.{nothing, other_then, run_then}
use Rattle.binfarce_filtering.specs.Continued.{Continues}
use Rattle.binfarce_filtering.specs.FilterViews.{Holds}
use Rattle.binfarce_filtering.specs.declared.filter.TextFilter.{TextFilter}
use Rattle.binfarce_filtering.proofs.Names.{none_read}
use Rattle.binfarce_filtering.proofs.Parts.{kept_so_far, none_is_short, too_long_is_shown, too_long_is_some, too_long_more, too_long_so_far}
use Rattle.binfarce_filtering.proofs.Scans.{run_grows}
use Rattle.binfarce_filtering.proofs.Runs.{filtered_same, one_byte, run_alone, run_and_byte}

abbrev Begins : (full : Bool) (text shown : List ℕ) → Type 0
Begins full text shown = IsBeginningOf (IsFiltered full) text shown

-- nothing replaces no text
none_filtered : (full : Bool) (text filtered : List ℕ) → IsFiltered full text filtered → text ≡ [] → filtered ≡ []
none_filtered full _ _ nothing is = refl
none_filtered full _ _ (other_then b text filtered other rest) is = absurd cc
none_filtered full _ _ (run_then [] shown text filtered run shows ends rest) is =
    let none : shown ≡ [] = none_read full true [] shown (subst (λ b. IsShownIf b full [] shown) none_is_short shows) refl in
    ap (λ (x : List ℕ). x ++ filtered) none ∙ none_filtered full text filtered rest is
none_filtered full _ _ (run_then (b ∷ run) shown text filtered begins shows ends rest) is = absurd cc

-- a beginning of it is one too
less_begins : (full : Bool) (text shown beginning others : List ℕ) → shown ≡ beginning ++ others → Begins full text shown → Begins full text beginning
less_begins full text shown beginning others is begins = (
  begins.0,
  begins.1,
  others ++ begins.2,
  begins.3,
  λ filtered is_replaced. filtered_same full _ _ _ _ refl (ap (λ (x : List ℕ). (x ++ begins.2) ++ filtered) is ∙ ap (λ (x : List ℕ). x ++ filtered) (append_assoc beginning others begins.2)) (begins.4 filtered is_replaced),
)

-- what has been shown whole begins with it
pub whole_begins : (full : Bool) (text shown others : List ℕ) → IsFiltered full text (shown ++ others) → Begins full text shown
whole_begins full text shown others is =
    (text, [], others, sym (append-nil text), λ rest none. filtered_same full _ _ _ _ refl (sym (append-nil (shown ++ others)) ∙ ap (λ (x : List ℕ). (shown ++ others) ++ x) (sym (none_filtered full [] rest none refl))) is)

-- a run that is too long was shown, whatever comes after it
passed_begins : (full : Bool) (before written run part : List ℕ) → Continues full before written → is_run run ≡ true → is_too_long run ≡ true → Begins full (before ++ (run ++ part)) (written ++ run)
passed_begins full before written run [] continues run_is passed =
    subst (λ x. Begins full (before ++ x) (written ++ run)) (sym (append-nil run))
    (whole_begins full (before ++ run) (written ++ run) [] (filtered_same full _ _ _ _ refl (sym (append-nil (written ++ run))) (continues run run (run_alone full run run run_is (too_long_is_shown full run passed)))))
passed_begins full before written run (b ∷ part) continues run_is passed =
    past full before written run b part continues run_is passed (is_run_byte b) refl
    (λ longer. passed_begins full before written (run ++ b ∷ []) part continues longer (too_long_more run (b ∷ []) passed))
  where
    past : (full : Bool) (before written run : List ℕ) (b : ℕ) (part : List ℕ) → Continues full before written → is_run run ≡ true → is_too_long run ≡ true → (t : Bool) → is_run_byte b ≡ t
        → (is_run (run ++ b ∷ []) ≡ true → Begins full (before ++ ((run ++ b ∷ []) ++ part)) (written ++ (run ++ b ∷ []))) → Begins full (before ++ (run ++ b ∷ part)) (written ++ run)
    past full before written run b part continues run_is passed true t again =
        subst (λ x. Begins full (before ++ x) (written ++ run)) (append_assoc run (b ∷ []) part)
        (less_begins full _ _ (written ++ run) (b ∷ []) (sym (append_assoc written run (b ∷ []))) (again (run_grows run (b ∷ []) run_is (too_long_is_some run passed) (one_byte b t))))
    past full before written run b part continues run_is passed false t again = (
      before ++ (run ++ b ∷ []),
      part,
      b ∷ [],
      ap (λ (x : List ℕ). before ++ x) (sym (append_assoc run (b ∷ []) part)) ∙ sym (append_assoc before (run ++ b ∷ []) part),
      λ filtered is.
          filtered_same full _ _ _ _ refl (sym (append_assoc (written ++ run) (b ∷ []) filtered ∙ append_assoc written run (b ∷ filtered)))
          (continues (run ++ b ∷ part) (run ++ b ∷ filtered) (run_and_byte full run run b part filtered run_is (too_long_is_shown full run passed) t is)),
    )

held_by : (full t : Bool) (filter : TextFilter) (text shown part : List ℕ) (holds : Holds full filter text shown) → is_too_long holds.run ≡ t → Begins full (text ++ part) shown
held_by full true filter text shown part holds passed =
    let has = holds.has_shown in
    let written : has.written ++ holds.run ≡ shown = ap (λ (x : List ℕ). has.written ++ x) (sym (too_long_so_far holds.run passed)) ∙ sym has.shown_is in
    let whole : has.before ++ (holds.run ++ part) ≡ text ++ part = sym (append_assoc has.before holds.run part) ∙ ap (λ (x : List ℕ). x ++ part) (sym has.text_is) in
    subst (λ x. Begins full x shown) whole (subst (Begins full (has.before ++ (holds.run ++ part))) written (passed_begins full has.before has.written holds.run part has.continues has.is_run passed))
held_by full false filter text shown part holds kept =
    let has = holds.has_shown in
    let written : shown ≡ has.written = has.shown_is ∙ ap (λ (x : List ℕ). has.written ++ x) (kept_so_far holds.run kept) ∙ append-nil has.written in
    let whole : has.before ++ (holds.run ++ part) ≡ text ++ part = sym (append_assoc has.before holds.run part) ∙ ap (λ (x : List ℕ). x ++ part) (sym has.text_is) in (
      has.before,
      holds.run ++ part,
      [],
      sym whole,
      λ filtered is. filtered_same full _ _ _ _ whole (ap (λ (x : List ℕ). x ++ filtered) (sym written ∙ sym (append-nil shown))) (has.continues (holds.run ++ part) filtered is),
    )

-- the output of a filter is a beginning of the replacement of its text and of any part after it
pub held_begins : (full : Bool) (filter : TextFilter) (text part shown others : List ℕ) → Holds full filter text (shown ++ others) → Begins full (text ++ part) shown
held_begins full filter text part shown others holds = less_begins full (text ++ part) (shown ++ others) shown others refl (held_by full (is_too_long holds.run) filter text (shown ++ others) part holds refl)

-- n further bytes were written
pub appends_further : (old mid new : Option (List ℕ)) (bytes : List ℕ) (at n : ℕ) → Appends old mid (take at bytes) → Appends mid new (take n (take (length bytes - at) (drop at bytes))) → Appends old new (take (at + n) bytes)
appends_further old mid new bytes at n first then =
    let rest : take (length bytes - at) (drop at bytes) ≡ drop at bytes = take_all (length bytes - at) (drop at bytes) (omega (arith, length-drop at bytes)) in
    subst (Appends old new) (ap (λ (x : List ℕ). take at bytes ++ take n x) rest ∙ sym (take-add at n bytes)) (Appends-trans old mid new _ _ first then)

-- bytes were written up to a position
pub cut_at : (old new : Option (List ℕ)) (bytes : List ℕ) (at : ℕ) → Appends old new (take at bytes) → (beginning : List ℕ) × (others : List ℕ) × (bytes ≡ beginning ++ others) × Appends old new beginning
cut_at old new bytes at grown = (take at bytes, drop at bytes, sym (take-append-drop at bytes), grown)
