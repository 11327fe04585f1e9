-- Texts that come in parts.
use Rattle.std.proofs.Common.{◌≡◌, ℕ, ◌<◌, Result, Ok, Err, Bool, cond, true, false, ◌==◌, List, [], ◌∷◌, ◌++◌, length, take, drop, get_or, ◌+◌, refl, sym, ◌∙◌, ap, subst, arith, append_assoc, append-nil, length-append, eqb-true}
use Rattle.std.specs.Prelude.{OnOk}
use Rattle.std.specs.Result.{is_ok}
use Rattle.std.specs.List.{list_all}
use Rattle.std.proofs.lemmas.Bool.{and_parts}
use Rattle.std.proofs.lemmas.Bool.Decides.{nat_tests}
use Rattle.std.proofs.lemmas.List.{take-append-drop, take_more}
use Rattle.std.proofs.lemmas.List.Folds.{list_all-append}
use Rattle.binfarce_filtering.specs.Filter.{IsRead, IsShown, IsShownIf, is_run, is_run_byte, is_too_long}
use Rattle.binfarce_filtering.specs.Continued.{Continues}
use Rattle.binfarce_filtering.specs.FilterViews.{Goes, HasTaken, Holds, IsBetweenRuns, IsDone, IsKept, IsKeptIf, Shows, shown_so_far}
use Rattle.binfarce_filtering.specs.declared.filter.TextFilter.{TextFilter}
use Rattle.binfarce_filtering.proofs.Runs.{continues_run, continues_both, filtered_same, run_alone}
use Rattle.binfarce_filtering.proofs.Scans.{run_grows}

pub too_long_so_far : (run : List ℕ) → is_too_long run ≡ true → shown_so_far run ≡ run
too_long_so_far run is = rw is refl

pub kept_so_far : (run : List ℕ) → is_too_long run ≡ false → shown_so_far run ≡ []
kept_so_far run is = rw is refl

pub none_is_short : is_too_long [] ≡ false
none_is_short = grind (arith, nat_tests)

-- a run that is too long stays as it is
pub too_long_is_shown : (full : Bool) (run : List ℕ) → is_too_long run ≡ true → IsShown full run run
too_long_is_shown full run is = rw is refl

-- and a shorter one as it is read
pub short_is_shown : (full : Bool) (run shown : List ℕ) → is_too_long run ≡ false → IsRead full true run shown → IsShown full run shown
short_is_shown full run shown is read = let P : Bool → Type 0 = λ t. IsShownIf t full run shown in subst P (sym is) read

-- a run that is too long is so with what follows it
pub too_long_more : (run bytes : List ℕ) → is_too_long run ≡ true → is_too_long (run ++ bytes) ≡ true
too_long_more run bytes is = grind (arith, nat_tests, is, length-append run bytes)

pub too_long_is_some : (run : List ℕ) → is_too_long run ≡ true → 0 < length run
too_long_is_some run is = grind (arith, nat_tests, is)

pub some_kept : (run : List ℕ) (len : ℕ) → len ≡ length run → false ≡ (len == 0) → 0 < length run
some_kept run len all is = grind (arith, nat_tests)

pub none_kept : (run : List ℕ) (len : ℕ) → len ≡ length run → true ≡ (len == 0) → run ≡ []
none_kept [] len all is = refl
none_kept (b ∷ run) len all is = let none = eqb-true len 0 (sym is) in absurd (omega (arith, all, none))

-- what a run goes on with is run bytes
more_of_run : (run bytes : List ℕ) → 0 < length run → is_run (run ++ bytes) ≡ true → list_all is_run_byte bytes ≡ true
more_of_run [] bytes some is = absurd (omega (arith, some))
more_of_run (b ∷ run) bytes some is =
    (and_parts (list_all is_run_byte run) (list_all is_run_byte bytes) (sym (list_all-append is_run_byte run bytes) ∙ (and_parts (b == 95) (list_all is_run_byte (run ++ bytes)) is).1)).1

-- what the kept run goes on with, the run goes on with
longer_run : (kept run bytes : List ℕ) → IsKept kept run → is_run run ≡ true → is_run (kept ++ bytes) ≡ true → is_run (run ++ bytes) ≡ true
longer_run kept run bytes is_kept run_is longer = either (is_too_long kept) refl is_kept
  where
    either : (t : Bool) → is_too_long kept ≡ t → IsKeptIf t kept run → is_run (run ++ bytes) ≡ true
    either true too_long is = run_grows run bytes run_is (too_long_is_some run is) (more_of_run kept bytes (too_long_is_some kept too_long) longer)
    either false short is = let P : List ℕ → Type 0 = λ x. is_run (x ++ bytes) ≡ true in subst P is longer

-- the run goes on
abbrev pub Grows : TextFilter → List ℕ → List ℕ → List ℕ → Type 0
Grows old kept bytes more = (run : List ℕ) → IsKept old.run.items run → IsKept kept (run ++ bytes) × (shown_so_far (run ++ bytes) ≡ shown_so_far run ++ more)

abbrev pub Takes : TextFilter → Bool → List ℕ → List ℕ → List ℕ → Type 0
Takes old own kept part more = (full : Bool) (text shown : List ℕ) → Holds full old text shown → HasTaken own kept full (text ++ part) (shown ++ more)

pub grown : (old : TextFilter) (own : Bool) (kept bytes more : List ℕ) → own ≡ old.full → is_run (old.run.items ++ bytes) ≡ true → Grows old kept bytes more → Takes old own kept bytes more
grown old own kept bytes more same longer grows full text shown holds =
    let has = holds.has_shown in
    let run = holds.run in
    record {
      run = run ++ bytes;
      full_is = same ∙ holds.full_is;
      is_kept = (grows run holds.is_kept).0;
      has_shown = record {
        before = has.before;
        written = has.written;
        text_is = ap (λ (x : List ℕ). x ++ bytes) has.text_is ∙ append_assoc has.before run bytes;
        is_run = longer_run old.run.items run bytes holds.is_kept has.is_run longer;
        continues = has.continues;
        shown_is = ap (λ (x : List ℕ). x ++ more) has.shown_is ∙ append_assoc has.written (shown_so_far run) more ∙ ap (λ (x : List ℕ). has.written ++ x) (sym (grows run holds.is_kept).1);
      };
    }

kept_if : (t : Bool) (kept run : List ℕ) → is_too_long kept ≡ t → IsKeptIf t kept run → IsKept kept run
kept_if t kept run is has = let Kept : Bool → Type 0 = λ b. IsKeptIf b kept run in subst Kept (sym is) has

if_kept : (t : Bool) (kept run : List ℕ) → is_too_long kept ≡ t → IsKept kept run → IsKeptIf t kept run
if_kept t kept run is has = let Kept : Bool → Type 0 = λ b. IsKeptIf b kept run in subst Kept is has

-- a filter whose run is too long shows more of it
pub passes_on : (old : TextFilter) (bytes : List ℕ) → is_too_long old.run.items ≡ true → Grows old old.run.items bytes bytes
passes_on old bytes too_long run kept =
    let is : is_too_long run ≡ true = if_kept true old.run.items run too_long kept in
    let longer : is_too_long (run ++ bytes) ≡ true = too_long_more run bytes is in (
      kept_if true old.run.items (run ++ bytes) too_long longer,
      too_long_so_far (run ++ bytes) longer ∙ ap (λ (x : List ℕ). x ++ bytes) (sym (too_long_so_far run is)),
    )

same_kept : (old : TextFilter) (all bytes run : List ℕ) → is_too_long old.run.items ≡ false → all ≡ old.run.items ++ bytes → IsKept old.run.items run → (all ≡ run ++ bytes) × (is_too_long run ≡ false)
same_kept old all bytes run short longer kept =
    let is : old.run.items ≡ run = if_kept false old.run.items run short kept in
    (longer ∙ ap (λ (x : List ℕ). x ++ bytes) is, ap is_too_long (sym is) ∙ short)

-- the run may still hold names
pub keeps_on : (old : TextFilter) (all bytes : List ℕ) → is_too_long old.run.items ≡ false → all ≡ old.run.items ++ bytes → is_too_long all ≡ false → Grows old all bytes []
keeps_on old all bytes short longer still run kept =
    let same = same_kept old all bytes run short longer kept in (
      kept_if false all (run ++ bytes) still same.0,
      kept_so_far (run ++ bytes) (ap is_too_long (sym same.0) ∙ still) ∙ ap (λ (x : List ℕ). x ++ []) (sym (kept_so_far run same.1)),
    )

-- the run is too long now
pub starts_to_pass : (old : TextFilter) (all bytes : List ℕ) → is_too_long old.run.items ≡ false → all ≡ old.run.items ++ bytes → is_too_long all ≡ true → Grows old all bytes all
starts_to_pass old all bytes short longer too_long run kept =
    let same = same_kept old all bytes run short longer kept in
    let is : is_too_long (run ++ bytes) ≡ true = ap is_too_long (sym same.0) ∙ too_long in (
      kept_if true all (run ++ bytes) too_long is,
      too_long_so_far (run ++ bytes) is ∙ sym same.0 ∙ ap (λ (x : List ℕ). x ++ all) (sym (kept_so_far run same.1)),
    )

between_kept : (kept : List ℕ) → kept ≡ [] → IsKept kept []
between_kept kept none = kept_if false kept [] (ap is_too_long none ∙ none_is_short) none

-- the run ends, and another byte comes after it
pub ended : (old : TextFilter) (own : Bool) (kept bytes : List ℕ) (b : ℕ) (more : List ℕ) → own ≡ old.full → kept ≡ [] → is_run (old.run.items ++ bytes) ≡ true → is_run_byte b ≡ false → Shows old bytes more
    → Takes old own kept (bytes ++ b ∷ []) (more ++ b ∷ [])
ended old own kept bytes b more same none longer is_other ends full text shown holds =
    let has = holds.has_shown in
    let run = holds.run in
    let end = ends run holds.is_kept in
    let is_shown : IsShown full (run ++ bytes) end.0 = let P : Bool → Type 0 = λ f. IsShown f (run ++ bytes) end.0 in subst P holds.full_is end.1 in
    let now : List ℕ = has.before ++ ((run ++ bytes) ++ b ∷ []) in
    let then : List ℕ = has.written ++ (end.0 ++ b ∷ []) in
    record {
      run = [];
      full_is = same ∙ holds.full_is;
      is_kept = between_kept kept none;
      has_shown = record {
        before = now;
        written = then;
        text_is = ap (λ (x : List ℕ). x ++ (bytes ++ b ∷ [])) has.text_is ∙ append_assoc has.before run (bytes ++ b ∷ [])
            ∙ ap (λ (x : List ℕ). has.before ++ x) (sym (append_assoc run bytes (b ∷ []))) ∙ sym (append-nil now);
        is_run = refl;
        continues = continues_run full has.before has.written (run ++ bytes) end.0 b has.continues (longer_run old.run.items run bytes holds.is_kept has.is_run longer) is_shown is_other;
        shown_is = ap (λ (x : List ℕ). x ++ (more ++ b ∷ [])) has.shown_is ∙ append_assoc has.written (shown_so_far run) (more ++ b ∷ [])
            ∙ ap (λ (x : List ℕ). has.written ++ x) (sym (append_assoc (shown_so_far run) more (b ∷ [])) ∙ ap (λ (x : List ℕ). x ++ b ∷ []) end.2)
            ∙ sym (append-nil then) ∙ ap (λ (x : List ℕ). then ++ x) (sym (kept_so_far [] none_is_short));
      };
    }

-- a run that was too long ends as it is
pub passed_shows : (filter : TextFilter) (bytes : List ℕ) → is_too_long filter.run.items ≡ true → Shows filter bytes bytes
passed_shows filter bytes too_long run kept =
    let is : is_too_long run ≡ true = if_kept true filter.run.items run too_long kept in (
      run ++ bytes,
      too_long_is_shown filter.full (run ++ bytes) (too_long_more run bytes is),
      ap (λ (x : List ℕ). x ++ bytes) (too_long_so_far run is),
    )

-- a run that was kept ends as it is shown
pub kept_shows : (filter : TextFilter) (bytes all shown : List ℕ) → is_too_long filter.run.items ≡ false → all ≡ filter.run.items ++ bytes → IsShown filter.full all shown → Shows filter bytes shown
kept_shows filter bytes all shown short are is_shown run kept =
    let same = same_kept filter all bytes run short are kept in
    let P : List ℕ → Type 0 = λ x. IsShown filter.full x shown in
    (shown, subst P same.0 is_shown, ap (λ (x : List ℕ). x ++ shown) (kept_so_far run same.1))

-- between runs any part of a text may come that ends in none
pub goes_between : (filter : TextFilter) (part shown : List ℕ) → IsBetweenRuns filter → Continues filter.full part shown → Goes filter filter part shown
goes_between filter part more between continues full text shown holds =
    let has = holds.has_shown in
    let is : filter.run.items ≡ holds.run = if_kept false filter.run.items holds.run (ap is_too_long between ∙ none_is_short) holds.is_kept in
    let none : holds.run ≡ [] = sym is ∙ between in
    let P : Bool → Type 0 = λ f. Continues f part more in
    let text_is : text ≡ has.before = has.text_is ∙ ap (λ (x : List ℕ). has.before ++ x) none ∙ append-nil has.before in
    let shown_is : shown ≡ has.written =
    has.shown_is ∙ ap (λ (x : List ℕ). has.written ++ shown_so_far x) none ∙ ap (λ (x : List ℕ). has.written ++ x) (kept_so_far [] none_is_short) ∙ append-nil has.written in
    record {
      run = [];
      full_is = holds.full_is;
      is_kept = between_kept filter.run.items between;
      has_shown = record {
        before = has.before ++ part;
        written = has.written ++ more;
        text_is = ap (λ (x : List ℕ). x ++ part) text_is ∙ sym (append-nil (has.before ++ part));
        is_run = refl;
        continues = continues_both full has.before has.written part more has.continues (subst P holds.full_is continues);
        shown_is = ap (λ (x : List ℕ). x ++ more) shown_is ∙ sym (append-nil (has.written ++ more)) ∙ ap (λ (x : List ℕ). (has.written ++ more) ++ x) (sym (kept_so_far [] none_is_short));
      };
    }

-- one part after another
pub goes_both : (a b c : TextFilter) (part after more others : List ℕ) → Goes a b part more → Goes b c after others → Goes a c (part ++ after) (more ++ others)
goes_both a b c part after more others first second full text shown holds =
    let then = second full (text ++ part) (shown ++ more) (first full text shown holds) in
    let P : List ℕ → Type 0 = λ x. Holds full c x (shown ++ (more ++ others)) in
    let Q : List ℕ → Type 0 = λ x. Holds full c ((text ++ part) ++ after) x in
    subst P (append_assoc text part after) (subst Q (append_assoc shown more others) then)

-- what a call holds that succeeds
pub on_ok : {T E : Type 0} (P Q : Type 0) (r : Result T E) → (P → Q) → OnOk r P → OnOk r Q
on_ok P Q (Ok x) f h = f h
on_ok P Q (Err e) f h = tt

-- two parts that are a text
pub both_parts : (old mid new : TextFilter) (front back text out first second more last : List ℕ) → front ++ back ≡ text
    → Goes old mid front more → Goes mid new back last → first ≡ out ++ more → second ≡ first ++ last
    → (shown : List ℕ) × Goes old new text shown × (second ≡ out ++ shown)
both_parts old mid new front back text out first second more last whole a b c d =
    let P : List ℕ → Type 0 = λ x. Goes old new x (more ++ last) in (
      more ++ last,
      subst P whole (goes_both old mid new front back more last a b),
      d ∙ ap (λ (x : List ℕ). x ++ last) c ∙ append_assoc out more last,
    )

-- the byte after a run, and what is left
pub after_run : (part rest : List ℕ) (len b : ℕ) → len < length part → b ≡ get_or part len 0 → rest ≡ drop (len + 1) part → (take len part ++ b ∷ []) ++ rest ≡ part
after_run part rest len b within here from =
    ap (λ (x : List ℕ). (take len part ++ b ∷ []) ++ x) from
    ∙ ap (λ (x : List ℕ). x ++ drop (len + 1) part) (ap (λ (n : ℕ). take len part ++ n ∷ []) here ∙ sym (take_more part len 0 within)) ∙ take-append-drop (len + 1) part

-- where the run ends, all of the text has been shown
pub done : (filter : TextFilter) (more : List ℕ) → Shows filter [] more → IsDone filter more
done filter more ends full text shown holds =
    let has = holds.has_shown in
    let run = holds.run in
    let end = ends run holds.is_kept in
    let P : Bool → Type 0 = λ f. IsShown f run end.0 in
    let Q : List ℕ → Type 0 = λ x. IsShown filter.full x end.0 in
    let is_shown : IsShown full run end.0 = subst P holds.full_is (subst Q (append-nil run) end.1) in
    let written : has.written ++ end.0 ≡ shown ++ more =
    ap (λ (x : List ℕ). has.written ++ x) (sym end.2) ∙ sym (append_assoc has.written (shown_so_far run) more) ∙ ap (λ (x : List ℕ). x ++ more) (sym has.shown_is) in
    filtered_same full _ _ _ _ (sym has.text_is) written (has.continues run end.0 (run_alone full run end.0 has.is_run is_shown))

-- a call that ends in one more write
pub last_write : {T E : Type 0} (r : Result T E) (Kind : List ℕ → Type 0) (old new more : List ℕ) → new ≡ cond (is_ok r) (old ++ more) old → Kind more → OnOk r ((x : List ℕ) × Kind x × (new ≡ old ++ x))
last_write (Ok x) Kind old new more is kind = (more, kind, is)
last_write (Err e) Kind old new more is kind = tt
