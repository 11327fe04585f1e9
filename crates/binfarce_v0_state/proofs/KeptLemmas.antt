-- What was printed since a mark may be kept, and what is kept is what would be printed again.
use Rattle.std.proofs.Common.{◌≡◌, ℕ, ◌+◌, ◌-◌, ◌≤◌, Bool, true, false, if◌then◌else◌, ◌&&◌, not, List, [], ◌∷◌, ◌++◌, Option, Some, None, max, min, length, refl, ap, sym, ◌∙◌, arith, nat_le, ◌<◌, drop, length-drop, length-append, append_assoc, append-nil, subst}
use Rattle.std.proofs.lemmas.List.{drop_at, take_all, drop-append-le, take-append-le}
use Rattle.std.proofs.lemmas.Bool.{and_parts}
use Rattle.std.proofs.lemmas.Bool.Decides.{nat_tests}
use Rattle.std.specs.List.{All}
use Rattle.std.proofs.lemmas.List.Elements.{All-append, All-cons, All-nil}
use Rattle.binfarce_v0_state.specs.declared.fragments.Fragment as fragment
use Rattle.std.specs.Prelude.{slice_range}
use Rattle.binfarce_v0_grammar.specs.Identifiers.{UndisambiguatedIdentifier}
use Rattle.binfarce_v0_state.specs.TreeTexts.{Position}
use Rattle.binfarce_v0_grammar.specs.Tree.{path_root, type_root}
use Rattle.binfarce_v0_state.specs.machine.Counted.{counted, grown, is_whole}
use Rattle.binfarce_v0_state.specs.machine.Printing.{State, Printing, with_state, heard, readers, into, back_to, has_room}
use Rattle.binfarce_v0_state.specs.machine.Kept.{Production, PathProduction, TypeProduction, ConstProduction, TreeOf, Unfolds, text_of, steps_of, height_of, left_open_of, read, Kept, IsKept, IsMark, MayKeep, raised, lowered}
use Rattle.binfarce_v0_state.specs.declared.fragments.Mark as mark
use Rattle.binfarce_v0_state.proofs.Counting.{counted_apart, counted_more, counted_whole, grown_whole}
use Rattle.binfarce_v0_state.proofs.States.{shown}
use Rattle.binfarce_v0_state.proofs.SoundForms.{readers_sound}
use Rattle.binfarce_v0_state.proofs.Complete.{path_complete, type_complete, const_complete}
use Rattle.binfarce_v0_state.proofs.Lowered.{low, readers_low}

raised_lowered : (levels_left : ℕ) (s : State) → lowered s.least_levels_left (raised levels_left s) ≡ s
raised_lowered levels_left s =
    let e : min s.least_levels_left (max s.least_levels_left levels_left) ≡ s.least_levels_left = omega arith in ap (λ k. record s { least_levels_left = k }) e

slice_grown : (old more : List ℕ) (start end : ℕ) → end ≤ length old → slice_range (old ++ more) start end ≡ slice_range old start end
slice_grown old more start end h = by (nat_le start (length old)) refl
  where
    by : (b : Bool) → nat_le start (length old) ≡ b → slice_range (old ++ more) start end ≡ slice_range old start end
    by true e =
        let l : start ≤ length old = grind (arith, nat_tests) in
        rw (drop-append-le start old more l) (take-append-le (end - start) (drop start old) more (omega (arith, h, length-drop start old)))
    by false e =
        let l : length old < start = grind (arith, nat_tests) in
        let z : end - start ≡ 0 = omega arith in
        rw z refl

-- what is kept stays where more is written
pub kept_behind : (part : List ℕ) (full : Bool) (old new more trimmed new_trimmed more_trimmed : List ℕ) (fs : List fragment.Fragment) → new ≡ old ++ more → new_trimmed ≡ trimmed ++ more_trimmed → All (IsKept part full old trimmed) fs → All (IsKept part full new new_trimmed) fs
kept_behind part full old new more trimmed new_trimmed more_trimmed fs e t h =
    rw (e, t) (λ k d l. let f = h k d l in record { tree = f.tree; after = f.after; is = f.is; within = omega (arith, f.within, length-append old more); text_is = λ hears. slice_grown old more _ _ f.within ∙ f.text_is hears; trimmed_within = omega (arith, f.trimmed_within, length-append trimmed more_trimmed); trimmed_is = λ hears. slice_grown trimmed more_trimmed _ _ f.trimmed_within ∙ f.trimmed_is hears; steps_is = f.steps_is; height_is = f.height_is; open_is = f.open_is })

-- where both texts have the same end, and more is written there
pub grown_both : (part : List ℕ) (full : Bool) (complete trimmed old new more : List ℕ) (fs : List fragment.Fragment) → new ≡ old ++ more → All (IsKept part full (complete ++ old) (trimmed ++ old)) fs → All (IsKept part full (complete ++ new) (trimmed ++ new)) fs
grown_both part full complete trimmed old new more fs e h =
    kept_behind part full (complete ++ old) (complete ++ new) more (trimmed ++ old) (trimmed ++ new) more fs (ap (λ x. complete ++ x) e ∙ sym (append_assoc complete old more)) (ap (λ x. trimmed ++ x) e ∙ sym (append_assoc trimmed old more)) h

-- where each text has what they ended with, and more
pub grown_apart : (part : List ℕ) (full : Bool) (complete trimmed old new_complete new_trimmed new more more_trimmed : List ℕ) (fs : List fragment.Fragment) → new_complete ≡ (complete ++ old) ++ more → new_trimmed ≡ (trimmed ++ old) ++ more_trimmed → new ≡ [] → All (IsKept part full (complete ++ old) (trimmed ++ old)) fs → All (IsKept part full (new_complete ++ new) (new_trimmed ++ new)) fs
grown_apart part full complete trimmed old new_complete new_trimmed new more more_trimmed fs c t e h =
    rw (e, append-nil new_complete, append-nil new_trimmed) (kept_behind part full (complete ++ old) new_complete more (trimmed ++ old) new_trimmed more_trimmed fs c t h)

-- with the least number of levels counted anew
pub path_anew : (part : List ℕ) (levels_left : ℕ) (position : Position) (binder_depth : ℕ) (s : State) → low s.least_levels_left ((readers part levels_left).path position binder_depth (raised levels_left s)) ≡ (readers part levels_left).path position binder_depth s
path_anew part levels_left position binder_depth s =
    sym ((readers_low s.least_levels_left part levels_left).path position binder_depth (raised levels_left s)) ∙ ap ((readers part levels_left).path position binder_depth) (raised_lowered levels_left s)

pub type_anew : (part : List ℕ) (levels_left binder_depth : ℕ) (s : State) → low s.least_levels_left ((readers part levels_left).ty binder_depth (raised levels_left s)) ≡ (readers part levels_left).ty binder_depth s
type_anew part levels_left binder_depth s =
    sym ((readers_low s.least_levels_left part levels_left).ty binder_depth (raised levels_left s)) ∙ ap ((readers part levels_left).ty binder_depth) (raised_lowered levels_left s)

pub constant_anew : (part : List ℕ) (levels_left : ℕ) (s : State) → low s.least_levels_left ((readers part levels_left).constant (raised levels_left s)) ≡ (readers part levels_left).constant s
constant_anew part levels_left s =
    sym ((readers_low s.least_levels_left part levels_left).constant (raised levels_left s)) ∙ ap ((readers part levels_left).constant) (raised_lowered levels_left s)

-- what a reader of a sort finds
record Found (part : List ℕ) (production : Production) (binder_depth levels_left steps_left : ℕ) (at : Option ℕ) (limit_exceeded : Bool) (r : TreeOf production × State) : Type 0 where
  is : Unfolds production part r.0 at binder_depth r.1.at
  height : height_of production r.0 ≤ levels_left
  steps : r.1.steps_left + steps_of production r.0 ≡ steps_left
  before : limit_exceeded ≡ false

found : (part : List ℕ) (levels_left : ℕ) (production : Production) (binder_depth : ℕ) (s : State) → (read (readers part levels_left) production binder_depth s).1.limit_exceeded ≡ false → Found part production binder_depth levels_left s.steps_left s.at s.limit_exceeded (read (readers part levels_left) production binder_depth s)
found part levels_left (PathProduction position) binder_depth s limit_exceeded =
    let f = (readers_sound part levels_left).path position binder_depth s limit_exceeded in
    record { is = f.is; height = f.height; steps = f.steps; before = f.before }
found part levels_left TypeProduction binder_depth s limit_exceeded =
    let f = (readers_sound part levels_left).ty binder_depth s limit_exceeded in
    record { is = f.is; height = f.height; steps = f.steps; before = f.before }
found part levels_left ConstProduction binder_depth s limit_exceeded =
    let f = (readers_sound part levels_left).constant s limit_exceeded in
    record { is = f.is; height = f.height; steps = f.steps; before = f.before }

abbrev root_of : (production : Production) → TreeOf production → Option UndisambiguatedIdentifier
root_of (PathProduction position) t = path_root t
root_of TypeProduction t = type_root t
root_of ConstProduction t = None

complete : (production : Production) (t : TreeOf production) (part : List ℕ) (l binder_depth : ℕ) (s : State) (after : Option ℕ) → s.limit_exceeded ≡ false → Unfolds production part t s.at binder_depth after → height_of production t ≤ l → steps_of production t ≤ s.steps_left → read (readers part l) production binder_depth s ≡ (t, shown (λ full. text_of production full t binder_depth) (root_of production t) (height_of production t) (steps_of production t) after l s)
complete (PathProduction position) t part l binder_depth s after o is h n = path_complete t part l position binder_depth s after o is h n
complete TypeProduction t part l binder_depth s after o is h n = type_complete t part l binder_depth s after o is h n
complete ConstProduction t part l binder_depth s after o is h n = const_complete t part l s after o is h n

cut_behind : (a b : List ℕ) → slice_range (a ++ b) (length a) (length (a ++ b)) ≡ b
cut_behind a b = rw (drop_at a b (length a) refl) (take_all _ b (omega (arith, length-append a b)))

-- a whole text has all that was written
all_written : (most later : Option ℕ) (old more new : List ℕ) → later ≡ most → new ≡ grown most old more → is_whole later new ≡ true → new ≡ old ++ more
all_written most later old more new same written whole =
    let P : Option ℕ → Type 0 = λ m. is_whole m new ≡ true in
    let Q : List ℕ → Type 0 = λ x. is_whole most x ≡ true in
    written ∙ grown_whole most old more (subst Q written (subst P same whole))

to_keep : (part : List ℕ) (levels_left : ℕ) (production : Production) (binder_depth : ℕ) (s : State) (at after : ℕ) (r : TreeOf production × State) → r ≡ read (readers part levels_left) production binder_depth s → s.at ≡ Some at → r.1.at ≡ Some after → levels_left ≤ s.least_levels_left → r.1.limit_exceeded ≡ false → has_room r.1 ≡ true → Kept part r.1.full r.1.text r.1.trimmed production at binder_depth (length s.text) (length r.1.text) (length s.trimmed) (length r.1.trimmed) (s.steps_left - r.1.steps_left) (levels_left - r.1.least_levels_left) (left_open_of production r.0) r.1.muted
to_keep part levels_left production binder_depth s at after r er e ea high limit_exceeded room =
    let known : (read (readers part levels_left) production binder_depth s).1.limit_exceeded ≡ false = rw (← er) limit_exceeded in
    let f : Found part production binder_depth levels_left s.steps_left s.at s.limit_exceeded r = rw er (found part levels_left production binder_depth s known) in
    let t = r.0 in
    let text = text_of production s.full t binder_depth in
    let trimmed = text_of production false t binder_depth in
    let same = er ∙ complete production t part levels_left binder_depth s r.1.at f.before f.is f.height (omega (arith, f.steps)) in
    let muted : r.1.muted ≡ s.muted = ap (λ x. x.1.muted) same in
    let full : r.1.full ≡ s.full = ap (λ x. x.1.full) same in
    let most : r.1.most ≡ s.most = ap (λ x. x.1.most) same in
    let whole = and_parts (is_whole r.1.most r.1.text) (is_whole r.1.most r.1.trimmed) room in
    let written : r.1.muted ≡ false → r.1.text ≡ s.text ++ text = λ hears. all_written s.most r.1.most s.text text r.1.text most (ap (λ x. x.1.text) same ∙ ap (λ m. grown s.most s.text (heard m text)) (sym muted ∙ hears)) whole.0 in
    let trimmed_written : r.1.muted ≡ false → r.1.trimmed ≡ s.trimmed ++ trimmed = λ hears. all_written s.most r.1.most s.trimmed trimmed r.1.trimmed most (ap (λ x. x.1.trimmed) same ∙ ap (λ m. grown s.most s.trimmed (heard m trimmed)) (sym muted ∙ hears)) whole.1 in
    let least_levels_left : r.1.least_levels_left ≡ min s.least_levels_left (levels_left - height_of production t) = ap (λ x. x.1.least_levels_left) same in
    record {
      tree = t;
      after = after;
      is = rw (← e, ← ea) f.is;
      within = omega arith;
      text_is = λ hears. rw (written hears, full) (cut_behind s.text text);
      trimmed_within = omega arith;
      trimmed_is = λ hears. rw (trimmed_written hears) (cut_behind s.trimmed trimmed);
      steps_is = omega (arith, f.steps);
      height_is = omega (arith, least_levels_left, f.height, high);
      open_is = refl;
    }

high_enough : (levels_left least_levels_left : ℕ) → levels_left ≤ max least_levels_left levels_left
high_enough levels_left least_levels_left = omega arith

pub may_be_kept : (production : Production) (levels_left binder_depth : ℕ) (p q r : Printing) (m : mark.Mark) (left_open : Bool) → IsMark p.state m → q ≡ with_state (raised levels_left p.state) p → r ≡ with_state (read (readers q.part levels_left) production binder_depth q.state).1 q → left_open ≡ left_open_of production (read (readers q.part levels_left) production binder_depth q.state).0 → MayKeep r.part r.state m levels_left binder_depth production left_open
may_be_kept production levels_left binder_depth p q r m left_open is eq er eo =
    rw (er, eo, eq) (λ after ea limit_exceeded room. rw (is.1, is.2, is.3) (to_keep p.part levels_left production binder_depth (raised levels_left p.state) m.at after _ refl is.0 ea (high_enough levels_left p.state.least_levels_left) limit_exceeded room))

-- what is heard of a range: what was written there, unless that was muted and is to be heard now
heard_again : (muted later : Bool) (a b : List ℕ) → (muted && not later) ≡ false → (muted ≡ false → a ≡ b) → heard later a ≡ heard later b
heard_again muted true a b e same = refl
heard_again false false a b e same = same refl
heard_again true false a b e same = absurd cc

-- what is kept is what would be printed again
again : (part : List ℕ) (levels_left : ℕ) (production : Production) (binder_depth : ℕ) (s : State) (target start end trimmed_start trimmed_end steps height : ℕ) (left_open muted : Bool) → s.limit_exceeded ≡ false → Kept part s.full s.text s.trimmed production target binder_depth start end trimmed_start trimmed_end steps height left_open muted → height ≤ levels_left → steps ≤ s.steps_left → (muted && not s.muted) ≡ false → ((read (readers part levels_left) production binder_depth (into target s)).1 ≡ record s { at = (read (readers part levels_left) production binder_depth (into target s)).1.at; steps_left = s.steps_left - steps; least_levels_left = min s.least_levels_left (levels_left - height); text = grown s.most s.text (heard s.muted (slice_range s.text start end)); trimmed = grown s.most s.trimmed (heard s.muted (slice_range s.trimmed trimmed_start trimmed_end)); in_back_reference = true }) × (left_open_of production (read (readers part levels_left) production binder_depth (into target s)).0 ≡ left_open)
again part levels_left production binder_depth s target start end trimmed_start trimmed_end steps height left_open muted limit_exceeded k h n e =
    let same = complete production k.tree part levels_left binder_depth (into target s) (Some k.after) limit_exceeded k.is (omega (arith, k.height_is, h)) (omega (arith, k.steps_is, n)) in
    (rw (same, heard_again muted s.muted (slice_range s.text start end) (text_of production s.full k.tree binder_depth) e k.text_is, heard_again muted s.muted (slice_range s.trimmed trimmed_start trimmed_end) (text_of production false k.tree binder_depth) e k.trimmed_is, ← k.steps_is, ← k.height_is) refl, ap (λ x. left_open_of production x.0) same ∙ k.open_is)

-- so for a printer, which goes on behind the back reference
pub kept_again : (production : Production) (levels_left binder_depth : ℕ) (p : Printing) (target after start end trimmed_start trimmed_end steps height : ℕ) (left_open muted : Bool) → p.state.limit_exceeded ≡ false → Kept p.part p.state.full p.state.text p.state.trimmed production target binder_depth start end trimmed_start trimmed_end steps height left_open muted → height ≤ levels_left → steps ≤ p.state.steps_left → (muted && not p.state.muted) ≡ false → (with_state (record p.state { at = Some after; steps_left = p.state.steps_left - steps; least_levels_left = min p.state.least_levels_left (levels_left - height); text = grown p.state.most p.state.text (heard p.state.muted (slice_range p.state.text start end)); trimmed = grown p.state.most p.state.trimmed (heard p.state.muted (slice_range p.state.trimmed trimmed_start trimmed_end)) }) p ≡ with_state (back_to after p.state.in_back_reference (read (readers p.part levels_left) production binder_depth (into target p.state)).1) p) × (left_open ≡ left_open_of production (read (readers p.part levels_left) production binder_depth (into target p.state)).0)
kept_again production levels_left binder_depth p target after start end trimmed_start trimmed_end steps height left_open muted limit_exceeded k h n hears =
    let e = again p.part levels_left production binder_depth p.state target start end trimmed_start trimmed_end steps height left_open muted limit_exceeded k h n hears in
    (rw (e.0, limit_exceeded) refl, sym e.1)

-- one more fragment, where there was room for it
pub kept_more : (P : fragment.Fragment → Type 0) (ok : Bool) (fs : List fragment.Fragment) (f : fragment.Fragment) → All P fs → P f → All P (if ok then fs ++ (f ∷ []) else fs)
kept_more P true fs f all one = All-append P fs (f ∷ []) all (All-cons P f [] one (All-nil P))
kept_more P false fs f all one = all

-- where both texts are whole, what is counted of them is all of them
pub is_kept : (part : List ℕ) (full : Bool) (most : Option ℕ) (text trimmed : List ℕ) (f : fragment.Fragment) → (is_whole most (counted most text) && is_whole most (counted most trimmed)) ≡ true
    → (IsKept part full text trimmed f → IsKept part full (counted most text) (counted most trimmed) f) × (IsKept part full (counted most text) (counted most trimmed) f → IsKept part full text trimmed f)
is_kept part full most text trimmed f room =
    let whole = and_parts (is_whole most (counted most text)) (is_whole most (counted most trimmed)) room in
    let e = counted_whole most text whole.0 in
    let t = counted_whole most trimmed whole.1 in
    (λ k. rw (e, t) k, λ k. rw (e, t) at k)

-- a range of a whole text that is written again, at the end of its second part or behind both
pub written_again : (most : Option ℕ) (front back new copy : List ℕ) (start end : ℕ) → is_whole most (counted most (front ++ back)) ≡ true → front ≡ [] → new ≡ back ++ copy → copy ≡ slice_range back start end
    → counted most (front ++ new) ≡ grown most (counted most (front ++ back)) (slice_range (counted most (front ++ back)) start end)
written_again most front back new copy start end whole none more copied =
    let same : counted most (front ++ back) ≡ back = counted_whole most (front ++ back) whole ∙ ap (λ (xs : List ℕ). xs ++ back) none in
    counted_more most front back new copy more ∙ ap (grown most (counted most (front ++ back))) (copied ∙ ap (λ (xs : List ℕ). slice_range xs start end) (sym same))

pub both_again : (most : Option ℕ) (front back new_front new_back copy : List ℕ) (start end : ℕ) → is_whole most (counted most (front ++ back)) ≡ true → new_front ≡ (front ++ back) ++ copy → new_back ≡ [] → copy ≡ slice_range (front ++ back) start end
    → counted most (new_front ++ new_back) ≡ grown most (counted most (front ++ back)) (slice_range (counted most (front ++ back)) start end)
both_again most front back new_front new_back copy start end whole more none copied =
    counted_apart most front back new_front new_back copy more none
    ∙ ap (grown most (counted most (front ++ back))) (copied ∙ ap (λ (xs : List ℕ). slice_range xs start end) (sym (counted_whole most (front ++ back) whole)))
