-- The parts of a text, answered one after the other.
use Rattle.std.proofs.Common.{◌≡◌, ◌≢◌, inl, inr, ◌⊎◌, false, true, Bool, ℕ, List, [], ◌∷◌, ◌++◌, length, drop, get_or, Option, refl, sym, ◌∙◌, ap, subst, append_assoc, append-nil, arith}
use Rattle.std.specs.Prelude.{◌==◌}
use Rattle.std.specs.List.{AllZip, concat}
use Rattle.std.proofs.lemmas.Bool.{eqb-true}
use Rattle.std.proofs.lemmas.List.Elements.{All-append, All-head, All-tail}
use Rattle.std.proofs.lemmas.List.Folds.{concat-append}
use Rattle.std.proofs.lemmas.List.{map-append}
use Rattle.binfarce.specs.Symbol.{Entry}
use Rattle.binfarce_addresses.specs.Answered.{AnswersOf}
use Rattle.binfarce_addresses.specs.Counts.{AreCountsOf, answers_to, reply_to, AddsUp}
use Rattle.binfarce_addresses.specs.declared.counts.Counts.{Counts}
use Rattle.binfarce_addresses.specs.declared.counts.Reply.{Reply}
use Rattle.binfarce_addresses.specs.Stream.{line_address, with_line_feeds, AnswersAll, AnswersSome, AnswersWhole, AreAnswersOf, Begins, HasNoLineFeed, IsAnswerOf, Writes}
use Rattle.binfarce_addresses.specs.machine.Answering.{Answers, AnswersLines, AnswersPart, HasAnswered, Holds, IsDone, IsKeptOf, MayBreakOff}
use Rattle.binfarce_addresses.proofs.AddressLines.{all_zip_both}
use Rattle.binfarce_addresses.proofs.Streams.{begins_both}
use Rattle.binfarce_addresses.proofs.Trimmed.{is_some}
use Rattle.binfarce_addresses.specs.declared.stream.Lines.{Lines}
use Rattle.binfarce_addresses.specs.declared.lookup.Lookup.{Lookup}

-- the answers to these addresses and those are counted
counted_both : (entries : List Entry) (lookup : Lookup) (first second : List (Option ℕ)) (before after : Counts) → AreCountsOf (answers_to entries lookup first) before → AddsUp before after (answers_to entries lookup second)
    → AreCountsOf (answers_to entries lookup (first ++ second)) after
counted_both entries lookup first second before after are adds =
    subst (λ (x : List Reply). AreCountsOf x after) (sym (map-append (reply_to entries lookup) first second)) (adds (answers_to entries lookup first) are)

-- the answers of whole lines, counted from the first on
pub answers_of_lines : (entries : List Entry) (lookup : Lookup) (s : List Entry × Lookup) (text old new : List ℕ) (begun after : Counts) (len : ℕ) → Path (List Entry × Lookup) s (entries, lookup) → AreCountsOf [] begun → AnswersLines s.0 s.1 text old new begun after len
    → AnswersOf entries lookup text old new (record { len = len; counts = after })
answers_of_lines entries lookup s text old new begun after len same none is =
    let P : List Entry × Lookup → Type 0 = λ t. AnswersLines t.0 t.1 text old new begun after len in
    let a : AnswersLines entries lookup text old new begun after len = subst P same is in
    record { within = a.are.within; addresses = a.addresses; begins = a.are.begins; part = a.are.part; answers = a.answers; are = a.answer; written = a.written; counts = a.counts [] none }

-- more comes
begins_more : (text : List ℕ) (addresses : List (Option ℕ)) (left part : List ℕ) → Begins text addresses left → Begins (text ++ part) addresses (left ++ part)
begins_more text addresses left part a = record {
  lines = a.lines;
  each = a.each;
  are = ap (λ (xs : List ℕ). xs ++ part) a.are ∙ append_assoc (with_line_feeds a.lines) left part;
}

begins_none : (text : List ℕ) → Begins text [] text
begins_none text = record { lines = []; each = tt; are = refl }

answers_both : (entries : List Entry) (lookup : Lookup) (first second : List (Option ℕ)) (text more : List ℕ) → AreAnswersOf entries lookup first text → AreAnswersOf entries lookup second more → AreAnswersOf entries lookup (first ++ second) (text ++ more)
answers_both entries lookup first second text more a b = (
  a.0 ++ b.0,
  all_zip_both (IsAnswerOf entries lookup) first second a.0 b.0 a.1 b.1,
  ap (λ (xs : List ℕ). xs ++ more) a.2 ∙ ap (λ (xs : List ℕ). concat a.0 ++ xs) b.2 ∙ sym (concat-append a.0 b.0),
)

-- where a line goes on up to its line feed
joins : (kept part line more : List ℕ) → HasNoLineFeed kept → kept ++ part ≡ line ++ 10 ∷ more → (end : List ℕ) × (line ≡ kept ++ end) × (part ≡ end ++ 10 ∷ more)
joins [] part line more none is = (line, refl, is)
joins (a ∷ kept) part [] more none is = absurd (All-head (λ byte. byte ≢ 10) a kept none (ap (λ (xs : List ℕ). get_or xs 0 0) is))
joins (a ∷ kept) part (b ∷ line) more none is =
    let end = joins kept part line more (All-tail (λ byte. byte ≢ 10) a kept none) (ap (drop 1) is) in
    (end.0, (λ i. sym (ap (λ (xs : List ℕ). get_or xs 0 0) is) i ∷ end.1 i), end.2)

no_feed_behind : (first second : List ℕ) → HasNoLineFeed (first ++ second) → HasNoLineFeed second
no_feed_behind [] second none = none
no_feed_behind (a ∷ first) second none = no_feed_behind first second (All-tail (λ byte. byte ≢ 10) a (first ++ second) none)

-- the first part of a line stays kept while it grows
kept_more : (left kept part : List ℕ) → IsKeptOf left kept → HasNoLineFeed kept → IsKeptOf (left ++ part) (kept ++ part)
kept_more left kept part is none = record {
  same = λ more. ap line_address (append_assoc kept part more) ∙ is.same (part ++ more) ∙ sym (ap line_address (append_assoc left part more));
  part = λ feedless. All-append (λ byte. byte ≢ 10) kept part none (no_feed_behind left part feedless);
  none = λ empty. both left kept part is.none empty;
  some = λ empty. both kept left part is.some empty;
}
  where
    both : (xs ys part : List ℕ) → (ys ≡ [] → xs ≡ []) → ys ++ part ≡ [] → xs ++ part ≡ []
    both xs [] part empty e = ap (λ (zs : List ℕ). zs ++ part) (empty refl) ∙ e
    both xs (y ∷ ys) part empty e = absurd cc

kept_same : (left : List ℕ) → IsKeptOf left left
kept_same left = record { same = λ more. refl; part = λ none. none; none = λ empty. empty; some = λ empty. empty }

-- what is read behind the kept part of a line is read behind the line's first part
behind_kept : (left kept part : List ℕ) (addresses : List (Option ℕ)) (rest : List ℕ) → IsKeptOf left kept → HasNoLineFeed left → Begins (kept ++ part) addresses rest
    → (next : List ℕ) × IsKeptOf next rest × Begins (left ++ part) addresses next × (HasNoLineFeed rest → HasNoLineFeed next)
behind_kept left kept part addresses rest is none begins = by addresses begins.lines begins.each begins.are
  where
    own : HasNoLineFeed kept
    own = is.part none

    by : (addresses : List (Option ℕ)) (lines : List (List ℕ)) → AllZip Writes lines addresses → kept ++ part ≡ with_line_feeds lines ++ rest
        → (next : List ℕ) × IsKeptOf next rest × Begins (left ++ part) addresses next × (HasNoLineFeed rest → HasNoLineFeed next)
    by [] [] each are = (
      left ++ part,
      subst (IsKeptOf (left ++ part)) are (kept_more left kept part is own),
      begins_none (left ++ part),
      λ feedless. All-append (λ byte. byte ≢ 10) left part none (no_feed_behind kept part (subst HasNoLineFeed (sym are) feedless)),
    )
    by (address ∷ addresses) [] each are = absurd each
    by [] (line ∷ lines) each are = absurd each
    by (address ∷ addresses) (line ∷ lines) each are =
        let split = joins kept part line (with_line_feeds lines ++ rest) own (are ∙ regroup line (with_line_feeds lines) rest) in
        let end = split.0 in
        let writes = each.0 in (
          rest,
          kept_same rest,
          record {
            lines = (left ++ end) ∷ lines;
            each = (
              (All-append (λ byte. byte ≢ 10) left end none (no_feed_behind kept end (subst HasNoLineFeed split.1 writes.0)), sym (is.same end) ∙ sym (ap line_address split.1) ∙ writes.1),
              each.1,
            );
            are = ap (λ (xs : List ℕ). left ++ xs) split.2 ∙ sym (append_assoc left end (10 ∷ (with_line_feeds lines ++ rest))) ∙ sym (regroup (left ++ end) (with_line_feeds lines) rest);
          },
          λ feedless. feedless,
        )
      where
        regroup : (l f o : List ℕ) → ((l ++ 10 ∷ []) ++ f) ++ o ≡ l ++ 10 ∷ (f ++ o)
        regroup l f o = append_assoc (l ++ 10 ∷ []) f o ∙ append_assoc l (10 ∷ []) (f ++ o)

-- the one line of a text that ends in its only line feed
last_line : (line : List ℕ) (addresses : List (Option ℕ)) (rest : List ℕ) → HasNoLineFeed line → Begins (line ++ 10 ∷ []) addresses rest → (addresses ≡ []) ⊎ (addresses ≡ line_address line ∷ [])
last_line line addresses rest none begins = by addresses begins.lines begins.each begins.are
  where
    by : (addresses : List (Option ℕ)) (lines : List (List ℕ)) → AllZip Writes lines addresses → line ++ 10 ∷ [] ≡ with_line_feeds lines ++ rest → (addresses ≡ []) ⊎ (addresses ≡ line_address line ∷ [])
    by [] [] each are = inl refl
    by (address ∷ addresses) [] each are = absurd each
    by [] (first ∷ lines) each are = absurd each
    by (address ∷ addresses) (first ∷ lines) each are =
        let split = joins line (10 ∷ []) first (with_line_feeds lines ++ rest) none (are ∙ append_assoc (first ++ 10 ∷ []) (with_line_feeds lines) rest ∙ append_assoc first (10 ∷ []) (with_line_feeds lines ++ rest)) in
        let ends = alone split.0 (with_line_feeds lines ++ rest) split.2 in
        inr ((λ i. (sym each.0.1 ∙ ap line_address (split.1 ∙ ap (λ (xs : List ℕ). line ++ xs) ends.0 ∙ append-nil line)) i ∷ no_more lines addresses each.1 ends.1 i))
      where
        alone : (end others : List ℕ) → 10 ∷ [] ≡ end ++ 10 ∷ others → (end ≡ []) × (others ≡ [])
        alone [] others e = (refl, sym (ap (drop 1) e))
        alone (a ∷ []) others e = absurd cc
        alone (a ∷ b ∷ end) others e = absurd cc

        no_more : (lines : List (List ℕ)) (addresses : List (Option ℕ)) → AllZip Writes lines addresses → with_line_feeds lines ++ rest ≡ [] → addresses ≡ []
        no_more [] [] each e = refl
        no_more [] (address ∷ addresses) each e = absurd each
        no_more (line ∷ lines) [] each e = absurd each
        no_more ([] ∷ lines) (address ∷ addresses) each e = absurd cc
        no_more ((a ∷ line) ∷ lines) (address ∷ addresses) each e = absurd cc

-- it was read where no line feed is left
not_unread : (line rest : List ℕ) → Begins (line ++ 10 ∷ []) [] rest → HasNoLineFeed rest → ⊥
not_unread line rest begins none = by begins.lines begins.each begins.are
  where
    by : (lines : List (List ℕ)) → AllZip Writes lines [] → line ++ 10 ∷ [] ≡ with_line_feeds lines ++ rest → ⊥
    by [] each are = All-head (λ byte. byte ≢ 10) 10 [] (no_feed_behind line (10 ∷ []) (subst HasNoLineFeed (sym are) none)) refl
    by (first ∷ lines) each are = each

-- no line is answered yet
pub none_answered : (entries : List Entry) (lookup : Lookup) (kept : List ℕ) (counts : Counts) → kept ≡ [] → AreCountsOf [] counts → HasAnswered entries lookup kept counts [] []
none_answered entries lookup kept counts empty none = record {
  rest = [];
  addresses = [];
  is_kept = subst (IsKeptOf []) (sym empty) (kept_same []);
  begins = begins_none [];
  part = λ k d lt. absurd (omega arith);
  are = ([], tt, refl);
  counted = none;
}

pub some_answered : (entries : List Entry) (lookup : Lookup) → AnswersSome entries lookup [] []
some_answered entries lookup = ([], [], [], inl (begins_none []), ([], tt, refl))

module _ (entries : List Entry) (lookup : Lookup) (kept : List ℕ) (counts : Counts) (text made : List ℕ) (has : HasAnswered entries lookup kept counts text made) where
  -- one part after another
  part_answered : (part next : List ℕ) (sum : Counts) (more : List ℕ) → AnswersPart entries lookup kept part next counts sum more → HasAnswered entries lookup next sum (text ++ part) (made ++ more)
  part_answered part next sum more is =
      let behind = behind_kept has.rest kept part is.addresses is.rest has.is_kept has.part is.begins in
      record {
        rest = behind.0;
        addresses = has.addresses ++ is.addresses;
        is_kept = kept_on behind.0 is.rest next behind.1 is.is_kept;
        begins = begins_both (text ++ part) has.addresses (has.rest ++ part) is.addresses behind.0 (begins_more text has.addresses has.rest part has.begins) behind.2;
        part = behind.3 is.feedless;
        are = answers_both entries lookup has.addresses is.addresses made more has.are is.are;
        counted = counted_both entries lookup has.addresses is.addresses counts sum has.counted is.counted;
      }
    where
      kept_on : (a b c : List ℕ) → IsKeptOf a b → IsKeptOf b c → IsKeptOf a c
      kept_on a b c x y = record { same = λ m. y.same m ∙ x.same m; part = λ none. y.part (x.part none); none = λ empty. x.none (y.none empty); some = λ empty. y.some (x.some empty) }

  -- the last line is answered as if its line feed had come
  last_answered : (next : List ℕ) (sum : Counts) (more : List ℕ) → kept ≢ [] → AnswersPart entries lookup kept (10 ∷ []) next counts sum more → AnswersAll entries lookup sum text (made ++ more)
  last_answered next sum more some is =
      let behind = behind_kept has.rest kept (10 ∷ []) is.addresses is.rest has.is_kept has.part is.begins in
      elim (last_line has.rest is.addresses behind.0 has.part behind.2) [
        | inl none ↦ absurd (not_unread has.rest behind.0 (subst (λ (xs : List (Option ℕ)). Begins (has.rest ++ 10 ∷ []) xs behind.0) none behind.2) (behind.3 is.feedless))
        | inr one ↦ (
          has.addresses ++ is.addresses,
          inr ((has.addresses, has.rest, has.begins, has.part, (λ empty. some (has.is_kept.some empty)), ap (λ (xs : List (Option ℕ)). has.addresses ++ xs) one), refl),
          answers_both entries lookup has.addresses is.addresses made more has.are is.are,
          counted_both entries lookup has.addresses is.addresses counts sum has.counted is.counted,
        )
      ]

  -- there is none
  no_last : kept ≡ [] → AnswersAll entries lookup counts text made
  no_last empty = (has.addresses, inl (subst (λ (xs : List ℕ). Begins text has.addresses xs) (has.is_kept.none empty) has.begins), has.are, has.counted)

  -- or it is cut
  cut_last : AnswersWhole entries lookup text made
  cut_last = (has.addresses, has.rest, has.begins, has.part, has.are)

module _ (first old new : Lines) (part more : List ℕ) (pushed : Answers old new part more) (text made : List ℕ) (holds : Holds first old text made) where
  here : AnswersPart first.names.0 first.names.1 old.line.items part new.line.items old.counts new.counts more
  here = let P : List Entry × Lookup → Type 0 = λ s. AnswersPart s.0 s.1 old.line.items part new.line.items old.counts new.counts more in subst P holds.0 pushed.1

  -- the next part is answered
  pub goes_on : Holds first new (text ++ part) (made ++ more)
  goes_on = (pushed.0 ∙ holds.0, part_answered first.names.0 first.names.1 old.line.items old.counts text made holds.1 part new.line.items new.counts more here)

  -- all lines are
  pub ends : part ≡ 10 ∷ [] → (ended : Bool) → ended ≡ true → old.line.items ≢ [] → IsDone first new ended text (made ++ more)
  ends is false cut some = absurd cc
  ends is true cut some =
      last_answered first.names.0 first.names.1 old.line.items old.counts text made holds.1 new.line.items new.counts more some
      (subst (λ x. AnswersPart first.names.0 first.names.1 old.line.items x new.line.items old.counts new.counts more) is here)

-- no line is left, or it is cut
pub ends_none : (first now : Lines) (ended : Bool) (text made : List ℕ) → (ended ≡ true → now.line.items ≡ []) → Holds first now text made → IsDone first now ended text (made ++ [])
ends_none first now ended text made none holds = subst (IsDone first now ended text) (sym (append-nil made)) (by ended none)
  where
    by : (ended : Bool) → (ended ≡ true → now.line.items ≡ []) → IsDone first now ended text made
    by true none = no_last first.names.0 first.names.1 now.line.items now.counts text made holds.1 (none refl)
    by false none = cut_last first.names.0 first.names.1 now.line.items now.counts text made holds.1

-- the output may break off after what was made
pub breaks_off : (first now : Lines) (text part made others : List ℕ) → Holds first now text (made ++ others) → MayBreakOff first (text ++ part) made
breaks_off first now text part made others holds =
    let has = holds.1 in (has.addresses, has.rest ++ part, others, inl (begins_more text has.addresses has.rest part has.begins), has.are)

pub breaks_off_done : (first now : Lines) (ended : Bool) (text made others : List ℕ) → IsDone first now ended text (made ++ others) → MayBreakOff first text made
breaks_off_done first now true text made others is = (is.0, [], others, is.1, is.2)
breaks_off_done first now false text made others is = (is.0, is.1, others, inl is.2, is.4)

-- a text that is empty, or isn't
pub not_nil : (xs : List ℕ) (n : ℕ) → n ≡ length xs → (n == 0) ≡ false → xs ≢ []
not_nil xs n len e = λ none. absurd (omega (arith, len, is_some n e, ap (length {A = ℕ}) none))

pub nil : (xs : List ℕ) (n : ℕ) → n ≡ length xs → (n == 0) ≡ true → xs ≡ []
nil [] n len e = refl
nil (x ∷ xs) n len e = absurd (omega (arith, len, eqb-true n 0 e))
