-- What is shown of several arguments, one after the other.
use Rattle.std.proofs.Common.{◌≡◌, ◌∙◌, inl, inr, ℕ, suc, ◌+◌, ◌<◌, Bool, true, false, ◌&&◌, ◌||◌, List, [], ◌∷◌, ◌++◌, map, length, take, drop, get_or, Option, Some, None, Result, Ok, Err, refl, sym, ap, subst, append_assoc, append-nil, drop-cons, take-append-drop, IsErrAnd, arith}
use Rattle.std.proofs.lemmas.List.{map-append, take_more, get_or-map, length-map}
use Rattle.std.proofs.lemmas.List.Elements.{All-nil, All-push}
use Rattle.std.proofs.lemmas.List.Concat.{flat_map-append}
use Rattle.std.proofs.lemmas.List.Folds.{list_all-append, list_any-append}
use Rattle.std.specs.Io.KnownBytes.{Appends}
use Rattle.std.specs.List.{flat_map, list_all, list_any}
use Rattle.binfarce_words.specs.Words as words
use Rattle.binfarce_words.specs.Words.{name_of, no_utf8, utf8}
use Rattle.binfarce_words.specs.WordViews.{argument_view}
use Rattle.binfarce_words.specs.declared.argument.Argument.{Argument}
use Rattle.binfarce_jobs.specs.Files.{AreHeld, Fate, Files, Grows, Hinted, IsHeld, MayCome, Refused, Reports, Shows, ShowsAll, ShowsOne, State, asked_files, hinted, is_above, is_shown, reported, said_of, written}
use Rattle.binfarce_jobs.specs.Limit.{and_then}
use Rattle.binfarce_io.specs.declared.fault.Fault.{Fault}
use Rattle.binfarce_jobs.specs.declared.limit.Verdict.{Verdict}

-- the views of arguments
abbrev pub views : List Argument → List words.Argument
views files = map argument_view files

-- what is reported, or said, grows
pub reports_more : {X : Type 0} (a b c : Option (List X)) (xs ys : List X) → Grows a b xs → Grows b c ys → Grows a c (xs ++ ys)
reports_more None b c xs ys x y = tt
reports_more (Some a) None c xs ys x y = absurd x
reports_more (Some a) (Some b) None xs ys x y = absurd y
reports_more {X} (Some a) (Some b) (Some c) xs ys x y = y ∙ ap (λ (z : List X). z ++ ys) x ∙ append_assoc a xs ys

pub appends_more : (a b c : Option (List ℕ)) (xs ys : List ℕ) → Appends a b xs → Appends b c ys → Appends a c (xs ++ ys)
appends_more None b c xs ys x y = tt
appends_more (Some a) None c xs ys x y = absurd x
appends_more (Some a) (Some b) None xs ys x y = absurd y
appends_more (Some a) (Some b) (Some c) xs ys x y = y ∙ ap (λ (z : List ℕ). z ++ ys) x ∙ append_assoc a xs ys

pub grows_none : {X : Type 0} (a : Option (List X)) → Grows a a []
grows_none None = tt
grows_none (Some a) = sym (append-nil a)

-- a list that stays as it was doesn't grow
pub grows_unless : {X : Type 0} (a b : Option (List X)) → b ≡ a → Grows a b []
grows_unless {X} a b same = subst (λ (b : Option (List X)). Grows a b []) (sym same) (grows_none a)

pub nothing_more : (a : Option (List ℕ)) → Appends a a []
nothing_more None = tt
nothing_more (Some a) = sym (append-nil a)

flat_map-push : {X A : Type 0} (f : X → List A) (xs : List X) (x : X) → flat_map f (xs ++ x ∷ []) ≡ flat_map f xs ++ f x
flat_map-push f xs x = flat_map-append f xs (x ∷ []) ∙ ap (λ z. flat_map f xs ++ z) (append-nil (f x))

module _ (asked : Files) where
  -- no file is shown yet
  pub none_shown : (old : State) → Shows asked [] old old (record { is_done = true; is_above = false })
  none_shown old = record {
    fates = [];
    arguments_are = refl;
    each = All-nil (λ (f : words.Argument × Fate). MayCome asked f.0 f.1);
    written_are = nothing_more old.bytes;
    reported_are = grows_none old.reports;
    hinted_are = grows_none old.hints;
    done_is = refl;
    above_is = refl;
  }

  -- one argument more
  pub one_shown : (before : List words.Argument) (next : words.Argument) (old mid new : State) (all this : Verdict) → Shows asked before old mid all → ShowsOne asked next mid new (Ok this) → Shows asked (before ++ next ∷ []) old new (and_then all this)
  one_shown before next old mid new all this shows (fate, may, this_is, wrote, answered_lines, gave) =
      let f : words.Argument × Fate = (next, fate) in
      let text : words.Argument × Fate → List ℕ = λ f. written asked.are_several (name_of f.0) f.1 in
      let report : words.Argument × Fate → List Refused = λ f. reported (name_of f.0) f.1 in
      let hints : words.Argument × Fate → List Hinted = λ f. hinted (name_of f.0) (said_of f.1) in
      let done : words.Argument × Fate → Bool = λ f. is_shown f.1 in
      let above : words.Argument × Fate → Bool = λ f. is_above f.1 in
      record {
        fates = shows.fates ++ f ∷ [];
        arguments_are = map-append (λ (f : words.Argument × Fate). f.0) shows.fates (f ∷ []) ∙ ap (λ (xs : List words.Argument). xs ++ next ∷ []) shows.arguments_are;
        each = All-push (λ (f : words.Argument × Fate). MayCome asked f.0 f.1) shows.fates f shows.each may;
        written_are = subst (Appends old.bytes new.bytes) (sym (flat_map-push text shows.fates f)) (appends_more old.bytes mid.bytes new.bytes (flat_map text shows.fates) (text f) shows.written_are wrote);
        reported_are = subst (Reports old.reports new.reports) (sym (flat_map-push report shows.fates f)) (reports_more old.reports mid.reports new.reports (flat_map report shows.fates) (report f) shows.reported_are answered_lines);
        hinted_are = subst (Grows old.hints new.hints) (sym (flat_map-push hints shows.fates f)) (reports_more old.hints mid.hints new.hints (flat_map hints shows.fates) (hints f) shows.hinted_are gave);
        done_is = ap (λ (b : Bool). b && this.is_done) shows.done_is ∙ ap (λ (b : Bool). list_all done shows.fates && b) (ap (λ (v : Verdict). v.is_done) this_is ∙ last (is_shown fate)) ∙ sym (list_all-append done shows.fates (f ∷ []));
        above_is = ap (λ (b : Bool). b || this.is_above) shows.above_is ∙ ap (λ (b : Bool). list_any above shows.fates || b) (ap (λ (v : Verdict). v.is_above) this_is ∙ last_any (is_above fate)) ∙ sym (list_any-append above shows.fates (f ∷ []));
      }
    where
      last : (b : Bool) → b ≡ (b && true)
      last true = refl
      last false = refl

      last_any : (b : Bool) → b ≡ (b || false)
      last_any true = refl
      last_any false = refl

  -- the same, where no more was written, reported or said
  pub later : (before : List words.Argument) (old mid new : State) (all : Verdict) → Shows asked before old mid all → Appends mid.bytes new.bytes [] → Reports mid.reports new.reports [] → Grows mid.hints new.hints [] → Shows asked before old new all
  later before old mid new all shows wrote answered_lines gave =
      let text = flat_map (λ (f : words.Argument × Fate). written asked.are_several (name_of f.0) f.1) shows.fates in
      let reports = flat_map (λ (f : words.Argument × Fate). reported (name_of f.0) f.1) shows.fates in
      let hints = flat_map (λ (f : words.Argument × Fate). hinted (name_of f.0) (said_of f.1)) shows.fates in
      record {
        fates = shows.fates;
        arguments_are = shows.arguments_are;
        each = shows.each;
        written_are = subst (Appends old.bytes new.bytes) (append-nil text) (appends_more old.bytes mid.bytes new.bytes text [] shows.written_are wrote);
        reported_are = subst (Reports old.reports new.reports) (append-nil reports) (reports_more old.reports mid.reports new.reports reports [] shows.reported_are answered_lines);
        hinted_are = subst (Grows old.hints new.hints) (append-nil hints) (reports_more old.hints mid.hints new.hints hints [] shows.hinted_are gave);
        done_is = shows.done_is;
        above_is = shows.above_is;
      }

  -- an argument ends it
  pub one_ends : (before : List words.Argument) (next : words.Argument) (others : List words.Argument) (old mid new : State) (all : Verdict) (e : Fault) → Shows asked before old mid all → ShowsOne asked next mid new (Err e) → ShowsAll asked (before ++ next ∷ others) old new (Err e)
  one_ends before (utf8 path) others old mid new all e shows (inl (is, (text, shown, begins)), answered_lines, gave) = inl (
    is,
    record {
      first = before;
      next = path;
      others = others;
      arguments_are = refl;
      between = mid.bytes;
      all = all;
      shows = later before old mid (record new { bytes = mid.bytes }) all shows (nothing_more mid.bytes) answered_lines gave;
      text = text;
      is = shown;
      begins = begins;
    },
  )
  one_ends before (no_utf8 at) others old mid new all e shows (inl (is, none), answered_lines, gave) = absurd none
  one_ends before next others old mid new all e shows (inr (is, none), answered_lines, gave) = inr (
    is,
    record { first = before; others = next ∷ others; arguments_are = refl; all = all; shows = later before old mid new all shows none answered_lines gave },
  )

module _ (files : List Argument) (i : ℕ) (d : Argument) (lt : i < length files) where
  -- the arguments up to this one
  pub views_more : views (take (i + 1) files) ≡ views (take i files) ++ argument_view (get_or files i d) ∷ []
  views_more = ap views (take_more files i d lt) ∙ map-append argument_view (take i files) (get_or files i d ∷ [])

  -- all arguments: those before this one, this one, and the others
  pub views_split : views files ≡ views (take i files) ++ argument_view (get_or files i d) ∷ views (drop (suc i) files)
  views_split =
      ap views (sym (take-append-drop i files)) ∙ map-append argument_view (take i files) (drop i files)
      ∙ ap (λ (xs : List Argument). views (take i files) ++ views xs) (drop-cons files i d lt)

  -- what the file there holds is known
  pub held_there : (bytes_at : List ℕ → Option (List ℕ)) (held : List ℕ → List ℕ) → AreHeld bytes_at held (views files) → IsHeld bytes_at held (argument_view (get_or files i d))
  held_there bytes_at held are =
      let here : get_or (views files) i (utf8 []) ≡ argument_view (get_or files i d) = get_or-map argument_view files i d (utf8 []) lt in
      subst (IsHeld bytes_at held) here (are i (utf8 []) (omega (arith, lt, length-map files argument_view)))

module _ (asked : Files) (files : List Argument) (i : ℕ) (d : Argument) (lt : i < length files) (old mid new : State) (all : Verdict) (shows : Shows asked (views (take i files)) old mid all) where
  -- an argument is done
  pub goes_on : (this : Verdict) → ShowsOne asked (argument_view (get_or files i d)) mid new (Ok this) → Shows asked (views (take (i + 1) files)) old new (and_then all this)
  goes_on this one =
      subst (λ (arguments : List words.Argument). Shows asked arguments old new (and_then all this)) (sym (views_more files i d lt))
      (one_shown asked (views (take i files)) (argument_view (get_or files i d)) old mid new all this shows one)

  -- an argument ends it
  pub ends : (e : Fault) → ShowsOne asked (argument_view (get_or files i d)) mid new (Err e) → ShowsAll asked (views files) old new (Err e)
  ends e one =
      subst (λ (arguments : List words.Argument). ShowsAll asked arguments old new (Err e)) (sym (views_split files i d lt))
      (one_ends asked (views (take i files)) (argument_view (get_or files i d)) (views (drop (suc i) files)) old mid new all e shows one)

-- how the showing of all ended, as `?` passes the fault on
pub passed_on : (asked : Files) (arguments : List words.Argument) (old new : State) (e : Fault) (result : Result Verdict Fault)
    → IsErrAnd result (λ f. f ≡ e) → ShowsAll asked arguments old new (Err e) → ShowsAll asked arguments old new result
passed_on asked arguments old new e (Ok all) is ends = absurd is
passed_on asked arguments old new e (Err f) is ends = subst (λ (f : Fault). ShowsAll asked arguments old new (Err f)) (sym is) ends

-- what one argument came to, by what is known of its file
pub one_at : (asked : Files) (bytes_at bytes_now : List ℕ → Option (List ℕ)) (may_now : List ℕ → Bool) (argument : words.Argument) (mid new : State) (result : Result Verdict Fault)
    → bytes_now ≡ bytes_at → may_now ≡ asked.may_fail → IsHeld bytes_at asked.held argument
    → ((held : List ℕ → List ℕ) → IsHeld bytes_now held argument → ShowsOne (asked_files asked.asked asked.are_several may_now held) argument mid new result)
    → ShowsOne asked argument mid new result
one_at asked bytes_at bytes_now may_now argument mid new result same may_same known shows =
    subst (λ (m : List ℕ → Bool). ShowsOne (asked_files asked.asked asked.are_several m asked.held) argument mid new result) may_same
    (shows asked.held (subst (λ (b : List ℕ → Option (List ℕ)). IsHeld b asked.held argument) (sym same) known))
