-- What two files that are compared come to, step after step.
use Rattle.std.proofs.Common.{◌≡◌, Bool, ◌&&◌, ℕ, List, [], ◌∷◌, ◌++◌, Option, Some, None, is_some, Result, Ok, Err, IsErrAnd, append-nil, refl, sym, subst}
use Rattle.binfarce_tools.specs.Writing.{Outcome}
use Rattle.binfarce_io.specs.Faults.{failure}
use Rattle.binfarce_jobs.specs.Files.{Grows, Hinted, Refused, Reports, State, hinted}
use Rattle.binfarce_foreign.specs.Foreign.{foreign_in}
use Rattle.binfarce_io.specs.declared.fault.Fault.{Fault}
use Rattle.binfarce_jobs.specs.declared.limit.Verdict.{Verdict}
use Rattle.binfarce_jobs.proofs.FileLoop.{grows_none, reports_more}
use Rattle.binfarce_calls.specs.Compared.{BreaksOff, Compares, Comparison, EndsAs}
use Rattle.binfarce_calls.specs.Summed.{Fate, MayBeRefused, MayComeTo, is_summed, refused, reported, said_of, summed}
use Rattle.binfarce_calls.specs.machine.Steps.{Carries, IsQuiet, Steps, StepsOn, Messages, Writes, messages}

-- a file that came to this is reported, with its hints
abbrev pub HasMessages : {S : Type 0} → (path : List ℕ) → Fate S → (before after : Messages) → Type 0
HasMessages path fate before after = Reports before.reports after.reports (reported path fate) × Grows before.hints after.hints (hinted path (said_of fate))

-- nothing is reported before, or after
quiet_first : (a b c : Messages) (reports : List Refused) (hints : List Hinted) → IsQuiet a b → Reports b.reports c.reports reports → Grows b.hints c.hints hints → Reports a.reports c.reports reports × Grows a.hints c.hints hints
quiet_first a b c reports hints quiet more said =
    (reports_more a.reports b.reports c.reports [] reports quiet.0 more, reports_more a.hints b.hints c.hints [] hints quiet.1 said)

quiet_last : (a b c : Messages) (reports : List Refused) (hints : List Hinted) → Reports a.reports b.reports reports → Grows a.hints b.hints hints → IsQuiet b c → Reports a.reports c.reports reports × Grows a.hints c.hints hints
quiet_last a b c reports hints more said quiet = (
  subst (Reports a.reports c.reports) (append-nil reports) (reports_more a.reports b.reports c.reports reports [] more quiet.0),
  subst (Grows a.hints c.hints) (append-nil hints) (reports_more a.hints b.hints c.hints hints [] said quiet.1),
)

module _ {R S T : Type 0} (Given : R → Type 0) (Is : S → T → Type 0) (Has : List ℕ → S → Type 0) (HasNone : List ℕ → Outcome → Type 0) (may_fail : Bool) (path file : List ℕ) (a b c : Messages) where
  -- what a file came to that is read and summed
  pub one_file : (read : Option R) (sums : Option T) → Steps Given (MayBeRefused HasNone may_fail file) path file a b (Ok read)
      → StepsOn Given read (λ x. (s : S) × Is s x) (MayBeRefused HasNone may_fail file) path file b c (Ok sums)
      → ((s : S) (x : T) → Is s x → (foreign_in file ≡ None) × Has file s)
      → (fate : Fate S) × MayComeTo Has HasNone may_fail file fate × Carries Is sums fate × HasMessages path fate a c × (is_some sums ≡ is_summed fate)
  one_file (Some r) (Some x) (given, quiet) more has =
      let found = more given in
      (summed found.0.0, has found.0.0 x found.0.1, found.0.1, quiet_first a b c [] [] quiet found.1.0 found.1.1, refl)
  one_file (Some r) None (given, quiet) more has =
      let why = more given in
      (refused why.0 why.1, (why.2, why.3), tt, quiet_first a b c ((path, why.0) ∷ []) (hinted path why.1) quiet why.4 why.5, refl)
  one_file None None why quiet has = (refused why.0 why.1, (why.2, why.3), tt, quiet_last a b c ((path, why.0) ∷ []) (hinted path why.1) why.4 why.5 quiet, refl)
  one_file None (Some x) why more has = absurd more

-- no fault is passed on
pub none_passed : {R T : Type 0} (Given : R → Type 0) (Holds : T → Type 0) (MayBe May : Fault → Type 0) (path file : List ℕ) (a b c : Messages) (read : Option R) (e : Fault) → Steps Given MayBe path file a b (Ok read) → StepsOn Given read Holds May path file b c (Err e) → ⊥
none_passed Given Holds MayBe May path file a b c (Some r) e (given, quiet) more = more given
none_passed Given Holds MayBe May path file a b c None e why more = more

-- a step that goes on with this, and one that has nothing to go on
pub goes_on : {R T : Type 0} (Given : R → Type 0) (read : Option R) (r : R) (Holds : T → Type 0) (MayBe : Fault → Type 0) (path file : List ℕ) (before after : Messages) (result : Result (Option T) Fault)
    → read ≡ Some r → (Given r → Steps Holds MayBe path file before after result) → StepsOn Given read Holds MayBe path file before after result
goes_on {R} Given read r Holds MayBe path file before after result is steps = subst (λ (o : Option R). StepsOn Given o Holds MayBe path file before after result) (sym is) steps

pub stops : {R T : Type 0} (Given : R → Type 0) (read : Option R) (Holds : T → Type 0) (MayBe : Fault → Type 0) (path file : List ℕ) (before : Messages) → read ≡ None → StepsOn Given read Holds MayBe path file before before (Ok None)
stops {R} Given read Holds MayBe path file before is =
    subst (λ (o : Option R). StepsOn Given o Holds MayBe path file before before (Ok None)) (sym is) (grows_none before.reports, grows_none before.hints)

module _ {S : Type 0} (asked : Comparison S) (first second : Fate S) (old new : State) (b c : Messages) (messages_old : HasMessages asked.old.path first (messages old.reports old.hints) b) (messages_new : HasMessages asked.new.path second b c) where
  -- how files were compared that came to this
  pub compared : (is_above is_done : Bool) → Writes asked first second (record old { reports = c.reports; hints = c.hints }) new (Ok is_above) → is_done ≡ (is_summed first && is_summed second)
      → Compares asked first second old new (record { is_done = is_done; is_above = is_above })
  compared is_above is_done (text, said, differ, wrote, more, gave) done =
      let of_new = reported asked.new.path second in
      let hints_new = hinted asked.new.path (said_of second) in
      record {
        text = text;
        said = said;
        differ = differ;
        written_is = wrote;
        reported_are = reports_more old.reports b.reports new.reports (reported asked.old.path first) of_new messages_old.0
            (subst (Reports b.reports new.reports) (append-nil of_new) (reports_more b.reports c.reports new.reports of_new [] messages_new.0 more));
        hinted_are = reports_more old.hints b.hints new.hints (hinted asked.old.path (said_of first)) (hints_new ++ said) messages_old.1 (reports_more b.hints c.hints new.hints hints_new said messages_new.1 gave);
        done_is = done;
      }

-- how the comparison of files was broken off
broken : {S : Type 0} (asked : Comparison S) (first second : Fate S) (old new : State) (b c : Messages) → HasMessages asked.old.path first (messages old.reports old.hints) b → HasMessages asked.new.path second b c → (o : Outcome)
    → BreaksOff asked first second (record old { reports = c.reports; hints = c.hints }) new o → BreaksOff asked first second old new o
broken asked (summed x) (summed y) old new b c one other o (wrote, more, gave) =
    (wrote, reports_more old.reports b.reports new.reports [] [] one.0 (reports_more b.reports c.reports new.reports [] [] other.0 more), reports_more old.hints b.hints new.hints [] [] one.1 (reports_more b.hints c.hints new.hints [] [] other.1 gave))
broken asked (summed x) (refused fault said) old new b c one other o is = absurd is
broken asked (refused fault said) second old new b c one other o is = absurd is

-- so it ended, as `?` passes the fault on
pub broke_off : {S : Type 0} (asked : Comparison S) (first second : Fate S) (old new : State) (b c : Messages) → HasMessages asked.old.path first (messages old.reports old.hints) b → HasMessages asked.new.path second b c → (e : Fault) (result : Result Verdict Fault)
    → IsErrAnd result (λ f. f ≡ e) → Writes asked first second (record old { reports = c.reports; hints = c.hints }) new (Err e) → EndsAs asked first second old new result
broke_off asked first second old new b c one other e (Ok verdict) is wrote = absurd is
broke_off asked first second old new b c one other e (Err f) is wrote = subst (λ (f : Fault). BreaksOff asked first second old new (failure f)) (sym is) (broken asked first second old new b c one other (failure e) wrote)
