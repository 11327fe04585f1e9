-- What is written and reported of several files.
use Rattle.std.specs.Prelude.{◌≡◌, ◌≢◌, ◌⊎◌, ℕ, Bool, true, false, ◌||◌, List, [], ◌∷◌, ◌++◌, All, codes, map, Option, Some, None, Result, Ok, Err, if◌then◌else◌}
use Rattle.std.specs.Io.KnownBytes.{Appends}
use Rattle.std.specs.List.{flat_map, list_all, list_any}
use Rattle.binfarce_tools.specs.Writing.{AppendsBeginning, Outcome, no_memory, write_failed}
use Rattle.binfarce_io.specs.Faults.{failure}
use Rattle.binfarce_foreign.specs.Foreign.{foreign_in}
use Rattle.binfarce_io.specs.Input.{IsForeign, IsUnreadable}
use Rattle.binfarce_io.specs.MessageLine.{escaped}
use Rattle.binfarce_io.specs.Output.{taken, writer_of}
use Rattle.binfarce_jobs.specs.Hints.{IsSaidOfRefused, IsSaidOfShown, has_none}
use Rattle.binfarce_limits.specs.Rows.{Found, finding_view}
use Rattle.binfarce_jobs.specs.Limit.{are_above}
use Rattle.binfarce_jobs.specs.Show.{HasRowsOf, HasSumsOf, IsShownText, MayEnd, exceeds}
use Rattle.binfarce_figures.specs.declared.sums.Sums.{Sums}
use Rattle.binfarce_words.specs.Words.{Argument, name_of, no_utf8, utf8}
use Rattle.binfarce_io.specs.declared.fault.Fault.{Fault}
use Rattle.binfarce_io.specs.declared.fault.Fault.TheVariants.{NotUtf8}
use Rattle.binfarce_io.specs.declared.output.Output.{Output}
use Rattle.binfarce_jobs.specs.declared.limit.Verdict.{Verdict}
use Rattle.binfarce_jobs.specs.declared.show.Request.{Request}
use Rattle.binfarce_jobs.specs.declared.show.Seen.{Seen}

-- a path, and why the file there was refused
abbrev pub Refused : Type 0
Refused = List ℕ × Fault

-- a path, and the words of a hint on the file there
abbrev pub Hinted : Type 0
Hinted = List ℕ × List ℕ

-- a list, where it is known, grows by more
abbrev pub Grows : {X : Type 0} → Option (List X) → Option (List X) → List X → Type 0
Grows None new more = Unit {0}
Grows (Some old) None more = ⊥
Grows (Some old) (Some new) more = new ≡ old ++ more

-- so the reports do
abbrev pub Reports : Option (List Refused) → Option (List Refused) → List Refused → Type 0
Reports old new more = Grows old new more

-- the hints with these words, on the file at a path
abbrev pub hinted : (path : List ℕ) → (said : List (List ℕ)) → List Hinted
hinted path said = map (λ words. (path, words)) said

-- what a file came to: this text was shown, this was said of it, and whether a sum of it exceeds its limit; or it was refused, and this was said of it
pub data Fate : Type 0 where
  shown : (text : List ℕ) → (said : List (List ℕ)) → (above : Bool) → Fate
  refused : (fault : Fault) → (said : List (List ℕ)) → Fate

-- text is what is shown of the file at a path, which is one that a reader reads
abbrev pub IsShownOf : Request → (path file text : List ℕ) → Type 0
IsShownOf asked path file text = (foreign_in file ≡ None) × IsShownText asked path file text

-- a file may be refused so: it can't be read; it is what no reader reads; or it is refused for a reason that it gives
abbrev pub MayBeRefused : Request → (may_fail : Bool) → (file : List ℕ) → Fault → Type 0
MayBeRefused asked may_fail file fault =
    IsForeign file fault
    ⊎ IsUnreadable may_fail file fault
    ⊎ ((foreign_in file ≡ None) × (failure fault ≢ write_failed) × MayEnd ((may_fail ≡ true) ⊎ (file ≡ [])) asked file (failure fault))

-- this is said of a file that is shown, and whether a sum of it exceeds its limit: by its sums, and by what is said of its rows
abbrev pub IsFoundIn : Request → (file : List ℕ) → (said : List (List ℕ)) → (above : Bool) → Type 0
IsFoundIn asked file said above =
    (sums : Option Sums) × (rows : List Found) × HasSumsOf asked file sums × HasRowsOf asked file rows × IsSaidOfShown asked file sums rows said
    × (above ≡ (exceeds asked.limit sums || are_above rows))

-- the file at a path, which may fail to be read, or not, and holds these bytes, may come to this
abbrev pub MayComeTo : Request → (path : List ℕ) → (may_fail : Bool) → (file : List ℕ) → Fate → Type 0
MayComeTo asked path may_fail file (shown text said above) = IsShownOf asked path file text × IsFoundIn asked file said above
MayComeTo asked path may_fail file (refused fault said) = MayBeRefused asked may_fail file fault × IsSaidOfRefused fault file said

-- what precedes a file's text: of several files a blank line, and a line with its name, which no character in it ends
abbrev pub heading : (are_several : Bool) → (path : List ℕ) → List ℕ
heading are_several path = if are_several then codes "\n" ++ (escaped path ++ codes ":\n") else []

-- what is written, what is reported, and what is said, of a file that came to this
abbrev pub written : (are_several : Bool) → (path : List ℕ) → Fate → List ℕ
written are_several path (shown text said above) = heading are_several path ++ text
written are_several path (refused fault said) = []

abbrev pub reported : (path : List ℕ) → Fate → List Refused
reported path (shown text said above) = []
reported path (refused fault said) = (path, fault) ∷ []

abbrev pub said_of : Fate → List (List ℕ)
said_of (shown text said above) = said
said_of (refused fault said) = said

abbrev pub is_shown : Fate → Bool
is_shown (shown text said above) = true
is_shown (refused fault said) = false

abbrev pub is_above : Fate → Bool
is_above (shown text said above) = above
is_above (refused fault said) = false

abbrev pub verdict_of : Fate → Verdict
verdict_of fate = record { is_done = is_shown fate; is_above = is_above fate }

-- what is asked for of files: what is shown, and whether under headings; which files may fail to be read, and what they hold
pub record Files : Type 0 where
  pub asked : Request
  pub are_several : Bool
  pub may_fail : List ℕ → Bool
  pub held : List ℕ → List ℕ

abbrev pub asked_files : Request → (are_several : Bool) → (may_fail : List ℕ → Bool) → (held : List ℕ → List ℕ) → Files
asked_files asked are_several may_fail held = record { asked = asked; are_several = are_several; may_fail = may_fail; held = held }

-- what was written, what of it counts as taken by the sink, which takes a heading as a whole, what was reported, and the hints, if these are known
pub record State : Type 0 where
  pub bytes : Option (List ℕ)
  pub taken : Option (List ℕ)
  pub reports : Option (List Refused)
  pub hints : Option (List Hinted)

-- what a call leaves: the bytes of the sink, the reports, and the hints
abbrev pub state_of : {W : Type 0} → (W → Option (List ℕ)) → Output W → Option (List Refused) → Option (List Hinted) → State
state_of contents sink reports hints = record { bytes = contents (writer_of sink); taken = taken contents sink; reports = reports; hints = hints }

-- what an argument may come to: a path what the file there may; one that isn't UTF-8 is refused for that, and nothing is said of it
abbrev pub MayCome : Files → Argument → Fate → Type 0
MayCome files (utf8 path) fate = MayComeTo files.asked path (files.may_fail path) (files.held path) fate
MayCome files (no_utf8 at) fate = fate ≡ refused NotUtf8 []

-- these arguments, one after the other, came to what they may: the file at each path is shown under its heading, or reported, with its hints; one that isn't UTF-8 is reported; whether all are shown, and whether a sum of one exceeds its limit
pub record Shows (files : Files) (arguments : List Argument) (old new : State) (all : Verdict) : Type 0 where
  pub fates : List (Argument × Fate)
  pub arguments_are : map (λ f. f.0) fates ≡ arguments
  pub each : All (λ f. MayCome files f.0 f.1) fates
  pub written_are : Appends old.bytes new.bytes (flat_map (λ f. written files.are_several (name_of f.0) f.1) fates)
  pub reported_are : Reports old.reports new.reports (flat_map (λ f. reported (name_of f.0) f.1) fates)
  pub hinted_are : Grows old.hints new.hints (flat_map (λ f. hinted (name_of f.0) (said_of f.1)) fates)
  pub done_is : all.is_done ≡ list_all (λ f. is_shown f.1) fates
  pub above_is : all.is_above ≡ list_any (λ f. is_above f.1) fates

-- all was written of the first of these arguments, and of the next one, a path, whose writing failed, a beginning; the sink counts what is left of its heading as taken
pub record BreaksOff (files : Files) (arguments : List Argument) (old new : State) : Type 0 where
  pub first : List Argument
  pub next : List ℕ
  pub others : List Argument
  pub arguments_are : arguments ≡ first ++ utf8 next ∷ others
  pub between : Option (List ℕ)
  pub all : Verdict
  pub shows : Shows files first old (record new { bytes = between }) all
  pub text : List ℕ
  pub is : IsShownOf files.asked next (files.held next) text
  pub begins : AppendsBeginning between new.taken (heading files.are_several next ++ text)

-- all was written of the first of these arguments, and then the memory for a heading, or for the name of one that isn't UTF-8, was refused
pub record StopsBefore (files : Files) (arguments : List Argument) (old new : State) : Type 0 where
  pub first : List Argument
  pub others : List Argument
  pub arguments_are : arguments ≡ first ++ others
  pub all : Verdict
  pub shows : Shows files first old new all

-- how the showing of these arguments ended: with what it came to; or a write failed, or an allocation
abbrev pub ShowsAll : Files → (arguments : List Argument) → (old new : State) → Result Verdict Fault → Type 0
ShowsAll files arguments old new (Ok all) = Shows files arguments old new all
ShowsAll files arguments old new (Err e) = ((failure e ≡ write_failed) × BreaksOff files arguments old new) ⊎ ((failure e ≡ no_memory) × StopsBefore files arguments old new)

-- the file at a path holds these bytes, if that is known
abbrev pub IsHeld : (bytes_at : List ℕ → Option (List ℕ)) → (held : List ℕ → List ℕ) → Argument → Type 0
IsHeld bytes_at held (utf8 path) = bytes_at path ≡ Some (held path)
IsHeld bytes_at held (no_utf8 at) = Unit {0}

-- so is each that these arguments name
abbrev pub AreHeld : (bytes_at : List ℕ → Option (List ℕ)) → (held : List ℕ → List ℕ) → (arguments : List Argument) → Type 0
AreHeld bytes_at held arguments = All (IsHeld bytes_at held) arguments

-- a beginning was written of the text of the file at this path, after its heading
abbrev pub BeginsText : Files → Argument → (old taken : Option (List ℕ)) → Type 0
BeginsText files (utf8 path) old taken = (text : List ℕ) × IsShownOf files.asked path (files.held path) text × AppendsBeginning old taken (heading files.are_several path ++ text)
BeginsText files (no_utf8 at) old taken = ⊥

-- how the showing of an argument ended: with what it came to; or a write failed; or the memory for its heading or name was refused, before anything was written
abbrev pub ShowsOne : Files → Argument → (old new : State) → Result Verdict Fault → Type 0
ShowsOne files argument old new (Ok all) =
    (fate : Fate) × MayCome files argument fate × (all ≡ verdict_of fate)
    × Appends old.bytes new.bytes (written files.are_several (name_of argument) fate) × Reports old.reports new.reports (reported (name_of argument) fate) × Grows old.hints new.hints (hinted (name_of argument) (said_of fate))
ShowsOne files argument old new (Err e) =
    (((failure e ≡ write_failed) × BeginsText files argument old.bytes new.taken) ⊎ ((failure e ≡ no_memory) × Appends old.bytes new.bytes []))
    × Reports old.reports new.reports [] × Grows old.hints new.hints []

-- how the showing of a file failed: a write failed, before which a beginning of the text was written after what was left of the heading; or the file was refused, and nothing written
abbrev pub FailsAs : Request → (path : List ℕ) → (MayFail : Type 0) → (file : List ℕ) → (heading : List ℕ) → (old new taken : Option (List ℕ)) → Outcome → Type 0
FailsAs asked path MayFail file heading old new taken write_failed = (text : List ℕ) × IsShownText asked path file text × AppendsBeginning old taken (heading ++ text)
FailsAs asked path MayFail file heading old new taken outcome = MayEnd MayFail asked file outcome × (new ≡ old)

-- how the showing of a file that is read ended: its text is written after what was left of the heading, and it is found whether it has no function symbol, and its sums; or it failed
abbrev pub ShowsSource : Request → (path : List ℕ) → (MayFail : Type 0) → (file : List ℕ) → (heading : List ℕ) → (old new taken : Option (List ℕ)) → Result Seen Fault → Type 0
ShowsSource asked path MayFail file heading old new taken (Ok seen) = ((text : List ℕ) × IsShownText asked path file text × Appends old new (heading ++ text)) × HasSumsOf asked file seen.sums × HasRowsOf asked file (map finding_view seen.rows.items) × (seen.is_empty ≡ has_none asked.symbols file)
ShowsSource asked path MayFail file heading old new taken (Err fault) = FailsAs asked path MayFail file heading old new taken (failure fault)

-- an argument that isn't UTF-8 was refused, and so reported; or the memory for its name was refused
abbrev pub RefusesArgument : (at : ℕ) → (before after : Option (List Refused)) → Result Verdict Fault → Type 0
RefusesArgument at before after (Ok verdict) = (verdict ≡ record { is_done = false; is_above = false }) × Reports before after ((name_of (no_utf8 at), NotUtf8) ∷ [])
RefusesArgument at before after (Err e) = (failure e ≡ no_memory) × Reports before after []

-- what is reported of a fault in the work on the file at a path: why the file is refused; a fault that isn't the file's is passed on
abbrev pub ReportsFault : (path : List ℕ) → (before after : Option (List Refused)) → Fault → (of_file : Bool) → (result : Result Verdict Fault) → Type 0
ReportsFault path before after fault true result = (result ≡ Ok (record { is_done = false; is_above = false })) × Reports before after ((path, fault) ∷ [])
ReportsFault path before after fault false result = (result ≡ Err fault) × Reports before after []

-- the hints on the file at a path, which holds these bytes and is refused for a fault; none for a fault that isn't the file's
abbrev pub HintsFault : (path : List ℕ) → (before after : Option (List Hinted)) → Fault → (of_file : Bool) → (file : List ℕ) → Type 0
HintsFault path before after fault true file = (said : List (List ℕ)) × IsSaidOfRefused fault file said × Grows before after (hinted path said)
HintsFault path before after fault false file = Grows before after []
