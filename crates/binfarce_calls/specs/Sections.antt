-- What is written and reported of the sections of files.
use Rattle.std.specs.Prelude.{◌≡◌, ◌≢◌, ◌⊎◌, ℕ, Bool, true, false, ◌||◌, List, [], ◌∷◌, ◌++◌, map, Option, None, is_some, Result, Ok, Err, if◌then◌else◌}
use Rattle.std.specs.Io.KnownBytes.{Appends}
use Rattle.binfarce_rows.specs.Json.{Style, lines, objects}
use Rattle.binfarce_sections.specs.Sums.{FileSums, sums_text}
use Rattle.binfarce_sections.specs.declared.error.SectionError.{SectionError}
use Rattle.binfarce_sections.specs.declared.error.SectionError.TheVariants.{Write}
use Rattle.binfarce_tools.specs.Writing.{AppendsBeginning, no_memory, write_failed}
use Rattle.binfarce_words.specs.declared.takes.Limit.{Limit}
use Rattle.binfarce_io.specs.Faults.{failure}
use Rattle.binfarce_words.specs.Words.{Argument, no_utf8, utf8}
use Rattle.binfarce_jobs.specs.Files.{Files, Grows, RefusesArgument, Reports, State, heading, hinted}
use Rattle.binfarce_foreign.specs.Foreign.{foreign_in}
use Rattle.binfarce_jobs.specs.Hints.{IsSaidOfRefused, words_of}
use Rattle.binfarce_io.specs.Input.{IsForeign, IsUnreadable}
use Rattle.binfarce_jobs.specs.Limit.{above, and_then, are_above}
use Rattle.binfarce_jobs.specs.Section.{TakesAsked}
use Rattle.binfarce_io.specs.declared.fault.Fault.{Fault}
use Rattle.binfarce_io.specs.declared.fault.Fault.TheVariants.{Section}
use Rattle.binfarce_jobs.specs.declared.hint.Hint.{Hint}
use Rattle.binfarce_jobs.specs.declared.limit.Verdict.{Verdict}
use Rattle.binfarce_jobs.specs.declared.section.Asked.{Asked}
use Rattle.binfarce_jobs.specs.declared.show.Request.{Request}
use Rattle.binfarce_limits.specs.Rows.{Found, NameLimit, findings, found_words}
use Rattle.binfarce_jobs.specs.Show.{limits_of}
use Rattle.binfarce_calls.specs.RowLimits.{sized_in}
use Rattle.binfarce_calls.specs.Summed.{Fate, HasNoSections, HasSections, MayComeTo, is_summed, refused, reported, summed}

-- all is done, and no sum exceeds a limit; a file is refused
abbrev pub done : Verdict
done = record { is_done = true; is_above = false }

abbrev pub not_done : Verdict
not_done = record { is_done = false; is_above = false }

-- what is asked for of the sections of a file, which is one that a reader reads, was written, or it wasn't, or not whole, for an error
abbrev pub WritesAsked : Asked → Style → (may_fail : Bool) → (file : List ℕ) → (old new : Option (List ℕ)) → Result (Unit {0}) SectionError → Type 0
WritesAsked asked style may_fail file old new result = (foreign_in file ≡ None) × TakesAsked style may_fail file asked old new result

-- a file may be refused so: it is what no reader reads, or it can't be read, and nothing was written; or for an error other than a failed write
abbrev pub MayBeRefusedAs : Asked → Style → (may_fail : Bool) → (file : List ℕ) → (old new : Option (List ℕ)) → Fault → Type 0
MayBeRefusedAs asked style may_fail file old new fault =
    ((IsForeign file fault ⊎ IsUnreadable may_fail file fault) × Appends old new [])
    ⊎ ((e : SectionError) × (fault ≡ Section e) × (e ≢ Write) × WritesAsked asked style may_fail file old new (Err e))

-- how the showing of what is asked for of the file at a path ended: it was written; or the file is refused, and reported, with its hints; or a write failed, before which so much of it was taken
abbrev pub ShowsAsked : Asked → Style → (path : List ℕ) → (may_fail : Bool) → (file : List ℕ) → (before after : State) → Result Verdict Fault → Type 0
ShowsAsked asked style path may_fail file before after (Ok verdict) =
    ((verdict ≡ done) × WritesAsked asked style may_fail file before.bytes after.bytes (Ok tt) × Reports before.reports after.reports [] × Grows before.hints after.hints [])
    ⊎ ((verdict ≡ not_done) × ((fault : Fault) × (said : List (List ℕ)) × MayBeRefusedAs asked style may_fail file before.bytes after.bytes fault × IsSaidOfRefused fault file said × Reports before.reports after.reports ((path, fault) ∷ []) × Grows before.hints after.hints (hinted path said)))
ShowsAsked asked style path may_fail file before after (Err fault) =
    (failure fault ≡ write_failed) × ((result : Result (Unit {0}) SectionError) × WritesAsked asked style may_fail file before.bytes after.taken result) × Reports before.reports after.reports [] × Grows before.hints after.hints []

-- how the rows of the sums of the file at a path are written
abbrev pub style_at : Request → (path : List ℕ) → Style
style_at asked path = if asked.is_json then objects path [] else lines

-- these rows, of which the first ones may be wanted alone, under the file's heading
abbrev pub rows_of : (first : Option ℕ) → Files → (path : List ℕ) → FileSums → List ℕ
rows_of first files path sums = heading files.are_several path ++ sums_text (style_at files.asked path) first sums

-- the hint that the length of a file that came to this exceeds the limit
abbrev pub excess_in : Option Limit → Fate FileSums → Option Hint
excess_in limit (summed sums) = above sums.file_length limit
excess_in limit (refused fault said) = None

-- what is said of limits on the rows of a file that came to this
abbrev pub rows_in : List NameLimit → Fate FileSums → List Found
rows_in limits (summed sums) = findings (sized_in sums) limits
rows_in limits (refused fault said) = []

-- what is written, and what is said, of a file that came to this
abbrev pub written_in : (first : Option ℕ) → Files → (path : List ℕ) → Fate FileSums → List ℕ
written_in first files path (summed sums) = rows_of first files path sums
written_in first files path (refused fault said) = []

abbrev pub said_in : Request → Fate FileSums → List (List ℕ)
said_in asked (summed sums) = words_of (excess_in asked.limit (summed sums)) ++ map found_words (rows_in (limits_of asked) (summed sums))
said_in asked (refused fault said) = said

abbrev pub verdict_in : Request → Fate FileSums → Verdict
verdict_in asked fate = record { is_done = is_summed fate; is_above = is_some (excess_in asked.limit fate) || are_above (rows_in (limits_of asked) fate) }

-- a beginning of the rows of the file at a path was written
abbrev pub BeginsRows : (first : Option ℕ) → Files → (path : List ℕ) → (old taken : Option (List ℕ)) → Type 0
BeginsRows first files path old taken =
    (foreign_in (files.held path) ≡ None) × ((sums : FileSums) × HasSections (files.held path) sums × AppendsBeginning old taken (rows_of first files path sums))

-- how the summing of the file at a path ended: with what it came to; or a write failed; or the memory for its heading was refused, before anything was written
abbrev pub SumsOne : (first : Option ℕ) → Files → (path : List ℕ) → (old new : State) → Result Verdict Fault → Type 0
SumsOne first files path old new (Ok all) =
    (fate : Fate FileSums) × MayComeTo HasSections HasNoSections (files.may_fail path) (files.held path) fate × (all ≡ verdict_in files.asked fate)
    × Appends old.bytes new.bytes (written_in first files path fate) × Reports old.reports new.reports (reported path fate) × Grows old.hints new.hints (hinted path (said_in files.asked fate))
SumsOne first files path old new (Err e) =
    (((failure e ≡ write_failed) × BeginsRows first files path old.bytes new.taken) ⊎ ((failure e ≡ no_memory) × Appends old.bytes new.bytes []))
    × Reports old.reports new.reports [] × Grows old.hints new.hints []

-- so of an argument: one that isn't UTF-8 is refused for that, which is reported, or the memory for its name is refused
abbrev pub SumsArgument : (first : Option ℕ) → Files → Argument → (old new : State) → Result Verdict Fault → Type 0
SumsArgument first files (utf8 path) old new result = SumsOne first files path old new result
SumsArgument first files (no_utf8 at) old new result = Appends old.bytes new.bytes [] × RefusesArgument at old.reports new.reports result × Grows old.hints new.hints []

-- a verdict, and what the rest comes to
abbrev pub and_rest : Verdict → Result Verdict Fault → Result Verdict Fault
and_rest this (Ok rest) = Ok (and_then this rest)
and_rest this (Err e) = Err e

-- items come to something, one after the other: all do; or one ends it, and the others are left
abbrev pub InTurn : {X : Type 0} → (One : X → (old new : State) → Result Verdict Fault → Type 0) → (items : List X) → (old new : State) → Result Verdict Fault → Type 0
InTurn One [] old new result = (new ≡ old) × (result ≡ Ok done)
InTurn One (x ∷ others) old new result =
    ((e : Fault) × (result ≡ Err e) × One x old new (Err e))
    ⊎ ((between : State) × (this : Verdict) × (rest : Result Verdict Fault) × One x old between (Ok this) × InTurn One others between new rest × (result ≡ and_rest this rest))
