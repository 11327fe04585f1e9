-- What the steps of a comparison come to.
use Rattle.std.specs.Prelude.{◌≡◌, ℕ, Bool, true, false, List, [], ◌∷◌, ◌++◌, map, Option, Some, None, Result, Ok, Err}
use Rattle.std.specs.Io.KnownBytes.{Appends}
use Rattle.binfarce_bytes.specs.SectionEntries.{SelectedSymbols}
use Rattle.binfarce_bytes.specs.Selection.{section_of}
use Rattle.binfarce_figures.specs.Claimed.{AreClaimsFor}
use Rattle.binfarce_rows.specs.Json.{Style}
use Rattle.binfarce_sections.specs.Sums.{FileSums, sums_text}
use Rattle.binfarce_tools.specs.Answer.{selected_answer}
use Rattle.binfarce_tools.specs.Writing.{AppendsBeginning, write_failed}
use Rattle.binfarce_io.specs.Faults.{failure, is_of_file}
use Rattle.binfarce_jobs.specs.Files.{Grows, Hinted, Refused, Reports, State, hinted}
use Rattle.binfarce_foreign.specs.Foreign.{foreign_in}
use Rattle.binfarce_jobs.specs.Hints.{IsSaidOfRefused}
use Rattle.binfarce_io.specs.Input.{IsReadOf, bytes_of}
use Rattle.binfarce_jobs.specs.Show.{answer_for}
use Rattle.binfarce_io.specs.declared.fault.Fault.{Fault}
use Rattle.binfarce_jobs.specs.declared.show.Symbols.{Symbols}
use Rattle.binfarce_calls.specs.Compared.{BreaksOff, Comparison, Differ}
use Rattle.binfarce_calls.specs.Summed.{Fate, HasNoSections, HasSections, MayBeRefused, refused, summed}
use Rattle.binfarce_calls.specs.declared.compare.ReadFile.{ReadFile}
use Rattle.binfarce_calls.specs.declared.compare.Summed.{Summed}
use Rattle.binfarce_calls.specs.declared.sections.FileRows.{FileRows}
use Rattle.binfarce_calls.specs.RowLimits.{sized_in}
use Rattle.binfarce_limits.specs.Rows.{NameLimit, finding_view, findings}

-- what was reported, and the hints that were given, if these are known
pub record Messages : Type 0 where
  pub reports : Option (List Refused)
  pub hints : Option (List Hinted)

abbrev pub messages : Option (List Refused) → Option (List Hinted) → Messages
messages reports hints = record { reports = reports; hints = hints }

-- no more is reported, and no more said
abbrev pub IsQuiet : (before after : Messages) → Type 0
IsQuiet before after = Reports before.reports after.reports [] × Grows before.hints after.hints []

-- the file at a path, which holds these bytes, is refused for a fault for which it may be, and reported, with its hints
abbrev pub IsRefused : (MayBe : Fault → Type 0) → (path file : List ℕ) → (before after : Messages) → Type 0
IsRefused MayBe path file before after =
    (fault : Fault) × (said : List (List ℕ)) × MayBe fault × IsSaidOfRefused fault file said × Reports before.reports after.reports ((path, fault) ∷ []) × Grows before.hints after.hints (hinted path said)

-- a step with a file gives something; or the file is refused; a fault is not passed on
abbrev pub Steps : {T : Type 0} → (Holds : T → Type 0) → (MayBe : Fault → Type 0) → (path file : List ℕ) → (before after : Messages) → Result (Option T) Fault → Type 0
Steps Holds MayBe path file before after (Ok (Some x)) = Holds x × IsQuiet before after
Steps Holds MayBe path file before after (Ok None) = IsRefused MayBe path file before after
Steps Holds MayBe path file before after (Err e) = ⊥

-- a step that has nothing to go on gives nothing
abbrev pub Stops : {T : Type 0} → (before after : Messages) → Result (Option T) Fault → Type 0
Stops before after (Ok (Some x)) = ⊥
Stops before after (Ok None) = IsQuiet before after
Stops before after (Err e) = ⊥

-- a step goes on with what the one before gave, if it gave something
abbrev pub StepsOn : {R T : Type 0} → (Given : R → Type 0) → Option R → (Holds : T → Type 0) → (MayBe : Fault → Type 0) → (path file : List ℕ) → (before after : Messages) → Result (Option T) Fault → Type 0
StepsOn Given (Some r) Holds MayBe path file before after result = Given r → Steps Holds MayBe path file before after result
StepsOn Given None Holds MayBe path file before after result = Stops before after result

-- a file was read: these are the tables of what is read of it
pub record HasRead {F T : Type 0} (bytes : F → Option (List ℕ)) (AreTables : List ℕ → T → Type 0) (file : List ℕ) (read : ReadFile F T) : Type 0 where
  pub part : List ℕ
  pub is_part : IsReadOf file part
  pub held : bytes_of bytes read.file ≡ Some part
  pub is_read : foreign_in file ≡ None
  pub tables_are : AreTables part read.tables

-- a file was summed by these of its function symbols
pub record HasSummed {F : Type 0} (bytes : F → Option (List ℕ)) (symbols : Symbols) (file : List ℕ) (selected : SelectedSymbols) (sums : Summed F) : Type 0 where
  pub held : bytes_of bytes sums.file.now ≡ Some file
  pub is_read : foreign_in file ≡ None
  pub answer_is : answer_for symbols file ≡ Some (Ok selected)
  pub selected_is : selected_answer symbols.which (section_of symbols.selection) file ≡ Some (Ok selected)
  pub claims_are : AreClaimsFor selected sums.claims

-- a file was summed by its sections
abbrev pub HasSums : (file : List ℕ) → (sums given : FileSums) → Type 0
HasSums file sums given = (given ≡ sums) × (foreign_in file ≡ None) × HasSections file sums

-- what the steps with a file gave is what it came to
abbrev pub Carries : {S T : Type 0} → (Is : S → T → Type 0) → Option T → Fate S → Type 0
Carries Is (Some x) (summed sums) = Is sums x
Carries Is None (refused fault said) = Unit {0}
Carries Is given fate = ⊥

-- how the writing of how two files differ ended that came to this
abbrev pub Writes : {S : Type 0} → Comparison S → (first second : Fate S) → (before after : State) → Result Bool Fault → Type 0
Writes asked first second before after (Ok is_above) =
    (text : List ℕ) × (said : List Hinted) × Differ asked first second text said is_above × Appends before.bytes after.bytes text × Reports before.reports after.reports [] × Grows before.hints after.hints said
Writes asked first second before after (Err e) = BreaksOff asked first second before after (failure e)

-- how the summing of a file by its sections failed: it is refused, and nothing was written; or a write failed, before which a beginning of the rows was written after what was left of the heading
abbrev pub SumFails : Style → (first : Option ℕ) → (may_fail : Bool) → (file heading : List ℕ) → (old new taken : Option (List ℕ)) → Fault → (of_file : Bool) → Type 0
SumFails style first may_fail file heading old new taken fault true = MayBeRefused HasNoSections may_fail file fault × (new ≡ old)
SumFails style first may_fail file heading old new taken fault false = (failure fault ≡ write_failed) × ((sums : FileSums) × HasSections file sums × AppendsBeginning old taken (heading ++ sums_text style first sums))

-- how it ended: the rows were written, the file has this length, and this is said of limits on its rows; or it failed
abbrev pub SumsSource : Style → (first : Option ℕ) → List NameLimit → (may_fail : Bool) → (file heading : List ℕ) → (old new taken : Option (List ℕ)) → Result FileRows Fault → Type 0
SumsSource style first limits may_fail file heading old new taken (Ok found) =
    (sums : FileSums) × HasSections file sums × (found.length ≡ sums.file_length) × (map finding_view found.rows.items ≡ findings (sized_in sums) limits) × Appends old new (heading ++ sums_text style first sums)
SumsSource style first limits may_fail file heading old new taken (Err fault) = SumFails style first may_fail file heading old new taken fault (is_of_file fault)
