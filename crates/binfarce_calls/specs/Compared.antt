-- What two files that are compared come to.
use Rattle.std.specs.Prelude.{◌≡◌, ◌⊎◌, ℕ, Bool, false, not, ◌&&◌, ◌||◌, List, [], ◌∷◌, ◌++◌, map, Option, Some, None, is_some, Result, Ok, Err}
use Rattle.std.specs.Io.KnownBytes.{Appends}
use Rattle.binfarce_bytes.specs.SectionEntries.{SelectedSymbols}
use Rattle.binfarce_figures.specs.Changes.{AreChangesBy, IsGrowthBy}
use Rattle.binfarce_figures.specs.declared.diff.Growth.{Growth}
use Rattle.binfarce_figures.specs.declared.sums.Figures.{Figures}
use Rattle.binfarce_rows.specs.Json.{style_of}
use Rattle.binfarce_sections.specs.Changes.{AreChangesOf}
use Rattle.binfarce_sections.specs.Sums.{FileSums}
use Rattle.binfarce_tools.specs.Writing.{AppendsBeginning, Outcome, no_memory, write_failed}
use Rattle.binfarce_words.specs.declared.takes.Limit.{Limit}
use Rattle.binfarce_io.specs.Faults.{failure}
use Rattle.binfarce_jobs.specs.Files.{Grows, Hinted, Refused, Reports, State, hinted}
use Rattle.binfarce_jobs.specs.Hints.{IsOrNone, lack_in, words_of}
use Rattle.binfarce_jobs.specs.Limit.{are_above, grown}
use Rattle.binfarce_io.specs.declared.fault.Fault.{Fault}
use Rattle.binfarce_jobs.specs.declared.hint.Hint.{Hint}
use Rattle.binfarce_jobs.specs.declared.limit.Verdict.{Verdict}
use Rattle.binfarce_limits.specs.Rows.{Found, findings, found_words, limit_view}
use Rattle.binfarce_calls.specs.RowLimits.{AreRowsBetween, sections_in}
use Rattle.binfarce_calls.specs.Summed.{Fate, HasNoSections, HasNoSum, HasSections, HasSymbols, MayComeTo, is_summed, reported, said_of, summed}
use Rattle.binfarce_calls.specs.declared.compare.Pair.{Pair}
use Rattle.binfarce_calls.specs.declared.compare.Sizes.{Sizes}

-- why the file at a path is refused, if it is
abbrev pub refusal : (path : List ℕ) → Option Fault → List Refused
refusal path (Some fault) = (path, fault) ∷ []
refusal path None = []

-- each of two files that is refused is reported by its path, the old one first; all is done if none is
abbrev pub ReportsOf : (old new : List ℕ) → (before after : Option (List Refused)) → Result Verdict Fault → Type 0
ReportsOf old new before after (Ok verdict) =
    (first second : Option Fault) × Reports before after (refusal old first ++ refusal new second) × (verdict.is_done ≡ (not (is_some first) && not (is_some second)))
ReportsOf old new before after (Err e) = Unit {0}

-- a file that is compared: its path, whether it may fail to be read, and what it holds
pub record File : Type 0 where
  pub path : List ℕ
  pub may_fail : Bool
  pub bytes : List ℕ

abbrev pub file_at : (may_fail : List ℕ → Bool) → (path bytes : List ℕ) → File
file_at may_fail path bytes = record { path = path; may_fail = may_fail path; bytes = bytes }

-- a comparison of two files: which sums a file has, and why it has none; the text that shows how sums differ, the growth between them, and what is said of its rows; the hint on a file whose sums are sums of nothing; and the limit on growth
pub record Comparison (S : Type 0) : Type 1 where
  pub old : File
  pub new : File
  pub Has : (file : List ℕ) → S → Type 0
  pub HasNone : (file : List ℕ) → Outcome → Type 0
  pub IsText : (before after : S) → (text : List ℕ) → Type 0
  pub IsGrowth : (before after : S) → Growth → Type 0
  pub AreRows : (before after : S) → List Found → Type 0
  pub lack : (file : List ℕ) → Option Hint
  pub limit : Option Limit

-- of two files that hold these bytes, by the sizes of their function symbols
abbrev pub by_sizes : Sizes → Pair → (may_fail : List ℕ → Bool) → (old new : List ℕ) → Comparison SelectedSymbols
by_sizes asked pair may_fail old new = record {
  old = file_at may_fail pair.old.now old;
  new = file_at may_fail pair.new.now new;
  Has = HasSymbols asked.symbols;
  HasNone = HasNoSum asked.symbols;
  IsText = λ before after. AreChangesBy asked.figures (style_of pair.form) (before, after);
  IsGrowth = λ before after. IsGrowthBy (before, after);
  AreRows = λ before after. AreRowsBetween (map limit_view pair.limits.now) asked.figures.grouping (before, after);
  lack = lack_in asked.symbols;
  limit = pair.limit;
}

-- and by their sections: the growth is that of the files
abbrev pub by_sections : Figures → Pair → (may_fail : List ℕ → Bool) → (old new : List ℕ) → Comparison FileSums
by_sections figures pair may_fail old new = record {
  old = file_at may_fail pair.old.now old;
  new = file_at may_fail pair.new.now new;
  Has = HasSections;
  HasNone = HasNoSections;
  IsText = AreChangesOf figures.has_percent (style_of pair.form) figures.first;
  IsGrowth = λ before after growth. growth ≡ record { old = before.file_length; new = after.file_length };
  AreRows = λ before after found. found ≡ findings (sections_in before after) (map limit_view pair.limits.now);
  lack = λ file. None;
  limit = pair.limit;
}

-- what is said of two files that are both summed: of each, that its sums are sums of nothing; and of the new one, that the growth exceeds the limit, and on its rows
abbrev pub IsSaidOfBoth : {S : Type 0} → Comparison S → Growth → List Found → List Hinted → Type 0
IsSaidOfBoth asked growth rows said =
    (first second : List (List ℕ)) × IsOrNone (words_of (asked.lack asked.old.bytes)) first × IsOrNone (words_of (asked.lack asked.new.bytes)) second
    × (said ≡ hinted asked.old.path first ++ (hinted asked.new.path second ++ hinted asked.new.path (words_of (grown growth asked.limit) ++ map found_words rows)))

-- of two files that are both summed, text shows how their sums differ, this is said of them, and the growth, or that of a row, exceeds its limit or not; of others there is no text, and no more is said
abbrev pub Differ : {S : Type 0} → Comparison S → (first second : Fate S) → (text : List ℕ) → (said : List Hinted) → (is_above : Bool) → Type 0
Differ asked (summed before) (summed after) text said is_above =
    asked.IsText before after text × ((growth : Growth) × (rows : List Found) × asked.IsGrowth before after growth × asked.AreRows before after rows × IsSaidOfBoth asked growth rows said × (is_above ≡ (is_some (grown growth asked.limit) || are_above rows)))
Differ asked first second text said is_above = (text ≡ []) × (said ≡ []) × (is_above ≡ false)

-- two files that came to this were compared: each that is refused is reported by its path, with its hints, the old one first; then the text was written, and what is said of both
pub record Compares {S : Type 0} (asked : Comparison S) (first second : Fate S) (before after : State) (verdict : Verdict) : Type 0 where
  pub text : List ℕ
  pub said : List Hinted
  pub differ : Differ asked first second text said verdict.is_above
  pub written_is : Appends before.bytes after.bytes text
  pub reported_are : Reports before.reports after.reports (reported asked.old.path first ++ reported asked.new.path second)
  pub hinted_are : Grows before.hints after.hints (hinted asked.old.path (said_of first) ++ (hinted asked.new.path (said_of second) ++ said))
  pub done_is : verdict.is_done ≡ (is_summed first && is_summed second)

-- the text for two files that are both summed was not written whole: a write failed after a beginning of it; or the memory for it was refused. Nothing is reported, and nothing said
abbrev pub BreaksOff : {S : Type 0} → Comparison S → (first second : Fate S) → (before after : State) → Outcome → Type 0
BreaksOff asked (summed a) (summed b) before after outcome =
    (((outcome ≡ write_failed) × ((text : List ℕ) × asked.IsText a b text × AppendsBeginning before.bytes after.taken text)) ⊎ ((outcome ≡ no_memory) × Appends before.bytes after.taken []))
    × Reports before.reports after.reports [] × Grows before.hints after.hints []
BreaksOff asked first second before after outcome = ⊥

-- how the comparison of files that came to this ended
abbrev pub EndsAs : {S : Type 0} → Comparison S → (first second : Fate S) → (before after : State) → Result Verdict Fault → Type 0
EndsAs asked first second before after (Ok verdict) = Compares asked first second before after verdict
EndsAs asked first second before after (Err e) = BreaksOff asked first second before after (failure e)

-- two files came to what they may, and their comparison ended so
abbrev pub ComparesAs : {S : Type 0} → Comparison S → (before after : State) → Result Verdict Fault → Type 0
ComparesAs {S} asked before after result =
    (first second : Fate S) × MayComeTo asked.Has asked.HasNone asked.old.may_fail asked.old.bytes first × MayComeTo asked.Has asked.HasNone asked.new.may_fail asked.new.bytes second
    × EndsAs asked first second before after result
