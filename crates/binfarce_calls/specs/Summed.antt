-- What a file comes to that is summed: by its function symbols, or by its sections.
use Rattle.std.specs.Prelude.{◌≡◌, ◌⊎◌, ℕ, Bool, true, false, List, [], ◌∷◌, length, Option, Some, None, Result, Ok, Err}
use Rattle.binfarce_bytes.specs.Format.{format_of}
use Rattle.binfarce_bytes.specs.Refusal.{Refusal}
use Rattle.binfarce_bytes.specs.SectionEntries.{SelectedSymbols}
use Rattle.binfarce_bytes.specs.Walk.{Walk}
use Rattle.binfarce_figures.specs.Claims.{SumFits}
use Rattle.binfarce_sections.specs.Section.{Section, sections_of}
use Rattle.binfarce_sections.specs.Sums.{AreSumsOf, FileSums}
use Rattle.binfarce_tools.specs.Writing as writing
use Rattle.binfarce_tools.specs.Writing.{Outcome, too_large, unknown_format}
use Rattle.binfarce_io.specs.Faults.{failure}
use Rattle.binfarce_jobs.specs.Files.{Refused}
use Rattle.binfarce_foreign.specs.Foreign.{foreign_in}
use Rattle.binfarce_jobs.specs.Hints.{IsSaidOfRefused}
use Rattle.binfarce_io.specs.Input.{IsForeign, IsUnreadable}
use Rattle.binfarce_jobs.specs.Show.{answer_for}
use Rattle.binfarce_io.specs.declared.fault.Fault.{Fault}
use Rattle.binfarce_jobs.specs.declared.show.Symbols.{Symbols}

-- what a file came to: it has these sums; or it was refused, and this was said of it
pub data Fate (S : Type 0) : Type 0 where
  summed : (sums : S) → Fate S
  refused : (fault : Fault) → (said : List (List ℕ)) → Fate S

-- a file may be refused so: it is what no reader reads; it can't be read; or it has no sums, for this reason
abbrev pub MayBeRefused : (HasNone : List ℕ → Outcome → Type 0) → (may_fail : Bool) → (file : List ℕ) → Fault → Type 0
MayBeRefused HasNone may_fail file fault =
    IsForeign file fault ⊎ IsUnreadable may_fail file fault ⊎ ((foreign_in file ≡ None) × HasNone file (failure fault))

-- a file, which may fail to be read, or not, and holds these bytes, may come to this
abbrev pub MayComeTo : {S : Type 0} → (Has : List ℕ → S → Type 0) → (HasNone : List ℕ → Outcome → Type 0) → (may_fail : Bool) → (file : List ℕ) → Fate S → Type 0
MayComeTo Has HasNone may_fail file (summed sums) = (foreign_in file ≡ None) × Has file sums
MayComeTo Has HasNone may_fail file (refused fault said) = MayBeRefused HasNone may_fail file fault × IsSaidOfRefused fault file said

abbrev pub is_summed : {S : Type 0} → Fate S → Bool
is_summed (summed sums) = true
is_summed (refused fault said) = false

-- what is reported, and what is said, of a file that came to this
abbrev pub reported : {S : Type 0} → (path : List ℕ) → Fate S → List Refused
reported path (summed sums) = []
reported path (refused fault said) = (path, fault) ∷ []

abbrev pub said_of : {S : Type 0} → Fate S → List (List ℕ)
said_of (summed sums) = []
said_of (refused fault said) = said

-- a file has these of the function symbols that are taken, and the sum of their sizes is a number of 64 bits
abbrev pub HasSymbols : Symbols → (file : List ℕ) → SelectedSymbols → Type 0
HasSymbols symbols file selected = (answer_for symbols file ≡ Some (Ok selected)) × SumFits selected

-- why an answer can't be summed: the format is unknown, the file is refused, or the sum is too large
abbrev pub IsUnsummed : Option (Result SelectedSymbols Refusal) → Outcome → Type 0
IsUnsummed None outcome = outcome ≡ unknown_format
IsUnsummed (Some (Err refusal)) outcome = outcome ≡ writing.refused refusal
IsUnsummed (Some (Ok selected)) outcome = (¬ (SumFits selected)) × (outcome ≡ too_large)

-- so of a file
abbrev pub HasNoSum : Symbols → (file : List ℕ) → Outcome → Type 0
HasNoSum symbols file outcome = IsUnsummed (answer_for symbols file) outcome

-- a file, none of whose sections is refused, has these bytes by its sections
abbrev pub HasSections : (file : List ℕ) → FileSums → Type 0
HasSections file sums = (walk : Walk Section) × (sections_of (format_of file) file ≡ Some walk) × (walk.refusal ≡ None) × AreSumsOf (length file) walk.items sums

-- why sections can't be summed: the format is unknown, or one is refused
abbrev pub IsUnwalked : Option (Walk Section) → Outcome → Type 0
IsUnwalked None outcome = outcome ≡ unknown_format
IsUnwalked (Some walk) outcome = (refusal : Refusal) × (walk.refusal ≡ Some refusal) × (outcome ≡ writing.refused refusal)

-- so of a file
abbrev pub HasNoSections : (file : List ℕ) → Outcome → Type 0
HasNoSections file outcome = IsUnwalked (sections_of (format_of file) file) outcome
