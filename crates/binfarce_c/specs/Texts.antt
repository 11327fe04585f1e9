-- The results of the exports that make a text of a file: a listing, a report.
use Rattle.std.specs.Prelude.{◌≡◌, ◌⊎◌, ℕ, List, Option, Result}
use Rattle.std.specs.Str.{IsUtf8}
use Rattle.binfarce.specs.Refusal.{Refusal}
use Rattle.binfarce.specs.Symbol.{Listed}
use Rattle.binfarce_tools.specs.Writing.{Outcome, EndsAs, IsDue, written, write_failed, unknown_format, refused, no_memory, too_large, unreadable, wrong_usage}
use Rattle.binfarce_c.specs.declared.buffer.Text.{Text}
use Rattle.binfarce_c.specs.Names.{Holds, HoldsNone}
use Rattle.binfarce_c.specs.Status as status

-- the status of an outcome: the text is first written to memory, so a write fails if an allocation does. No call has the last two outcomes
abbrev pub status_of : Outcome → ℕ
status_of written = status.ok
status_of write_failed = status.no_memory
status_of unknown_format = status.unknown_format
status_of (refused refusal) = status.status_of refusal
status_of no_memory = status.no_memory
status_of too_large = status.too_large
status_of unreadable = status.none
status_of wrong_usage = status.none

-- its detail
abbrev pub detail_of : Outcome → ℕ
detail_of (refused refusal) = status.detail_of refusal
detail_of outcome = 0

-- no text, for the outcome's reason
abbrev pub no_text : Outcome → Text
no_text outcome = record { status = status_of outcome; detail = detail_of outcome; length = 0 }

-- the content of the buffer and the result, by the outcome: the text that is due, or why there is none
abbrev pub Ends : (IsTextOf : Listed → List ℕ → Type 0) (answer : Option (Result Listed Refusal)) (old : List ℕ) (new : List ℕ) (given : Text) → Outcome → Type 0
Ends IsTextOf answer old new given written = (text : List ℕ) × IsDue IsTextOf answer text × Holds old new text given
Ends IsTextOf answer old new given outcome = (given ≡ no_text outcome) × (new ≡ old)

-- a section's name that isn't UTF-8 is refused; of any other the call ends as `list` and `report` do
unfoldable pub GivesText : (Fits : Listed → Type 0) (NeedsMemory : Result Listed Refusal → Type 0) (IsTextOf : Listed → List ℕ → Type 0) (section : List ℕ) (answer : Option (Result Listed Refusal)) (old : List ℕ) (new : List ℕ) (given : Text) → Type 0
GivesText Fits NeedsMemory IsTextOf section answer old new given =
    ((¬ (IsUtf8 section)) × HoldsNone status.not_utf8 old new given)
    ⊎ (IsUtf8 section × ((outcome : Outcome) × EndsAs Fits NeedsMemory answer outcome × Ends IsTextOf answer old new given outcome))
