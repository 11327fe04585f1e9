-- The results of the calls, and the bytes that their sink has taken.
use Rattle.std.specs.Prelude.{◌≡◌, ℕ, List, [], Bool, true, codes, Option, Some, None, Result, Ok, Err}
use Rattle.std.specs.Io.KnownBytes.{Appends}
use Rattle.binfarce.specs.Refusal.{refusal_of, words}
use Rattle.binfarce.specs.Walk.{Walk}
use Rattle.binfarce_tables.specs.declared.error.ReadError as reading
use Rattle.binfarce_tables.specs.declared.error.ReadError.TheVariants as read_errors
use Rattle.binfarce_tools.specs.ListWords.{list_words}
use Rattle.binfarce_tools.specs.Writing.{AppendsBeginning}
use Rattle.binfarce_rows.specs.Json.{Style}
use Rattle.binfarce_tools.specs.declared.list.ListError.TheVariants as listing
use Rattle.binfarce_sections.specs.declared.error.SectionError.{SectionError}
use Rattle.binfarce_sections.specs.declared.error.SectionError.TheVariants.{Unknown, Parse, NoSection, NoBytes, PastEnd, OutOfMemory, Write, Unreadable}
use Rattle.binfarce_sections.specs.Lines.{section_lines}
use Rattle.binfarce_sections.specs.Named.{Lack, unknown_format, refused, no_section, no_bytes, past_end}
use Rattle.binfarce_sections.specs.Section.{Section}
use Rattle.binfarce_sections.specs.Sums.{AreSumsOf, FileSums}

-- the printed text; for the errors of `list`, its text
abbrev pub section_words : SectionError → List ℕ
section_words Unknown = list_words listing.Unknown
section_words (Parse e) = words (refusal_of e)
section_words NoSection = codes "no section of this name"
section_words NoBytes = codes "section has no bytes in the file"
section_words PastEnd = codes "section reaches past the end of the file"
section_words OutOfMemory = list_words listing.OutOfMemory
section_words Write = list_words listing.Write
section_words Unreadable = codes "cannot read file"

-- the error of a call for an error of a reading
abbrev pub error_of : reading.ReadError → SectionError
error_of (read_errors.Refused e) = Parse e
error_of read_errors.Unreadable = Unreadable
error_of read_errors.OutOfMemory = OutOfMemory

-- the error gives this reason why there are no bytes
abbrev pub IsLack : Lack → SectionError → Type 0
IsLack lack Unknown = lack ≡ unknown_format
IsLack lack (Parse e) = lack ≡ refused (refusal_of e)
IsLack lack NoSection = lack ≡ no_section
IsLack lack NoBytes = lack ≡ no_bytes
IsLack lack PastEnd = lack ≡ past_end
IsLack lack OutOfMemory = ⊥
IsLack lack Write = ⊥
IsLack lack Unreadable = ⊥

-- a call returns these bytes, or the error for the reason why there are none
abbrev pub Hands : {X : Type 0} → (X → List ℕ) → Result (List ℕ) Lack → Result X SectionError → Type 0
Hands view answer (Ok x) = answer ≡ Ok (view x)
Hands view answer (Err e) = (lack : Lack) × (answer ≡ Err lack) × IsLack lack e

-- all bytes were taken; if a write failed, a beginning of them; otherwise none, and the error gives the reason
abbrev pub TakesBytes : Result (List ℕ) Lack → Option (List ℕ) → Option (List ℕ) → Result (Unit {0}) SectionError → Type 0
TakesBytes answer old new (Ok x) = (bytes : List ℕ) × (answer ≡ Ok bytes) × Appends old new bytes
TakesBytes answer old new (Err Write) = (bytes : List ℕ) × (answer ≡ Ok bytes) × AppendsBeginning old new bytes
TakesBytes answer old new (Err e) = (lack : Lack) × (answer ≡ Err lack) × IsLack lack e × Appends old new []

-- the lines of the sections were taken, and then the walk's refusal is returned, if any; if a write failed, a beginning of the lines was taken;
-- if an allocation failed, or the format is unknown, nothing
abbrev pub TakesLines : Style → Option (Walk Section) → Option (List ℕ) → Option (List ℕ) → Result (Unit {0}) SectionError → Type 0
TakesLines style None old new result = (result ≡ Err Unknown) × Appends old new []
TakesLines style (Some walk) old new (Ok x) = (walk.refusal ≡ None) × Appends old new (section_lines style walk.items)
TakesLines style (Some walk) old new (Err (Parse e)) = (walk.refusal ≡ Some (refusal_of e)) × Appends old new (section_lines style walk.items)
TakesLines style (Some walk) old new (Err OutOfMemory) = Appends old new []
TakesLines style (Some walk) old new (Err Write) = AppendsBeginning old new (section_lines style walk.items)
TakesLines style (Some walk) old new (Err e) = ⊥

-- the same for a source's bytes. A source that may fail can be unreadable; then, and if an allocation failed, nothing was taken
abbrev pub TakesRead : Bool → Result (List ℕ) Lack → Option (List ℕ) → Option (List ℕ) → Result (Unit {0}) SectionError → Type 0
TakesRead may_fail answer old new (Err Unreadable) = (may_fail ≡ true) × Appends old new []
TakesRead may_fail answer old new (Err OutOfMemory) = Appends old new []
TakesRead may_fail answer old new result = TakesBytes answer old new result

-- the same for the lines of its sections
abbrev pub TakesReadLines : Style → Bool → Option (Walk Section) → Option (List ℕ) → Option (List ℕ) → Result (Unit {0}) SectionError → Type 0
TakesReadLines style may_fail sections old new (Err Unreadable) = (may_fail ≡ true) × Appends old new []
TakesReadLines style may_fail sections old new (Err OutOfMemory) = Appends old new []
TakesReadLines style may_fail sections old new result = TakesLines style sections old new result

-- the sums of a file of this length whose walk over its sections has no refusal; or that refusal, or the format is unknown; or an allocation failed
abbrev pub SumsUp : (file_length : ℕ) → Option (Walk Section) → Result FileSums SectionError → Type 0
SumsUp file_length None (Err Unknown) = Unit {0}
SumsUp file_length (Some walk) (Ok sums) = (walk.refusal ≡ None) × AreSumsOf file_length walk.items sums
SumsUp file_length (Some walk) (Err (Parse e)) = walk.refusal ≡ Some (refusal_of e)
SumsUp file_length walk (Err OutOfMemory) = Unit {0}
SumsUp file_length walk result = ⊥

-- a text of this kind was taken; if a write failed, a beginning of it; if an allocation failed, nothing. There is no other error
abbrev pub TakesText : (IsText : List ℕ → Type 0) → Option (List ℕ) → Option (List ℕ) → Result (Unit {0}) SectionError → Type 0
TakesText IsText old new (Ok x) = (text : List ℕ) × IsText text × Appends old new text
TakesText IsText old new (Err Write) = (text : List ℕ) × IsText text × AppendsBeginning old new text
TakesText IsText old new (Err OutOfMemory) = Appends old new []
TakesText IsText old new (Err e) = ⊥

-- whether the sink has failed afterwards: it has if a write failed; otherwise this is unchanged
abbrev pub Fails : {X : Type 0} → Bool → Bool → Result X SectionError → Type 0
Fails old new (Err Write) = new ≡ true
Fails old new result = new ≡ old
