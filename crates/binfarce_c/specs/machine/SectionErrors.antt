-- The number of an error of a call for sections.
use Rattle.std.specs.Prelude.{◌≡◌, ◌⊎◌, ℕ, List, Option, Result, Ok, Err}
use Rattle.std.specs.Borrow.{Bor}
use Rattle.std.specs.Str.{IsUtf8}
use Rattle.binfarce.specs.Refusal.{refusal_of}
use Rattle.binfarce_foreign.specs.declared.Foreign.{Foreign}
use Rattle.binfarce_sections.specs.Named.{Lack}
use Rattle.binfarce_sections.specs.declared.error.SectionError.{SectionError}
use Rattle.binfarce_sections.specs.declared.error.SectionError.TheVariants.{Unknown, Parse, NoSection, NoBytes, PastEnd, OutOfMemory, Write, Unreadable}
use Rattle.binfarce_c.specs.Sections.{bytes_or_status}
use Rattle.binfarce_c.specs.Status.{none, not_utf8, unknown_format, no_bytes, past_end, status_of}

-- the last three are errors of other calls
abbrev pub error_status : SectionError → ℕ
error_status Unknown = unknown_format
error_status (Parse e) = status_of (refusal_of e)
error_status NoSection = none
error_status NoBytes = no_bytes
error_status PastEnd = past_end
error_status OutOfMemory = none
error_status Write = none
error_status Unreadable = none

-- the bytes, or the status
abbrev pub seen : Result (Bor (List ℕ)) ℕ → Result (List ℕ) ℕ
seen (Ok bytes) = Ok bytes.now
seen (Err status) = Err status

-- the bytes that were given, or the number of the error
abbrev pub Maps : Result (Bor (List ℕ)) SectionError → Result (Bor (List ℕ)) ℕ → Type 0
Maps (Ok bytes) (Ok given) = given.now ≡ bytes.now
Maps (Ok bytes) (Err status) = ⊥
Maps (Err e) (Ok given) = ⊥
Maps (Err e) (Err status) = status ≡ error_status e

-- the bytes of a section of a name, or the status, before they are put into a caller's struct
abbrev pub Hands : (name : List ℕ) (foreign : Option Foreign) (answer : Result (List ℕ) Lack) → Result (Bor (List ℕ)) ℕ → Type 0
Hands name foreign answer result =
    ((¬ (IsUtf8 name)) × (seen result ≡ Err not_utf8)) ⊎ (IsUtf8 name × (seen result ≡ bytes_or_status foreign answer))
