-- The results of the exports for the sections of a file.
use Rattle.std.specs.Prelude.{◌≡◌, ◌⊎◌, ◌-◌, ◌^◌, ℕ, List, Option, Some, None, Result, Ok, Err, length, min, unwrap_or}
use Rattle.std.specs.List.{AllZip}
use Rattle.std.specs.Ptr.{null_ptr}
use Rattle.std.specs.Str.{IsUtf8}
use Rattle.binfarce.specs.Refusal.{Refusal}
use Rattle.binfarce.specs.Walk.{Walk}
use Rattle.binfarce_foreign.specs.declared.Foreign.{Foreign}
use Rattle.binfarce_sections.specs.Kinds.{type_number}
use Rattle.binfarce_sections.specs.Named as named
use Rattle.binfarce_sections.specs.Named.{Lack}
use Rattle.binfarce_sections.specs.Section as seen
use Rattle.binfarce_c.specs.declared.sections.Bytes.{Bytes}
use Rattle.binfarce_c.specs.declared.sections.Section.{Section}
use Rattle.binfarce_c.specs.declared.sections.Sections.{Sections}
use Rattle.binfarce_c.specs.Buffer.{put, PointsTo}
use Rattle.binfarce_c.specs.Names.{text_or_none, is_there}
use Rattle.binfarce_c.specs.Status.{ok, none, not_utf8, unknown_format, no_bytes, past_end, status_of, foreign_status, number_of}

-- `struct binfarce_section` holds the section: its names, and its numbers
pub record IsSection (it : seen.Section) (section : Section) : Type 0 where
  pub name : PointsTo (text_or_none it.name) section.name
  pub name_length : section.name_length ≡ length (text_or_none it.name)
  pub has_name : section.has_name ≡ number_of (is_there it.name)
  pub segment : PointsTo (text_or_none it.segment) section.segment
  pub segment_length : section.segment_length ≡ length (text_or_none it.segment)
  pub address : section.address ≡ it.address
  pub offset : section.offset ≡ it.offset
  pub size : section.size ≡ it.size
  pub file_size : section.file_size ≡ it.file_size
  pub memory_size : section.memory_size ≡ it.memory_size
  pub flags : section.flags ≡ it.flags
  pub kind : section.kind ≡ unwrap_or (type_number it.kind) 0
  pub has_bytes : section.has_bytes ≡ number_of it.has_bytes

-- BINFARCE_OK, or why a walk ends
abbrev pub end_status : Option Refusal → ℕ
end_status None = ok
end_status (Some refusal) = status_of refusal

-- their number, in 64 bits
abbrev pub count_of : List Section → ℕ
count_of sections = min (length sections) (2 ^ 64 - 1)

-- all sections of the walk were given: their number, the end of the walk, and as many of them as the array has room for
pub record GivesWalk (walk : Walk seen.Section) (old new : List Section) (given : Sections) : Type 0 where
  pub sections : List Section
  pub are : AllZip IsSection walk.items sections
  pub given_is : given ≡ record { status = end_status walk.refusal; count = count_of sections }
  pub new_is : new ≡ put old sections

-- no section was given
abbrev pub GivesNone : (status : ℕ) (old new : List Section) (given : Sections) → Type 0
GivesNone status old new given = (given ≡ record { status = status; count = 0 }) × (new ≡ old)

-- `binfarce_sections`: a file that no reader reads is refused by what it is; of any other these are the sections, if its format is known
abbrev pub GivesSections : (foreign : Option Foreign) (answer : Option (Walk seen.Section)) (old new : List Section) (given : Sections) → Type 0
GivesSections (Some foreign) answer old new given = GivesNone (foreign_status foreign) old new given
GivesSections None None old new given = GivesNone unknown_format old new given
GivesSections None (Some walk) old new given = GivesWalk walk old new given

-- why there are no bytes
abbrev pub lack_status : Lack → ℕ
lack_status named.unknown_format = unknown_format
lack_status (named.refused refusal) = status_of refusal
lack_status named.no_section = none
lack_status named.no_bytes = no_bytes
lack_status named.past_end = past_end

-- the bytes, or the status: a file that no reader reads is refused by what it is
abbrev pub bytes_or_status : (foreign : Option Foreign) → Result (List ℕ) Lack → Result (List ℕ) ℕ
bytes_or_status (Some foreign) answer = Err (foreign_status foreign)
bytes_or_status None (Ok bytes) = Ok bytes
bytes_or_status None (Err lack) = Err (lack_status lack)

-- the bytes were given; or none, with this status: the pointer is null, and the length 0
abbrev pub HoldsBytes : Result (List ℕ) ℕ → (new : Bytes) (status : ℕ) → Type 0
HoldsBytes (Ok bytes) new status = (status ≡ ok) × PointsTo bytes new.start × (new.length ≡ length bytes)
HoldsBytes (Err reason) new status = (status ≡ reason) × (new ≡ record { start = null_ptr; length = 0 })

-- `binfarce_section_bytes`: a name that isn't UTF-8 is refused first
abbrev pub GivesBytes : (name : List ℕ) (foreign : Option Foreign) (answer : Result (List ℕ) Lack) (new : Bytes) (status : ℕ) → Type 0
GivesBytes name foreign answer new status =
    ((¬ (IsUtf8 name)) × HoldsBytes (Err not_utf8) new status) ⊎ (IsUtf8 name × HoldsBytes (bytes_or_status foreign answer) new status)
