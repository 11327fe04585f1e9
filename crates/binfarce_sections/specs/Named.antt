-- The bytes of the first section of a name.
use Rattle.std.specs.Prelude.{ℕ, ◌+◌, Bool, false, ◌||◌, List, ◌∷◌, ◌++◌, length, Option, Some, None, Result, Ok, Err, nat_lt, not, if◌then◌else◌}
use Rattle.std.specs.Str.{bytes_eq}
use Rattle.binfarce.specs.Number.{bytes_at}
use Rattle.binfarce.specs.Refusal.{Refusal}
use Rattle.binfarce.specs.Walk.{Walk, first}
use Rattle.binfarce_sections.specs.Section.{Section}

-- why there are no bytes: the file's format is unknown; the walk over its sections ended with a refusal before the section; no section has the name;
-- the section has no bytes in the file; its bytes end past the file
pub data Lack : Type 0 where
  unknown_format : Lack
  refused : Refusal → Lack
  no_section : Lack
  no_bytes : Lack
  past_end : Lack

-- `SEGMENT,SECTION`, as `otool` and `ld` write it
abbrev pub full_name : List ℕ → List ℕ → List ℕ
full_name segment name = segment ++ 44 ∷ name

-- the word is this name, or it is the full name in this segment
abbrev pub names : List ℕ → Option (List ℕ) → Option (List ℕ) → Bool
names word segment None = false
names word None (Some name) = bytes_eq word name
names word (Some segment) (Some name) = bytes_eq word name || bytes_eq word (full_name segment name)

-- the word names the section
abbrev pub is_named : List ℕ → Section → Bool
is_named word section = names word section.segment section.name

-- the bytes of a section
unfoldable pub bytes_of : List ℕ → Section → Result (List ℕ) Lack
bytes_of file section =
    if not section.has_bytes then Err no_bytes
    else if nat_lt (length file) (section.offset + section.size) then Err past_end
    else Ok (bytes_at file section.offset section.size)

-- the bytes of the section that a search has found
abbrev pub bytes_found : List ℕ → Result (Option Section) Refusal → Result (List ℕ) Lack
bytes_found file (Ok (Some section)) = bytes_of file section
bytes_found file (Ok None) = Err no_section
bytes_found file (Err refusal) = Err (refused refusal)

-- the bytes of the first of the file's sections that the word names
unfoldable pub bytes_named : Option (Walk Section) → List ℕ → List ℕ → Result (List ℕ) Lack
bytes_named None file word = Err unknown_format
bytes_named (Some walk) file word = bytes_found file (first (is_named word) walk)
