-- The versions that a file needs from others, and their names (LSB Core Generic, "Version Requirements"). Files of both classes have the same layouts.
use Rattle.std.specs.Prelude.{ℕ, zero, suc, ◌+◌, ◌/◌, List, [], ◌∷◌, ◌++◌, length, take, find, Option, Some, None, nat_eq, nat_le, if◌then◌else◌}
use Rattle.std.specs.Option.{option_map}
use Rattle.binfarce_bytes.specs.declared.ByteOrder.{ByteOrder}
use Rattle.binfarce_bytes.specs.Field.{field, value_at}

-- an entry for a file (Verneed): how many versions are needed from it (vn_cnt), the offset of its name (vn_file), how far after the entry's beginning the first
-- version's is (vn_aux), and how far the next file's entry (vn_next)
pub record FileEntry : Type 0 where
  pub count : ℕ
  pub name : ℕ
  pub versions : ℕ
  pub next : ℕ

-- the one that begins at start, where its 16 bytes are there
unfoldable pub file_at : ByteOrder → List ℕ → ℕ → Option FileEntry
file_at order bytes start =
    if nat_le (start + 16) (length bytes)
    then Some (record { count = value_at order bytes start (field 2 2); name = value_at order bytes start (field 4 4); versions = value_at order bytes start (field 8 4); next = value_at order bytes start (field 12 4) })
    else None

-- an entry for a version (Vernaux): the version's index (vna_other), the offset of its name (vna_name), and how far the next version's entry is (vna_next)
pub record VersionEntry : Type 0 where
  pub index : ℕ
  pub name : ℕ
  pub next : ℕ

-- the one that begins at start, where its 16 bytes are there
unfoldable pub version_at : ByteOrder → List ℕ → ℕ → Option VersionEntry
version_at order bytes start =
    if nat_le (start + 16) (length bytes)
    then Some (record { index = value_at order bytes start (field 6 2); name = value_at order bytes start (field 8 4); next = value_at order bytes start (field 12 4) })
    else None

-- a needed version: its index, and the offsets of its name and of that of its file
pub record Version : Type 0 where
  pub index : ℕ
  pub name : ℕ
  pub file : ℕ

-- a version of a file, and those after it, unless it is the last one
abbrev pub and_after : (file : ℕ) → Option VersionEntry → (ℕ → List Version) → List Version
and_after file None after = []
and_after file (Some v) after = record { index = v.index; name = v.name; file = file } ∷ (if nat_eq v.next 0 then [] else after v.next)

-- at most n versions of a file, the first of which begins at start. One that isn't there ends them
unfoldable pub versions_from : ByteOrder → List ℕ → (file n start : ℕ) → List Version
versions_from order bytes file zero start = []
versions_from order bytes file (suc n) start = and_after file (version_at order bytes start) (λ next. versions_from order bytes file n (start + next))

-- the versions of a file, and those of the files after it, unless it is the last one
abbrev pub and_others : Option FileEntry → (FileEntry → List Version) → (ℕ → List Version) → List Version
and_others None of_file others = []
and_others (Some f) of_file others = of_file f ++ (if nat_eq f.next 0 then [] else others f.next)

-- those of at most n files, the first of which begins at start. One that isn't there ends them
unfoldable pub files_from : ByteOrder → List ℕ → (n start : ℕ) → List Version
files_from order bytes zero start = []
files_from order bytes (suc n) start =
    and_others (file_at order bytes start) (λ f. versions_from order bytes f.name f.count (start + f.versions)) (λ next. files_from order bytes n (start + next))

-- the versions of a section: at most as many as it has room for, of 16 bytes each
abbrev pub needed_versions : ByteOrder → List ℕ → List Version
needed_versions order bytes = take (length bytes / 16) (files_from order bytes (length bytes) 0)

-- what the first version of this index has
abbrev pub of_index : (Version → ℕ) → List Version → ℕ → Option ℕ
of_index part versions index = option_map part (find (λ v. nat_eq v.index index) versions)
