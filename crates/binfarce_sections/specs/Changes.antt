-- How the bytes of the sections of two files differ.
use Rattle.std.specs.Prelude.{◌≡◌, ℕ, zero, suc, ◌+◌, ◌-◌, ◌*◌, ◌/◌, ◌%◌, Bool, true, false, not, ◌&&◌, List, [], ◌∷◌, ◌++◌, codes, length, map, filter, take, drop, nat_eq, nat_lt, Option, Some, None, if◌then◌else◌}
use Rattle.std.specs.Cmp.Lexicographic.{slice_cmp}
use Rattle.std.specs.Fmt.{decimal}
use Rattle.std.specs.List.{concat, flat_map, list_any, sum_by}
use Rattle.std.specs.List.Sorted.{IsStrictlySortedBy}
use Rattle.std.specs.Ordering.{nat_cmp}
use Rattle.std.specs.Str.{bytes_eq}
use Rattle.binfarce_rows.specs.Json.{Style, lines, objects, number_member, object_start, text_member}
use Rattle.binfarce_rows.specs.Columns.{change_column, count_of, difference, growth_column, growth_member, signed_member, size_column}
use Rattle.binfarce_sections.specs.declared.changes.Change.{Change}
use Rattle.binfarce_sections.specs.Lines.{name_text}
use Rattle.binfarce_sections.specs.Sums.{FileSums, IsByKey, Share, falling, total, total_memory}

-- what one section adds to its name, or what the bytes add that count for no section: bytes in the file, and bytes in memory
pub record Part : Type 0 where
  pub name : List ℕ
  pub bytes : ℕ
  pub memory : ℕ

-- the part of a section, whose name is as its line has it
abbrev pub part_of : Share → Part
part_of s = record { name = name_text s.section.segment s.section.name; bytes = s.bytes; memory = s.section.memory_size }

-- the part of so many bytes that count for no section
abbrev pub rest_of : (bytes : ℕ) → Part
rest_of bytes = record { name = codes "[headers and gaps]"; bytes = bytes; memory = 0 }

-- the parts of a file
abbrev pub parts_of : FileSums → List Part
parts_of sums = map part_of sums.shares ++ rest_of (sums.file_length - total sums.shares) ∷ []

-- what a row shows: a name, its bytes in the old file and in the new one, and its bytes in memory by both
pub record Row : Type 0 where
  pub name : List ℕ
  pub old : ℕ
  pub new : ℕ
  pub old_memory : ℕ
  pub new_memory : ℕ

-- a `Change`
abbrev pub row_view : Change → Row
row_view c = record { name = c.name.now; old = c.old; new = c.new; old_memory = c.old_memory; new_memory = c.new_memory }

-- the row of a part of the old file alone, and of one of the new file
abbrev pub old_row : Part → Row
old_row p = record { name = p.name; old = p.bytes; new = 0; old_memory = p.memory; new_memory = 0 }

abbrev pub new_row : Part → Row
new_row p = record { name = p.name; old = 0; new = p.bytes; old_memory = 0; new_memory = p.memory }

-- the sum over the parts of a name
abbrev pub sum_named : (size : Part → ℕ) → (name : List ℕ) → List Part → ℕ
sum_named size name parts = sum_by size (filter (λ p. bytes_eq p.name name) parts)

-- the row of a name, between the parts of the old file and those of the new one
abbrev pub row_of : (old new : List Part) → (name : List ℕ) → Row
row_of old new name = record {
  name = name;
  old = sum_named (λ p. p.bytes) name old;
  new = sum_named (λ p. p.bytes) name new;
  old_memory = sum_named (λ p. p.memory) name old;
  new_memory = sum_named (λ p. p.memory) name new;
}

-- names are those of parts, in the order of their bytes, each once
pub record AreNamesOf (parts : List Part) (names : List (List ℕ)) : Type 0 where
  pub rises : IsStrictlySortedBy (slice_cmp nat_cmp) names
  pub same : (name : List ℕ) → list_any (bytes_eq name) names ≡ list_any (λ p. bytes_eq name p.name) parts

-- the bytes in the file or those in memory differ
abbrev pub differs : Change → Bool
differs c = not (nat_eq c.old c.new && nat_eq c.old_memory c.new_memory)

-- ranked has these changes, the greatest difference of bytes in the file first, of one difference the greatest one in memory, and of one of both the given order
abbrev pub IsRanked : (changes ranked : List Change) → Type 0
IsRanked changes ranked =
    (by_memory : List Change) × IsByKey (λ c. difference c.old_memory c.new_memory) falling changes by_memory × IsByKey (λ c. difference c.old c.new) falling by_memory ranked

-- changes are those from the old parts to the new ones: one for each name whose sums differ; those of one rank are in the order of the names' bytes
abbrev pub AreChangesFrom : (old new : List Part) → List Change → Type 0
AreChangesFrom old new changes =
    (names : List (List ℕ)) × (rows : List Change) × AreNamesOf (old ++ new) names × (map row_view rows ≡ map (row_of old new) names) × IsRanked (filter differs rows) changes

-- `{old:>10} {new:>10} {change:>11} {memory change:>11} {percent:>10} {name}`, and a line feed
abbrev pub change_line : (has_percent : Bool) → Row → List ℕ
change_line has_percent r = concat (
    size_column r.old ∷ size_column r.new ∷ change_column r.old r.new ∷ change_column r.old_memory r.new_memory
    ∷ growth_column has_percent r.old r.new ∷ r.name ∷ codes "\n" ∷ []
    )

-- a name as a member of an object; sections without one have none
abbrev pub name_given : List ℕ → Option (List ℕ)
name_given name = if nat_eq (length name) 0 then None else Some name

abbrev pub change_object : (has_percent : Bool) → (file : List ℕ) → Row → List ℕ
change_object has_percent file r = concat (
    object_start file ∷ text_member (codes "section") (name_given r.name)
    ∷ number_member (codes "old") r.old ∷ number_member (codes "new") r.new ∷ signed_member (codes "change") r.old r.new
    ∷ number_member (codes "old_memory") r.old_memory ∷ number_member (codes "new_memory") r.new_memory ∷ signed_member (codes "memory_change") r.old_memory r.new_memory
    ∷ growth_member has_percent r.old r.new ∷ codes "}\n" ∷ []
    )

abbrev pub change_row : (has_percent : Bool) → Style → Row → List ℕ
change_row has_percent lines r = change_line has_percent r
change_row has_percent (objects file section) r = change_object has_percent file r

abbrev pub shown_row : (has_percent : Bool) → Style → Change → List ℕ
shown_row has_percent style c = change_row has_percent style (row_view c)

-- the row that sums up these
abbrev pub others_row : List Change → Row
others_row others = record {
  name = codes "[" ++ (decimal (length others) ++ codes " others]");
  old = sum_by (λ c. c.old) others;
  new = sum_by (λ c. c.new) others;
  old_memory = sum_by (λ c. c.old_memory) others;
  new_memory = sum_by (λ c. c.new_memory) others;
}

-- the rows of the first changes, and that of all others where there are any
abbrev pub change_rows : (has_percent : Bool) → Style → (first : Option ℕ) → List Change → List ℕ
change_rows has_percent style first changes = let n = count_of first (length changes) in
    flat_map (shown_row has_percent style) (take n changes) ++ (if nat_lt n (length changes) then change_row has_percent style (others_row (drop n changes)) else [])

-- the row of both files: their lengths, and the bytes that all their sections have in memory
abbrev pub total_row : (old new : FileSums) → Row
total_row old new = record { name = codes "[total]"; old = old.file_length; new = new.file_length; old_memory = total_memory old.shares; new_memory = total_memory new.shares }

-- text is that of the changes from the sums of a file to those of another
unfoldable pub AreChangesOf : (has_percent : Bool) → Style → (first : Option ℕ) → (old new : FileSums) → (text : List ℕ) → Type 0
AreChangesOf has_percent style first old new text =
    (changes : List Change) × AreChangesFrom (parts_of old) (parts_of new) changes
    × (text ≡ change_rows has_percent style first changes ++ change_row has_percent style (total_row old new))
