-- The bytes of a file by its sections: each byte counts once.
use Rattle.std.specs.Prelude.{◌≡◌, ℕ, zero, suc, ◌+◌, ◌-◌, Bool, false, not, ◌&&◌, List, [], ◌∷◌, ◌++◌, codes, length, filter, take, drop, min, nat_eq, nat_le, nat_lt, Option, Some, None, IsPermutation, if◌then◌else◌}
use Rattle.std.specs.Fmt.{decimal}
use Rattle.std.specs.List.{concat, flat_map, list_any, sum_by}
use Rattle.std.specs.List.Sorted.{IsSortedByKey, IsStableByKey}
use Rattle.std.specs.Ordering.{nat_cmp}
use Rattle.std.specs.declared.cmp.Ordering.{Ordering}
use Rattle.binfarce_rows.specs.Json.{Style, lines, objects, number_member, object_start, text_member}
use Rattle.binfarce_rows.specs.Columns.{count_of, size_text}
use Rattle.binfarce_tools.specs.Report.{total_line}
use Rattle.binfarce_sections.specs.declared.kinds.SectionType.{SectionType}
use Rattle.binfarce_sections.specs.declared.kinds.SectionType.TheVariants as types
use Rattle.binfarce_sections.specs.Lines.{name_text, type_member}
use Rattle.binfarce_sections.specs.Section.{Section}

-- of this type there is no section: its header is inactive (SHT_NULL)
abbrev pub is_inactive : SectionType → Bool
is_inactive (types.Elf n) = nat_eq n 0
is_inactive (types.Macho n) = false
is_inactive types.Pe = false

-- the sections that count
abbrev pub active : List Section → List Section
active sections = filter (λ s. not (is_inactive s.kind)) sections

-- the byte at this offset of the file is the section's, as the file states it
abbrev pub has : (offset : ℕ) → Section → Bool
has offset s = nat_le s.offset offset && nat_lt offset (s.offset + s.file_size)

-- how many of the numbers below n pass a test
abbrev pub count : (ℕ → Bool) → ℕ → ℕ
count test zero = 0
count test (suc n) = count test n + (if test n then 1 else 0)

-- how many of a file's bytes are the section's and of none before it
abbrev pub new_bytes : (file_length : ℕ) → (before : List Section) → Section → ℕ
new_bytes file_length before s = count (λ offset. has offset s && not (list_any (has offset) before)) file_length

-- a section, and how many of the file's bytes count for it
pub record Share : Type 0 where
  pub section : Section
  pub bytes : ℕ

-- the shares of sections after these
abbrev pub shares_after : (file_length : ℕ) → (before : List Section) → List Section → List Share
shares_after file_length before [] = []
shares_after file_length before (s ∷ others) = record { section = s; bytes = new_bytes file_length before s } ∷ shares_after file_length (s ∷ before) others

-- a byte counts for the first of these sections that has it
abbrev pub shares_of : (file_length : ℕ) → List Section → List Share
shares_of file_length sections = shares_after file_length [] sections

-- how many bytes count for sections
abbrev pub total : List Share → ℕ
total shares = sum_by (λ s. s.bytes) shares

-- how many bytes they have in memory
abbrev pub total_memory : List Share → ℕ
total_memory shares = sum_by (λ s. s.section.memory_size) shares

-- sorted is rows by a key: rows of one key keep their order
pub record IsByKey {X K : Type 0} (key : X → K) (cmp : K → K → Ordering) (rows sorted : List X) : Type 0 where
  pub same : IsPermutation rows sorted
  pub rises : IsSortedByKey key cmp sorted
  pub keeps : IsStableByKey key cmp rows sorted

-- the order in which the greatest comes first
abbrev pub falling : ℕ → ℕ → Ordering
falling a b = nat_cmp b a

-- the shares of sections, the greatest first: a byte counts for the first section that has it, in the order of their offsets, those of one offset in file order. Shares of one size are in that order
abbrev pub AreSharesOf : (file_length : ℕ) → List Section → List Share → Type 0
AreSharesOf file_length sections ranked =
    (sorted : List Section) × IsByKey (λ s. s.offset) nat_cmp sections sorted × IsByKey (λ s. s.bytes) falling (shares_of file_length sorted) ranked

-- the value of a `SectionSums`: a file's length, and the shares of its sections
pub record FileSums : Type 0 where
  pub file_length : ℕ
  pub shares : List Share

-- sums are those of a file of this length that has these sections
abbrev pub AreSumsOf : (file_length : ℕ) → List Section → FileSums → Type 0
AreSumsOf file_length sections sums = (sums.file_length ≡ file_length) × AreSharesOf file_length (active sections) sums.shares

-- a row without a section, of this label: `{bytes:>10} {memory:>10} {label}`
abbrev pub plain_line : (label : List ℕ) → (bytes memory : ℕ) → List ℕ
plain_line label bytes memory = size_text bytes ++ (codes " " ++ (size_text memory ++ (codes " " ++ (label ++ 10 ∷ []))))

abbrev pub plain_object : (file label : List ℕ) → (bytes memory : ℕ) → List ℕ
plain_object file label bytes memory = concat (
    object_start file ∷ text_member (codes "segment") None ∷ text_member (codes "section") (Some label)
    ∷ text_member (codes "type") None ∷ text_member (codes "flags") None
    ∷ number_member (codes "size") bytes ∷ number_member (codes "memory") memory ∷ codes "}\n" ∷ []
    )

abbrev pub plain_row : Style → (label : List ℕ) → (bytes memory : ℕ) → List ℕ
plain_row lines label bytes memory = plain_line label bytes memory
plain_row (objects file section) label bytes memory = plain_object file label bytes memory

abbrev pub share_object : (file : List ℕ) → Share → List ℕ
share_object file s = concat (
    object_start file ∷ text_member (codes "segment") s.section.segment ∷ text_member (codes "section") s.section.name
    ∷ type_member s.section.kind ∷ number_member (codes "flags") s.section.flags
    ∷ number_member (codes "size") s.bytes ∷ number_member (codes "memory") s.section.memory_size ∷ codes "}\n" ∷ []
    )

-- the row of a section: how many bytes count for it, how many it has in memory, and its name; as an object, its type and flags too
abbrev pub share_row : Style → Share → List ℕ
share_row lines s = plain_line (name_text s.section.segment s.section.name) s.bytes s.section.memory_size
share_row (objects file section) s = share_object file s

-- the row that sums up these
abbrev pub others_row : Style → List Share → List ℕ
others_row style others = plain_row style (codes "[" ++ (decimal (length others) ++ codes " others]")) (total others) (total_memory others)

-- the rows of the first shares, and that of all others where there are any
abbrev pub share_rows : Style → (first : Option ℕ) → List Share → List ℕ
share_rows style first shares = let n = count_of first (length shares) in
    flat_map (share_row style) (take n shares) ++ (if nat_lt n (length shares) then others_row style (drop n shares) else [])

-- the row of the bytes that count for no section
abbrev pub rest_row : Style → FileSums → List ℕ
rest_row style sums = plain_row style (codes "[headers and gaps]") (sums.file_length - total sums.shares) 0

-- the last row: the file's length, which is the sum of all
abbrev pub end_row : Style → (file_length : ℕ) → List ℕ
end_row lines file_length = total_line file_length
end_row (objects file section) file_length = object_start file ++ (number_member (codes "sum") file_length ++ codes "}\n")

-- the text of a file's sums
abbrev pub sums_text : Style → (first : Option ℕ) → FileSums → List ℕ
sums_text style first sums = share_rows style first sums.shares ++ (rest_row style sums ++ end_row style sums.file_length)
