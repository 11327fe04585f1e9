-- The text that lists sections.
use Rattle.std.specs.Prelude.{ℕ, List, [], ◌∷◌, ◌++◌, codes, Option, Some, None}
use Rattle.std.specs.List.{concat, flat_map}
use Rattle.binfarce_rows.specs.Json.{Style, lines, objects, address_member, number_member, object_start, text_member}
use Rattle.binfarce_rows.specs.Columns.{address_text, size_text}
use Rattle.binfarce_sections.specs.declared.kinds.SectionType.{SectionType}
use Rattle.binfarce_sections.specs.Kinds.{type_name, type_number}
use Rattle.binfarce_sections.specs.Section.{Section}
use Rattle.binfarce_sections.specs.Named.{full_name}

-- the name as it is stored, in Mach-O after the segment's; nothing for a section without one
abbrev pub name_text : Option (List ℕ) → Option (List ℕ) → List ℕ
name_text segment None = []
name_text None (Some name) = name
name_text (Some segment) (Some name) = full_name segment name

-- `{address:016x} {offset:>10} {size:>10} `, the text before the name
abbrev pub line_head : ℕ → ℕ → ℕ → List ℕ
line_head address offset size = address_text address ++ (codes " " ++ (size_text offset ++ (codes " " ++ (size_text size ++ codes " "))))

-- the numbers of a section and its name, and a line feed
abbrev pub section_line : Section → List ℕ
section_line s = line_head s.address s.offset s.size ++ (name_text s.segment s.name ++ 10 ∷ [])

-- a type as the member `type`: its name, or its number where it has none; null for a PE section
abbrev pub type_value : Option (List ℕ) → Option ℕ → List ℕ
type_value (Some name) number = text_member (codes "type") (Some name)
type_value None (Some number) = number_member (codes "type") number
type_value None None = text_member (codes "type") None

abbrev pub type_member : SectionType → List ℕ
type_member kind = type_value (type_name kind) (type_number kind)

-- a section as a JSON object: its file, its segment and its name, or null if it has none; its address, its offset in the file and its size in bytes; its
-- type and its flags
abbrev pub section_object : (file : List ℕ) → Section → List ℕ
section_object file s = concat (
    object_start file ∷ text_member (codes "segment") s.segment ∷ text_member (codes "section") s.name
    ∷ address_member s.address ∷ number_member (codes "offset") s.offset ∷ number_member (codes "size") s.size
    ∷ type_member s.kind ∷ number_member (codes "flags") s.flags ∷ codes "}\n" ∷ []
    )

abbrev pub section_row : Style → Section → List ℕ
section_row lines s = section_line s
section_row (objects file section) s = section_object file s

-- a row for each section, in order
abbrev pub section_lines : Style → List Section → List ℕ
section_lines style sections = flat_map (section_row style) sections
