-- The function symbols of an image, read from its parts and rows directly, and the law: its file in any layout reads back to them.
use Rattle.std.specs.Prelude.{◌≡◌, ◌^◌, ◌<◌, ℕ, false, List, [], length, codes, Option, Some, None, Result, Ok, Err, find, nat_eq, if◌then◌else◌}
use Rattle.std.specs.List.{AllByRecursion, enumerate_from, filter_map, slice_get}
use Rattle.std.specs.Option.{option_and_then}
use Rattle.binfarce.specs.Text.{text_at}
use Rattle.binfarce.specs.Refusal.{◌>>=◌, Refusal, required, symbols_section_is_missing, section_is_missing, unexpected_section_type}
use Rattle.binfarce.specs.Elf.{SymbolRow, section_table}
use Rattle.binfarce.specs.ElfSymbols.{entry_of, is_named, elf_answer}
use Rattle.binfarce.specs.Symbol.{Entry, Listed}
use Rattle.binfarce_image.specs.declared.image.ElfLayout.{ElfLayout}
use Rattle.binfarce_image.specs.declared.image.Image.{Image}
use Rattle.binfarce_image.specs.declared.image.Part.{Part}
use Rattle.binfarce_image.specs.declared.image.Part.TheVariants.{Bytes, Table}
use Rattle.binfarce_image.specs.declared.image.Row.{Row}
use Rattle.binfarce_image.specs.Image.{bytes, class_of, order_of, name_offset, part_link}
use Rattle.binfarce_image.specs.ImageRefusal.{is_table, names_of, refusal_due}

-- a part's name: the text at its name offset among the section names
abbrev pub name_of : Image → Part → Option (List ℕ)
name_of image part = option_and_then (λ names. text_at names (name_offset part)) (names_of image)

-- the first part of a name, and its index
abbrev pub part_named : Image → List ℕ → Option (ℕ × Part)
part_named image name = find (λ found. is_named name (name_of image found.1)) (enumerate_from 0 image.parts.items)

-- the bytes of a string table, SHT_STRTAB
abbrev pub strings_of : Part → Result (List ℕ) Refusal
strings_of (Bytes name kind link body) = if nat_eq kind 3 then Ok body.items else Err (unexpected_section_type 3 kind)
strings_of (Table name link rows) = Err (unexpected_section_type 3 2)

-- the rows of a table; this is used for the first table alone
abbrev pub rows_of : Part → List Row
rows_of (Bytes name kind link body) = []
rows_of (Table name link rows) = rows.items

-- the size of a part. The law is about names whose first part isn't the table, so a table's number of rows doesn't matter there
abbrev pub part_size : Part → ℕ
part_size (Bytes name kind link body) = length body.items
part_size (Table name link rows) = length rows.items

-- the values of a symbol table entry
abbrev pub symbol_of : Row → SymbolRow ℕ
symbol_of row = record { name = row.name; value = row.address; size = row.size; info = row.info; other = row.other; section = row.section }

-- the entries of the rows, in table order
abbrev pub entries_of : List ℕ → ℕ → List Row → List Entry
entries_of strings index rows = filter_map (λ row. entry_of strings index (symbol_of row)) rows

-- the refusals in order; else the entries of the table's rows, and the size of the requested part
unfoldable pub symbols_of : Image → List ℕ → Result Listed Refusal
symbols_of image name = do
  found ← required symbols_section_is_missing (part_named image name)
  table ← required (section_is_missing (codes ".symtab")) (find is_table image.parts.items)
  linked ← required (section_is_missing (codes ".strtab")) (slice_get image.parts.items (part_link table))
  strings ← strings_of linked
  Ok (record { entries = entries_of strings found.0 (rows_of table); section_size = part_size found.1 })

-- the part that was found, if any, isn't the table
abbrev pub IsNotTable : Option (ℕ × Part) → Type 0
IsNotTable None = Unit {0}
IsNotTable (Some found) = is_table found.1 ≡ false

-- the readers' answer for this file, in the layout's class and order, is the content of the image
abbrev pub ReadsBack : ElfLayout → Image → List ℕ → Type 0
ReadsBack layout image file =
    (name : List ℕ) → IsNotTable (part_named image name)
    → elf_answer (class_of layout) (section_table (class_of layout) (record { order = order_of layout; bytes = file })) name ≡ symbols_of image name

-- the numbers of a row fit their types
pub record RowFits (row : Row) : Type 0 where
  pub name : row.name < 2 ^ 32
  pub address : row.address < 2 ^ 32
  pub size : row.size < 2 ^ 32
  pub info : row.info < 2 ^ 8
  pub other : row.other < 2 ^ 8
  pub section : row.section < 2 ^ 16

-- the numbers of a part fit their types
abbrev pub PartFits : Part → Type 0
PartFits (Bytes name kind link body) = (name < 2 ^ 32) × (kind < 2 ^ 32) × (link < 2 ^ 32)
PartFits (Table name link rows) = (name < 2 ^ 32) × (link < 2 ^ 32) × AllByRecursion RowFits rows.items

-- an image whose numbers fit their types, and that isn't refused, reads back from its file in each layout; what it reads back to doesn't depend on the layout
abbrev pub LayoutsAgree : Image → Type 0
LayoutsAgree image =
    (layout : ElfLayout) → AllByRecursion PartFits image.parts.items → refusal_due image layout ≡ None
    → ReadsBack layout image (bytes image layout)
