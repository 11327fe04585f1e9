-- Why an image isn't laid out, and the text that is printed.
use Rattle.std.specs.Prelude.{◌≡◌, ◌^◌, ◌&&◌, ℕ, Bool, true, false, List, length, codes, Option, Some, None, Result, Ok, Err, is_none, nat_eq, nat_lt, nat_le, not, count_by, if◌then◌else◌}
use Rattle.std.specs.List.{list_any, slice_get}
use Rattle.std.specs.Option.{option_and_then}
use Rattle.std.specs.Global.{Vec}
use Rattle.binfarce_image.specs.declared.image.ElfLayout.{ElfLayout}
use Rattle.binfarce_image.specs.declared.image.Image.{Image}
use Rattle.binfarce_image.specs.declared.image.ImageError.{ImageError}
use Rattle.binfarce_image.specs.declared.image.ImageError.TheVariants.{TooManySections, TableCount, NamesPlace, TooLarge, OutOfMemory}
use Rattle.binfarce_image.specs.declared.image.Part.{Part}
use Rattle.binfarce_image.specs.declared.image.Part.TheVariants.{Bytes, Table}
use Rattle.binfarce_image.specs.Image.{bytes}

-- the printed text
abbrev pub image_words : ImageError → List ℕ
image_words TooManySections = codes "too many sections"
image_words TableCount = codes "image needs exactly one symbol table"
image_words NamesPlace = codes "section names are not in a byte section"
image_words TooLarge = codes "image is too large"
image_words OutOfMemory = codes "out of memory"

abbrev pub is_table : Part → Bool
is_table (Bytes name kind link body) = false
is_table (Table name link rows) = true

-- a byte section of the kind of a symbol table, SHT_SYMTAB
abbrev pub claims_table : Part → Bool
claims_table (Bytes name kind link body) = nat_eq kind 2
claims_table (Table name link rows) = false

-- exactly one symbol table, and no byte section of its kind
abbrev pub has_one_table : List Part → Bool
has_one_table parts = nat_eq (count_by is_table parts) 1 && not (list_any claims_table parts)

-- the bytes of a byte section
abbrev pub bytes_of : Part → Option (List ℕ)
bytes_of (Bytes name kind link body) = Some body.items
bytes_of (Table name link rows) = None

-- the section names, where `names_at` is the index of a byte section
abbrev pub names_of : Image → Option (List ℕ)
names_of image = option_and_then bytes_of (slice_get image.parts.items image.names_at)

-- the refusal that is due, whatever the memory
unfoldable pub refusal_due : Image → ElfLayout → Option ImageError
refusal_due image layout =
    if nat_lt 65535 (length image.parts.items) then Some TooManySections
    else if not (has_one_table image.parts.items) then Some TableCount
    else if is_none (names_of image) then Some NamesPlace
    else if nat_le (2 ^ 32) (length (bytes image layout)) then Some TooLarge
    else None

-- a refusal that is due is returned; `OutOfMemory` only if none is due
abbrev pub Refuses : Option ImageError → Result (Vec ℕ) ImageError → Type 0
Refuses due (Ok file) = due ≡ None
Refuses due (Err OutOfMemory) = due ≡ None
Refuses due (Err e) = due ≡ Some e
