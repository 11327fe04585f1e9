-- What is written of the symbols that a file needs.
use Rattle.std.specs.Prelude.{◌≡◌, ℕ, ◌/◌, Bool, true, List, [], ◌∷◌, ◌++◌, codes, Option, Some, None, Result, Ok, Err}
use Rattle.std.specs.Global.{Global}
use Rattle.std.specs.List.{AllZip, concat}
use Rattle.std.specs.String.{string_bytes}
use Rattle.std.specs.declared.string.String.{String}
use Rattle.binfarce_bytes.specs.Refusal.{Refusal, refusal_of}
use Rattle.binfarce_bytes.specs.declared.format.Format.{Format}
use Rattle.binfarce_bytes.specs.declared.format.Format.TheVariants as formats
use Rattle.binfarce_elf.specs.declared.class.Width.TheVariants.{Bits32, Bits64}
use Rattle.binfarce_figures.specs.RowListing.{word_of}
use Rattle.binfarce_figures.specs.Rows.{IsNameText}
use Rattle.binfarce_figures.specs.declared.rows.Naming.{Naming}
use Rattle.binfarce_rows.specs.Json.{Style, lines, objects, object_start, text_member}
use Rattle.binfarce_tables.specs.declared.error.ReadError.TheVariants.{Refused, Unreadable, OutOfMemory}
use Rattle.binfarce_needs.specs.FileNeeds.{file_needs}
use Rattle.binfarce_needs.specs.Needs.{Need}
use Rattle.binfarce_needs.specs.declared.lines.Lack.{Lack}
use Rattle.binfarce_needs.specs.declared.lines.Lack.TheVariants.{UnknownFormat, NotElf, Read}
use Rattle.binfarce_needs.specs.declared.lines.Other.{Other}
use Rattle.binfarce_needs.specs.declared.lines.Other.TheVariants.{Macho, Pe}

-- the version after a name, as nm(1) writes a needed one
abbrev pub version_part : Option (List ℕ) → List ℕ
version_part None = []
version_part (Some version) = codes "@" ++ version

-- an object of the name of a file, of what is shown of a symbol's name, its stored name, its binding (the high four bits of its info), its version, and
-- the file that this is of
abbrev pub object_of : (file name : List ℕ) → Need → List ℕ
object_of file name need = concat (
    object_start file ∷ text_member (codes "name") (Some name) ∷ text_member (codes "raw") (Some need.name) ∷ text_member (codes "binding") (word_of (need.info / 16))
    ∷ text_member (codes "version") need.version ∷ text_member (codes "from") need.from ∷ codes "}\n" ∷ []
    )

-- the row of a symbol, with what is shown of its name
abbrev pub row_of : Style → (name : List ℕ) → Need → List ℕ
row_of lines name need = name ++ (version_part need.version ++ codes "\n")
row_of (objects file section) name need = object_of file name need

abbrev pub IsRowOf : Naming → Style → Need → (row : List ℕ) → Type 0
IsRowOf naming style need row = (name : List ℕ) × IsNameText naming need.name name × (row ≡ row_of style name need)

-- text is the rows of these symbols
abbrev pub AreRows : Naming → Style → List Need → (text : List ℕ) → Type 0
AreRows naming style needs text = (rows : List (List ℕ)) × AllZip (IsRowOf naming style) needs rows × (text ≡ concat rows)

-- why no symbol is shown of a file of a format that isn't ELF, in words
abbrev pub unread : Other → List ℕ
unread Macho = codes "what is needed is read of ELF files alone; nm -um shows it of Mach-O files"
unread Pe = codes "what is needed is read of ELF files alone; objdump -p shows the imports of PE files"

-- what a file of this format needs, if it is an ELF file
abbrev pub needs_in : Format → (file : List ℕ) → Option (Result (List Need) Refusal)
needs_in (formats.Elf32 order) file = Some (file_needs Bits32 order file)
needs_in (formats.Elf64 order) file = Some (file_needs Bits64 order file)
needs_in format file = None

-- the format of a file that isn't ELF
abbrev pub other_of : Format → Option Other
other_of formats.Macho = Some Macho
other_of formats.PE = Some Pe
other_of format = None

-- why it isn't shown what a file of this format needs: the format is unknown, or another one than ELF; the file is refused; a source that may fail can't be read;
-- or an allocation failed
abbrev pub IsLack : (may_fail : Bool) → Format → (file : List ℕ) → Lack → Type 0
IsLack may_fail format file UnknownFormat = format ≡ formats.Unknown
IsLack may_fail format file (NotElf other) = other_of format ≡ Some other
IsLack may_fail format file (Read (Refused e)) = needs_in format file ≡ Some (Err (refusal_of e))
IsLack may_fail format file (Read Unreadable) = may_fail ≡ true
IsLack may_fail format file (Read OutOfMemory) = Unit {0}

-- the rows of what a file of this format needs, or why there are none
abbrev pub GivesText : (may_fail : Bool) → Naming → Style → Format → (file : List ℕ) → Result (String Global) Lack → Type 0
GivesText may_fail naming style format file (Ok text) = (needs : List Need) × (needs_in format file ≡ Some (Ok needs)) × AreRows naming style needs (string_bytes text)
GivesText may_fail naming style format file (Err lack) = IsLack may_fail format file lack
