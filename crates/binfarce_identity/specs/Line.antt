-- What is written of the identity of a file.
use Rattle.std.specs.Prelude.{◌≡◌, ℕ, Bool, true, List, ◌++◌, codes, Option, Some, None, Result, Ok, Err}
use Rattle.std.specs.String.{string_bytes}
use Rattle.std.specs.Global.{Global}
use Rattle.std.specs.declared.string.String.{String}
use Rattle.binfarce_bytes.specs.Refusal.{refusal_of}
use Rattle.binfarce_bytes.specs.declared.format.Format.{Format}
use Rattle.binfarce_bytes.specs.declared.format.Format.TheVariants.{Elf32, Elf64, Macho, PE, Unknown}
use Rattle.binfarce_rows.specs.Json.{object_start, text_member}
use Rattle.binfarce_tables.specs.declared.error.ReadError.TheVariants.{Refused, Unreadable, OutOfMemory}
use Rattle.binfarce_identity.specs.FileIdentity.{identity_of}
use Rattle.binfarce_identity.specs.Identity.{Identity}
use Rattle.binfarce_identity.specs.Texts as texts
use Rattle.binfarce_identity.specs.declared.identity.Kind.{Kind}
use Rattle.binfarce_identity.specs.declared.identity.Kind.TheVariants.{BuildId, Uuid, CodeView}
use Rattle.binfarce_identity.specs.declared.line.Lack.{Lack}
use Rattle.binfarce_identity.specs.declared.line.Lack.TheVariants.{UnknownFormat, NoIdentity, Read}
use Rattle.binfarce_identity.specs.declared.line.Style as code
use Rattle.binfarce_identity.specs.declared.line.Style.TheVariants.{Alone, Named, Object}

-- how an identity is written: alone, before the name of its file, or as an object with that
pub data Style : Type 0 where
  alone : Style
  named : (name : List ℕ) → Style
  object : (name : List ℕ) → Style

-- a `Style`
abbrev pub style_of : code.Style → Style
style_of Alone = alone
style_of (Named name) = named name.now
style_of (Object name) = object name.now

-- the name of a kind, as an object has it
abbrev pub kind_name : Kind → List ℕ
kind_name BuildId = codes "build-id"
kind_name Uuid = codes "uuid"
kind_name CodeView = codes "codeview"

-- an object of the name of a file, and of the kind and the text of its identity
abbrev pub object_of : (name : List ℕ) → Kind → (id : List ℕ) → List ℕ
object_of name kind id =
    object_start name ++ (text_member (codes "id_kind") (Some (kind_name kind)) ++ (text_member (codes "id") (Some id) ++ codes "}\n"))

-- the line of an identity; two blanks come before a name, as in the output of `sha256sum`
abbrev pub line_of : Style → Identity → List ℕ
line_of alone id = texts.text_of id ++ codes "\n"
line_of (named name) id = texts.text_of id ++ (codes "  " ++ (name ++ codes "\n"))
line_of (object name) id = object_of name id.kind (texts.text_of id)

-- what a file lacks that has no identity of this kind
abbrev pub lacked : Kind → List ℕ
lacked BuildId = codes "no build ID"
lacked Uuid = codes "no UUID"
lacked CodeView = codes "no GUID of a PDB file"

-- the kind that files of a format have
abbrev pub kind_of : Format → Option Kind
kind_of (Elf32 order) = Some BuildId
kind_of (Elf64 order) = Some BuildId
kind_of Macho = Some Uuid
kind_of PE = Some CodeView
kind_of Unknown = None

-- why a file of this format has no line: the format is unknown, it has no identity, or it is refused; a source that may fail can't be read; or an allocation
-- failed
abbrev pub IsLack : (may_fail : Bool) → Format → (file : List ℕ) → Lack → Type 0
IsLack may_fail format file UnknownFormat = kind_of format ≡ None
IsLack may_fail format file (NoIdentity kind) = (kind_of format ≡ Some kind) × (identity_of format file ≡ Ok None)
IsLack may_fail format file (Read (Refused e)) = identity_of format file ≡ Err (refusal_of e)
IsLack may_fail format file (Read Unreadable) = may_fail ≡ true
IsLack may_fail format file (Read OutOfMemory) = Unit {0}

-- the line of the identity of a file of this format, or why there is none
abbrev pub GivesLine : (may_fail : Bool) → Style → Format → (file : List ℕ) → Result (String Global) Lack → Type 0
GivesLine may_fail style format file (Ok line) = (id : Identity) × (identity_of format file ≡ Ok (Some id)) × (string_bytes line ≡ line_of style id)
GivesLine may_fail style format file (Err lack) = IsLack may_fail format file lack
