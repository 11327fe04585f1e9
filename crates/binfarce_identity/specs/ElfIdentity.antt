-- The identity of an ELF file, its build ID (System V gABI, "Note Section").
use Rattle.std.specs.Prelude.{ℕ, zero, suc, ◌+◌, ◌*◌, List, Option, Some, None, Result, Ok, Err, nat_eq, if◌then◌else◌}
use Rattle.std.specs.Option.{option_map}
use Rattle.binfarce_bytes.specs.declared.ByteOrder.{ByteOrder}
use Rattle.binfarce_bytes.specs.Field.{Field, value_at}
use Rattle.binfarce_bytes.specs.Refusal.{Refusal}
use Rattle.binfarce_elf.specs.Classes.{class_of}
use Rattle.binfarce_elf.specs.Elf.{Header, header_of}
use Rattle.binfarce_elf.specs.declared.class.Width.{Width}
use Rattle.binfarce_elf_memory.specs.ElfSegments.{program_fields, program_length}
use Rattle.binfarce_identity.specs.Identity.{Answer, identity}
use Rattle.binfarce_identity.specs.Notes.{build_id}
use Rattle.binfarce_tables.specs.Readings.{answered, with_part}
use Rattle.binfarce_identity.specs.Reading.{Reading, or_else}
use Rattle.binfarce_identity.specs.declared.identity.Kind.TheVariants.{BuildId}

-- headers of places in a file: how many bytes each has, its fields for the type and the place, and the type of notes
pub record Shape : Type 0 where
  pub length : ℕ
  pub kind : Field
  pub notes : ℕ
  pub offset : Field
  pub size : Field
  pub align : Field

-- section headers: SHT_NOTE is 7
abbrev pub section_shape : Width → Shape
section_shape width =
    let class = class_of width in
    record {
      length = class.section_length;
      kind = class.section.kind;
      notes = 7;
      offset = class.section.offset;
      size = class.section.size;
      align = class.section.addralign;
    }

-- program headers: PT_NOTE is 4
abbrev pub program_shape : Width → Shape
program_shape width =
    let fields = program_fields width in
    record { length = program_length width; kind = fields.kind; notes = 4; offset = fields.offset; size = fields.filesz; align = fields.align }

-- a table of such headers: where it begins, and how many it has
pub record Table : Type 0 where
  pub shape : Shape
  pub offset : ℕ
  pub count : ℕ

-- the section headers that a file header states; if there are none the program headers
unfoldable pub table_of : Width → Header ℕ → Table
table_of width header =
    if nat_eq header.shnum 0 then record { shape = program_shape width; offset = header.phoff; count = header.phnum }
    else record { shape = section_shape width; offset = header.shoff; count = header.shnum }

-- where notes are in the file, and their alignment
pub record Place : Type 0 where
  pub offset : ℕ
  pub size : ℕ
  pub align : ℕ

-- those of the header that begins at start, if its type is that of notes
abbrev pub header_place : ByteOrder → Shape → (headers : List ℕ) → (start : ℕ) → Option Place
header_place order shape headers start =
    if nat_eq (value_at order headers start shape.kind) shape.notes
    then Some (record {
      offset = value_at order headers start shape.offset;
      size = value_at order headers start shape.size;
      align = value_at order headers start shape.align;
    })
    else None

-- a build ID as an identity
abbrev pub as_identity : Result (Option (List ℕ)) Refusal → Answer
as_identity (Ok id) = Ok (option_map (identity BuildId) id)
as_identity (Err refusal) = Err refusal

-- the first build ID of the notes at a place
abbrev pub place_reading : ByteOrder → Option Place → Reading
place_reading order None = answered (Ok None)
place_reading order (Some place) = with_part place.offset place.size (λ notes. answered (as_identity (build_id order place.align notes)))

-- the first one at the places of n headers from this index on
unfoldable pub headers_reading : ByteOrder → Shape → (headers : List ℕ) → (n index : ℕ) → Reading
headers_reading order shape headers zero index = answered (Ok None)
headers_reading order shape headers (suc n) index =
    or_else (place_reading order (header_place order shape headers (index * shape.length))) (headers_reading order shape headers n (index + 1))

-- the first one at the places of a table
unfoldable pub table_reading : ByteOrder → Table → Reading
table_reading order table = with_part table.offset (table.count * table.shape.length) (λ headers. headers_reading order table.shape headers table.count 0)

-- the first one of a file, whose header states its table
unfoldable pub elf_reading : Width → ByteOrder → Reading
elf_reading width order =
    with_part 0 (class_of width).header_length (λ head. table_reading order (table_of width (header_of (class_of width) order head)))
