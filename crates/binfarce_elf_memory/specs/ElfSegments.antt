-- The program headers of an ELF file, the page where its segments begin, and its code segment (System V gABI, "Program Header", "Program Loading").
use Rattle.std.specs.Prelude.{ℕ, ◌+◌, ◌-◌, ◌*◌, ◌/◌, ◌%◌, Bool, ◌&&◌, List, [], ◌∷◌, length, Option, Some, None, Result, Ok, nat_eq, if◌then◌else◌}
use Rattle.std.specs.Option.{option_map}
use Rattle.std.specs.List.{range_with_len, filter_map}
use Rattle.binfarce_bytes.specs.declared.ByteOrder.{ByteOrder}
use Rattle.binfarce_bytes.specs.Field.{Field, field, value_at}
use Rattle.binfarce_bytes.specs.Number.{bytes_at}
use Rattle.binfarce_bytes.specs.Refusal.{Refusal, if_as_long_as}
use Rattle.binfarce_bytes.specs.Sizes.{least, least_of}
use Rattle.binfarce_elf.specs.Classes.{class_of}
use Rattle.binfarce_elf.specs.Elf.{Header, header_of}
use Rattle.binfarce_elf.specs.declared.class.Width.{Width}
use Rattle.binfarce_elf.specs.declared.class.Width.TheVariants.{Bits32, Bits64}
use Rattle.binfarce_elf_memory.specs.declared.segments.CodeSegment.{CodeSegment}
use Rattle.binfarce_elf_memory.specs.declared.segments.LoadAddress.{LoadAddress}

-- Program Header: one A for each field
pub record ProgramHeader (A : Type 0) : Type 0 where
  pub kind : A
  pub flags : A
  pub offset : A
  pub vaddr : A
  pub paddr : A
  pub filesz : A
  pub memsz : A
  pub align : A

-- the length of a class's program headers
abbrev pub program_length : Width → ℕ
program_length Bits32 = 32
program_length Bits64 = 56

-- the offsets and widths of their fields
abbrev pub program_fields : Width → ProgramHeader Field
program_fields Bits32 = record {
  kind = field 0 4;
  offset = field 4 4;
  vaddr = field 8 4;
  paddr = field 12 4;
  filesz = field 16 4;
  memsz = field 20 4;
  flags = field 24 4;
  align = field 28 4;
}
program_fields Bits64 = record {
  kind = field 0 4;
  flags = field 4 4;
  offset = field 8 8;
  vaddr = field 16 8;
  paddr = field 24 8;
  filesz = field 32 8;
  memsz = field 40 8;
  align = field 48 8;
}

-- the address of the segment whose program header begins at start, where it is loaded (PT_LOAD, 1)
abbrev pub load_at : Width → ByteOrder → List ℕ → ℕ → Option ℕ
load_at width order headers start =
    if nat_eq (value_at order headers start (program_fields width).kind) 1 then Some (value_at order headers start (program_fields width).vaddr) else None

-- the beginning of an address's page of 4096 bytes
abbrev pub page_of : ℕ → ℕ
page_of address = address - address % 4096

-- the page of the lowest address of a loaded segment, if there is one. It's the same for every size of pages where that segment has the file's first byte,
-- since its address is then a multiple of its alignment; else it's an address as good as any other to say where the file is, by a mapping of its code
unfoldable pub load_page : Width → ByteOrder → List ℕ → Option ℕ
load_page width order headers =
    option_map page_of (least (filter_map (λ i. load_at width order headers (i * program_length width)) (range_with_len 0 (length headers / program_length width))))

-- the lower one, if there are any
abbrev pub lower_of : Option ℕ → Option ℕ → Option ℕ
lower_of None other = other
lower_of (Some address) other = Some (least_of address other)

-- the program header that begins at start is that of a segment that is loaded (PT_LOAD, 1) and may be executed (PF_X, 1)
abbrev pub is_code : Width → ByteOrder → List ℕ → ℕ → Bool
is_code width order headers start =
    nat_eq (value_at order headers start (program_fields width).kind) 1 && nat_eq (value_at order headers start (program_fields width).flags % 2) 1

-- the code segment whose program header begins at start, where it is one
abbrev pub code_at : Width → ByteOrder → List ℕ → ℕ → Option CodeSegment
code_at width order headers start =
    let fields = program_fields width in
    if is_code width order headers start then Some (record {
      address = value_at order headers start fields.vaddr;
      offset = value_at order headers start fields.offset;
      size = value_at order headers start fields.filesz;
      memory_size = value_at order headers start fields.memsz;
      align = value_at order headers start fields.align;
    }) else None

-- the first of several, if there is one
abbrev pub first_of : {X : Type 0} → List X → Option X
first_of [] = None
first_of (x ∷ xs) = Some x

-- the first code segment
unfoldable pub code_segment : Width → ByteOrder → List ℕ → Option CodeSegment
code_segment width order headers =
    first_of (filter_map (λ i. code_at width order headers (i * program_length width)) (range_with_len 0 (length headers / program_length width)))

-- where a file is loaded, by its program headers: at the page of its lowest loaded segment, unless the loader chooses another. None without such a segment
abbrev pub load_address : Width → ByteOrder → List ℕ → Option LoadAddress
load_address width order headers = option_map (λ page. record { address = page; code = code_segment width order headers }) (load_page width order headers)

-- how many bytes the program headers have that a file header states
abbrev pub programs_size : Width → Header ℕ → ℕ
programs_size width header = header.phnum * program_length width

-- where a file is loaded, by so many bytes of program headers at this offset, which have to lie in the file
unfoldable pub load_address_at : Width → ByteOrder → List ℕ → (offset size : ℕ) → Result (Option LoadAddress) Refusal
load_address_at width order file offset size = if_as_long_as (offset + size) file (Ok (load_address width order (bytes_at file offset size)))

-- where a file is loaded, if it has a header
unfoldable pub file_load_address : Width → ByteOrder → List ℕ → Result (Option LoadAddress) Refusal
file_load_address width order file =
    let header = header_of (class_of width) order file in
    if_as_long_as (class_of width).header_length file (load_address_at width order file header.phoff (programs_size width header))
