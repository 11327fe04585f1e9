-- The results of the exports for a file's format and header.
use Rattle.std.specs.Prelude.{◌≡◌, ◌⊎◌, ◌+◌, ◌<◌, ◌≤◌, ℕ, List, length}
use Rattle.binfarce.specs.declared.ByteOrder.{ByteOrder}
use Rattle.binfarce.specs.declared.ByteOrder.TheVariants.{LittleEndian, BigEndian}
use Rattle.binfarce.specs.declared.Format.{Format}
use Rattle.binfarce.specs.declared.Format.TheVariants.{Elf32, Elf64, Macho, PE, Unknown}
use Rattle.binfarce.specs.Elf as elf
use Rattle.binfarce.specs.Refusal.{unexpected_eof}
use Rattle.binfarce_c.specs.declared.headers.ElfHeader.{ElfHeader}
use Rattle.binfarce_c.specs.Status.{ok, status_of, unknown_format}

abbrev pub order_number : ByteOrder → ℕ
order_number LittleEndian = 0
order_number BigEndian = 1

-- `enum binfarce_format`
abbrev pub format_number : Format → ℕ
format_number Unknown = 0
format_number (Elf32 order) = 1 + order_number order
format_number (Elf64 order) = 3 + order_number order
format_number Macho = 5
format_number PE = 6

-- an ELF header of either class
abbrev pub header_view : ElfHeader → elf.Header ℕ
header_view h = record { elf_type = h.elf_type; machine = h.machine; version = h.version; entry = h.entry; phoff = h.phoff; shoff = h.shoff; flags = h.flags; ehsize = h.ehsize; phentsize = h.phentsize; phnum = h.phnum; shentsize = h.shentsize; shnum = h.shnum; shstrndx = h.shstrndx }

-- no header: all of its fields are 0
abbrev pub no_header : ElfHeader
no_header = record { elf_type = 0; machine = 0; version = 0; entry = 0; phoff = 0; shoff = 0; flags = 0; ehsize = 0; phentsize = 0; phnum = 0; shentsize = 0; shnum = 0; shstrndx = 0 }

-- the header was given where the file is long enough, and else refused
abbrev pub GivesHeader : (class : elf.ElfClass) (order : ByteOrder) (file : List ℕ) (new : ElfHeader) (status : ℕ) → Type 0
GivesHeader class order file new status =
    ((class.header_length ≤ length file) × (status ≡ ok) × (header_view new ≡ elf.header_of class order file))
    ⊎ ((length file < class.header_length) × (status ≡ status_of unexpected_eof) × (new ≡ no_header))

-- `binfarce_elf_header`, by the format that the file's first bytes name
unfoldable pub GivesElfHeader : Format → (file : List ℕ) (new : ElfHeader) (status : ℕ) → Type 0
GivesElfHeader (Elf32 order) file new status = GivesHeader elf.elf32 order file new status
GivesElfHeader (Elf64 order) file new status = GivesHeader elf.elf64 order file new status
GivesElfHeader Macho file new status = (status ≡ unknown_format) × (new ≡ no_header)
GivesElfHeader PE file new status = (status ≡ unknown_format) × (new ≡ no_header)
GivesElfHeader Unknown file new status = (status ≡ unknown_format) × (new ≡ no_header)
