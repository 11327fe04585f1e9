-- Where a file of any format is loaded, and the parts that state it.
use Rattle.std.specs.Prelude.{ℕ, List, [], Option, None, Result, Ok}
use Rattle.std.specs.Option.{option_map}
use Rattle.binfarce_bytes.specs.declared.format.Format.{Format}
use Rattle.binfarce_bytes.specs.declared.format.Format.TheVariants.{Elf32, Elf64, Macho, PE, Unknown}
use Rattle.binfarce_bytes.specs.Part.{Part}
use Rattle.binfarce_bytes.specs.Refusal.{◌>>=◌, Refusal}
use Rattle.binfarce_elf_memory.specs.ElfSegments as elf
use Rattle.binfarce_elf.specs.declared.class.Width.TheVariants.{Bits32, Bits64}
use Rattle.binfarce_elf_memory.specs.declared.segments.LoadAddress.{LoadAddress}
use Rattle.binfarce_macho.specs.MachoParts as macho
use Rattle.binfarce_pe.specs.PeSelection as pe
use Rattle.binfarce_tables.specs.ElfReads.{elf_load_parts}
use Rattle.binfarce_tables.specs.MachoReads.{macho_section_parts}
use Rattle.binfarce_tables.specs.PeReads.{pe_load_parts}

-- what is known of a file that states its address alone: Mach-O and PE files, whose code segment isn't read. The offsets in a Mach-O file are those in its
-- part of a universal file, and those in a mapping of it aren't
abbrev pub without_code : Option ℕ → Option LoadAddress
without_code address = option_map (λ a. record { address = a; code = None }) address

-- where a file of this format says that it is loaded, if it says it, or its refusal
abbrev pub load_address : Format → List ℕ → Result (Option LoadAddress) Refusal
load_address (Elf32 order) file = elf.file_load_address Bits32 order file
load_address (Elf64 order) file = elf.file_load_address Bits64 order file
load_address Macho file = macho.file_load_address file >>= λ address. Ok (without_code address)
load_address PE file = pe.file_load_address file >>= λ address. Ok (without_code address)
load_address Unknown file = Ok None

-- what a reading of it reads
abbrev pub load_parts : Format → List ℕ → List Part
load_parts (Elf32 order) file = elf_load_parts Bits32 order file
load_parts (Elf64 order) file = elf_load_parts Bits64 order file
load_parts Macho file = macho_section_parts file
load_parts PE file = pe_load_parts file
load_parts Unknown file = []
