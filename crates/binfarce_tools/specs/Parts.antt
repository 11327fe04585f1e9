-- The parts of a file that are read.
use Rattle.std.specs.Prelude.{ℕ, List, [], ◌∷◌, length, min}
use Rattle.binfarce_bytes.specs.Part.{Part, part}
use Rattle.binfarce.specs.declared.Format.{Format}
use Rattle.binfarce.specs.declared.Format.TheVariants.{Elf32, Elf64, Macho, PE, Unknown}
use Rattle.binfarce.specs.declared.SymbolTable.{SymbolTable}
use Rattle.binfarce.specs.Format.{format_of}
use Rattle.binfarce.specs.Elf.{elf32, elf64}
use Rattle.binfarce_tables.specs.ElfReads.{elf_parts}
use Rattle.binfarce_tables.specs.MachoReads.{macho_parts}
use Rattle.binfarce_tables.specs.PeReads.{pe_parts}

-- the first 8 bytes, or all of a shorter file, which name the format
abbrev pub head_part : List ℕ → Part
head_part file = part 0 (min 8 (length file))

-- what a reading by this symbol table reads of a file of this format, which is the same for each selection; nothing of an unknown one
unfoldable pub format_parts : SymbolTable → Format → List ℕ → List Part
format_parts which (Elf32 order) file = elf_parts which elf32 order file
format_parts which (Elf64 order) file = elf_parts which elf64 order file
format_parts which Macho file = macho_parts file
format_parts which PE file = pe_parts file
format_parts which Unknown file = []

-- all that it reads of a file
abbrev pub parts_in : SymbolTable → List ℕ → List Part
parts_in which file = head_part file ∷ format_parts which (format_of file) file
