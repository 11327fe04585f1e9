-- The classes of files (System V gABI, "ELF Identification").
use Rattle.binfarce_elf.specs.Elf.{ElfClass, elf32, elf64}
use Rattle.binfarce_elf.specs.declared.class.Width.{Width}
use Rattle.binfarce_elf.specs.declared.class.Width.TheVariants.{Bits32, Bits64}

-- the table of a class: ELFCLASS32, ELFCLASS64
abbrev pub class_of : Width → ElfClass
class_of Bits32 = elf32
class_of Bits64 = elf64
