-- Whether a file has code.
use Rattle.std.specs.Prelude.{ℕ, Bool, false, ◌&&◌, List, Option, Some, None, bit_and, nat_eq, nat_lt, not}
use Rattle.std.specs.List.{list_any}
use Rattle.binfarce_bytes.specs.Format.{format_of}
use Rattle.binfarce_bytes.specs.Walk.{Walk}
use Rattle.binfarce_sections.specs.Section.{Section, sections_of}
use Rattle.binfarce_sections.specs.declared.kinds.SectionType.{SectionType}
use Rattle.binfarce_sections.specs.declared.kinds.SectionType.TheVariants.{Elf, Macho, Pe}

-- the flags of which a section of code has one: in ELF SHF_EXECINSTR (gABI, "Sections"), in Mach-O S_ATTR_PURE_INSTRUCTIONS or S_ATTR_SOME_INSTRUCTIONS (loader.h), in PE IMAGE_SCN_CNT_CODE (PE Format, "Section Flags")
abbrev pub code_flags : SectionType → ℕ
code_flags (Elf number) = 4
code_flags (Macho number) = 0x80000400
code_flags Pe = 0x20

-- a section of code that has bytes in memory
abbrev pub is_code : Section → Bool
is_code s = not (nat_eq (bit_and s.flags (code_flags s.kind)) 0) && nat_lt 0 s.memory_size

-- one of these sections, up to one that can't be read, is such a section
abbrev pub code_in : Option (Walk Section) → Bool
code_in (Some walk) = list_any is_code walk.items
code_in None = false

abbrev pub has_code : (file : List ℕ) → Bool
has_code file = code_in (sections_of (format_of file) file)
