-- The parts of a file that are read for its sections.
use Rattle.std.specs.Prelude.{ℕ, List, [], ◌∷◌, ◌++◌, Option, Some, None, Result, Ok, Err, if◌then◌else◌}
use Rattle.binfarce_bytes.specs.Part.{Part, whole_part}
use Rattle.binfarce.specs.Elf.{elf32, elf64}
use Rattle.binfarce.specs.Format.{format_of}
use Rattle.binfarce.specs.Refusal.{Refusal}
use Rattle.binfarce.specs.Walk.{Walk, first}
use Rattle.binfarce.specs.declared.Format.{Format}
use Rattle.binfarce.specs.declared.Format.TheVariants.{Elf32, Elf64, Macho, PE, Unknown}
use Rattle.binfarce_tables.specs.ElfReads.{elf_section_parts}
use Rattle.binfarce_tables.specs.MachoReads.{macho_section_parts}
use Rattle.binfarce_tables.specs.PeReads.{pe_section_parts}
use Rattle.binfarce_tools.specs.Parts.{head_part}
use Rattle.binfarce_sections.specs.Named.{is_named}
use Rattle.binfarce_sections.specs.Section.{Section, sections_of}

-- what is read of a file of this format for its sections; nothing of an unknown one
unfoldable pub format_parts : Format → List ℕ → List Part
format_parts (Elf32 order) file = elf_section_parts elf32 order file
format_parts (Elf64 order) file = elf_section_parts elf64 order file
format_parts Macho file = macho_section_parts file
format_parts PE file = pe_section_parts file
format_parts Unknown file = []

-- all that is read of a file for its sections
abbrev pub section_parts_of : List ℕ → List Part
section_parts_of file = head_part file ∷ format_parts (format_of file) file

-- the bytes of a section that has some in the file, where they lie in it
abbrev pub bytes_parts : List ℕ → Section → List Part
bytes_parts file section = if section.has_bytes then whole_part file section.offset section.size else []

-- those of the section that a search has found
abbrev pub found_parts : List ℕ → Result (Option Section) Refusal → List Part
found_parts file (Ok (Some section)) = bytes_parts file section
found_parts file (Ok None) = []
found_parts file (Err refusal) = []

-- those of the first of the file's sections that the word names
unfoldable pub first_parts : Option (Walk Section) → List ℕ → List ℕ → List Part
first_parts None file word = []
first_parts (Some walk) file word = found_parts file (first (is_named word) walk)

-- all that is read for the bytes of the section that the word names: what is read for the sections, and these bytes
abbrev pub named_parts_of : List ℕ → List ℕ → List Part
named_parts_of file word = section_parts_of file ++ first_parts (sections_of (format_of file) file) file word
