-- The views of sections and of iterators over them that clauses use.
use Rattle.std.specs.Prelude.{◌≡◌, ℕ, List, Option, Some, None, Result, Ok, Err}
use Rattle.std.specs.Option.{option_map}
use Rattle.binfarce.specs.declared.ParseError.{ParseError}
use Rattle.binfarce.specs.Refusal.{refusal_of}
use Rattle.binfarce.specs.Walk.{Walk, ended}
use Rattle.binfarce.specs.Elf as elf
use Rattle.binfarce.specs.Elf.{name_among}
use Rattle.binfarce_elf_memory.specs.ElfParts as elf_parts
use Rattle.binfarce_sections.specs.declared.sections.Section as code
use Rattle.binfarce_sections.specs.declared.sections.ElfSections.{ElfSections}
use Rattle.binfarce_sections.specs.declared.sections.PeSections.{PeSections}
use Rattle.binfarce_sections.specs.declared.sections.Sections.{Sections}
use Rattle.binfarce_sections.specs.declared.sections.Sections.TheVariants as variants
use Rattle.binfarce_sections.specs.declared.sums.Share as code_share
use Rattle.binfarce_sections.specs.declared.error.SectionError.{SectionError}
use Rattle.binfarce_sections.specs.declared.error.SectionError.TheVariants.{Unknown, Parse}
use Rattle.binfarce_sections.specs.Sums.{Share}
use Rattle.binfarce_sections.specs.Section.{Section, elf_named, macho_section, pe_section, mapped}

-- a `Section`
abbrev pub section_view : code.Section → Section
section_view s = record { segment = option_map (λ t. t.now) s.segment; name = option_map (λ t. t.now) s.name; address = s.address; offset = s.offset; size = s.size; has_bytes = s.has_bytes; kind = s.kind; flags = s.flags; file_size = s.file_size; memory_size = s.memory_size }

-- a `Share`
abbrev pub share_view : code_share.Share → Share
share_view s = record { section = section_view s.section; bytes = s.bytes }

-- the name of an ELF section among section names
abbrev pub named_by : Option (List ℕ) → elf.Section → Option (List ℕ)
named_by names s = name_among names s.name_offset

-- the sections that an ELF file has left
abbrev pub elf_left : ElfSections → Walk Section
elf_left s = mapped (elf_named (named_by (option_map (λ b. b.now) s.names))) (elf_parts.sections_left s.left)

-- the sections that a PE file has left
abbrev pub pe_left : PeSections → Walk Section
pe_left s = mapped (pe_section s.strings.now) s.left

-- the sections that an iterator has left
abbrev pub sections_left : Sections → Walk Section
sections_left (variants.Elf sections) = elf_left sections
sections_left (variants.Macho left) = mapped macho_section left
sections_left (variants.Pe sections) = pe_left sections

-- the result of a call that gives the sections of a file: all of them, or the refusal that comes before any
abbrev pub Opens : Option (Walk Section) → Result Sections SectionError → Type 0
Opens (Some walk) (Ok sections) = sections_left sections ≡ walk
Opens (Some walk) (Err e) = (p : ParseError) × (walk ≡ ended (Some (refusal_of p))) × (e ≡ Parse p)
Opens None (Ok sections) = ⊥
Opens None (Err e) = e ≡ Unknown
