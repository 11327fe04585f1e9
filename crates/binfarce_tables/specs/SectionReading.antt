-- The section headers and section names of an ELF file that were read.
use Rattle.std.specs.Prelude.{ℕ, List, length, Option, Result, Ok}
use Rattle.std.specs.Option.{option_map}
use Rattle.binfarce_bytes.specs.declared.ByteOrder.{ByteOrder}
use Rattle.binfarce_bytes.specs.Refusal.{Refusal, if_as_long_as}
use Rattle.binfarce_bytes.specs.Walk.{Walk}
use Rattle.binfarce_elf.specs.Classes.{class_of}
use Rattle.binfarce_elf.specs.Elf.{ElfClass, Section, header_of, section_table, walk, names_bytes}
use Rattle.binfarce_elf_memory.specs.ElfParts.{headers_alone}
use Rattle.binfarce_elf_memory.specs.ElfEnds.{FileKind, file_kind}
use Rattle.binfarce_elf_memory.specs.SelectionViews.{kind_view}
use Rattle.binfarce_tables.specs.declared.sections.SectionParts.{SectionParts}

-- a file's class, byte order, type and machine, and how many section headers its header states; its sections and the section names; and its length
pub record FileSections : Type 0 where
  pub class : ElfClass
  pub order : ByteOrder
  pub kind : FileKind
  pub count : ℕ
  pub sections : Walk Section
  pub names : Option (List ℕ)
  pub file_length : ℕ

-- those of a file that has a header
abbrev pub file_sections : ElfClass → ByteOrder → List ℕ → Result FileSections Refusal
file_sections class order file =
    let table = section_table class (record { order = order; bytes = file }) in
    if_as_long_as class.header_length file (Ok (record {
      class = class;
      order = order;
      kind = file_kind (header_of class order file);
      count = table.shnum;
      sections = walk class table;
      names = names_bytes class table;
      file_length = length file;
    }))

-- those in a file's parts
abbrev pub sections_view : SectionParts → FileSections
sections_view p = record {
  class = class_of p.width;
  order = p.place.byte_order;
  kind = kind_view p.place.kind;
  count = p.place.shnum;
  sections = walk (class_of p.width) (headers_alone p.place.byte_order p.headers.items p.place.shnum);
  names = option_map (λ v. v.items) p.names;
  file_length = p.file_length;
}
