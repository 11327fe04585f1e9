-- The views of the types of both classes that clauses use; `number` gives the number of a word.
use Rattle.std.specs.Prelude.{ℕ}
use Rattle.binfarce_elf.specs.declared.sections.Section.{Section}
use Rattle.binfarce_elf.specs.declared.header.Header.{Header}
use Rattle.binfarce_elf.specs.declared.symbols.TableSections as code
use Rattle.binfarce_elf.specs.SymbolTables.{TableSections}
use Rattle.binfarce_elf.specs.Elf as elf

-- a `Section`
abbrev pub section_view : {C : Type 0} → (C → ℕ) → Section C → elf.Section
section_view number s = record { index = s.index; name_offset = s.name_offset; kind = s.kind; flags = number s.flags; address = number s.address; link = s.link; offset = number s.offset; size = number s.size; entry_size = number s.entry_size }

-- an `Elf32Header` or `Elf64Header`
abbrev pub header_view : {C : Type 0} → (C → ℕ) → Header C → elf.Header ℕ
header_view number h = record { elf_type = h.elf_type; machine = h.machine; version = h.version; entry = number h.entry; phoff = number h.phoff; shoff = number h.shoff; flags = h.flags; ehsize = h.ehsize; phentsize = h.phentsize; phnum = h.phnum; shentsize = h.shentsize; shnum = h.shnum; shstrndx = h.shstrndx }

-- a `TableSections`
abbrev pub table_sections_view : code.TableSections → TableSections
table_sections_view t = record { symbols = section_view (λ n. n) t.symbols; strings = section_view (λ n. n) t.strings }
