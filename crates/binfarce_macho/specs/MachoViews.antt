-- The views of the types of `macho` that clauses use.
use Rattle.std.specs.Prelude.{ℕ}
use Rattle.binfarce_macho.specs.declared.sections.Section.{Section}
use Rattle.binfarce_macho.specs.declared.header.MachoHeader.{MachoHeader}
use Rattle.binfarce_macho.specs.Macho as macho

-- a `Section`
abbrev pub section_view : Section → macho.Section
section_view s = record { segment_name = s.segment_name.now; section_name = s.section_name.now; address = s.address; offset = s.offset; size = s.size; flags = s.flags }

-- a `MachoHeader`
abbrev pub header_view : MachoHeader → macho.Header ℕ
header_view h = record { cputype = h.cputype; cpusubtype = h.cpusubtype; filetype = h.filetype; ncmds = h.ncmds; sizeofcmds = h.sizeofcmds; flags = h.flags }
