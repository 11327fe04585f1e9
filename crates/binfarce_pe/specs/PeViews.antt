-- The views of the types of `pe` that clauses use.
use Rattle.std.specs.Prelude.{ℕ}
use Rattle.binfarce_pe.specs.declared.sections.Section.{Section}
use Rattle.binfarce_pe.specs.declared.header.PeHeader.{PeHeader}
use Rattle.binfarce_pe.specs.Pe as pe

-- a `Section`
abbrev pub section_view : Section → pe.Section
section_view s = record { name = s.name.now; virtual_size = s.virtual_size; virtual_address = s.virtual_address; size_of_raw_data = s.size_of_raw_data; pointer_to_raw_data = s.pointer_to_raw_data; characteristics = s.characteristics; index = s.index }

-- a `PeHeader`
abbrev pub header_view : PeHeader → pe.Header ℕ
header_view h = record { machine = h.machine; number_of_sections = h.number_of_sections; time_date_stamp = h.time_date_stamp; pointer_to_symbol_table = h.pointer_to_symbol_table; number_of_symbols = h.number_of_symbols; size_of_optional_header = h.size_of_optional_header; characteristics = h.characteristics }
