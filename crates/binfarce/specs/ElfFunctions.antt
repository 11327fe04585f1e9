-- The views of the function symbols of a section of an ELF file that clauses use.
use Rattle.std.specs.Prelude.{ℕ, List, map}
use Rattle.binfarce_bytes.specs.Entries.{Entry, Listed}
use Rattle.binfarce_elf_memory.specs.SelectionViews as all
use Rattle.binfarce.specs.declared.elf.Functions.{Functions}

-- the entries that an iterator of function symbols has left
abbrev pub functions_left : Functions → List Entry
functions_left f = map (λ e. e.entry) (all.functions_left f.all)

-- such an iterator, and the size of the section
abbrev pub functions_view : Functions × ℕ → Listed
functions_view answer = record { entries = functions_left answer.0; section_size = answer.1 }
