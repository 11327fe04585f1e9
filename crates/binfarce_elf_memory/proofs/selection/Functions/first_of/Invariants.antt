use Rattle.std.proofs.Common.{◌≡◌}
use Rattle.binfarce_elf.specs.Classes.{class_of}
use Rattle.binfarce_elf_memory.specs.SelectionViews.{functions_left, sized_from, taken_view}
use Rattle.binfarce_elf_memory.proofs.selection.Functions.first_of.Given as goal

-- the rows that are passed have no entry
abbrev pub invariant-loop-k : goal.invariant-loop-k
invariant-loop-k l = functions_left (record l.self { width = l.width }) ≡ sized_from (class_of l.width) l.self.byte_order (taken_view l.self.taken) l.self.has_modes (record { strings = l.self.strings.now; rows = l.self.rows.now }) l.self.versions.now l.self.sizes.now l.k
