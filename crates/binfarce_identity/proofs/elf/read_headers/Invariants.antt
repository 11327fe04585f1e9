use Rattle.std.proofs.Common.{◌-◌, List, ℕ}
use Rattle.binfarce_tables.specs.Reading.{Known}
use Rattle.binfarce_identity.specs.ElfIdentity.{headers_reading}
use Rattle.binfarce_identity.specs.machine.Views.{shape_of}
use Rattle.binfarce_identity.proofs.OrElse.{Progress}
use Rattle.binfarce_identity.proofs.elf.read_headers.Given as goal

-- the reading of the headers that are left
abbrev pub invariant-loop-index : goal.invariant-loop-index
invariant-loop-index g l = (file : List ℕ) → Known (g.S.Source.bytes l.fn.opened.source.now) l.fn.opened.len file
    → Progress (g.S.Source.logs_only l.fn.log) (g.S.Source.logs_only l.log) file (headers_reading l.byte_order (shape_of l.table.form) l.headers l.table.count 0)
    (headers_reading l.byte_order (shape_of l.table.form) l.headers (l.table.count - l.index) l.index)
