use Rattle.std.proofs.Common.{◌≡◌, ℕ, List, take}
use Rattle.binfarce_sections.specs.ByName.{at_name}
use Rattle.binfarce_sections.specs.machine.Added.{bytes_in}
use Rattle.binfarce_sections.proofs.rows.added.Given as goal

-- the bytes of the changes so far
abbrev pub invariant-loop-change : goal.invariant-loop-change
invariant-loop-change l = (name : List ℕ) → at_name l.rows name ≡ bytes_in (take l.change-index l.changes) name
