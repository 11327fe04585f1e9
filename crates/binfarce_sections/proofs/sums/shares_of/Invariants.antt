use Rattle.std.specs.Prelude.{All}
use Rattle.binfarce_sections.specs.machine.Summed.{IsNamed}
use Rattle.binfarce_sections.proofs.Shares.{Shared}
use Rattle.binfarce_sections.proofs.sums.shares_of.Given as goal

-- the sections so far have their shares, up to the end, and the shares their names
abbrev pub invariant-loop-section : goal.invariant-loop-section
invariant-loop-section l = Shared l.fn.file_length l.sections l.shares.items l.section-index l.end × All IsNamed l.shares.items
