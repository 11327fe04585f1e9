use Rattle.std.proofs.Common.{List, take}
use Rattle.binfarce.specs.Symbol.{Entry}
use Rattle.binfarce_addresses.specs.declared.lookup.Lookup.{Lookup}
use Rattle.binfarce_addresses.specs.Counts.{AreCountsOf, answers_at}
use Rattle.binfarce_addresses.specs.Lines.{AreLinesOf}
use Rattle.binfarce_addresses.proofs.at.write_lines.Given as goal

-- the lines and the counts of the addresses so far
abbrev pub invariant-loop-address : goal.invariant-loop-address
invariant-loop-address g l = record {
  named : Path (List Entry × Lookup) l.names (l.fn.places, l.fn.lookup);
  lines : AreLinesOf l.fn.places l.fn.lookup (take l.address-index l.addresses) l.text.items;
  counts : AreCountsOf (answers_at l.fn.places l.fn.lookup (take l.address-index l.addresses)) l.counts;
}
