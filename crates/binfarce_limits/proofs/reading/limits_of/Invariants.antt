use Rattle.std.proofs.Common.{map}
use Rattle.binfarce_limits.specs.Rows.{limit_view}
use Rattle.binfarce_limits.specs.machine.Names.{AreNamesOf}
use Rattle.binfarce_limits.proofs.Lines.{Reads}
use Rattle.binfarce_limits.proofs.reading.limits_of.Given as goal

-- the lines so far have these limits, and these are their names
abbrev pub invariant-loop-i : goal.invariant-loop-i
invariant-loop-i l = record {
  reads : Reads l.compares l.lines l.i (map limit_view l.limits.items);
  names : AreNamesOf (map limit_view l.limits.items) l.names;
}
