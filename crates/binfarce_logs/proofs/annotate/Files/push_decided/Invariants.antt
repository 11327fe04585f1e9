use Rattle.std.proofs.Common.{◌≤◌, ◌-◌, length}
use Rattle.binfarce_logs.specs.machine.Annotating.{IsSame, ShowsTo}
use Rattle.binfarce_logs.proofs.annotate.Files.push_decided.Given as goal

-- the text is shown up to this position
abbrev pub invariant-loop-at : goal.invariant-loop-at
invariant-loop-at l = record {
  after : l.fn.from ≤ l.at;
  within : l.at ≤ length l.text;
  same : IsSame l.fn.self l.self;
  shows : ShowsTo l.fn.self.names.items l.fn.self.is_bare l.is_last l.text l.fn.from l.at l.fn.out.items l.out.items l.fn.self.counts l.self.counts;
}

abbrev pub decreases-loop-at : goal.decreases-loop-at
decreases-loop-at l = length l.text - l.at
