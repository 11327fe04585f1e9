use Rattle.std.proofs.Common.{◌≡◌, ◌+◌, ◌<◌, ◌^◌}
use Rattle.std.specs.List.{sum_by}
use Rattle.binfarce_tools.specs.Entries.{functions_left}
use Rattle.binfarce_tools.proofs.CrateSums.{Completes, Fit}
use Rattle.binfarce_tools.proofs.report.crate_sums.Given as goal

-- with the shares of what is left, those of all are summed; and no sum is greater than that of all sizes so far
abbrev pub invariant-loop-function : goal.invariant-loop-function
invariant-loop-function l = record {
  sums : Completes (functions_left l.fn.functions) (functions_left l.function-iterator) l.crates;
  total : l.total + sum_by (λ e. e.size) (functions_left l.function-iterator) ≡ sum_by (λ e. e.size) (functions_left l.fn.functions);
  fit : Fit l.crates l.total;
  below : l.total < 2 ^ 64;
}
