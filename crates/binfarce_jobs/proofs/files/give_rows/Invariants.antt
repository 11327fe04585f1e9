use Rattle.std.proofs.Common.{◌≡◌, map}
use Rattle.binfarce_limits.specs.Rows.{finding_words}
use Rattle.binfarce_jobs.specs.Files.{Grows, hinted}
use Rattle.binfarce_jobs.proofs.files.give_rows.Given as goal

-- what is said of the rows so far
abbrev pub invariant-loop-row : goal.invariant-loop-row
invariant-loop-row g l = record {
  hints : Grows (g.Y.System.hints l.fn.system) (g.Y.System.hints l.system) (hinted l.path (map finding_words l.yielded));
  reports : g.Y.System.reports l.system ≡ g.Y.System.reports l.fn.system;
  bytes : g.Y.System.bytes_at l.system ≡ g.Y.System.bytes_at l.fn.system;
  may_fail : g.Y.System.may_fail_at l.system ≡ g.Y.System.may_fail_at l.fn.system;
}
