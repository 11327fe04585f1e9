use Rattle.std.proofs.Common.{◌≡◌, ℕ, List, Ok, take, length, ltb}
use Rattle.binfarce_jobs.specs.Files.{AreHeld, asked_files, state_of}
use Rattle.binfarce_jobs.proofs.FileLoop.{views}
use Rattle.binfarce_calls.specs.Sections.{InTurn, SumsArgument}
use Rattle.binfarce_calls.proofs.sections.sum_files.Given as goal

-- the files so far are summed or reported, and the others are as they were
abbrev pub invariant-loop-argument : goal.invariant-loop-argument
invariant-loop-argument g l = record {
  sums : (held : List ℕ → List ℕ) → AreHeld (g.Y.System.bytes_at l.fn.system) held (views l.files)
      → InTurn (SumsArgument l.first (asked_files l.asked (ltb 1 (length l.files)) (g.Y.System.may_fail_at l.fn.system) held)) (views (take l.argument-index l.files))
      (state_of g.W.Write.contents l.fn.out (g.Y.System.reports l.fn.system) (g.Y.System.hints l.fn.system)) (state_of g.W.Write.contents l.out (g.Y.System.reports l.system) (g.Y.System.hints l.system)) (Ok l.all);
  bytes : g.Y.System.bytes_at l.system ≡ g.Y.System.bytes_at l.fn.system;
  may_fail : g.Y.System.may_fail_at l.system ≡ g.Y.System.may_fail_at l.fn.system;
}
