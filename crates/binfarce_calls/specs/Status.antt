-- The program's exit status.
use Rattle.std.specs.Prelude.{ℕ, Bool, true, false, ◌&&◌, not, Option, Some, None, Result, Ok, Err, if◌then◌else◌}
use Rattle.std.specs.declared.io.ErrorKind.{ErrorKind}
use Rattle.std.specs.declared.io.ErrorKind.TheVariants.{BrokenPipe}
use Rattle.binfarce_io.specs.declared.fault.Fault.{Fault}
use Rattle.binfarce_jobs.specs.declared.limit.Verdict.{Verdict}
use Rattle.binfarce_io.specs.Faults.{is_write}
use Rattle.binfarce_io.specs.declared.fault.Fault.TheVariants.{Missing}
use Rattle.binfarce_words.specs.declared.wrong.Wrong.{Wrong}
use Rattle.binfarce_words.specs.declared.wrong.Wrong.TheVariants.{OutOfMemory}

-- 2 for a wrong call, and 1 if an allocation failed
abbrev pub wrong_status : Wrong → ℕ
wrong_status OutOfMemory = 1
wrong_status wrong = 2

-- the reader of the output has closed it
abbrev pub is_broken_pipe : Option ErrorKind → Bool
is_broken_pipe None = false
is_broken_pipe (Some BrokenPipe) = true
is_broken_pipe (Some kind) = false

-- 0 if a write failed because the reader of the output has closed it, and 1 for another reason, or if sums have a limit: they aren't all known then
abbrev pub write_status : (has_limit : Bool) → Option ErrorKind → ℕ
write_status has_limit reason = if is_broken_pipe reason && not has_limit then 0 else 1

-- 2 for lines without an address, and 1 for any other fault
abbrev pub fault_status : Fault → ℕ
fault_status (Missing count) = 2
fault_status fault = 1

-- the status of work that came to this: 1 if a file was refused, else 3 if a sum exceeds its limit
abbrev pub verdict_status : Verdict → ℕ
verdict_status verdict = if not verdict.is_done then 1 else (if verdict.is_above then 3 else 0)

-- the status of a call, by what its work came to, or why it ended early; the reason is that of a failed write
abbrev pub status_of : Result Verdict Fault → (has_limit : Bool) → Option ErrorKind → ℕ
status_of (Ok verdict) has_limit reason = verdict_status verdict
status_of (Err fault) has_limit reason = if is_write fault then write_status has_limit reason else fault_status fault
