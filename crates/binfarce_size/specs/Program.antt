-- The results of the program's functions.
use Rattle.std.specs.Prelude.{Bool, true, false, Result, Ok, Err}
use Rattle.binfarce_tools.specs.ReportWords as call
use Rattle.binfarce_tools.specs.Writing as writing
use Rattle.binfarce_tools.specs.declared.program.Failure.{Failure}
use Rattle.binfarce_tools.specs.declared.program.Failure.TheVariants as failures
use Rattle.binfarce_tools.specs.declared.report.ReportError.TheVariants as errors
use Rattle.binfarce_size.specs.declared.program.Fault.{Fault}
use Rattle.binfarce_size.specs.declared.program.Fault.TheVariants.{Usage, File, Report}

-- the fault of each failure
abbrev pub fault_of : Failure → Fault
fault_of failures.Usage = Usage
fault_of failures.File = File
fault_of (failures.Refused e) = Report (errors.Parse e)
fault_of failures.OutOfMemory = Report errors.OutOfMemory
fault_of failures.Write = Report errors.Write

-- whether the arguments are wrong
abbrev pub is_usage : Fault → Bool
is_usage Usage = true
is_usage File = false
is_usage (Report e) = false

-- how a program ended
abbrev pub outcome_of : Result (Unit {0}) Fault → writing.Outcome
outcome_of (Ok x) = call.outcome_of (Ok x)
outcome_of (Err Usage) = writing.wrong_usage
outcome_of (Err File) = writing.unreadable
outcome_of (Err (Report e)) = call.outcome_of (Err e)
