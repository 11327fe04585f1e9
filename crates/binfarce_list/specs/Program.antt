-- The results of the program's functions.
use Rattle.std.specs.Prelude.{Bool, true, false, Result, Ok, Err}
use Rattle.binfarce_tools.specs.ListWords as call
use Rattle.binfarce_tools.specs.Writing as writing
use Rattle.binfarce_tools.specs.declared.program.Failure.{Failure}
use Rattle.binfarce_tools.specs.declared.program.Failure.TheVariants as failures
use Rattle.binfarce_tools.specs.declared.list.ListError.TheVariants as errors
use Rattle.binfarce_list.specs.declared.program.Fault.{Fault}
use Rattle.binfarce_list.specs.declared.program.Fault.TheVariants.{Usage, File, List as Listing}

-- the fault of each failure
abbrev pub fault_of : Failure → Fault
fault_of failures.Usage = Usage
fault_of failures.File = File
fault_of (failures.Refused e) = Listing (errors.Parse e)
fault_of failures.OutOfMemory = Listing errors.OutOfMemory
fault_of failures.Write = Listing errors.Write

-- whether the arguments are wrong
abbrev pub is_usage : Fault → Bool
is_usage Usage = true
is_usage File = false
is_usage (Listing e) = false

-- how a program ended
abbrev pub outcome_of : Result (Unit {0}) Fault → writing.Outcome
outcome_of (Ok x) = call.outcome_of (Ok x)
outcome_of (Err Usage) = writing.wrong_usage
outcome_of (Err File) = writing.unreadable
outcome_of (Err (Listing e)) = call.outcome_of (Err e)
