-- The fault of each error, and the outcome of a command for a file.
use Rattle.std.specs.Prelude.{◌||◌, Bool, true, false, not, Result, Ok, Err}
use Rattle.std.specs.declared.io.ErrorKind.{ErrorKind}
use Rattle.binfarce_bytes.specs.Refusal.{refusal_of}
use Rattle.binfarce_filtering.specs.declared.stream.StreamError.{StreamError}
use Rattle.binfarce_filtering.specs.declared.stream.StreamError.TheVariants as stream
use Rattle.binfarce_sections.specs.Results.{error_of}
use Rattle.binfarce_sections.specs.declared.error.SectionError.{SectionError}
use Rattle.binfarce_sections.specs.declared.error.SectionError.TheVariants as sections
use Rattle.binfarce_tables.specs.Errors.{read_error}
use Rattle.binfarce_tables.specs.declared.error.ReadError.{ReadError}
use Rattle.binfarce_tools.specs.ReportWords as report
use Rattle.binfarce_tools.specs.ReportWords.{report_error_of}
use Rattle.binfarce_tools.specs.Writing.{Outcome, written, write_failed, unknown_format, refused, no_memory, unreadable, wrong_usage}
use Rattle.binfarce_tools.specs.declared.list.ListError.{ListError}
use Rattle.binfarce_tools.specs.declared.report.ReportError.TheVariants as sums
use Rattle.binfarce_io.specs.declared.fault.Fault.{Fault}
use Rattle.binfarce_io.specs.declared.fault.Fault.TheVariants.{Report, Section, Stream, Unsupported, NotUtf8, SharedAddresses, Unplaced, Missing}

-- an allocation failed
abbrev pub no_memory_fault : Fault
no_memory_fault = Report sums.OutOfMemory

abbrev pub read_fault : ReadError → Fault
read_fault e = Section (error_of e)

-- a failed allocation is reported as such, and any other error of a read is an unreadable file
abbrev pub io_fault : ErrorKind → Fault
io_fault kind = read_fault (read_error kind)

abbrev pub list_fault : ListError → Fault
list_fault e = Report (report_error_of e)

abbrev pub section_outcome : SectionError → Outcome
section_outcome sections.Unknown = unknown_format
section_outcome (sections.Parse e) = refused (refusal_of e)
section_outcome sections.OutOfMemory = no_memory
section_outcome sections.Write = write_failed
section_outcome sections.Unreadable = unreadable
section_outcome sections.NoSection = wrong_usage
section_outcome sections.NoBytes = wrong_usage
section_outcome sections.PastEnd = wrong_usage

abbrev pub stream_outcome : StreamError → Outcome
stream_outcome stream.Read = unreadable
stream_outcome stream.Write = write_failed
stream_outcome stream.OutOfMemory = no_memory

-- how the work on a file ended that has this fault
abbrev pub failure : Fault → Outcome
failure (Report e) = report.outcome_of (Err e)
failure (Section e) = section_outcome e
failure (Stream e) = stream_outcome e
failure (Unsupported kind) = wrong_usage
failure NotUtf8 = wrong_usage
failure SharedAddresses = wrong_usage
failure (Unplaced words) = wrong_usage
failure (Missing count) = wrong_usage

-- the outcome of the work on a file
abbrev pub outcome_of : {X : Type 0} → Result X Fault → Outcome
outcome_of (Ok x) = written
outcome_of (Err fault) = failure fault

abbrev pub is_failed_write : Outcome → Bool
is_failed_write write_failed = true
is_failed_write outcome = false

-- a write failed
abbrev pub is_write : Fault → Bool
is_write fault = is_failed_write (failure fault)

-- a fault of the whole call, when all files and lines are done
abbrev pub is_of_call : Fault → Bool
is_of_call (Missing count) = true
is_of_call fault = false

-- a file is refused for it
abbrev pub is_of_file : Fault → Bool
is_of_file fault = not (is_write fault || is_of_call fault)
