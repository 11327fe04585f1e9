-- The `ReportError` of an error of `list`, its printed text, and the outcome of a report.
use Rattle.std.specs.Prelude.{ℕ, List, codes, Result, Ok, Err}
use Rattle.binfarce.specs.Refusal.{refusal_of}
use Rattle.binfarce_tools.specs.declared.list.ListError.{ListError}
use Rattle.binfarce_tools.specs.declared.list.ListError.TheVariants as listing
use Rattle.binfarce_tools.specs.declared.report.ReportError.{ReportError}
use Rattle.binfarce_tools.specs.declared.report.ReportError.TheVariants.{Unknown, Parse, OutOfMemory, TooLarge, Write}
use Rattle.binfarce_tools.specs.ListWords.{list_words}
use Rattle.binfarce_tools.specs.Writing as writing

-- a file that can't be listed can't be reported, for the same reason
abbrev pub report_error_of : ListError → ReportError
report_error_of listing.Unknown = Unknown
report_error_of (listing.Parse e) = Parse e
report_error_of listing.OutOfMemory = OutOfMemory
report_error_of listing.Write = Write

-- the printed text; for the errors of `list`, its text
abbrev pub report_words : ReportError → List ℕ
report_words Unknown = list_words listing.Unknown
report_words (Parse e) = list_words (listing.Parse e)
report_words OutOfMemory = list_words listing.OutOfMemory
report_words TooLarge = codes "sizes are too large"
report_words Write = list_words listing.Write

-- the outcome of a report
abbrev pub outcome_of : Result (Unit {0}) ReportError → writing.Outcome
outcome_of (Ok _) = writing.written
outcome_of (Err Unknown) = writing.unknown_format
outcome_of (Err (Parse e)) = writing.refused (refusal_of e)
outcome_of (Err OutOfMemory) = writing.no_memory
outcome_of (Err TooLarge) = writing.too_large
outcome_of (Err Write) = writing.write_failed
