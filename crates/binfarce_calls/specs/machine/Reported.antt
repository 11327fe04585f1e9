-- What the steps of a comparison report.
use Rattle.std.specs.Prelude.{◌≡◌, ℕ, Bool, true, false, not, List, [], Option, is_some, Result, Ok, Err}
use Rattle.binfarce_jobs.specs.Files.{Refused, Reports}
use Rattle.binfarce_io.specs.declared.fault.Fault.{Fault}
use Rattle.binfarce_calls.specs.Compared.{refusal}

-- a file is reported where it isn't had, by its path
abbrev pub ReportsUnless : (path : List ℕ) → (before after : Option (List Refused)) → (is_had : Bool) → Type 0
ReportsUnless path before after is_had = (fault : Option Fault) × Reports before after (refusal path fault) × (is_had ≡ not (is_some fault))

-- so one that is opened and read; a fault that isn't the file's is passed on
abbrev pub ReportsRead : {T : Type 0} → (path : List ℕ) → (before after : Option (List Refused)) → Result (Option T) Fault → Type 0
ReportsRead path before after (Ok file) = ReportsUnless path before after (is_some file)
ReportsRead path before after (Err e) = Unit {0}

-- so one that is summed, if it was read
abbrev pub ReportsSummed : {T : Type 0} → (path : List ℕ) → (is_read : Bool) → (before after : Option (List Refused)) → Result (Option T) Fault → Type 0
ReportsSummed path true before after result = ReportsRead path before after result
ReportsSummed path false before after (Ok file) = Reports before after [] × (is_some file ≡ false)
ReportsSummed path false before after (Err e) = Unit {0}
