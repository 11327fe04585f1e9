-- What is reported of two files that are compared, step after step.
use Rattle.std.proofs.Common.{◌≡◌, ◌∙◌, Bool, true, false, ◌&&◌, List, [], ◌∷◌, ℕ, Option, Some, None, is_some, Result, Ok, Err, ap₂, sym}
use Rattle.binfarce_calls.specs.Compared.{ReportsOf, refusal}
use Rattle.binfarce_calls.specs.machine.Reported.{ReportsRead, ReportsSummed, ReportsUnless}
use Rattle.binfarce_jobs.specs.Files.{Refused, Reports, ReportsFault}
use Rattle.binfarce_io.specs.declared.fault.Fault.{Fault}
use Rattle.binfarce_jobs.specs.declared.limit.Verdict.{Verdict}
use Rattle.binfarce_jobs.proofs.FileLoop.{reports_more}

-- a file whose refusal isn't passed on is reported
pub refused_once : (path : List ℕ) (a b : Option (List Refused)) (fault : Fault) (of_file : Bool) (result : Result Verdict Fault) (verdict : Verdict) → ReportsFault path a b fault of_file result → result ≡ Ok verdict → Reports a b ((path, fault) ∷ [])
refused_once path a b fault true result verdict (is, reports) ok = reports
refused_once path a b fault false result verdict (is, reports) ok = let never : Path (Result Verdict Fault) (Err fault) (Ok verdict) = sym is ∙ ok in absurd cc

-- a file that is read and summed is reported at most once
pub one_file : {A B : Type 0} (path : List ℕ) (a b c : Option (List Refused)) (read : Option A) (sums : Option B) → ReportsRead path a b (Ok read) → ReportsSummed path (is_some read) b c (Ok sums) → ReportsUnless path a c (is_some sums)
one_file path a b c (Some r) sums (None, reports, had) (fault, more, is) = (fault, reports_more a b c [] (refusal path fault) reports more, is)
one_file path a b c (Some r) sums (Some f, reports, had) more = absurd cc
one_file path a b c None sums (Some f, reports, had) (more, none) = (Some f, reports_more a b c (refusal path (Some f)) [] reports more, none)
one_file path a b c None sums (None, reports, had) more = absurd cc

-- so each of two files is
pub two_files : (old new : List ℕ) (a b c : Option (List Refused)) (had_old had_new : Bool) (verdict : Verdict) → ReportsUnless old a b had_old → ReportsUnless new b c had_new → verdict.is_done ≡ (had_old && had_new) → ReportsOf old new a c (Ok verdict)
two_files old new a b c had_old had_new verdict (first, reports, is_old) (second, more, is_new) done =
    (first, second, reports_more a b c (refusal old first) (refusal new second) reports more, done ∙ ap₂ (λ (x y : Bool). x && y) is_old is_new)
