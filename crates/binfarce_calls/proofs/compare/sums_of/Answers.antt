use Rattle.std.proofs.Common.{◌∙◌, ◌≡◌, Bool, None, Ok, Some, true, ap, is_some, refl, subst, sym}
use Rattle.binfarce_bytes.specs.SectionEntries.{SelectedSymbols}
use Rattle.binfarce_bytes.specs.Selection.{section_of}
use Rattle.binfarce_io.specs.Faults.{is_of_file}
use Rattle.binfarce_jobs.specs.Show.{AreTablesFor}
use Rattle.binfarce_io.specs.declared.fault.Fault.{Fault}
use Rattle.binfarce_jobs.proofs.FileLoop.{grows_none}
use Rattle.binfarce_calls.specs.Summed.{HasNoSum, MayBeRefused}
use Rattle.binfarce_calls.specs.declared.compare.Summed.{Summed}
use Rattle.binfarce_calls.specs.machine.Reported.{ReportsSummed}
use Rattle.binfarce_calls.specs.machine.Steps.{HasRead, HasSummed, messages}
use Rattle.binfarce_calls.proofs.Pairs.{refused_once}
use Rattle.binfarce_calls.proofs.Refusals.{claims_of_file, not_passed, report_of_file, unsummed, was_refused}
use Rattle.binfarce_calls.proofs.Steps.{goes_on, stops}
use Rattle.binfarce_calls.proofs.compare.sums_of.Goals as goal

pub returns-in_ok-refuse-in-Err-clause-reports : goal.returns-in_ok-refuse-in-Err-clause-reports
returns-in_ok-refuse-in-Err-clause-reports g c =
    subst (λ (b : Bool). ReportsSummed {T = (Summed g.row.F.Denot)} c.args.path.now b (g.Y.System.reports c.args.system.now) (g.Y.System.reports c.refuse.new.system) (Ok None)) (sym (ap is_some c.in-Some.is))
    (Some c.from.result, (refused_once c.args.path.now (g.Y.System.reports c.args.system.now) (g.Y.System.reports c.refuse.new.system) c.from.result (is_of_file c.from.result) c.refuse.result c.in_ok-refuse-in-Err.field-0 c.refuse.ensures.reports c.in_ok-refuse-in-Err.was), refl)

pub returns-in_default-clause-sums : goal.returns-in_default-clause-sums
returns-in_default-clause-sums g c = λ symbols file may_fail.
    stops (HasRead g.F.Source.bytes (AreTablesFor symbols) file) c.args.read.now (λ given. (selected : SelectedSymbols) × HasSummed g.F.Source.bytes symbols file selected given) (MayBeRefused (HasNoSum symbols) may_fail file) c.args.path.now file
    (messages (g.Y.System.reports c.args.system.now) (g.Y.System.hints c.args.system.now)) c.in_default.is

pub returns-in-Ok-clause-sums : goal.returns-in-Ok-clause-sums
returns-in-Ok-clause-sums g c = λ symbols file may_fail.
    let start = messages (g.Y.System.reports c.args.system.now) (g.Y.System.hints c.args.system.now) in
    goes_on (HasRead g.F.Source.bytes (AreTablesFor symbols) file) c.args.read.now c.in-Some.read (λ given. (selected : SelectedSymbols) × HasSummed g.F.Source.bytes symbols file selected given) (MayBeRefused (HasNoSum symbols) may_fail file) c.args.path.now file start start
    _ c.in-Some.is
    (λ given.
    let found = claims_of_file symbols file given.part c.in-Some.read.tables c.in-Ok.claims given.is_part given.tables_are (c.in-Ok.ensures.made symbols.which given.part (section_of symbols.selection) given.tables_are.0) in (
      (found.0, record { held = given.held ∙ ap Some found.1; is_read = given.is_read; answer_is = found.2; selected_is = found.3; claims_are = found.4 }),
      (grows_none start.reports, grows_none start.hints),
    ))

pub returns-in_err-refuse-in-Err-clause-sums : goal.returns-in_err-refuse-in-Err-clause-sums
returns-in_err-refuse-in-Err-clause-sums g c = λ symbols file may_fail.
    let start = messages (g.Y.System.reports c.args.system.now) (g.Y.System.hints c.args.system.now) in
    let after = messages (g.Y.System.reports c.refuse.new.system) (g.Y.System.hints c.refuse.new.system) in
    let fault = c.from.result in
    let of_file : is_of_file fault ≡ true = ap is_of_file c.from.ensures ∙ report_of_file c.in-Err.e c.in-Err.ensures.unwritten in
    absurd (not_passed c.args.path.now start.reports after.reports fault c.in_err-refuse-in-Err.field-0.0 (is_of_file fault) c.refuse.result of_file c.refuse.ensures.reports c.in_err-refuse-in-Err.was)

pub returns-in_ok-refuse-in-Err-clause-sums : goal.returns-in_ok-refuse-in-Err-clause-sums
returns-in_ok-refuse-in-Err-clause-sums g c = λ symbols file may_fail.
    let start = messages (g.Y.System.reports c.args.system.now) (g.Y.System.hints c.args.system.now) in
    let after = messages (g.Y.System.reports c.refuse.new.system) (g.Y.System.hints c.refuse.new.system) in
    let fault = c.from.result in
    let of_file : is_of_file fault ≡ true = ap is_of_file c.from.ensures ∙ report_of_file c.in-Err.e c.in-Err.ensures.unwritten in
    let MayBe = MayBeRefused (HasNoSum symbols) may_fail file in
    goes_on (HasRead g.F.Source.bytes (AreTablesFor symbols) file) c.args.read.now c.in-Some.read (λ given. (selected : SelectedSymbols) × HasSummed g.F.Source.bytes symbols file selected given) MayBe c.args.path.now file start after (Ok None) c.in-Some.is
    (λ given.
    let may = subst (λ (f : Fault). MayBeRefused (HasNoSum symbols) may_fail file f) (sym c.from.ensures)
    (unsummed symbols may_fail file given.part c.in-Some.read.tables c.in-Err.e given.is_read given.is_part given.tables_are (c.in-Err.ensures.made symbols.which given.part (section_of symbols.selection) given.tables_are.0) c.in-Err.ensures.unwritten) in
    was_refused MayBe c.args.path.now file given.part start after fault (is_of_file fault) c.refuse.result of_file given.is_part may c.refuse.ensures.reports (c.refuse.ensures.hints given.part given.held))
