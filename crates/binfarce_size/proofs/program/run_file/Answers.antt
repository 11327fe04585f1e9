use Rattle.std.proofs.Common.{◌≡◌, Some, Result, Ok, Err, sym, ap, subst, inr}
use Rattle.std.specs.Prelude.{MatchResult}
use Rattle.std.specs.Result.{IsErrAnd}
use Rattle.binfarce.specs.declared.SymbolTable.TheVariants.{Symtab}
use Rattle.binfarce_tools.specs.declared.report.ReportError.{ReportError}
use Rattle.binfarce_tools.specs.ReportWords as call
use Rattle.binfarce_tools.specs.SectionAnswer.{IsReportOf, NeedsMemory, ReportFits, readers_answer}
use Rattle.binfarce_tools.specs.SelectedTexts.{IsReportOfSelected}
use Rattle.binfarce_tools.specs.Given.{AreContentsOf}
use Rattle.binfarce_tools.specs.Writing.{EndsAs, Takes}
use Rattle.binfarce_tools.specs.declared.program.Contents.TheVariants.{Tables, Whole}
use Rattle.binfarce_tools.proofs.SectionAnswers.{ends, report_is, takes}
use Rattle.binfarce_size.specs.declared.program.Fault.{Fault}
use Rattle.binfarce_size.specs.declared.program.Fault.TheVariants.{Report}
use Rattle.binfarce_size.specs.Program.{outcome_of}
use Rattle.binfarce_size.proofs.program.run_file.Goals as goal

-- the outcome of the call is that of the program
same : (reported : Result (Unit {0}) ReportError) (result : Result (Unit {0}) Fault) → MatchResult reported (λ x. result ≡ Ok x) (λ e. IsErrAnd result (λ f. f ≡ Report e)) → call.outcome_of reported ≡ outcome_of result
same (Ok x) result is = sym (ap outcome_of is)
same (Err e) (Ok x) is = absurd is
same (Err e) (Err f) is = sym (ap (λ (f : Fault). outcome_of (Err f)) is)

pub returns-in-Tables-clause-outcome : goal.returns-in-Tables-clause-outcome
returns-in-Tables-clause-outcome g c = λ bytes known left.
    let section = c.args.section.now in
    let are : AreContentsOf bytes section (Tables c.in-Tables.tables) = subst (AreContentsOf bytes section) c.in-Tables.is (c.in_ok-tables.ensures.gets bytes known) in
    inr (inr (subst (EndsAs ReportFits (NeedsMemory bytes) (readers_answer bytes section)) (same c.report_tables.result c.map_err.result c.map_err.ensures.cases)
    (ends bytes section are.0 ReportFits (call.outcome_of c.report_tables.result) (c.report_tables.ensures.outcome Symtab bytes (Some section) are.1))))

pub returns-in-Tables-clause-takes : goal.returns-in-Tables-clause-takes
returns-in-Tables-clause-takes g c = λ bytes known left.
    let section = c.args.section.now in
    let are : AreContentsOf bytes section (Tables c.in-Tables.tables) = subst (AreContentsOf bytes section) c.in-Tables.is (c.in_ok-tables.ensures.gets bytes known) in
    subst (Takes IsReportOf (readers_answer bytes section) _ _) (same c.report_tables.result c.map_err.result c.map_err.ensures.cases)
    (takes bytes section are.0 IsReportOfSelected IsReportOf report_is _ _ (call.outcome_of c.report_tables.result) (c.report_tables.ensures.takes Symtab bytes (Some section) are.1))
