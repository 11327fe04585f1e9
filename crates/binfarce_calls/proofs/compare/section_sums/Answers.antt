use Rattle.std.proofs.Common.{◌∙◌, ◌≡◌, Bool, None, Ok, Some, true, ap, is_some, refl, subst, sym}
use Rattle.binfarce_io.specs.Faults.{is_of_file}
use Rattle.binfarce_io.specs.declared.fault.Fault.{Fault}
use Rattle.binfarce_jobs.proofs.FileLoop.{grows_none}
use Rattle.binfarce_sections.specs.Sums.{FileSums}
use Rattle.binfarce_sections.specs.Tables.{AreTablesOf}
use Rattle.binfarce_sections.specs.declared.sums.SectionSums.{SectionSums}
use Rattle.binfarce_calls.specs.Summed.{HasNoSections, MayBeRefused}
use Rattle.binfarce_calls.specs.machine.Reported.{ReportsSummed}
use Rattle.binfarce_calls.specs.machine.Steps.{HasRead, HasSums, messages}
use Rattle.binfarce_calls.proofs.Pairs.{refused_once}
use Rattle.binfarce_calls.proofs.Refusals.{not_passed, section_of_file, sections_summed, sections_unsummed, was_refused}
use Rattle.binfarce_calls.proofs.Steps.{goes_on, stops}
use Rattle.binfarce_calls.proofs.compare.section_sums.Goals as goal

pub returns-in_ok-refuse-in-Err-clause-reports : goal.returns-in_ok-refuse-in-Err-clause-reports
returns-in_ok-refuse-in-Err-clause-reports g c =
    subst (λ (b : Bool). ReportsSummed {T = SectionSums} c.args.path.now b (g.Y.System.reports c.args.system.now) (g.Y.System.reports c.refuse.new.system) (Ok None)) (sym (ap is_some c.in-Some.is))
    (Some c.from.result, (refused_once c.args.path.now (g.Y.System.reports c.args.system.now) (g.Y.System.reports c.refuse.new.system) c.from.result (is_of_file c.from.result) c.refuse.result c.in_ok-refuse-in-Err.field-0 c.refuse.ensures.reports c.in_ok-refuse-in-Err.was), refl)

pub returns-in_default-clause-sums : goal.returns-in_default-clause-sums
returns-in_default-clause-sums g c = λ file may_fail.
    stops (HasRead g.F.Source.bytes AreTablesOf file) c.args.read.now (λ given. (sums : FileSums) × HasSums file sums given) (MayBeRefused HasNoSections may_fail file) c.args.path.now file
    (messages (g.Y.System.reports c.args.system.now) (g.Y.System.hints c.args.system.now)) c.in_default.is

pub returns-in-Ok-clause-sums : goal.returns-in-Ok-clause-sums
returns-in-Ok-clause-sums g c = λ file may_fail.
    let start = messages (g.Y.System.reports c.args.system.now) (g.Y.System.hints c.args.system.now) in
    goes_on (HasRead g.F.Source.bytes AreTablesOf file) c.args.read.now c.in-Some.read (λ given. (sums : FileSums) × HasSums file sums given) (MayBeRefused HasNoSections may_fail file) c.args.path.now file start start (Ok (Some c.in-Ok.sums)) c.in-Some.is
    (λ given.
    ((c.in-Ok.sums, (refl, given.is_read, sections_summed file given.part c.in-Ok.sums given.is_part (c.in-Ok.ensures.sums given.part given.tables_are))), (grows_none start.reports, grows_none start.hints)))

pub returns-in_err-refuse-in-Err-clause-sums : goal.returns-in_err-refuse-in-Err-clause-sums
returns-in_err-refuse-in-Err-clause-sums g c = λ file may_fail.
    let start = messages (g.Y.System.reports c.args.system.now) (g.Y.System.hints c.args.system.now) in
    let after = messages (g.Y.System.reports c.refuse.new.system) (g.Y.System.hints c.refuse.new.system) in
    let fault = c.from.result in
    let of_file : is_of_file fault ≡ true = ap is_of_file c.from.ensures ∙ section_of_file c.in-Err.e c.in-Err.ensures.unwritten in
    absurd (not_passed c.args.path.now start.reports after.reports fault c.in_err-refuse-in-Err.field-0.0 (is_of_file fault) c.refuse.result of_file c.refuse.ensures.reports c.in_err-refuse-in-Err.was)

pub returns-in_ok-refuse-in-Err-clause-sums : goal.returns-in_ok-refuse-in-Err-clause-sums
returns-in_ok-refuse-in-Err-clause-sums g c = λ file may_fail.
    let start = messages (g.Y.System.reports c.args.system.now) (g.Y.System.hints c.args.system.now) in
    let after = messages (g.Y.System.reports c.refuse.new.system) (g.Y.System.hints c.refuse.new.system) in
    let fault = c.from.result in
    let of_file : is_of_file fault ≡ true = ap is_of_file c.from.ensures ∙ section_of_file c.in-Err.e c.in-Err.ensures.unwritten in
    let MayBe = MayBeRefused HasNoSections may_fail file in
    goes_on (HasRead g.F.Source.bytes AreTablesOf file) c.args.read.now c.in-Some.read (λ given. (sums : FileSums) × HasSums file sums given) MayBe c.args.path.now file start after (Ok None) c.in-Some.is
    (λ given.
    let may = subst (λ (f : Fault). MayBeRefused HasNoSections may_fail file f) (sym c.from.ensures) (sections_unsummed may_fail file given.part c.in-Err.e given.is_read given.is_part (c.in-Err.ensures.sums given.part given.tables_are)) in
    was_refused MayBe c.args.path.now file given.part start after fault (is_of_file fault) c.refuse.result of_file given.is_part may c.refuse.ensures.reports (c.refuse.ensures.hints given.part given.held))
