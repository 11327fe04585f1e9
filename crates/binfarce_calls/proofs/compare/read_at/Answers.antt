use Rattle.std.proofs.Common.{◌∙◌, ◌≡◌, List, [], ◌∷◌, Option, Some, true, ap, refl, subst, sym}
use Rattle.binfarce_io.specs.Faults.{is_of_file}
use Rattle.binfarce_jobs.specs.Files.{Refused, Reports}
use Rattle.binfarce_io.specs.Input.{may_fail_of}
use Rattle.binfarce_io.specs.declared.fault.Fault.{Fault}
use Rattle.binfarce_jobs.proofs.FileLoop.{grows_unless}
use Rattle.binfarce_calls.specs.Summed.{HasNoSum, MayBeRefused}
use Rattle.binfarce_calls.specs.machine.Steps.{messages}
use Rattle.binfarce_calls.proofs.Pairs.{refused_once}
use Rattle.binfarce_calls.proofs.Refusals.{not_passed, read_of_file, refused_since, unopened, unread, was_refused}
use Rattle.binfarce_calls.proofs.compare.read_at.Goals as goal

pub returns-in_default-clause-reports : goal.returns-in_default-clause-reports
returns-in_default-clause-reports g c = let why = c.in_default.ensures.reported in (Some why.0, why.1, refl)

pub returns-in_default-clause-reads : goal.returns-in_default-clause-reads
returns-in_default-clause-reads g c = λ file is.
    let why = c.in_default.ensures.input file is in
    let opened = c.open_input.new.system in
    unopened (HasNoSum c.args.symbols.now) (g.Y.System.may_fail_at c.args.system.now c.args.path.now) c.args.path.now file (messages (g.Y.System.reports c.args.system.now) (g.Y.System.hints c.args.system.now)) (messages (g.Y.System.reports opened) (g.Y.System.hints opened))
    why.0 why.1 why.2 c.open_input.ensures.hints

pub returns-in-Ok-clause-reads : goal.returns-in-Ok-clause-reads
returns-in-Ok-clause-reads g c = λ file is.
    let read = c.in-Some.ensures.input file is in
    let opened = c.open_input.new.system in (
      record { part = read.0; is_part = read.1; held = read.2; is_read = read.4; tables_are = c.in-Ok.ensures.reads read.0 read.2 },
      (
        grows_unless (g.Y.System.reports c.args.system.now) (g.Y.System.reports opened) (ap g.Y.System.reports c.in-Some.ensures.unchanged),
        grows_unless (g.Y.System.hints c.args.system.now) (g.Y.System.hints opened) (ap g.Y.System.hints c.in-Some.ensures.unchanged),
      ),
    )

pub returns-in_err-refuse-in-Err-clause-reads : goal.returns-in_err-refuse-in-Err-clause-reads
returns-in_err-refuse-in-Err-clause-reads g c = λ file is.
    let fault = c.from.result in
    let of_file : is_of_file fault ≡ true = ap is_of_file c.from.ensures ∙ read_of_file c.in-Err.e in
    absurd (not_passed c.args.path.now (g.Y.System.reports c.open_input.new.system) (g.Y.System.reports c.refuse.new.system) fault c.in_err-refuse-in-Err.field-0.0 (is_of_file fault) c.refuse.result of_file c.refuse.ensures.reports c.in_err-refuse-in-Err.was)

pub returns-clause-reports : goal.returns-clause-reports
returns-clause-reports g c = (
  Some c.from.result,
  subst (λ (before : Option (List Refused)). Reports before (g.Y.System.reports c.refuse.new.system) ((c.args.path.now, c.from.result) ∷ [])) (ap g.Y.System.reports c.in-Some.ensures.unchanged)
      (refused_once c.args.path.now (g.Y.System.reports c.open_input.new.system) (g.Y.System.reports c.refuse.new.system) c.from.result (is_of_file c.from.result) c.refuse.result c.in_ok-refuse-in-Err.field-0 c.refuse.ensures.reports c.in_ok-refuse-in-Err.was),
  refl,
)

pub returns-clause-reads : goal.returns-clause-reads
returns-clause-reads g c = λ file is.
    let path = c.args.path.now in
    let read = c.in-Some.ensures.input file is in
    let may_fail = g.Y.System.may_fail_at c.args.system.now path in
    let fault = c.from.result in
    let start = messages (g.Y.System.reports c.args.system.now) (g.Y.System.hints c.args.system.now) in
    let opened = messages (g.Y.System.reports c.open_input.new.system) (g.Y.System.hints c.open_input.new.system) in
    let after = messages (g.Y.System.reports c.refuse.new.system) (g.Y.System.hints c.refuse.new.system) in
    let of_file : is_of_file fault ≡ true = ap is_of_file c.from.ensures ∙ read_of_file c.in-Err.e in
    let may = subst (λ (f : Fault). MayBeRefused (HasNoSum c.args.symbols.now) may_fail file f) (sym c.from.ensures) (unread c.args.symbols.now may_fail (may_fail_of g.F.Source.may_fail c.in-Some.file ≡ true) file read.0 c.in-Err.e read.4 read.1 read.3 (c.in-Err.ensures.reads read.0 read.2)) in
    refused_since (MayBeRefused (HasNoSum c.args.symbols.now) may_fail file) path file start opened after (ap g.Y.System.reports c.in-Some.ensures.unchanged) (ap g.Y.System.hints c.in-Some.ensures.unchanged)
    (was_refused (MayBeRefused (HasNoSum c.args.symbols.now) may_fail file) path file read.0 opened after fault (is_of_file fault) c.refuse.result of_file read.1 may c.refuse.ensures.reports (c.refuse.ensures.hints read.0 read.2))
