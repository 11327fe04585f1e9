use Rattle.std.proofs.Common.{◌≡◌, ◌∙◌, ℕ, List, Option, Some, ap₂, map}
use Rattle.std.specs.BTreeMap.{get_by_text}
use Rattle.std.specs.Global.{Vec}
use Rattle.std.specs.Option.{option_map}
use Rattle.binfarce_figures.proofs.Got.{sum_in}
use Rattle.binfarce_figures.specs.declared.diff.Growth.{Growth}
use Rattle.binfarce_limits.specs.Rows.{Found, finding_view, findings, limit_view}
use Rattle.binfarce_limits.specs.declared.rows.Finding.{Finding}
use Rattle.binfarce_jobs.proofs.AboveRows.{judged}
use Rattle.binfarce_calls.specs.RowLimits.{AreRowsBetween, or_total, total_of}
use Rattle.binfarce_calls.proofs.RowSteps.{rows_between}
use Rattle.binfarce_calls.proofs.limits.changed_rows.Goals as goal

pub returns : goal.returns
returns c = λ was is before after.
    let limits = map limit_view c.args.limits.now in
    let numbers = c.in_ok-numbers.numbers in
    let total : Growth = record { old = c.total.result; new = c.total-2.result } in
    let whole : total ≡ total_of (was, is) = ap₂ {C = Growth} (λ (a b : ℕ). record { old = a; new = b }) (c.total.ensures.sum ∙ sum_in was c.args.old.now before) (c.total-2.ensures.sum ∙ sum_in is c.args.new.now after) in
    let sizes = c.in_ok-numbers.ensures (Some was) is before after in
    judged (λ (v : Vec Finding). map finding_view v.items) (λ (found : List Found). found ≡ findings (λ name. or_total total name (option_map {U = ℕ × ℕ} (λ n. (n.sum, n.other)) (get_by_text numbers name))) limits) (λ (found : List Found). AreRowsBetween limits c.args.grouping (was, is) found) c.judge.result
    (λ found made. rows_between limits c.args.grouping (was, is) numbers total found sizes whole made) c.judge.ensures
