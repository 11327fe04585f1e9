use Rattle.std.proofs.Common.{◌≡◌, ℕ, List, ap₂, map}
use Rattle.std.specs.Global.{Vec}
use Rattle.binfarce_figures.specs.declared.diff.Growth.{Growth}
use Rattle.binfarce_limits.specs.Rows.{Found, finding_view, findings, limit_view}
use Rattle.binfarce_limits.specs.declared.rows.Finding.{Finding}
use Rattle.binfarce_sections.specs.ByName.{at_name}
use Rattle.binfarce_jobs.proofs.AboveRows.{judged}
use Rattle.binfarce_calls.specs.RowLimits.{or_total, sections_in}
use Rattle.binfarce_calls.proofs.RowSteps.{compared}
use Rattle.binfarce_calls.proofs.limits.changed_sections.Goals as goal

pub returns : goal.returns
returns c =
    let limits = map limit_view c.args.limits.now in
    let bytes = c.in_ok-bytes.bytes in
    let old = c.args.old.now in
    let new = c.args.new.now in
    let total : Growth = record { old = c.file_length.result; new = c.file_length-2.result } in
    let whole : total ≡ record { old = old.file_length; new = new.file_length } = ap₂ {C = Growth} (λ (a b : ℕ). record { old = a; new = b }) c.file_length.ensures c.file_length-2.ensures in
    judged (λ (v : Vec Finding). map finding_view v.items) (λ (found : List Found). found ≡ findings (λ name. or_total total name (at_name bytes name)) limits) (λ (found : List Found). found ≡ findings (sections_in old new) limits) c.judge.result
    (λ found made. compared limits bytes old new total found whole c.in_ok-bytes.ensures made) c.judge.ensures
