use Rattle.std.proofs.Common.{◌≡◌, List, map}
use Rattle.std.specs.Global.{Vec}
use Rattle.std.specs.Option.{option_map}
use Rattle.binfarce_limits.specs.Rows.{Found, finding_view, findings, limit_view}
use Rattle.binfarce_limits.specs.declared.excess.Counted.{Counted}
use Rattle.binfarce_limits.specs.declared.excess.Counted.TheVariants.{Size}
use Rattle.binfarce_limits.specs.declared.rows.Finding.{Finding}
use Rattle.binfarce_sections.specs.ByName.{at_name}
use Rattle.binfarce_jobs.proofs.AboveRows.{judged}
use Rattle.binfarce_calls.specs.RowLimits.{sized_in}
use Rattle.binfarce_calls.proofs.RowSteps.{sized}
use Rattle.binfarce_calls.proofs.limits.section_rows.Goals as goal

pub returns : goal.returns
returns c =
    let limits = map limit_view c.args.limits.now in
    let bytes = c.in_ok-bytes.bytes in
    judged (λ (v : Vec Finding). map finding_view v.items) (λ (found : List Found). found ≡ findings (λ name. option_map {U = Counted} (λ n. Size n.1) (at_name bytes name)) limits) (λ (found : List Found). found ≡ findings (sized_in c.args.sums.now) limits) c.judge.result
    (λ found made. sized limits bytes c.none-empty.result c.args.sums.now found c.none-empty.ensures c.in_ok-bytes.ensures made) c.judge.ensures
