use Rattle.std.proofs.Common.{◌≡◌, List, None, map}
use Rattle.std.specs.BTreeMap.{get_by_text}
use Rattle.std.specs.Global.{Vec}
use Rattle.std.specs.Option.{option_map}
use Rattle.binfarce_figures.proofs.Got.{claims_for}
use Rattle.binfarce_limits.specs.Rows.{Found, finding_view, findings, limit_view}
use Rattle.binfarce_limits.specs.declared.excess.Counted.{Counted}
use Rattle.binfarce_limits.specs.declared.excess.Counted.TheVariants.{Size}
use Rattle.binfarce_limits.specs.declared.rows.Finding.{Finding}
use Rattle.binfarce_jobs.specs.Show.{AreRowsIn}
use Rattle.binfarce_jobs.proofs.AboveRows.{judged, rows_in}
use Rattle.binfarce_jobs.proofs.show.rows_of.Goals as goal

pub returns : goal.returns
returns c = λ which file section selected got answer.
    let limits = map limit_view c.args.limits.now in
    let numbers = c.in_ok-numbers.numbers in
    let sizes = c.in_ok-numbers.ensures None selected tt (claims_for which file section c.args.claims.now selected got answer) in
    judged (λ (v : Vec Finding). map finding_view v.items) (λ (found : List Found). found ≡ findings (λ name. option_map {U = Counted} (λ n. Size n.other) (get_by_text numbers name)) limits) (λ (found : List Found). AreRowsIn limits c.args.grouping selected found) c.judge.result
    (λ found is. rows_in limits c.args.grouping selected numbers found sizes is) c.judge.ensures
