use Rattle.std.proofs.Common.{◌≡◌, ◌<◌, ◌^◌, ℕ, List, map, string_bytes, sym, ap, subst, ◌∙◌}
use Rattle.std.proofs.lemmas.Result.{IfOk-weaker}
use Rattle.binfarce_chart.specs.Chart.{total as bars_total}
use Rattle.binfarce_chart.specs.Views.{bar_view}
use Rattle.binfarce_chart.specs.declared.bars.Bar.{Bar}
use Rattle.binfarce_chart.specs.Svg.{IsChartOf}
use Rattle.binfarce_chart.specs.Chart.{Row}
use Rattle.binfarce_figures.specs.Picture.{IsPictureOfShares}
use Rattle.binfarce_tools.specs.Report.{total}
use Rattle.binfarce_figures.proofs.Totals.{totals_add_up}
use Rattle.binfarce_figures.specs.Claimed.{Claimed}
use Rattle.binfarce_figures.proofs.Counted.{ones}
use Rattle.binfarce_figures.proofs.map.picture_of.Goals as goal

pub chart-requires : goal.chart-requires
chart-requires c =
    let (shares, with, are) = c.in_ok-numbers.ensures in
    let P : List Bar → Type 0 = λ bars. bars_total (map bar_view bars) < 2 ^ 64 in
    let (names, crates, bars) = c.in_ok-bars.ensures shares (ones shares) are in
    let sum : bars_total (map bar_view c.in_ok-bars.bars.items) ≡ total shares = ap (λ (rs : List Row). bars_total rs) bars ∙ totals_add_up shares names crates in
    subst P (sym c.as_slice.ensures.value) (subst (λ (n : ℕ). n < 2 ^ 64) (sym sum) are.sums_fit)

pub returns : goal.returns
returns c =
    let (shares, with, are) = c.in_ok-numbers.ensures in
    let size = c.claims.inside.size in
    let (names, crates, bars) = c.in_ok-bars.ensures shares (ones shares) are in
    let shown = ap (map bar_view) c.as_slice.ensures.value ∙ bars in
    IfOk-weaker c.chart.result _ _ (λ t is.
    let drawn : IsPictureOfShares c.args.title.now shares size c.args.first (string_bytes t) = (names, crates, subst (λ (rs : List Row). IsChartOf c.args.title.now rs size c.args.first (string_bytes t)) shown is) in
    (shares, with, subst (λ (v : Claimed). IsPictureOfShares c.args.title.now shares v.size c.args.first (string_bytes t)) c.claims.view_is drawn)) c.chart.ensures
