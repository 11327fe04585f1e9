use Rattle.std.proofs.Common.{◌≡◌, ◌<◌, ◌^◌, ◌∙◌, map, length, ap, sym, subst, ℕ, List}
use Rattle.std.proofs.lemmas.List.{length-map}
use Rattle.std.proofs.lemmas.List.Sorted.{sum_by-IsPermutation}
use Rattle.std.proofs.lemmas.Result.{IfOk-weaker}
use Rattle.binfarce_chart.specs.declared.bars.Bar.{Bar}
use Rattle.binfarce_chart.specs.Chart.{Row, count_of, shown, total, with_others}
use Rattle.binfarce_chart.specs.Svg.{picture}
use Rattle.binfarce_chart.specs.Views.{bar_view}
use Rattle.binfarce_chart.proofs.Rows.{shown_sum}
use Rattle.binfarce_chart.proofs.svg.chart.Goals as goal

abbrev Below : ℕ → Type 0
Below n = n < 2 ^ 64

pub shown_of-requires-clause-sum : goal.shown_of-requires-clause-sum
shown_of-requires-clause-sum c =
    let same : total (map bar_view c.as_slice-bars.result.now) ≡ total (map bar_view c.args.bars.now) =
    ap (λ (xs : List Bar). total (map bar_view xs)) c.as_slice-bars.ensures.value ∙ sum_by-IsPermutation (λ (r : Row). r.size) (map bar_view c.args.bars.now) (map bar_view c.in_ok-sorted.sorted.items) c.in_ok-sorted.ensures.same in
    subst Below (sym same) c.requires

pub picture_of-requires : goal.picture_of-requires
picture_of-requires c =
    let same : total (map bar_view c.as_slice-bars.result.now) ≡ total (map bar_view c.args.bars.now) =
    ap (λ (xs : List Bar). total (map bar_view xs)) c.as_slice-bars.ensures.value ∙ sum_by-IsPermutation (λ (r : Row). r.size) (map bar_view c.args.bars.now) (map bar_view c.in_ok-sorted.sorted.items) c.in_ok-sorted.ensures.same in
    let all : total (map bar_view c.as_slice.result.now) ≡ total (map bar_view c.as_slice-bars.result.now) =
    ap (λ (xs : List Bar). total (map bar_view xs)) c.as_slice.ensures.value ∙ ap total c.in_ok-shown.ensures ∙ shown_sum c.count_of-count.result (map bar_view c.as_slice-bars.result.now) in
    subst Below (sym (all ∙ same)) c.requires

pub returns : goal.returns
returns c =
    let sorted = c.in_ok-sorted.sorted.items in
    let count : c.count_of-count.result ≡ count_of c.args.first (length (map bar_view sorted)) = c.count_of-count.ensures ∙ ap (count_of c.args.first) (ap length c.as_slice-bars.ensures.value ∙ sym (length-map sorted bar_view)) in
    let bars : map bar_view c.as_slice.result.now ≡ shown c.args.first (map bar_view sorted) =
    ap (λ (xs : List Bar). map bar_view xs) c.as_slice.ensures.value ∙ c.in_ok-shown.ensures
    ∙ ap (λ (xs : List Bar). with_others c.count_of-count.result (map bar_view xs)) c.as_slice-bars.ensures.value
    ∙ ap (λ (n : ℕ). with_others n (map bar_view sorted)) count in
    IfOk-weaker c.picture_of.result _ _
    (λ t is. (map bar_view sorted, c.in_ok-sorted.ensures.same, c.in_ok-sorted.ensures.falls, c.in_ok-sorted.ensures.keeps, is ∙ ap (λ (rows : List Row). picture c.args.title.now rows c.args.section_size) bars))
    c.picture_of.ensures
