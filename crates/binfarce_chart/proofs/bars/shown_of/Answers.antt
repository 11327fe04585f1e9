use Rattle.std.proofs.Common.{◌≡◌, ◌-◌, ◌<◌, map, take, drop, sym, ap, ◌∙◌, arith, length, List, [], ◌∷◌, ◌++◌, ℕ}
use Rattle.std.proofs.lemmas.List.{drop-map, length-drop, length-map, map-append, take-map}
use Rattle.binfarce_chart.specs.declared.bars.Bar.{Bar}
use Rattle.binfarce_chart.specs.Chart.{Row, others, others_label, total}
use Rattle.binfarce_chart.specs.Views.{bar_view}
use Rattle.binfarce_chart.proofs.Rows.{many}
use Rattle.binfarce_chart.proofs.bars.shown_of.Goals as goal

pub returns : goal.returns
returns c =
    let bars = map bar_view c.args.bars.now in
    let n = c.args.count in
    let front = c.split_at.result.0.now in
    let back = c.split_at.result.1.now in
    let last : Bar = record { name = c.args.label; size = c.size_of_all.result } in
    let first : map bar_view front ≡ take n bars = ap (λ (xs : List Bar). map bar_view xs) c.split_at.ensures.front ∙ sym (take-map bar_view n c.args.bars.now) in
    let rest : map bar_view back ≡ drop n bars = ap (λ (xs : List Bar). map bar_view xs) c.split_at.ensures.back ∙ sym (drop-map bar_view n c.args.bars.now) in
    let long : n < length bars = omega (arith, length-map c.args.bars.now bar_view, c.if-bars-count.false) in
    let count : length c.args.bars.now - n ≡ length (drop n bars) = omega (arith, length-drop n bars, length-map c.args.bars.now bar_view) in
    let label : c.args.label.now ≡ others_label (length (drop n bars)) = c.requires.label ∙ ap others_label count in
    let size : c.size_of_all.result ≡ total (drop n bars) = c.size_of_all.ensures ∙ ap total rest in
    let row : bar_view last ≡ others (drop n bars) = ap (λ (t : List ℕ). record { name = t; size = c.size_of_all.result }) label ∙ ap (λ (size : ℕ). record { name = others_label (length (drop n bars)); size = size }) size in
    ap (λ (xs : List Bar). map bar_view xs) (c.in_ok-push.ensures.items ∙ ap (λ (xs : List Bar). xs ++ last ∷ []) c.in_ok-shown.ensures.items)
    ∙ map-append bar_view front (last ∷ [])
    ∙ ap (λ (xs : List Row). xs ++ bar_view last ∷ []) first
    ∙ ap (λ (r : Row). take n bars ++ r ∷ []) row
    ∙ sym (many n bars long)
