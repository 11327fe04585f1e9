use Rattle.std.proofs.Common.{◌≡◌, ◌∙◌, ℕ, ◌+◌, ◌*◌, Bool, cond, map, arith, ap, sym, is_some, length}
use Rattle.std.proofs.lemmas.List.{length-map}
use Rattle.std.specs.String.{string_bytes}
use Rattle.binfarce_chart.specs.Views.{bar_view}
use Rattle.binfarce_chart.proofs.Notes.{is_made}
use Rattle.binfarce_chart.proofs.Rows.{picture_is}
use Rattle.binfarce_chart.proofs.svg.picture_of.Goals as goal

pub returns : goal.returns
returns c =
    let bars = map bar_view c.args.bars.now in
    let line = c.note_of-note.result in
    let count : length c.args.bars.now ≡ length bars = omega (arith, length-map c.args.bars.now bar_view) in
    let high = ap (λ (n : ℕ). 24 * n + cond (is_some line) 96 72) count ∙ ap (λ (b : Bool). 24 * length bars + cond b 96 72) (sym (is_made _ line) ∙ ap is_some c.note_of-note.ensures) in
    picture_is c.args.title.now bars _ c.size_of_all-sum.result c.largest_of.result _ c.args.section_size _ (string_bytes c.new-text.result) _ _ _ c.new-text.ensures.bytes (c.height_of-height.ensures ∙ high) c.size_of_all-sum.ensures c.largest_of.ensures c.note_of-note.ensures (omega (arith, count)) c.in_ok-push_head.ensures c.in_ok-push_rows.ensures c.in_ok-push_foot.ensures
