use Rattle.std.proofs.Common.{◌++◌, ◌∙◌, ap, map, refl}
use Rattle.std.specs.List.{flat_map}
use Rattle.std.specs.String.{string_bytes}
use Rattle.std.proofs.lemmas.List.{drop_all}
use Rattle.binfarce_rows.specs.Json.{style_of}
use Rattle.binfarce_sections.specs.declared.sums.Share.{Share}
use Rattle.binfarce_sections.specs.Sums.{share_row}
use Rattle.binfarce_sections.specs.Views.{share_view}
use Rattle.binfarce_sections.proofs.SumRows.{row_more, rows_done}
use Rattle.binfarce_sections.proofs.sums.push_each.Goals as goal

pub loop-share-init : goal.loop-share-init
loop-share-init c = refl

pub loop-share-preserved : goal.loop-share-preserved
loop-share-preserved c =
    let style = style_of c.args.form in
    let shares = c.args.shares.now in
    row_more style shares c.loop-share.share-index _ (string_bytes c.loop-share.text) (string_bytes c.push_share.new.text)
    (string_bytes c.args.text.now ++ flat_map (share_row style) (map share_view shares)) c.loop-share-test.true
    (c.in_ok-push_share.ensures ∙ ap (λ (s : Share). string_bytes c.loop-share.text ++ share_row style (share_view s)) c.share-item.is) c.loop-share.invariant

pub returns : goal.returns
returns c =
    let style = style_of c.args.form in
    let shares = c.args.shares.now in
    rows_done style shares c.loop-share.share-index (string_bytes c.loop-share.text)
    (string_bytes c.args.text.now ++ flat_map (share_row style) (map share_view shares)) (drop_all c.loop-share.share-index shares c.loop-share-test.false) c.loop-share.invariant
