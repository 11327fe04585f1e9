use Rattle.std.proofs.Common.{List, [], map, subst, sym, refl}
use Rattle.std.proofs.lemmas.List.{take_all}
use Rattle.std.specs.String.{string_bytes}
use Rattle.binfarce_figures.proofs.RowListings.{lines_more}
use Rattle.binfarce_figures.specs.Rows.{IsNameText}
use Rattle.binfarce_rows.specs.Json.{style_of}
use Rattle.binfarce_needs.specs.FileNeeds.{need_view}
use Rattle.binfarce_needs.specs.Lines.{AreRows, IsRowOf}
use Rattle.binfarce_needs.specs.declared.needs.Need as code
use Rattle.binfarce_needs.proofs.lines.text_of.Goals as goal

pub loop-need-init : goal.loop-need-init
loop-need-init c = ([], tt, c.new-text.ensures.bytes)

pub loop-need-preserved : goal.loop-need-preserved
loop-need-preserved c =
    lines_more (IsRowOf c.args.naming (style_of c.args.form)) need_view _ c.loop-need.need-index _ _ (string_bytes c.loop-need.text) (string_bytes c.push_row.new.text) c.loop-need-test.true c.in_ok-push_row.ensures
    (c.as_str.result.now, subst (IsNameText c.args.naming _) (sym c.as_str.ensures.value) c.in_ok-put_name.ensures, refl) c.loop-need.invariant

pub returns : goal.returns
returns c =
    subst (λ (ns : List code.Need). AreRows c.args.naming (style_of c.args.form) (map need_view ns) (string_bytes c.loop-need.text)) (take_all c.loop-need.need-index c.args.needs.now c.loop-need-test.false) c.loop-need.invariant
