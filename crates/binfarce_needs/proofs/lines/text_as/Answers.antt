use Rattle.std.proofs.Common.{◌≡◌, Ok, Result, Some, ap, map, sym, ◌∙◌}
use Rattle.binfarce_bytes.specs.Refusal.{◌>>=◌, Refusal}
use Rattle.binfarce_elf.specs.Classes.{class_of}
use Rattle.binfarce_rows.specs.Json.{style_of}
use Rattle.binfarce_needs.specs.FileNeeds.{need_view}
use Rattle.binfarce_needs.specs.Lines.{needs_in}
use Rattle.binfarce_needs.specs.Needs.{NeedTables, needs_of}
use Rattle.binfarce_needs.proofs.Given.{lacked, unread}
use Rattle.binfarce_needs.proofs.lines.text_as.Goals as goal

pub returns-in_err-width : goal.returns-in_err-width
returns-in_err-width g c = λ file known.
    let fails = g.S.Source.may_fail c.args.source.now in
    lacked fails c.args.naming (style_of c.args.form) c.args.format file c.from_residual.result c.in_err-width.field-0.0 (c.in_err-width.ensures fails file) c.from_residual.ensures

pub returns-in_err-tables : goal.returns-in_err-tables
returns-in_err-tables g c = λ file known.
    let fails = g.S.Source.may_fail c.args.source.now in
    unread fails c.args.naming (style_of c.args.form) c.args.format file c.from_residual-in_err-tables.result c.in_ok-width.width c.in_ok-width.byte_order c.in_err-tables.field-0.0
    (c.in_ok-width.ensures fails file) (c.in_err-tables.ensures.answer file known) c.from_residual-in_err-tables.ensures

pub returns : goal.returns
returns g c = λ file known.
    let fails = g.S.Source.may_fail c.args.source.now in
    let found = map need_view c.deref.result.now in
    let is : needs_in c.args.format file ≡ Some (Ok found) =
    c.in_ok-width.ensures fails file
    ∙ ap Some (ap (λ (a : Result NeedTables Refusal). a >>= λ tables. Ok (needs_of (class_of c.in_ok-width.width) c.in_ok-width.byte_order tables)) (c.in_ok-tables.ensures.answer file known)
    ∙ ap Ok (sym c.in_ok-needs.ensures ∙ ap (map need_view) (sym c.deref.ensures.value))) in
    (found, is, c.in_ok-text_of.ensures)
