use Rattle.std.proofs.Common.{◌≡◌, ◌∙◌, ◌++◌, List, arith, ap, map, subst}
use Rattle.std.specs.String.{string_bytes}
use Rattle.binfarce_rows.specs.Json.{style_of}
use Rattle.binfarce_sections.specs.declared.sums.Share.{Share}
use Rattle.binfarce_sections.specs.Sums.{FileSums, share_rows, sums_text}
use Rattle.binfarce_sections.specs.Views.{share_view}
use Rattle.binfarce_sections.proofs.SumRows.{sums_are}
use Rattle.binfarce_sections.proofs.sums.rows_of.Goals as goal

pub returns : goal.returns
returns c =
    let style = style_of c.args.form in
    let inside = c.sums.inside in
    let sums : FileSums = record { file_length = inside.file_length; shares = map share_view inside.shares.items } in
    subst (λ (s : FileSums). string_bytes c.push_end.new.text ≡ sums_text style c.args.first s) c.sums.view_is
    (sums_are style c.args.first sums (string_bytes c.new-text.result) (string_bytes c.push_shares.new.text) (string_bytes c.push_plain.new.text) (string_bytes c.push_end.new.text) c.from.result
    c.new-text.ensures.bytes (c.in_ok-push_shares.ensures ∙ ap (λ (xs : List Share). string_bytes c.new-text.result ++ share_rows style c.args.first (map share_view xs)) c.deref.ensures.value) c.in_ok-push_plain.ensures c.in_ok-push_end.ensures (omega (arith, c.from.ensures, c.sums.invariant.length_is)))
