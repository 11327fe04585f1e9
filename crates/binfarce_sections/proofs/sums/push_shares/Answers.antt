use Rattle.std.proofs.Common.{◌≡◌, ◌++◌, ◌-◌, ◌∙◌, List, ap, arith, drop, length, length-drop, map, take}
use Rattle.std.proofs.lemmas.List.{take_all}
use Rattle.std.specs.String.{string_bytes}
use Rattle.binfarce_rows.specs.Json.{style_of}
use Rattle.binfarce_sections.specs.declared.sums.Share.{Share}
use Rattle.binfarce_sections.specs.Sums.{others_row}
use Rattle.binfarce_sections.specs.Views.{share_view}
use Rattle.binfarce_sections.proofs.SumRows.{split_rows}
use Rattle.binfarce_sections.proofs.sums.push_shares.Goals as goal

pub returns-in_ok-push_others : goal.returns-in_ok-push_others
returns-in_ok-push_others c =
    let style = style_of c.args.form in
    let shares = c.args.shares.now in
    let n = c.count_of-count.result in
    let shown = string_bytes c.push_each.new.text in
    let tail : take (length shares - n) (drop n shares) ≡ drop n shares = take_all (length shares - n) (drop n shares) (omega (arith, length-drop n shares)) in
    split_rows style c.args.first shares n (string_bytes c.args.text.now) shown (string_bytes c.push_others.new.text) c.count_of-count.ensures c.if-count-shares.true c.in_ok-push_each.ensures
    (c.in_ok-push_others.ensures ∙ ap (λ (xs : List Share). shown ++ others_row style (map share_view xs)) tail)
