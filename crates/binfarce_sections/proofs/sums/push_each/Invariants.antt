use Rattle.std.proofs.Common.{◌≡◌, ◌++◌, map, drop}
use Rattle.std.specs.List.{flat_map}
use Rattle.std.specs.String.{string_bytes}
use Rattle.binfarce_rows.specs.Json.{style_of}
use Rattle.binfarce_sections.specs.Sums.{share_row}
use Rattle.binfarce_sections.specs.Views.{share_view}
use Rattle.binfarce_sections.proofs.sums.push_each.Given as goal

-- with the rows of what is left after it, the text has the rows of all
abbrev pub invariant-loop-share : goal.invariant-loop-share
invariant-loop-share l =
    string_bytes l.text ++ flat_map (share_row (style_of l.form)) (map share_view (drop l.share-index l.shares))
    ≡ string_bytes l.fn.text ++ flat_map (share_row (style_of l.form)) (map share_view l.shares)
