use Rattle.std.proofs.Common.{◌≡◌, take}
use Rattle.std.specs.List.{flat_map}
use Rattle.std.specs.String.{string_bytes}
use Rattle.binfarce_rows.specs.Json.{style_of}
use Rattle.binfarce_sections.specs.Changes.{shown_row}
use Rattle.binfarce_sections.proofs.changes.Layout.each_row.Given as goal

-- the rows so far
abbrev pub invariant-loop-change : goal.invariant-loop-change
invariant-loop-change l = string_bytes l.text ≡ flat_map (shown_row l.self.has_percent (style_of l.self.form)) (take l.change-index l.changes)
