use Rattle.std.proofs.Common.{map, take}
use Rattle.std.specs.String.{string_bytes}
use Rattle.binfarce_rows.specs.Json.{style_of}
use Rattle.binfarce_needs.specs.FileNeeds.{need_view}
use Rattle.binfarce_needs.specs.Lines.{AreRows}
use Rattle.binfarce_needs.proofs.lines.text_of.Given as goal

-- the rows of the symbols so far
abbrev pub invariant-loop-need : goal.invariant-loop-need
invariant-loop-need l = AreRows l.naming (style_of l.form) (map need_view (take l.need-index l.needs)) (string_bytes l.text)
