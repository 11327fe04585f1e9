use Rattle.std.proofs.Common.{◌≡◌, ◌++◌, drop}
use Rattle.std.specs.String.{string_bytes}
use Rattle.binfarce_chart.specs.Svg.{escaped}
use Rattle.binfarce_chart.proofs.svg.push_escaped.Given as goal

-- with the bytes that are left, the text has the whole name
abbrev pub invariant-loop-byte : goal.invariant-loop-byte
invariant-loop-byte l = string_bytes l.text ++ escaped (drop l.byte-index l.name) ≡ string_bytes l.fn.text ++ escaped l.name
