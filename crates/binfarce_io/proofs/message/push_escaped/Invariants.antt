use Rattle.std.proofs.Common.{◌≡◌, ◌++◌}
use Rattle.std.specs.List.{flat_map}
use Rattle.std.specs.Prelude.{encode_utf8_all}
use Rattle.std.specs.String.{string_bytes}
use Rattle.binfarce_io.specs.MessageLine.{line_char}
use Rattle.binfarce_io.proofs.message.push_escaped.Given as goal

-- the characters so far
abbrev pub invariant-loop-c : goal.invariant-loop-c
invariant-loop-c l = string_bytes l.line ≡ string_bytes l.initial.line ++ encode_utf8_all (flat_map line_char l.yielded)
