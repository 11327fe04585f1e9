use Rattle.std.proofs.Common.{◌≡◌}
use Rattle.std.specs.Prelude.{encode_utf8_all}
use Rattle.std.specs.String.{string_bytes}
use Rattle.binfarce_figures.specs.Keys.{last_name}
use Rattle.binfarce_figures.proofs.key.put_last_name.Given as goal

-- the name that the characters so far end with
abbrev pub invariant-loop-c : goal.invariant-loop-c
invariant-loop-c l = string_bytes l.text ≡ encode_utf8_all (last_name l.yielded)
