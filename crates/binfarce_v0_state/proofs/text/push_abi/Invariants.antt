use Rattle.std.proofs.Common.{◌≡◌, ◌++◌, ◌==◌, if◌then◌else◌, take, map}
use Rattle.std.specs.String.{string_bytes}
use Rattle.binfarce_v0_state.proofs.text.push_abi.Given as goal

abbrev pub invariant-loop-c : goal.invariant-loop-c
invariant-loop-c l =
    string_bytes l.text ≡ string_bytes l.initial.text ++ map (λ c. if c == 95 then 45 else c) (take l.c-index l.c-items)
