use Rattle.std.proofs.Common.{◌≡◌, ◌+◌, ◌*◌, ◌<◌, ◌^◌, take, fold}
use Rattle.binfarce_v0_grammar.specs.Base62.{hex_digit}
use Rattle.binfarce_v0_grammar.proofs.numbers.hex_number.Given as goal

abbrev pub invariant-loop-c : goal.invariant-loop-c
invariant-loop-c l =
    (l.value ≡ fold (λ n c. n * 16 + hex_digit c) 0 (take l.c-index l.digits)) × (l.value < 16 ^ l.c-index)
