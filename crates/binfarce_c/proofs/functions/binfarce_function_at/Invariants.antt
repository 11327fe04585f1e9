use Rattle.std.specs.Prelude.{take}
use Rattle.binfarce_c.specs.FunctionAt.{IsFound}
use Rattle.binfarce_c.proofs.functions.binfarce_function_at.Given as goal

-- what was found among the functions before this one
abbrev pub invariant-loop-index : goal.invariant-loop-index
invariant-loop-index l = IsFound l.fn.address (take l.index l.fn.functions) l.found
