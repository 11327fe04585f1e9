use Rattle.std.proofs.Common.{◌≡◌, ◌+◌, ◌-◌, ◌++◌}
use Rattle.std.specs.String.{string_bytes}
use Rattle.binfarce_v0_state.specs.LeafTexts.{more_announced}
use Rattle.binfarce_v0_state.proofs.text.BinderLeaf.push.Given as goal

abbrev pub invariant-loop-i : goal.invariant-loop-i
invariant-loop-i l =
    string_bytes l.out ++ more_announced (l.self.binder_depth + l.i) (l.self.count - l.i) ≡ string_bytes l.initial.out ++ more_announced (l.self.binder_depth + 1) (l.self.count - 1)
