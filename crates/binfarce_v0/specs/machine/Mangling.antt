-- What the reading of a whole name computes.
use Rattle.std.specs.Prelude.{ℕ, List, Option, Some, if◌then◌else◌}
use Rattle.binfarce_text.specs.Steps.{◌>>=◌}
use Rattle.binfarce_v0_grammar.specs.machine.Ends.{ends}
use Rattle.binfarce_v0_grammar.specs.declared.limits.TheConstants.{MAX_LEVELS}
use Rattle.binfarce_v0.specs.Mangling.{is_upper_at}

-- the position after the paths of a name
abbrev pub paths_end : List ℕ → Option ℕ
paths_end part =
    (ends part MAX_LEVELS).path 0 >>= λ mid. (if is_upper_at part mid then (ends part MAX_LEVELS).path mid else Some mid)
