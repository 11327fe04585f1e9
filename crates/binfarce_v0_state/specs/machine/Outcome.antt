-- What a finished printing gives.
use Rattle.std.specs.Prelude.{ℕ, ◌-◌, List, [], Option, if◌then◌else◌}
use Rattle.binfarce_v0_grammar.specs.Identifiers.{UndisambiguatedIdentifier}
use Rattle.binfarce_v0_grammar.specs.declared.limits.TheConstants.{MAX_LEVELS, MAX_STEPS}
use Rattle.binfarce_v0_state.specs.machine.Printing.{State}

-- what a finished printing gives: a text, the trimmed one where both were printed, the first crate root, how many levels and steps it took, and the position after the path
pub record Outcome : Type 0 where
  pub text : List ℕ
  pub trimmed : List ℕ
  pub root : Option UndisambiguatedIdentifier
  pub levels : ℕ
  pub steps : ℕ
  pub after : Option ℕ

-- what a state gives at the end: the levels and the steps that are no longer left were taken
abbrev pub outcome_of : State → Outcome
outcome_of s =
    record { text = s.text; trimmed = if s.full then s.trimmed else []; root = s.root; levels = MAX_LEVELS - s.least_levels_left; steps = MAX_STEPS - s.steps_left; after = s.at }
