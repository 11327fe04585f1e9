-- What a production is by the letter that it begins with.
use Rattle.std.specs.Prelude.{ℕ, List}
use Rattle.binfarce_v0_grammar.specs.Forms.{path_form, type_form, const_form}
use Rattle.binfarce_v0_state.specs.machine.Printing.{State, Readers, path_rule, type_rule, const_rule}
use Rattle.binfarce_v0_state.specs.machine.Kept.{Production, PathProduction, TypeProduction, ConstProduction, TreeOf}

abbrev pub production_rule : List ℕ → Readers → (production : Production) → ℕ → State → TreeOf production × State
production_rule part R (PathProduction position) binder_depth s = path_rule part R position binder_depth s (path_form part s.at)
production_rule part R TypeProduction binder_depth s = type_rule part R binder_depth s (type_form part s.at)
production_rule part R ConstProduction binder_depth s = const_rule R s (const_form part s.at)
