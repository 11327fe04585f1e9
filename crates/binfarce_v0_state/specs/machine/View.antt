-- The views of a position that clauses use.
use Rattle.binfarce_v0_state.specs.TreeTexts as tree
use Rattle.binfarce_v0_state.specs.declared.position.Position as position
use Rattle.binfarce_v0_state.specs.declared.position.Position.TheVariants as positions

abbrev pub position_view : position.Position → tree.Position
position_view positions.InValue = tree.InValue
position_view positions.InType = tree.InType
position_view positions.OpenTrait = tree.OpenTrait
