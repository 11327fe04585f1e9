-- What a reader of some levels does, for every production.
use Rattle.std.proofs.Common.{◌≡◌, ℕ, ◌-◌, false, List, nat_le, if◌then◌else◌, ◌&&◌, refl}
use Rattle.binfarce_v0_grammar.specs.Tree.{NoPath, NoType, NoConst}
use Rattle.binfarce_v0_state.specs.machine.Printing.{State, readers, entered, stopped}
use Rattle.binfarce_v0_state.specs.machine.Kept.{Production, PathProduction, TypeProduction, ConstProduction, TreeOf, left_open_of, read, raised}
use Rattle.binfarce_v0_state.proofs.KeptLemmas.{path_anew, type_anew, constant_anew}
use Rattle.binfarce_v0_state.proofs.Levels.{path_at, type_at, constant_at}
use Rattle.binfarce_v0_state.proofs.Lowered.{low}
use Rattle.binfarce_v0.specs.machine.ByLetter.{production_rule}

-- with the least number of levels counted anew
pub read_anew : (part : List ℕ) (levels_left : ℕ) (production : Production) (binder_depth : ℕ) (s : State) → low s.least_levels_left (read (readers part levels_left) production binder_depth (raised levels_left s)) ≡ read (readers part levels_left) production binder_depth s
read_anew part levels_left (PathProduction position) binder_depth s = path_anew part levels_left position binder_depth s
read_anew part levels_left TypeProduction binder_depth s = type_anew part levels_left binder_depth s
read_anew part levels_left ConstProduction binder_depth s = constant_anew part levels_left s

-- where no level or no step is left
abbrev pub nothing_of : (production : Production) → TreeOf production
nothing_of (PathProduction position) = NoPath
nothing_of TypeProduction = NoType
nothing_of ConstProduction = NoConst

pub nothing_closed : (production : Production) → left_open_of production (nothing_of production) ≡ false
nothing_closed (PathProduction position) = refl
nothing_closed TypeProduction = refl
nothing_closed ConstProduction = refl

pub read_at : (part : List ℕ) (levels_left : ℕ) (production : Production) (binder_depth : ℕ) (s : State) → read (readers part levels_left) production binder_depth s ≡ (if nat_le 1 levels_left && nat_le 1 s.steps_left then production_rule part (readers part (levels_left - 1)) production binder_depth (entered (levels_left - 1) s) else (nothing_of production, stopped s))
read_at part levels_left (PathProduction position) binder_depth s = path_at part levels_left position binder_depth s
read_at part levels_left TypeProduction binder_depth s = type_at part levels_left binder_depth s
read_at part levels_left ConstProduction binder_depth s = constant_at part levels_left s
