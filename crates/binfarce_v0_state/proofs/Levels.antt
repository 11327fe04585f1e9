-- What a reader of some levels does.
use Rattle.std.proofs.Common.{◌≡◌, ℕ, zero, suc, ◌-◌, true, List, nat_le, if◌then◌else◌, ◌&&◌, refl, arith}
use Rattle.std.proofs.lemmas.Bool.Decides.{nat_tests}
use Rattle.binfarce_v0_grammar.specs.Forms.{path_form, type_form, const_form}
use Rattle.binfarce_v0_state.specs.TreeTexts.{Position}
use Rattle.binfarce_v0_grammar.specs.Tree.{NoPath, NoType, NoConst}
use Rattle.binfarce_v0_state.specs.machine.Printing.{State, readers, path_rule, type_rule, const_rule, entered, stopped}

one_le_suc : (l : ℕ) → nat_le 1 (suc l) ≡ true
one_le_suc l = grind (arith, nat_tests)

suc-one : (l : ℕ) → suc l - 1 ≡ l
suc-one l = omega arith

pub constant_at : (part : List ℕ) (levels_left : ℕ) (s : State) → (readers part levels_left).constant s ≡ (if nat_le 1 levels_left && nat_le 1 s.steps_left then const_rule (readers part (levels_left - 1)) (entered (levels_left - 1) s) (const_form part s.at) else (NoConst, stopped s))
unfolding readers
constant_at part zero s = refl
constant_at part (suc l) s = rw (one_le_suc l, suc-one l) refl

pub type_at : (part : List ℕ) (levels_left binder_depth : ℕ) (s : State) → (readers part levels_left).ty binder_depth s ≡ (if nat_le 1 levels_left && nat_le 1 s.steps_left then type_rule part (readers part (levels_left - 1)) binder_depth (entered (levels_left - 1) s) (type_form part s.at) else (NoType, stopped s))
unfolding readers
type_at part zero binder_depth s = refl
type_at part (suc l) binder_depth s = rw (one_le_suc l, suc-one l) refl

pub path_at : (part : List ℕ) (levels_left : ℕ) (position : Position) (binder_depth : ℕ) (s : State) → (readers part levels_left).path position binder_depth s ≡ (if nat_le 1 levels_left && nat_le 1 s.steps_left then path_rule part (readers part (levels_left - 1)) position binder_depth (entered (levels_left - 1) s) (path_form part s.at) else (NoPath, stopped s))
unfolding readers
path_at part zero position binder_depth s = refl
path_at part (suc l) position binder_depth s = rw (one_le_suc l, suc-one l) refl
