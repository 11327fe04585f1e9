-- Types and paths that the printer reads are trees of the relation, and so is what its readers of any number of levels read.
use Rattle.std.proofs.Common.{◌≡◌, ℕ, zero, suc, ◌+◌, ◌-◌, ◌≤◌, Bool, true, false, List, Option, Some, None, cond, nat_le, refl, subst, arith}
use Rattle.std.proofs.lemmas.Bool.Decides.{nat_tests}
use Rattle.std.specs.Prelude.{codes}
use Rattle.binfarce_v0_grammar.specs.Identifiers.{Identifier}
use Rattle.binfarce_v0_grammar.specs.Forms.{Lifetime, Signature, has_byte, identifier_at, lifetime, path_form, type_form, const_form, PathForm, NoPathForm, CrateRoot, NestedIn, InherentImpl, TraitImpl, TraitDefinition, WithArguments, BackToPath, TypeForm, NoTypeForm, BasicType, ReferenceTo, InvalidReference, PointerTo, SliceOf, ArrayOf, TupleOf, FunctionOf, InvalidAbi, DynOf, InvalidDyn, BackToType, PathType}
use Rattle.binfarce_v0_grammar.specs.Tree.{PathTree, Items, NoPath, NoType, NoConst, lifetime_steps, path_height, type_height, path_steps, type_steps, Arguments, Types, Traits}
use Rattle.binfarce_v0_state.specs.TreeTexts.{Position, InType, parent_position}
use Rattle.binfarce_v0_grammar.specs.Unfolding.{IsPath, IsType}
use Rattle.binfarce_v0_state.specs.machine.Printing.{State, Readers, write, seek, stopped, take, entered, into, set_muted, entering, named_tree, named_state, returned, function_rule, dyn_lifetime_rule, dyn_end, dyn_rule, reference_rule, invalid_reference, invalid_function, type_rule, path_rule, const_rule, readers}
use Rattle.binfarce_v0_state.proofs.Sound.{Sound, PathFound, TypeFound, ConstFound, ItemsFound, taken, true_not_false, back_target, const_sound, items_sound}

returned_sound : (part : List ℕ) (levels_left : ℕ) (R : Readers) → Sound part levels_left R → (binder_depth steps_left : ℕ) (at : Option ℕ) (signature : Signature) (q : ℕ) (r : Items × State) (limit_exceeded : Bool) (b : Bool) → type_form part at ≡ FunctionOf signature q → has_byte part 117 r.1.at ≡ b → (r.1.limit_exceeded ≡ false → ItemsFound part Types (binder_depth + signature.binder) levels_left (steps_left - signature.binder) (Some q) limit_exceeded r) → signature.binder ≤ steps_left → (returned part R (binder_depth + signature.binder) signature r.0 (write (codes ")") r.1) b).1.limit_exceeded ≡ false → TypeFound part binder_depth (suc levels_left) (suc steps_left) at limit_exceeded (returned part R (binder_depth + signature.binder) signature r.0 (write (codes ")") r.1) b)
unfolding IsType type_height type_steps
returned_sound part levels_left R H binder_depth steps_left at signature q r limit_exceeded true e eb I n o =
    let f = I o in
    record { is = (q, r.1.at, e, f.is, eb, refl); height = omega arith; steps = omega arith; before = f.before }
returned_sound part levels_left R H binder_depth steps_left at signature q r limit_exceeded false e eb I n o =
    let t = H.ty (binder_depth + signature.binder) (write (codes " -> ") (write (codes ")") r.1)) o in
    let f = I t.before in
    record { is = (q, r.1.at, e, f.is, eb, t.is); height = omega arith; steps = omega arith; before = f.before }

dyn_sound : (part : List ℕ) (levels_left binder_depth steps_left : ℕ) (at : Option ℕ) (binder q : ℕ) (r : Items × State) (limit_exceeded : Bool) → type_form part at ≡ DynOf binder q → (r.1.limit_exceeded ≡ false → ItemsFound part Traits (binder_depth + binder) levels_left (steps_left - binder) (Some q) limit_exceeded r) → binder ≤ steps_left → (dyn_end part binder_depth binder r).1.limit_exceeded ≡ false → TypeFound part binder_depth (suc levels_left) (suc steps_left) at limit_exceeded (dyn_end part binder_depth binder r)
unfolding IsType type_height type_steps
dyn_sound part levels_left binder_depth steps_left at binder q r limit_exceeded e I n o =
    taken (λ x. TypeFound part binder_depth (suc levels_left) (suc steps_left) at limit_exceeded x) (lifetime_steps (lifetime part r.1.at).0) NoType r.1 (dyn_lifetime_rule binder_depth binder r.0 (lifetime part r.1.at)) here o
  where
    here : lifetime_steps (lifetime part r.1.at).0 ≤ r.1.steps_left → r.1.limit_exceeded ≡ false → TypeFound part binder_depth (suc levels_left) (suc steps_left) at limit_exceeded (dyn_lifetime_rule binder_depth binder r.0 (lifetime part r.1.at) (take (lifetime_steps (lifetime part r.1.at).0) r.1))
    here m p =
        let f = I p in
        record {
          is = (q, r.1.at, (lifetime part r.1.at).1, e, f.is, refl, refl);
          height = omega arith;
          steps = omega arith;
          before = f.before;
        }

reference_sound : (part : List ℕ) (levels_left : ℕ) (R : Readers) → Sound part levels_left R → (binder_depth : ℕ) (s : State) (mutable : Bool) (life : Lifetime) (q : ℕ) → type_form part s.at ≡ ReferenceTo mutable life q → lifetime_steps life ≤ s.steps_left → (reference_rule R binder_depth mutable life q (take (lifetime_steps life) s)).1.limit_exceeded ≡ false → TypeFound part binder_depth (suc levels_left) (suc s.steps_left) s.at s.limit_exceeded (reference_rule R binder_depth mutable life q (take (lifetime_steps life) s))
unfolding IsType type_height type_steps
reference_sound part levels_left R H binder_depth s mutable life q e n o =
    let f = H.ty binder_depth _ o in
    record { is = (q, e, f.is); height = omega arith; steps = omega arith; before = f.before }

type_sound : (part : List ℕ) (levels_left : ℕ) (R : Readers) → Sound part levels_left R → (binder_depth : ℕ) (s : State) (form : TypeForm) → type_form part s.at ≡ form → (type_rule part R binder_depth s form).1.limit_exceeded ≡ false → TypeFound part binder_depth (suc levels_left) (suc s.steps_left) s.at s.limit_exceeded (type_rule part R binder_depth s form)
unfolding type_rule IsType type_height type_steps
type_sound part levels_left R H binder_depth s NoTypeForm e o =
    record { is = (e, refl); height = omega arith; steps = omega arith; before = o }
type_sound part levels_left R H binder_depth s (BasicType text q) e o =
    record { is = (q, e, refl); height = omega arith; steps = omega arith; before = o }
type_sound part levels_left R H binder_depth s (ReferenceTo mutable life q) e o =
    taken (λ x. TypeFound part binder_depth (suc levels_left) (suc s.steps_left) s.at s.limit_exceeded x) (lifetime_steps life) NoType s (reference_rule R binder_depth mutable life q) (λ n p. reference_sound part levels_left R H binder_depth s mutable life q e n p) o
type_sound part levels_left R H binder_depth s InvalidReference e o =
    taken (λ x. TypeFound part binder_depth (suc levels_left) (suc s.steps_left) s.at s.limit_exceeded x) 1 NoType s invalid_reference (λ n p. record { is = (e, refl); height = omega arith; steps = omega arith; before = p }) o
type_sound part levels_left R H binder_depth s (PointerTo mutable q) e o =
    let f = H.ty binder_depth _ o in
    record { is = (q, e, f.is); height = omega arith; steps = omega arith; before = f.before }
type_sound part levels_left R H binder_depth s (SliceOf q) e o =
    let f = H.ty binder_depth _ o in
    record { is = (q, e, f.is); height = omega arith; steps = omega arith; before = f.before }
type_sound part levels_left R H binder_depth s (ArrayOf q) e o =
    let c = H.constant _ o in
    let f = H.ty binder_depth _ c.before in
    record { is = (q, _, e, f.is, c.is); height = omega arith; steps = omega arith; before = f.before }
type_sound part levels_left R H binder_depth s (TupleOf q) e o =
    let f = items_sound part levels_left R H binder_depth Types _ _ _ _ o in
    record { is = (q, e, f.is); height = omega arith; steps = omega arith; before = f.before }
type_sound part levels_left R H binder_depth s (FunctionOf signature q) e o =
    taken (λ x. TypeFound part binder_depth (suc levels_left) (suc s.steps_left) s.at s.limit_exceeded x) signature.binder NoType s (function_rule part R binder_depth signature q) (λ n p. returned_sound part levels_left R H binder_depth s.steps_left s.at signature q _ s.limit_exceeded (has_byte part 117 _) e refl (items_sound part levels_left R H (binder_depth + signature.binder) Types _ _ _ _) n p) o
type_sound part levels_left R H binder_depth s (InvalidAbi binder) e o =
    taken (λ x. TypeFound part binder_depth (suc levels_left) (suc s.steps_left) s.at s.limit_exceeded x) binder NoType s (invalid_function binder_depth binder) (λ n p. record { is = (e, refl); height = omega arith; steps = omega arith; before = p }) o
type_sound part levels_left R H binder_depth s (DynOf binder q) e o =
    taken (λ x. TypeFound part binder_depth (suc levels_left) (suc s.steps_left) s.at s.limit_exceeded x) binder NoType s (dyn_rule part R binder_depth binder q) (λ n p. dyn_sound part levels_left binder_depth s.steps_left s.at binder q _ s.limit_exceeded e (items_sound part levels_left R H (binder_depth + binder) Traits _ _ _ _) n p) o
type_sound part levels_left R H binder_depth s InvalidDyn e o =
    record { is = (e, refl); height = omega arith; steps = omega arith; before = o }
type_sound part levels_left R H binder_depth s (BackToType target q) e o =
    let f = H.ty binder_depth (into target s) o in
    record {
      is = (target, q, (R.ty binder_depth (into target s)).1.at, e, f.is, back_target (R.ty binder_depth (into target s)).1.limit_exceeded q o);
      height = omega arith;
      steps = omega arith;
      before = f.before;
    }
type_sound part levels_left R H binder_depth s PathType e o =
    let f = H.path InType binder_depth s o in
    record { is = (e, f.is); height = omega arith; steps = omega arith; before = f.before }

nested_sound : (part : List ℕ) (levels_left binder_depth steps_left : ℕ) (at : Option ℕ) (limit_exceeded : Bool) (namespace q : ℕ) (r : PathTree × State) (l : Option (Identifier × ℕ)) → path_form part at ≡ NestedIn namespace q → identifier_at part r.1.at ≡ l → (r.1.limit_exceeded ≡ false → PathFound part binder_depth levels_left steps_left (Some q) limit_exceeded r) → (named_state namespace r.1 l).limit_exceeded ≡ false → PathFound part binder_depth (suc levels_left) (suc steps_left) at limit_exceeded (named_tree namespace r.0 l, named_state namespace r.1 l)
unfolding IsPath path_height path_steps
nested_sound part levels_left binder_depth steps_left at limit_exceeded namespace q r None e el I o =
    let f = I o in
    record { is = (namespace, q, r.1.at, e, f.is, el, refl); height = omega arith; steps = omega arith; before = f.before }
nested_sound part levels_left binder_depth steps_left at limit_exceeded namespace q r (Some l) e el I o =
    let f = I o in
    record { is = (q, r.1.at, l.1, e, f.is, el, refl); height = omega arith; steps = omega arith; before = f.before }

path_sound : (part : List ℕ) (levels_left : ℕ) (R : Readers) → Sound part levels_left R → (position : Position) (binder_depth : ℕ) (s : State) (form : PathForm) → path_form part s.at ≡ form → (path_rule part R position binder_depth s form).1.limit_exceeded ≡ false → PathFound part binder_depth (suc levels_left) (suc s.steps_left) s.at s.limit_exceeded (path_rule part R position binder_depth s form)
unfolding path_rule IsPath path_height path_steps
path_sound part levels_left R H position binder_depth s NoPathForm e o =
    record { is = (e, refl); height = omega arith; steps = omega arith; before = o }
path_sound part levels_left R H position binder_depth s (CrateRoot root q) e o =
    record { is = (q, e, refl); height = omega arith; steps = omega arith; before = o }
path_sound part levels_left R H position binder_depth s (NestedIn namespace q) e o =
    nested_sound part levels_left binder_depth s.steps_left s.at s.limit_exceeded namespace q _ _ e refl (H.path (parent_position position) binder_depth (seek (Some q) s)) o
path_sound part levels_left R H position binder_depth s (InherentImpl q) e o =
    let t = H.ty binder_depth _ o in
    let f = H.path (parent_position position) binder_depth (set_muted true (seek (Some q) s)) t.before in
    record { is = (q, _, e, f.is, t.is); height = omega arith; steps = omega arith; before = f.before }
path_sound part levels_left R H position binder_depth s (TraitImpl q) e o =
    let u = H.path InType binder_depth _ o in
    let t = H.ty binder_depth _ u.before in
    let f = H.path (parent_position position) binder_depth (set_muted true (seek (Some q) s)) t.before in
    record { is = (q, _, _, e, f.is, t.is, u.is); height = omega arith; steps = omega arith; before = f.before }
path_sound part levels_left R H position binder_depth s (TraitDefinition q) e o =
    let u = H.path InType binder_depth _ o in
    let t = H.ty binder_depth _ u.before in
    record { is = (q, _, e, t.is, u.is); height = omega arith; steps = omega arith; before = t.before }
path_sound part levels_left R H position binder_depth s (WithArguments q) e o =
    let i = items_sound part levels_left R H binder_depth Arguments _ _ _ _ o in
    let f = H.path (parent_position position) binder_depth (seek (Some q) s) i.before in
    record { is = (q, _, e, f.is, i.is); height = omega arith; steps = omega arith; before = f.before }
path_sound part levels_left R H position binder_depth s (BackToPath target q) e o =
    let f = H.path position binder_depth (into target s) o in
    record {
      is = (target, q, (R.path position binder_depth (into target s)).1.at, e, f.is, back_target (R.path position binder_depth (into target s)).1.limit_exceeded q o);
      height = omega arith;
      steps = omega arith;
      before = f.before;
    }

-- a level and a step that are there
room_there : (steps_left : ℕ) → nat_le 1 steps_left ≡ true → suc (steps_left - 1) ≡ steps_left
room_there steps_left e = let h : 1 ≤ steps_left = grind (arith, nat_tests) in omega arith

entered_sound : {T : Type 0} (P : ℕ → T × State → Type 0) (levels_left : ℕ) (none : T) (s : State) (f : State → T × State) → ((f (entered levels_left s)).1.limit_exceeded ≡ false → P (suc (s.steps_left - 1)) (f (entered levels_left s))) → (entering levels_left none s f).1.limit_exceeded ≡ false → P s.steps_left (entering levels_left none s f)
entered_sound {T} P levels_left none s f h o = by (nat_le 1 s.steps_left) refl o
  where
    by : (b : Bool) → nat_le 1 s.steps_left ≡ b → (cond b (f (entered levels_left s)) (none, stopped s)).1.limit_exceeded ≡ false → P s.steps_left (cond b (f (entered levels_left s)) (none, stopped s))
    by true e o = subst (λ steps_left. P steps_left (f (entered levels_left s))) (room_there s.steps_left e) (h o)
    by false e o = true_not_false o

pub readers_sound : (part : List ℕ) (levels_left : ℕ) → Sound part levels_left (readers part levels_left)
unfolding readers
readers_sound part zero =
    record { path = λ position binder_depth s o. true_not_false o; ty = λ binder_depth s o. true_not_false o; constant = λ s o. true_not_false o }
readers_sound part (suc levels_left) =
    let H = readers_sound part levels_left in
    record {
      path = λ position binder_depth s o. entered_sound (λ steps_left r. PathFound part binder_depth (suc levels_left) steps_left s.at s.limit_exceeded r) levels_left NoPath s (λ e. path_rule part (readers part levels_left) position binder_depth e (path_form part s.at)) (λ p. path_sound part levels_left (readers part levels_left) H position binder_depth (entered levels_left s) (path_form part s.at) refl p) o;
      ty = λ binder_depth s o. entered_sound (λ steps_left r. TypeFound part binder_depth (suc levels_left) steps_left s.at s.limit_exceeded r) levels_left NoType s (λ e. type_rule part (readers part levels_left) binder_depth e (type_form part s.at)) (λ p. type_sound part levels_left (readers part levels_left) H binder_depth (entered levels_left s) (type_form part s.at) refl p) o;
      constant = λ s o. entered_sound (λ steps_left r. ConstFound part (suc levels_left) steps_left s.at s.limit_exceeded r) levels_left NoConst s (λ e. const_rule (readers part levels_left) e (const_form part s.at)) (λ p. const_sound part levels_left (readers part levels_left) H (entered levels_left s) (const_form part s.at) refl p) o;
    }
