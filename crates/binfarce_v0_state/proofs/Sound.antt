-- Whatever the printer reads within its limits is a tree of the relation, of that height, with exactly those steps.
use Rattle.std.proofs.Common.{◌≡◌, ℕ, zero, suc, ◌+◌, ◌≤◌, Bool, true, false, List, Option, Some, None, cond, nat_le, if◌then◌else◌, refl, arith}
use Rattle.std.proofs.lemmas.Bool.Decides.{nat_tests}
use Rattle.binfarce_v0_grammar.specs.Identifiers.{UndisambiguatedIdentifier}
use Rattle.binfarce_v0_grammar.specs.Forms.{NoLifetime, has_byte, after_byte, undisambiguated_at, lifetime, const_form, ConstForm, NoConstForm, UntypedPlaceholderConst, PlaceholderConst, ValueConst, InvalidConst, BackToConst}
use Rattle.binfarce_v0_grammar.specs.Base62.{base_62_number}
use Rattle.binfarce_v0_grammar.proofs.ReadingForward.{indexed_lifetime}
use Rattle.binfarce_v0_grammar.specs.Tree.{PathTree, TypeTree, ConstTree, Item, Items, Bindings, LifetimeItem, lifetime_steps, path_height, type_height, const_height, item_height, items_height, bindings_height, path_steps, type_steps, const_steps, item_steps, items_steps, bindings_steps, Listed, Arguments, Types, Traits}
use Rattle.binfarce_v0_state.specs.TreeTexts.{Position, OpenTrait, separator}
use Rattle.binfarce_v0_grammar.specs.Unfolding.{list_goes_on, IsConst, IsPath, IsType, IsItem, AreItems, AreBindings}
use Rattle.binfarce_v0_state.specs.machine.Printing.{State, Readers, write, seek, stopped, take, into, taking, const_rule, lifetime_item, argument_rule, binding_rule, named_binding, bindings_rule, item_rule, list_rule, items_rule}

pub record ConstFound (part : List ℕ) (levels_left steps_left : ℕ) (at : Option ℕ) (limit_exceeded : Bool) (r : ConstTree × State) : Type 0 where
  pub is : IsConst part r.0 at r.1.at
  pub height : const_height r.0 ≤ levels_left
  pub steps : r.1.steps_left + const_steps r.0 ≡ steps_left
  pub before : limit_exceeded ≡ false

pub record PathFound (part : List ℕ) (binder_depth levels_left steps_left : ℕ) (at : Option ℕ) (limit_exceeded : Bool) (r : PathTree × State) : Type 0 where
  pub is : IsPath part r.0 at binder_depth r.1.at
  pub height : path_height r.0 ≤ levels_left
  pub steps : r.1.steps_left + path_steps r.0 ≡ steps_left
  pub before : limit_exceeded ≡ false

pub record TypeFound (part : List ℕ) (binder_depth levels_left steps_left : ℕ) (at : Option ℕ) (limit_exceeded : Bool) (r : TypeTree × State) : Type 0 where
  pub is : IsType part r.0 at binder_depth r.1.at
  pub height : type_height r.0 ≤ levels_left
  pub steps : r.1.steps_left + type_steps r.0 ≡ steps_left
  pub before : limit_exceeded ≡ false

pub record ItemFound (part : List ℕ) (listed : Listed) (binder_depth levels_left steps_left : ℕ) (at : Option ℕ) (limit_exceeded : Bool) (r : Item × State) : Type 0 where
  pub is : IsItem part listed r.0 at binder_depth r.1.at
  pub height : item_height r.0 ≤ levels_left
  pub steps : r.1.steps_left + item_steps r.0 ≡ steps_left
  pub before : limit_exceeded ≡ false

pub record ItemsFound (part : List ℕ) (listed : Listed) (binder_depth levels_left steps_left : ℕ) (at : Option ℕ) (limit_exceeded : Bool) (r : Items × State) : Type 0 where
  pub is : AreItems part listed r.0 at binder_depth r.1.at
  pub height : items_height r.0 ≤ levels_left
  pub steps : r.1.steps_left + items_steps r.0 ≡ steps_left
  pub before : limit_exceeded ≡ false

pub record BindingsFound (part : List ℕ) (binder_depth levels_left steps_left : ℕ) (at : Option ℕ) (limit_exceeded : Bool) (r : Bindings × State) : Type 0 where
  pub is : AreBindings part r.0 at binder_depth r.1.at
  pub height : bindings_height r.0 ≤ levels_left
  pub steps : r.1.steps_left + bindings_steps r.0 ≡ steps_left
  pub before : limit_exceeded ≡ false

-- readers that find nothing but trees of the relation
pub record Sound (part : List ℕ) (levels_left : ℕ) (R : Readers) : Type 0 where
  pub path : (position : Position) (binder_depth : ℕ) (s : State) → (R.path position binder_depth s).1.limit_exceeded ≡ false → PathFound part binder_depth levels_left s.steps_left s.at s.limit_exceeded (R.path position binder_depth s)
  pub ty : (binder_depth : ℕ) (s : State) → (R.ty binder_depth s).1.limit_exceeded ≡ false → TypeFound part binder_depth levels_left s.steps_left s.at s.limit_exceeded (R.ty binder_depth s)
  pub constant : (s : State) → (R.constant s).1.limit_exceeded ≡ false → ConstFound part levels_left s.steps_left s.at s.limit_exceeded (R.constant s)

pub true_not_false : {A : Type 0} → true ≡ false → A
true_not_false h = cc

-- what takes steps had them
pub taken : {T : Type 0} (P : T × State → Type 0) (n : ℕ) (none : T) (s : State) (f : State → T × State) → (n ≤ s.steps_left → (f (take n s)).1.limit_exceeded ≡ false → P (f (take n s))) → (taking n none s f).1.limit_exceeded ≡ false → P (taking n none s f)
taken {T} P n none s f h o = by (nat_le n s.steps_left) refl o
  where
    by : (b : Bool) → nat_le n s.steps_left ≡ b → (cond b (f (take n s)) (none, stopped s)).1.limit_exceeded ≡ false → P (cond b (f (take n s)) (none, stopped s))
    by true e o = h (grind (arith, nat_tests)) o
    by false e o = true_not_false o

-- after a back reference
pub back_target : (limit_exceeded : Bool) (q : ℕ) → limit_exceeded ≡ false → (if limit_exceeded then None else Some q) ≡ Some q
back_target limit_exceeded q h = rw h refl

pub const_sound : (part : List ℕ) (levels_left : ℕ) (R : Readers) → Sound part levels_left R → (s : State) (form : ConstForm) → const_form part s.at ≡ form → (const_rule R s form).1.limit_exceeded ≡ false → ConstFound part (suc levels_left) (suc s.steps_left) s.at s.limit_exceeded (const_rule R s form)
unfolding const_rule IsConst
const_sound part levels_left R H s NoConstForm e o =
    record { is = (e, refl); height = omega arith; steps = omega arith; before = o }
const_sound part levels_left R H s (UntypedPlaceholderConst q) e o =
    record { is = (q, e, refl); height = omega arith; steps = omega arith; before = o }
const_sound part levels_left R H s (PlaceholderConst type_name q) e o =
    record { is = (q, e, refl); height = omega arith; steps = omega arith; before = o }
const_sound part levels_left R H s (ValueConst type_name value q) e o =
    record { is = (q, e, refl); height = omega arith; steps = omega arith; before = o }
const_sound part levels_left R H s (InvalidConst negative type_name) e o =
    record { is = (e, refl); height = omega arith; steps = omega arith; before = o }
const_sound part levels_left R H s (BackToConst target q) e o =
    let f = H.constant (into target s) o in
    record {
      is = (target, q, (R.constant (into target s)).1.at, e, f.is, back_target (R.constant (into target s)).1.limit_exceeded q o);
      height = omega arith;
      steps = omega arith;
      before = f.before;
    }

-- Lists

-- an "L" is a step
pub lifetime_step : (part : List ℕ) (at : Option ℕ) → has_byte part 76 at ≡ true → lifetime_steps (lifetime part at).0 ≡ 1
unfolding lifetime
lifetime_step part None e = cc
lifetime_step part (Some at) e = rw e (read (base_62_number part (at + 1)))
  where
    read : (n : Option (ℕ × ℕ)) → lifetime_steps (indexed_lifetime n).0 ≡ 1
    read None = refl
    read (Some n) = refl

lifetime_sound : (part : List ℕ) (levels_left : ℕ) (binder_depth : ℕ) (s : State) → has_byte part 76 s.at ≡ true → 1 ≤ s.steps_left → s.limit_exceeded ≡ false → ItemFound part Arguments binder_depth levels_left s.steps_left s.at s.limit_exceeded (lifetime_item binder_depth (lifetime part s.at) (take 1 s))
unfolding IsItem item_height item_steps
lifetime_sound part levels_left binder_depth s e n o =
    record {
      is = ((lifetime part s.at).1, e, refl, refl);
      height = omega arith;
      steps = omega (arith, lifetime_step part s.at e);
      before = o;
    }

argument_sound : (part : List ℕ) (levels_left : ℕ) (R : Readers) → Sound part levels_left R → (binder_depth : ℕ) (s : State) (a b : Bool) → has_byte part 76 s.at ≡ a → has_byte part 75 s.at ≡ b → (argument_rule part R binder_depth s a b).1.limit_exceeded ≡ false → ItemFound part Arguments binder_depth levels_left s.steps_left s.at s.limit_exceeded (argument_rule part R binder_depth s a b)
unfolding IsItem item_height item_steps
argument_sound part levels_left R H binder_depth s true b ea eb o =
    taken (λ r. ItemFound part Arguments binder_depth levels_left s.steps_left s.at s.limit_exceeded r) 1 (LifetimeItem NoLifetime) s (lifetime_item binder_depth (lifetime part s.at)) (λ n p. lifetime_sound part levels_left binder_depth s ea n p) o
argument_sound part levels_left R H binder_depth s false true ea eb o =
    let f = H.constant (seek (after_byte s.at) s) o in
    record { is = (ea, eb, f.is); height = f.height; steps = f.steps; before = f.before }
argument_sound part levels_left R H binder_depth s false false ea eb o =
    let f = H.ty binder_depth s o in
    record { is = (ea, eb, f.is); height = f.height; steps = f.steps; before = f.before }

named_binding_sound : (part : List ℕ) (levels_left : ℕ) (R : Readers) → Sound part levels_left R → (binder_depth : ℕ) (more : Bool → State → Bindings × State) → ((is_open : Bool) (s : State) → (more is_open s).1.limit_exceeded ≡ false → BindingsFound part binder_depth levels_left s.steps_left s.at s.limit_exceeded (more is_open s)) → (is_open : Bool) (s : State) (i : Option (UndisambiguatedIdentifier × ℕ)) → has_byte part 112 s.at ≡ true → undisambiguated_at part (after_byte s.at) ≡ i → (named_binding R binder_depth more is_open s i).1.limit_exceeded ≡ false → BindingsFound part binder_depth levels_left s.steps_left s.at s.limit_exceeded (named_binding R binder_depth more is_open s i)
unfolding AreBindings bindings_height bindings_steps
named_binding_sound part levels_left R H binder_depth more M is_open s None e ei o =
    record { is = (e, ei, refl); height = omega arith; steps = omega arith; before = o }
named_binding_sound part levels_left R H binder_depth more M is_open s (Some i) e ei o =
    let m = M true _ o in
    let f = H.ty binder_depth _ m.before in
    record { is = (i.1, _, e, ei, f.is, m.is); height = omega arith; steps = omega arith; before = f.before }

bindings_sound : (part : List ℕ) (levels_left : ℕ) (R : Readers) → Sound part levels_left R → (binder_depth n : ℕ) (is_open : Bool) (s : State) → (bindings_rule part R binder_depth n is_open s).1.limit_exceeded ≡ false → BindingsFound part binder_depth levels_left s.steps_left s.at s.limit_exceeded (bindings_rule part R binder_depth n is_open s)
unfolding bindings_rule AreBindings bindings_height bindings_steps
bindings_sound part levels_left R H binder_depth zero is_open s o = true_not_false o
bindings_sound part levels_left R H binder_depth (suc n) is_open s o =
    by (bindings_sound part levels_left R H binder_depth n) (has_byte part 112 s.at) refl o
  where
    by : ((is_open : Bool) (s : State) → (bindings_rule part R binder_depth n is_open s).1.limit_exceeded ≡ false → BindingsFound part binder_depth levels_left s.steps_left s.at s.limit_exceeded (bindings_rule part R binder_depth n is_open s)) → (b : Bool) → has_byte part 112 s.at ≡ b → (binding_rule part R binder_depth (bindings_rule part R binder_depth n) is_open s b).1.limit_exceeded ≡ false → BindingsFound part binder_depth levels_left s.steps_left s.at s.limit_exceeded (binding_rule part R binder_depth (bindings_rule part R binder_depth n) is_open s b)
    by M true e o =
        named_binding_sound part levels_left R H binder_depth (bindings_rule part R binder_depth n) M is_open s (undisambiguated_at part (after_byte s.at)) e refl o
    by M false e o = record { is = (e, refl); height = omega arith; steps = omega arith; before = o }

item_sound : (part : List ℕ) (levels_left : ℕ) (R : Readers) → Sound part levels_left R → (binder_depth : ℕ) (listed : Listed) (s : State) → (item_rule part R binder_depth listed s).1.limit_exceeded ≡ false → ItemFound part listed binder_depth levels_left s.steps_left s.at s.limit_exceeded (item_rule part R binder_depth listed s)
unfolding item_rule IsItem item_height item_steps
item_sound part levels_left R H binder_depth Arguments s o =
    argument_sound part levels_left R H binder_depth s (has_byte part 76 s.at) (has_byte part 75 s.at) refl refl o
item_sound part levels_left R H binder_depth Types s o =
    let f = H.ty binder_depth s o in record { is = f.is; height = f.height; steps = f.steps; before = f.before }
item_sound part levels_left R H binder_depth Traits s o =
    let m = bindings_sound part levels_left R H binder_depth _ _ _ o in
    let f = H.path OpenTrait binder_depth s m.before in
    record { is = (_, f.is, m.is); height = omega arith; steps = omega arith; before = f.before }

pub items_sound : (part : List ℕ) (levels_left : ℕ) (R : Readers) → Sound part levels_left R → (binder_depth : ℕ) (listed : Listed) (between : List ℕ) (n : ℕ) (is_first : Bool) (s : State) → (items_rule part R binder_depth listed between n is_first s).1.limit_exceeded ≡ false → ItemsFound part listed binder_depth levels_left s.steps_left s.at s.limit_exceeded (items_rule part R binder_depth listed between n is_first s)
unfolding items_rule AreItems items_height items_steps
items_sound part levels_left R H binder_depth listed between zero is_first s o = true_not_false o
items_sound part levels_left R H binder_depth listed between (suc n) is_first s o =
    by (items_sound part levels_left R H binder_depth listed between n false) (list_goes_on part s.at) refl o
  where
    by : ((s : State) → (items_rule part R binder_depth listed between n false s).1.limit_exceeded ≡ false → ItemsFound part listed binder_depth levels_left s.steps_left s.at s.limit_exceeded (items_rule part R binder_depth listed between n false s)) → (b : Bool) → list_goes_on part s.at ≡ b → (list_rule part R binder_depth listed between (items_rule part R binder_depth listed between n false) is_first s b).1.limit_exceeded ≡ false → ItemsFound part listed binder_depth levels_left s.steps_left s.at s.limit_exceeded (list_rule part R binder_depth listed between (items_rule part R binder_depth listed between n false) is_first s b)
    by M true e o =
        let m = M _ o in
        let f = item_sound part levels_left R H binder_depth listed (write (separator is_first between) s) m.before in
        record { is = (_, e, f.is, m.is); height = omega arith; steps = omega arith; before = f.before }
    by M false e o = record { is = (e, refl); height = omega arith; steps = omega arith; before = o }
