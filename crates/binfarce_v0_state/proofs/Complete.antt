-- Whatever the relation relates within the limits is what the printer reads, shown as the tree's text.
use Rattle.std.proofs.Common.{◌≡◌, ℕ, zero, suc, ◌+◌, ◌-◌, ◌≤◌, ◌<◌, Bool, true, false, ◌&&◌, List, [], ◌++◌, Option, Some, None, nat_le, if◌then◌else◌, refl, ap, sym, ◌∙◌, arith}
use Rattle.std.proofs.lemmas.Bool.Decides.{nat_tests}
use Rattle.std.specs.Prelude.{codes}
use Rattle.binfarce_v0_state.specs.LeafTexts.{identifier_text}
use Rattle.binfarce_v0_grammar.specs.Forms.{Lifetime, NoLifetime, has_byte, after_byte, lifetime, path_form, type_form, const_form, PathForm, NoPathForm, CrateRoot, NestedIn, InherentImpl, TraitImpl, TraitDefinition, WithArguments, BackToPath, TypeForm, NoTypeForm, BasicType, ReferenceTo, InvalidReference, PointerTo, SliceOf, ArrayOf, TupleOf, FunctionOf, InvalidAbi, DynOf, InvalidDyn, BackToType, PathType, ConstForm, NoConstForm, UntypedPlaceholderConst, PlaceholderConst, ValueConst, InvalidConst, BackToConst}
use Rattle.binfarce_v0_grammar.specs.Tree.{PathTree, TypeTree, ConstTree, Item, Items, Bindings, NoConst, UntypedPlaceholder, Placeholder, Value, InvalidValue, BackConst, ConstTarget, NoPath, Crate, Nested, InvalidNested, OfType, OfImpl, OfTrait, Generic, BackPath, PathTarget, NoType, Basic, Reference, InvalidReferenceType, Pointer, Slice, Array, Tuple, Function, FunctionTo, InvalidFunction, Dyn, InvalidDynType, Named, BackType, TypeTarget, LifetimeItem, TypeItem, ConstItem, TraitItem, NoItems, ItemThen, NoBindings, Binding, InvalidBinding, lifetime_steps, path_height, type_height, const_height, item_height, items_height, bindings_height, path_steps, type_steps, const_steps, item_steps, items_steps, bindings_steps, path_root, type_root, item_root, items_root, bindings_root, Listed, Arguments, Types, Traits}
use Rattle.binfarce_v0_state.specs.TreeTexts.{path_text, type_text, const_text, item_text, items_text, bindings_text, Position, InType, OpenTrait, parent_position, value_mark, closing, is_left_open, separator, single_mark, open_mark, close_mark}
use Rattle.binfarce_v0_state.specs.LeafTexts.{binder_text, signature_text, nested_text, sign_text, value_text, reference_lifetime, argument_lifetime, dyn_lifetime, mutable_text}
use Rattle.binfarce_v0_grammar.specs.Unfolding.{bound_end, required_end, IsConst, IsPath, IsType, IsItem, AreItems, AreBindings}
use Rattle.binfarce_v0_state.specs.machine.Printing.{State, write, seek, stopped, take, entered, into, set_muted, unmuted, taking, const_rule, const_item, type_item, lifetime_item, argument_rule, binding_then, binding_rule, bound_type, named_binding, bindings_rule, trait_item, trait_rule, item_rule, item_then, list_rule, items_after, items_rule, type_then, type_as, array_rule, array_end, tuple_end, returned, function_end, function_rule, dyn_life, dyn_lifetime_rule, dyn_end, dyn_rule, reference_rule, invalid_reference, invalid_function, back_type, back_const, back_path, named_type, type_rule, nested_rule, of_type_rule, of_type_end, of_impl_rule, as_trait, path_then, generic_rule, generic_end, path_rule, readers}
use Rattle.binfarce_v0_state.proofs.Sound.{lifetime_step}
use Rattle.binfarce_v0_state.proofs.Levels.{path_at, type_at, constant_at}
use Rattle.binfarce_v0_state.proofs.States.{shown, shown_leaf, shown_three, shown_crate, shown_steps, shown_steps_invalid, shown_named, shown_back, shown_then, shown_after, shown_between, shown_tuple, shown_reference, shown_function, shown_dyn, shown_array, shown_function_to, shown_of_type, shown_of_impl, shown_of_trait, shown_generic, shown_end, shown_items, shown_lifetime, shown_trait, shown_bindings_end, shown_bindings_invalid, shown_binding}

-- where a test holds
if_true : {T : Type 0} (b : Bool) (x y : T) → b ≡ true → (if b then x else y) ≡ x
if_true b x y e = rw e refl

may_take : (n m : ℕ) → n ≤ m → nat_le n m ≡ true
may_take n m h = grind (arith, nat_tests)

took : {T : Type 0} (n : ℕ) (none : T) (s : State) (f : State → T × State) → n ≤ s.steps_left → taking n none s f ≡ f (take n s)
took n none s f h = if_true (nat_le n s.steps_left) (f (take n s)) (none, stopped s) (may_take n s.steps_left h)

both_true : (l steps_left : ℕ) → 1 ≤ l → 1 ≤ steps_left → (nat_le 1 l && nat_le 1 steps_left) ≡ true
both_true l steps_left h k = rw (may_take 1 l h, may_take 1 steps_left k) refl

enter_path : (part : List ℕ) (l : ℕ) (position : Position) (binder_depth : ℕ) (s : State) (form : PathForm) → 1 ≤ l → 1 ≤ s.steps_left → path_form part s.at ≡ form → (readers part l).path position binder_depth s ≡ path_rule part (readers part (l - 1)) position binder_depth (entered (l - 1) s) form
enter_path part l position binder_depth s form h k e =
    path_at part l position binder_depth s ∙ if_true _ _ _ (both_true l s.steps_left h k) ∙ ap (path_rule part (readers part (l - 1)) position binder_depth (entered (l - 1) s)) e

enter_type : (part : List ℕ) (l binder_depth : ℕ) (s : State) (form : TypeForm) → 1 ≤ l → 1 ≤ s.steps_left → type_form part s.at ≡ form → (readers part l).ty binder_depth s ≡ type_rule part (readers part (l - 1)) binder_depth (entered (l - 1) s) form
enter_type part l binder_depth s form h k e =
    type_at part l binder_depth s ∙ if_true _ _ _ (both_true l s.steps_left h k) ∙ ap (type_rule part (readers part (l - 1)) binder_depth (entered (l - 1) s)) e

enter_const : (part : List ℕ) (l : ℕ) (s : State) (form : ConstForm) → 1 ≤ l → 1 ≤ s.steps_left → const_form part s.at ≡ form → (readers part l).constant s ≡ const_rule (readers part (l - 1)) (entered (l - 1) s) form
enter_const part l s form h k e =
    constant_at part l s ∙ if_true _ _ _ (both_true l s.steps_left h k) ∙ ap (const_rule (readers part (l - 1)) (entered (l - 1) s)) e

-- the tree and a state
at_tree : {T : Type 0} (t : T) (a b : State) → a ≡ b → ◌≡◌ {A = T × State} (t, a) (t, b)
at_tree {T} t a b e = let f : State → T × State = λ x. (t, x) in ap f e

-- Consts

pub const_complete : (c : ConstTree) (part : List ℕ) (l : ℕ) (s : State) (after : Option ℕ) → s.limit_exceeded ≡ false → IsConst part c s.at after → const_height c ≤ l → const_steps c ≤ s.steps_left → (readers part l).constant s ≡ (c, shown (λ full. const_text c) None (const_height c) (const_steps c) after l s)
unfolding IsConst const_rule
const_complete NoConst part l s after o is h n =
    enter_const part l s NoConstForm h n is.0 ∙ rw is.1 (at_tree _ _ _ (shown_leaf s l None (codes "?")))
const_complete UntypedPlaceholder part l s after o is h n =
    enter_const part l s (UntypedPlaceholderConst is.0) h n is.1 ∙ rw is.2 (at_tree _ _ _ (shown_leaf s l (Some is.0) (codes "_")))
const_complete (Placeholder type_name) part l s after o is h n =
    enter_const part l s (PlaceholderConst type_name is.0) h n is.1 ∙ rw is.2 (at_tree _ _ _ (shown_three s l (Some is.0) (codes "_") (codes ": ") type_name))
const_complete (Value type_name value) part l s after o is h n =
    enter_const part l s (ValueConst type_name value is.0) h n is.1 ∙ rw is.2 (at_tree _ _ _ (shown_three s l (Some is.0) (value_text value) (codes ": ") type_name))
const_complete (InvalidValue negative type_name) part l s after o is h n =
    enter_const part l s (InvalidConst negative type_name) h n is.0 ∙ rw is.1 (at_tree _ _ _ (shown_three s l None (sign_text negative ++ codes "?") (codes ": ") type_name))
const_complete (BackConst c) part l s after o is h n =
    let e = entered (l - 1) s in
    enter_const part l s (BackToConst is.0 is.1) (omega arith) (omega arith) is.3 ∙ ap (back_const is.1 s.in_back_reference) (const_complete c part (l - 1) (into is.0 e) is.2 o is.4 (omega arith) (omega arith)) ∙ rw is.5 (at_tree _ _ _ (shown_back s l is.0 is.1 is.2 (λ full. const_text c) None (const_height c) (const_steps c) o))
const_complete (ConstTarget target) part l s after o is h n = absurd is

-- Steps are taken

lifetime_there : (part : List ℕ) (at last : Option ℕ) (life : Lifetime) → has_byte part 76 at ≡ true → lifetime part at ≡ (life, last) → lifetime_steps life ≡ 1
lifetime_there part at last life e is = ap (λ l. lifetime_steps l.0) (sym is) ∙ lifetime_step part at e

type_steps_some : (t : TypeTree) → 1 ≤ type_steps t
unfolding type_steps
type_steps_some NoType = omega arith
type_steps_some (Basic text) = omega arith
type_steps_some (Reference mutable life t) = omega arith
type_steps_some InvalidReferenceType = omega arith
type_steps_some (Pointer mutable t) = omega arith
type_steps_some (Slice t) = omega arith
type_steps_some (Array t c) = omega arith
type_steps_some (Tuple items) = omega arith
type_steps_some (Function signature items) = omega arith
type_steps_some (FunctionTo signature items t) = omega arith
type_steps_some (InvalidFunction binder) = omega arith
type_steps_some (Dyn binder items life) = omega arith
type_steps_some InvalidDynType = omega arith
type_steps_some (Named p) = omega arith
type_steps_some (BackType t) = omega arith
type_steps_some (TypeTarget at) = omega arith

path_steps_some : (p : PathTree) → 1 ≤ path_steps p
unfolding path_steps
path_steps_some NoPath = omega arith
path_steps_some (Crate root) = omega arith
path_steps_some (Nested namespace p l) = omega arith
path_steps_some (InvalidNested p) = omega arith
path_steps_some (OfType p t) = omega arith
path_steps_some (OfImpl p t u) = omega arith
path_steps_some (OfTrait t u) = omega arith
path_steps_some (Generic p items) = omega arith
path_steps_some (BackPath p) = omega arith
path_steps_some (PathTarget at) = omega arith

const_steps_some : (c : ConstTree) → 1 ≤ const_steps c
const_steps_some NoConst = omega arith
const_steps_some UntypedPlaceholder = omega arith
const_steps_some (Placeholder type_name) = omega arith
const_steps_some (Value type_name value) = omega arith
const_steps_some (InvalidValue negative type_name) = omega arith
const_steps_some (BackConst c) = omega arith
const_steps_some (ConstTarget at) = omega arith

item_steps_some : (part : List ℕ) (listed : Listed) (i : Item) (at : Option ℕ) (binder_depth : ℕ) (after : Option ℕ) → IsItem part listed i at binder_depth after → 1 ≤ item_steps i
unfolding IsItem item_steps
item_steps_some part Arguments (LifetimeItem life) at binder_depth after is =
    omega (arith, lifetime_there part at is.0 life is.1 is.2)
item_steps_some part Arguments (TypeItem t) at binder_depth after is = type_steps_some t
item_steps_some part Arguments (ConstItem c) at binder_depth after is = const_steps_some c
item_steps_some part Arguments (TraitItem p bindings) at binder_depth after is = absurd is
item_steps_some part Types (LifetimeItem life) at binder_depth after is = absurd is
item_steps_some part Types (TypeItem t) at binder_depth after is = type_steps_some t
item_steps_some part Types (ConstItem c) at binder_depth after is = absurd is
item_steps_some part Types (TraitItem p bindings) at binder_depth after is = absurd is
item_steps_some part Traits (LifetimeItem life) at binder_depth after is = absurd is
item_steps_some part Traits (TypeItem t) at binder_depth after is = absurd is
item_steps_some part Traits (ConstItem c) at binder_depth after is = absurd is
item_steps_some part Traits (TraitItem p bindings) at binder_depth after is = omega (arith, path_steps_some p)

-- Paths, types and lists

mutual
  unfolding IsPath path_height path_steps path_root path_text path_rule type_rule item_rule items_rule bindings_rule

  pub path_complete : (t : PathTree) (part : List ℕ) (l : ℕ) (position : Position) (binder_depth : ℕ) (s : State) (after : Option ℕ) → s.limit_exceeded ≡ false → IsPath part t s.at binder_depth after → path_height t ≤ l → path_steps t ≤ s.steps_left → (readers part l).path position binder_depth s ≡ (t, shown (λ full. path_text full t position binder_depth) (path_root t) (path_height t) (path_steps t) after l s)
  path_complete NoPath part l position binder_depth s after o is h n =
      enter_path part l position binder_depth s NoPathForm h n is.0 ∙ rw is.1 (at_tree _ _ _ (shown_leaf s l None (codes "?")))
  path_complete (Crate root) part l position binder_depth s after o is h n =
      enter_path part l position binder_depth s (CrateRoot root is.0) h n is.1 ∙ rw is.2 (at_tree _ _ _ (shown_crate s l (Some is.0) root.name (identifier_text root.name) root.disambiguator))
  path_complete (Nested namespace p identifier) part l position binder_depth s after o is h n =
      let e = entered (l - 1) s in
      enter_path part l position binder_depth s (NestedIn namespace is.0) (omega arith) (omega arith) is.3 ∙ ap (nested_rule part namespace) (path_complete p part (l - 1) (parent_position position) binder_depth (seek (Some is.0) e) is.1 o is.4 (omega arith) (omega arith)) ∙ rw (is.5, is.6) (at_tree _ _ _ (shown_then s l (Some is.0) is.1 (Some is.2) (λ full. path_text full p (parent_position position) binder_depth) (nested_text namespace identifier) (path_root p) (path_height p) (path_steps p)))
  path_complete (InvalidNested p) part l position binder_depth s after o is h n =
      let e = entered (l - 1) s in
      enter_path part l position binder_depth s (NestedIn is.0 is.1) (omega arith) (omega arith) is.3 ∙ ap (nested_rule part is.0) (path_complete p part (l - 1) (parent_position position) binder_depth (seek (Some is.1) e) is.2 o is.4 (omega arith) (omega arith)) ∙ rw (is.5, is.6) (at_tree _ _ _ (shown_then s l (Some is.1) is.2 None (λ full. path_text full p (parent_position position) binder_depth) (codes "?") (path_root p) (path_height p) (path_steps p)))
  path_complete (OfType p t) part l position binder_depth s after o is h n =
      let e = entered (l - 1) s in
      let R = readers part (l - 1) in
      let inner = set_muted true (seek (Some is.0) e) in
      let first = shown (λ full. path_text full p (parent_position position) binder_depth) (path_root p) (path_height p) (path_steps p) is.1 (l - 1) inner in
      enter_path part l position binder_depth s (InherentImpl is.0) (omega arith) (omega arith) is.2 ∙ ap (λ r. of_type_rule R binder_depth (unmuted s.muted r)) (path_complete p part (l - 1) (parent_position position) binder_depth inner is.1 o is.3 (omega arith) (omega arith)) ∙ ap (of_type_end p) (type_complete t part (l - 1) binder_depth (write (codes "<") (set_muted s.muted first)) after o is.4 (omega arith) (omega arith)) ∙ at_tree _ _ _ (shown_of_type s l (Some is.0) is.1 after (λ full. path_text full p (parent_position position) binder_depth) (codes "<") (λ full. type_text full t binder_depth) (codes ">") (path_root p) (type_root t) (path_height p) (path_steps p) (type_height t) (type_steps t))
  path_complete (OfImpl p t u) part l position binder_depth s after o is h n =
      let e = entered (l - 1) s in
      let R = readers part (l - 1) in
      let inner = set_muted true (seek (Some is.0) e) in
      let first = shown (λ full. path_text full p (parent_position position) binder_depth) (path_root p) (path_height p) (path_steps p) is.1 (l - 1) inner in
      let second = shown (λ full. type_text full t binder_depth) (type_root t) (type_height t) (type_steps t) is.2 (l - 1) (write (codes "<") (set_muted s.muted first)) in
      enter_path part l position binder_depth s (TraitImpl is.0) (omega arith) (omega arith) is.3 ∙ ap (λ r. of_impl_rule R binder_depth (unmuted s.muted r)) (path_complete p part (l - 1) (parent_position position) binder_depth inner is.1 o is.4 (omega arith) (omega arith)) ∙ ap (as_trait R binder_depth (OfImpl p)) (type_complete t part (l - 1) binder_depth (write (codes "<") (set_muted s.muted first)) is.2 o is.5 (omega arith) (omega arith)) ∙ ap (path_then (codes ">") (OfImpl p t)) (path_complete u part (l - 1) InType binder_depth (write (codes " as ") second) after o is.6 (omega arith) (omega arith)) ∙ at_tree _ _ _ (shown_of_impl s l (Some is.0) is.1 is.2 after (λ full. path_text full p (parent_position position) binder_depth) (codes "<") (λ full. type_text full t binder_depth) (codes " as ") (λ full. path_text full u InType binder_depth) (codes ">") (path_root p) (type_root t) (path_root u) (path_height p) (path_steps p) (type_height t) (type_steps t) (path_height u) (path_steps u))
  path_complete (OfTrait t u) part l position binder_depth s after o is h n =
      let e = entered (l - 1) s in
      let R = readers part (l - 1) in
      let first = shown (λ full. type_text full t binder_depth) (type_root t) (type_height t) (type_steps t) is.1 (l - 1) (write (codes "<") (seek (Some is.0) e)) in
      enter_path part l position binder_depth s (TraitDefinition is.0) (omega arith) (omega arith) is.2 ∙ ap (as_trait R binder_depth OfTrait) (type_complete t part (l - 1) binder_depth (write (codes "<") (seek (Some is.0) e)) is.1 o is.3 (omega arith) (omega arith)) ∙ ap (path_then (codes ">") (OfTrait t)) (path_complete u part (l - 1) InType binder_depth (write (codes " as ") first) after o is.4 (omega arith) (omega arith)) ∙ at_tree _ _ _ (shown_of_trait s l (Some is.0) is.1 after (codes "<") (λ full. type_text full t binder_depth) (codes " as ") (λ full. path_text full u InType binder_depth) (codes ">") (type_root t) (path_root u) (type_height t) (type_steps t) (path_height u) (path_steps u))
  path_complete (Generic p items) part l position binder_depth s after o is h n =
      let e = entered (l - 1) s in
      let R = readers part (l - 1) in
      let first = shown (λ full. path_text full p (parent_position position) binder_depth) (path_root p) (path_height p) (path_steps p) is.1 (l - 1) (seek (Some is.0) e) in
      let second = write (codes "<") (write (value_mark position) first) in
      enter_path part l position binder_depth s (WithArguments is.0) (omega arith) (omega arith) is.2 ∙ ap (generic_rule part R position binder_depth) (path_complete p part (l - 1) (parent_position position) binder_depth (seek (Some is.0) e) is.1 o is.3 (omega arith) (omega arith)) ∙ ap (generic_end position p) (items_complete items part (l - 1) binder_depth Arguments (codes ", ") (suc second.steps_left) true second after o is.4 (omega arith) (omega arith) (omega arith) (omega arith)) ∙ at_tree _ _ _ (shown_generic s l (Some is.0) is.1 after (λ full. path_text full p (parent_position position) binder_depth) (value_mark position) (codes "<") (λ full. items_text full items (codes ", ") true binder_depth) (closing position) (path_root p) (items_root items) (path_height p) (path_steps p) (items_height items) (items_steps items))
  path_complete (BackPath p) part l position binder_depth s after o is h n =
      let e = entered (l - 1) s in
      enter_path part l position binder_depth s (BackToPath is.0 is.1) (omega arith) (omega arith) is.3 ∙ ap (back_path is.1 s.in_back_reference) (path_complete p part (l - 1) position binder_depth (into is.0 e) is.2 o is.4 (omega arith) (omega arith)) ∙ rw is.5 (at_tree _ _ _ (shown_back s l is.0 is.1 is.2 (λ full. path_text full p position binder_depth) (path_root p) (path_height p) (path_steps p) o))
  path_complete (PathTarget target) part l position binder_depth s after o is h n = absurd is

  pub type_complete : (t : TypeTree) (part : List ℕ) (l binder_depth : ℕ) (s : State) (after : Option ℕ) → s.limit_exceeded ≡ false → IsType part t s.at binder_depth after → type_height t ≤ l → type_steps t ≤ s.steps_left → (readers part l).ty binder_depth s ≡ (t, shown (λ full. type_text full t binder_depth) (type_root t) (type_height t) (type_steps t) after l s)
  type_complete NoType part l binder_depth s after o is h n =
      enter_type part l binder_depth s NoTypeForm h n is.0 ∙ rw is.1 (at_tree _ _ _ (shown_leaf s l None (codes "?")))
  type_complete (Basic text) part l binder_depth s after o is h n =
      enter_type part l binder_depth s (BasicType text is.0) h n is.1 ∙ rw is.2 (at_tree _ _ _ (shown_leaf s l (Some is.0) text))
  type_complete (Reference mutable life t) part l binder_depth s after o is h n =
      let e = entered (l - 1) s in
      let R = readers part (l - 1) in
      let at = bound_end binder_depth life (Some is.0) in
      let start = write (mutable_text mutable (codes "mut ") []) (write (reference_lifetime binder_depth life) (write (codes "&") (seek at (take (lifetime_steps life) e)))) in
      enter_type part l binder_depth s (ReferenceTo mutable life is.0) (omega arith) (omega arith) is.1 ∙ took (lifetime_steps life) NoType e (reference_rule R binder_depth mutable life is.0) (omega arith) ∙ ap (type_as (Reference mutable life)) (type_complete t part (l - 1) binder_depth start after o is.2 (omega arith) (omega arith)) ∙ at_tree _ _ _ (shown_reference s l (lifetime_steps life) at after (codes "&") (reference_lifetime binder_depth life) (mutable_text mutable (codes "mut ") []) (λ full. type_text full t binder_depth) (type_root t) (type_height t) (type_steps t))
  type_complete InvalidReferenceType part l binder_depth s after o is h n =
      enter_type part l binder_depth s InvalidReference h (omega arith) is.0 ∙ took 1 NoType (entered (l - 1) s) invalid_reference (omega arith) ∙ rw is.1 (at_tree _ _ _ (shown_steps s l 1 (codes "&?")))
  type_complete (Pointer mutable t) part l binder_depth s after o is h n =
      let e = entered (l - 1) s in
      let mark = mutable_text mutable (codes "*mut ") (codes "*const ") in
      enter_type part l binder_depth s (PointerTo mutable is.0) (omega arith) (omega arith) is.1 ∙ ap (type_as (Pointer mutable)) (type_complete t part (l - 1) binder_depth (write mark (seek (Some is.0) e)) after o is.2 (omega arith) (omega arith)) ∙ at_tree _ _ _ (shown_after s l (Some is.0) after mark (λ full. type_text full t binder_depth) (type_root t) (type_height t) (type_steps t))
  type_complete (Slice t) part l binder_depth s after o is h n =
      let e = entered (l - 1) s in
      enter_type part l binder_depth s (SliceOf is.0) (omega arith) (omega arith) is.1 ∙ ap (type_then (codes "]") Slice) (type_complete t part (l - 1) binder_depth (write (codes "[") (seek (Some is.0) e)) after o is.2 (omega arith) (omega arith)) ∙ at_tree _ _ _ (shown_between s l (Some is.0) after (codes "[") (λ full. type_text full t binder_depth) (codes "]") (type_root t) (type_height t) (type_steps t))
  type_complete (Array t c) part l binder_depth s after o is h n =
      let e = entered (l - 1) s in
      let R = readers part (l - 1) in
      let first = shown (λ full. type_text full t binder_depth) (type_root t) (type_height t) (type_steps t) is.1 (l - 1) (write (codes "[") (seek (Some is.0) e)) in
      enter_type part l binder_depth s (ArrayOf is.0) (omega arith) (omega arith) is.2 ∙ ap (array_rule R) (type_complete t part (l - 1) binder_depth (write (codes "[") (seek (Some is.0) e)) is.1 o is.3 (omega arith) (omega arith)) ∙ ap (array_end t) (const_complete c part (l - 1) (write (codes "; ") first) after o is.4 (omega arith) (omega arith)) ∙ at_tree _ _ _ (shown_array s l (Some is.0) is.1 after (codes "[") (λ full. type_text full t binder_depth) (codes "; ") (λ full. const_text c) (codes "]") (type_root t) (type_height t) (type_steps t) (const_height c) (const_steps c))
  type_complete (Tuple items) part l binder_depth s after o is h n =
      let e = entered (l - 1) s in
      let start = write (codes "(") (seek (Some is.0) e) in
      enter_type part l binder_depth s (TupleOf is.0) (omega arith) (omega arith) is.1 ∙ ap tuple_end (items_complete items part (l - 1) binder_depth Types (codes ", ") (suc start.steps_left) true start after o is.2 (omega arith) (omega arith) (omega arith) (omega arith)) ∙ at_tree _ _ _ (shown_tuple s l (Some is.0) after (codes "(") (λ full. items_text full items (codes ", ") true binder_depth) (single_mark items) (codes ")") (items_root items) (items_height items) (items_steps items))
  type_complete (Function signature items) part l binder_depth s after o is h n =
      let e = entered (l - 1) s in
      let R = readers part (l - 1) in
      let inner = binder_depth + signature.binder in
      let start = write (signature_text signature) (write (binder_text binder_depth signature.binder) (seek (Some is.0) (take signature.binder e))) in
      let first = shown (λ full. items_text full items (codes ", ") true inner) (items_root items) (items_height items) (items_steps items) is.1 (l - 1) start in
      enter_type part l binder_depth s (FunctionOf signature is.0) (omega arith) (omega arith) is.2 ∙ took signature.binder NoType e (function_rule part R binder_depth signature is.0) (omega arith) ∙ ap (function_end part R inner signature) (items_complete items part (l - 1) inner Types (codes ", ") (suc start.steps_left) true start is.1 o is.3 (omega arith) (omega arith) (omega arith) (omega arith)) ∙ ap (returned part R inner signature items (write (codes ")") first)) is.4 ∙ rw is.5 (at_tree _ _ _ (shown_function s l signature.binder (Some is.0) is.1 (after_byte is.1) (binder_text binder_depth signature.binder) (signature_text signature) (λ full. items_text full items (codes ", ") true inner) (codes ")") (items_root items) (items_height items) (items_steps items)))
  type_complete (FunctionTo signature items t) part l binder_depth s after o is h n =
      let e = entered (l - 1) s in
      let R = readers part (l - 1) in
      let inner = binder_depth + signature.binder in
      let start = write (signature_text signature) (write (binder_text binder_depth signature.binder) (seek (Some is.0) (take signature.binder e))) in
      let first = shown (λ full. items_text full items (codes ", ") true inner) (items_root items) (items_height items) (items_steps items) is.1 (l - 1) start in
      enter_type part l binder_depth s (FunctionOf signature is.0) (omega arith) (omega arith) is.2 ∙ took signature.binder NoType e (function_rule part R binder_depth signature is.0) (omega arith) ∙ ap (function_end part R inner signature) (items_complete items part (l - 1) inner Types (codes ", ") (suc start.steps_left) true start is.1 o is.3 (omega arith) (omega arith) (omega arith) (omega arith)) ∙ ap (returned part R inner signature items (write (codes ")") first)) is.4 ∙ ap (type_as (FunctionTo signature items)) (type_complete t part (l - 1) inner (write (codes " -> ") (write (codes ")") first)) after o is.5 (omega arith) (omega arith)) ∙ at_tree _ _ _ (shown_function_to s l signature.binder (Some is.0) is.1 after (binder_text binder_depth signature.binder) (signature_text signature) (λ full. items_text full items (codes ", ") true inner) (codes ")") (codes " -> ") (λ full. type_text full t inner) (items_root items) (type_root t) (items_height items) (items_steps items) (type_height t) (type_steps t))
  type_complete (InvalidFunction binder) part l binder_depth s after o is h n =
      enter_type part l binder_depth s (InvalidAbi binder) h (omega arith) is.0 ∙ took binder NoType (entered (l - 1) s) (invalid_function binder_depth binder) (omega arith) ∙ rw is.1 (at_tree _ _ _ (shown_steps_invalid s l binder (binder_text binder_depth binder)))
  type_complete (Dyn binder items life) part l binder_depth s after o is h n =
      let e = entered (l - 1) s in
      let R = readers part (l - 1) in
      let inner = binder_depth + binder in
      let start = write (binder_text binder_depth binder) (write (codes "dyn ") (seek (Some is.0) (take binder e))) in
      let first = shown (λ full. items_text full items (codes " + ") true inner) (items_root items) (items_height items) (items_steps items) is.1 (l - 1) start in
      enter_type part l binder_depth s (DynOf binder is.0) (omega arith) (omega arith) is.3 ∙ took binder NoType e (dyn_rule part R binder_depth binder is.0) (omega arith) ∙ ap (dyn_end part binder_depth binder) (items_complete items part (l - 1) inner Traits (codes " + ") (suc start.steps_left) true start is.1 o is.4 (omega arith) (omega arith) (omega arith) (omega arith)) ∙ ap (λ x. dyn_life binder_depth binder items x first) is.5 ∙ took (lifetime_steps life) NoType first (dyn_lifetime_rule binder_depth binder items (life, is.2)) (omega arith) ∙ rw is.6 (at_tree _ _ _ (shown_dyn s l binder (lifetime_steps life) (Some is.0) is.1 (required_end binder_depth life is.2) (codes "dyn ") (binder_text binder_depth binder) (λ full. items_text full items (codes " + ") true inner) (dyn_lifetime binder_depth life) (items_root items) (items_height items) (items_steps items)))
  type_complete InvalidDynType part l binder_depth s after o is h n =
      enter_type part l binder_depth s InvalidDyn h n is.0 ∙ rw is.1 (at_tree _ _ _ (shown_leaf s l None (codes "dyn ??")))
  type_complete (Named p) part l binder_depth s after o is h n =
      enter_type part l binder_depth s PathType (omega arith) (omega arith) is.0 ∙ ap named_type (path_complete p part (l - 1) InType binder_depth (entered (l - 1) s) after o is.1 (omega arith) (omega arith)) ∙ at_tree _ _ _ (shown_named s l after (λ full. path_text full p InType binder_depth) (path_root p) (path_height p) (path_steps p))
  type_complete (BackType t) part l binder_depth s after o is h n =
      let e = entered (l - 1) s in
      enter_type part l binder_depth s (BackToType is.0 is.1) (omega arith) (omega arith) is.3 ∙ ap (back_type is.1 s.in_back_reference) (type_complete t part (l - 1) binder_depth (into is.0 e) is.2 o is.4 (omega arith) (omega arith)) ∙ rw is.5 (at_tree _ _ _ (shown_back s l is.0 is.1 is.2 (λ full. type_text full t binder_depth) (type_root t) (type_height t) (type_steps t) o))
  type_complete (TypeTarget target) part l binder_depth s after o is h n = absurd is

  pub item_complete : (i : Item) (part : List ℕ) (l binder_depth : ℕ) (listed : Listed) (s : State) (after : Option ℕ) → s.limit_exceeded ≡ false → IsItem part listed i s.at binder_depth after → item_height i ≤ l → item_steps i ≤ s.steps_left → s.least_levels_left ≤ l → item_rule part (readers part l) binder_depth listed s ≡ (i, shown (λ full. item_text full i binder_depth) (item_root i) (item_height i) (item_steps i) after l s)
  item_complete (LifetimeItem life) part l binder_depth Arguments s after o is h n b =
      let one = lifetime_there part s.at is.0 life is.1 is.2 in
      ap (λ x. argument_rule part (readers part l) binder_depth s x (has_byte part 75 s.at)) is.1 ∙ took 1 (LifetimeItem NoLifetime) s (lifetime_item binder_depth (lifetime part s.at)) (omega arith) ∙ rw (is.2, is.3) (at_tree _ _ _ (shown_lifetime s l (lifetime_steps life) (required_end binder_depth life is.0) (argument_lifetime binder_depth life) b one))
  item_complete (LifetimeItem life) part l binder_depth Types s after o is h n b = absurd is
  item_complete (LifetimeItem life) part l binder_depth Traits s after o is h n b = absurd is
  item_complete (TypeItem t) part l binder_depth Arguments s after o is h n b =
      ap (λ x. argument_rule part (readers part l) binder_depth s x (has_byte part 75 s.at)) is.0 ∙ ap (argument_rule part (readers part l) binder_depth s false) is.1 ∙ ap type_item (type_complete t part l binder_depth s after o is.2 h n)
  item_complete (TypeItem t) part l binder_depth Types s after o is h n b =
      ap type_item (type_complete t part l binder_depth s after o is h n)
  item_complete (TypeItem t) part l binder_depth Traits s after o is h n b = absurd is
  item_complete (ConstItem c) part l binder_depth Arguments s after o is h n b =
      ap (λ x. argument_rule part (readers part l) binder_depth s x (has_byte part 75 s.at)) is.0 ∙ ap (argument_rule part (readers part l) binder_depth s false) is.1 ∙ ap const_item (const_complete c part l (seek (after_byte s.at) s) after o is.2 h n)
  item_complete (ConstItem c) part l binder_depth Types s after o is h n b = absurd is
  item_complete (ConstItem c) part l binder_depth Traits s after o is h n b = absurd is
  item_complete (TraitItem p bindings) part l binder_depth Arguments s after o is h n b = absurd is
  item_complete (TraitItem p bindings) part l binder_depth Types s after o is h n b = absurd is
  item_complete (TraitItem p bindings) part l binder_depth Traits s after o is h n b =
      let R = readers part l in
      let first = shown (λ full. path_text full p OpenTrait binder_depth) (path_root p) (path_height p) (path_steps p) is.0 l s in
      ap (trait_rule part R binder_depth) (path_complete p part l OpenTrait binder_depth s is.0 o is.1 (omega arith) (omega arith)) ∙ ap (trait_item p) (bindings_complete bindings part l binder_depth (suc first.steps_left) (is_left_open p OpenTrait) first after o is.2 (omega arith) (omega arith) (omega arith) (omega arith)) ∙ at_tree _ _ _ (shown_trait s l is.0 after (λ full. path_text full p OpenTrait binder_depth) (λ full. bindings_text full bindings (is_left_open p OpenTrait) binder_depth) (path_root p) (bindings_root bindings) (path_height p) (path_steps p) (bindings_height bindings) (bindings_steps bindings))

  pub items_complete : (items : Items) (part : List ℕ) (l binder_depth : ℕ) (listed : Listed) (between : List ℕ) (fuel : ℕ) (is_first : Bool) (s : State) (after : Option ℕ) → s.limit_exceeded ≡ false → AreItems part listed items s.at binder_depth after → items_height items ≤ l → items_steps items ≤ s.steps_left → items_steps items < fuel → s.least_levels_left ≤ l → items_rule part (readers part l) binder_depth listed between fuel is_first s ≡ (items, shown (λ full. items_text full items between is_first binder_depth) (items_root items) (items_height items) (items_steps items) after l s)
  items_complete NoItems part l binder_depth listed between zero is_first s after o is h n f b = absurd (omega arith)
  items_complete NoItems part l binder_depth listed between (suc fuel) is_first s after o is h n f b =
      let R = readers part l in
      ap (list_rule part R binder_depth listed between (items_rule part R binder_depth listed between fuel false) is_first s) is.0 ∙ rw is.1 (at_tree _ _ _ (shown_end s l (after_byte s.at) b))
  items_complete (ItemThen i items) part l binder_depth listed between zero is_first s after o is h n f b =
      absurd (omega arith)
  items_complete (ItemThen i items) part l binder_depth listed between (suc fuel) is_first s after o is h n f b =
      let R = readers part l in
      let start = write (separator is_first between) s in
      let first = shown (λ full. item_text full i binder_depth) (item_root i) (item_height i) (item_steps i) is.0 l start in
      let some = item_steps_some part listed i s.at binder_depth is.0 is.2 in
      ap (list_rule part R binder_depth listed between (items_rule part R binder_depth listed between fuel false) is_first s) is.1 ∙ ap (items_after (items_rule part R binder_depth listed between fuel false)) (item_complete i part l binder_depth listed start is.0 o is.2 (omega arith) (omega arith) b) ∙ ap (item_then i) (items_complete items part l binder_depth listed between fuel false first after o is.3 (omega arith) (omega arith) (omega arith) (omega arith)) ∙ at_tree _ _ _ (shown_items s l is.0 after (separator is_first between) (λ full. item_text full i binder_depth) (λ full. items_text full items between false binder_depth) (item_root i) (items_root items) (item_height i) (item_steps i) (items_height items) (items_steps items))

  pub bindings_complete : (bindings : Bindings) (part : List ℕ) (l binder_depth fuel : ℕ) (is_open : Bool) (s : State) (after : Option ℕ) → s.limit_exceeded ≡ false → AreBindings part bindings s.at binder_depth after → bindings_height bindings ≤ l → bindings_steps bindings ≤ s.steps_left → bindings_steps bindings < fuel → s.least_levels_left ≤ l → bindings_rule part (readers part l) binder_depth fuel is_open s ≡ (bindings, shown (λ full. bindings_text full bindings is_open binder_depth) (bindings_root bindings) (bindings_height bindings) (bindings_steps bindings) after l s)
  bindings_complete NoBindings part l binder_depth zero is_open s after o is h n f b = absurd (omega arith)
  bindings_complete NoBindings part l binder_depth (suc fuel) is_open s after o is h n f b =
      let R = readers part l in
      ap (binding_rule part R binder_depth (bindings_rule part R binder_depth fuel) is_open s) is.0 ∙ rw is.1 (at_tree _ _ _ (shown_bindings_end s l (close_mark is_open) b))
  bindings_complete InvalidBinding part l binder_depth zero is_open s after o is h n f b = absurd (omega arith)
  bindings_complete InvalidBinding part l binder_depth (suc fuel) is_open s after o is h n f b =
      let R = readers part l in
      ap (binding_rule part R binder_depth (bindings_rule part R binder_depth fuel) is_open s) is.0 ∙ ap (named_binding R binder_depth (bindings_rule part R binder_depth fuel) is_open s) is.1 ∙ rw is.2 (at_tree _ _ _ (shown_bindings_invalid s l (open_mark is_open) b))
  bindings_complete (Binding i t bindings) part l binder_depth zero is_open s after o is h n f b = absurd (omega arith)
  bindings_complete (Binding i t bindings) part l binder_depth (suc fuel) is_open s after o is h n f b =
      let R = readers part l in
      let start = write (codes " = ") (write (identifier_text i) (seek (Some is.0) (write (open_mark is_open) s))) in
      let first = shown (λ full. type_text full t binder_depth) (type_root t) (type_height t) (type_steps t) is.1 l start in
      let some = type_steps_some t in
      ap (binding_rule part R binder_depth (bindings_rule part R binder_depth fuel) is_open s) is.2 ∙ ap (named_binding R binder_depth (bindings_rule part R binder_depth fuel) is_open s) is.3 ∙ ap (bound_type (bindings_rule part R binder_depth fuel) i) (type_complete t part l binder_depth start is.1 o is.4 (omega arith) (omega arith)) ∙ ap (binding_then i t) (bindings_complete bindings part l binder_depth fuel true first after o is.5 (omega arith) (omega arith) (omega arith) (omega arith)) ∙ at_tree _ _ _ (shown_binding s l (Some is.0) is.1 after (open_mark is_open) (identifier_text i) (codes " = ") (λ full. type_text full t binder_depth) (λ full. bindings_text full bindings true binder_depth) (type_root t) (bindings_root bindings) (type_height t) (type_steps t) (bindings_height bindings) (bindings_steps bindings))
