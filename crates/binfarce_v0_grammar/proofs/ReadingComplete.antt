-- Whatever the relation relates within the levels is read.
use Rattle.std.proofs.Common.{◌≡◌, ℕ, zero, suc, ◌+◌, ◌-◌, ◌≤◌, ◌<◌, Bool, true, false, List, Option, Some, None, if◌then◌else◌, length, refl, ap, sym, ◌∙◌, arith}
use Rattle.std.proofs.lemmas.Bool.Decides.{nat_tests}
use Rattle.std.proofs.lemmas.List.{get_or_past}
use Rattle.binfarce_text.specs.Steps.{◌>>=◌}
use Rattle.binfarce_v0_grammar.specs.Identifiers.{identifier}
use Rattle.binfarce_v0_grammar.specs.Forms.{has_byte, path_form, type_form, const_form}
use Rattle.binfarce_v0_grammar.specs.Tree.{PathTree, TypeTree, ConstTree, Item, Items, Bindings, NoConst, UntypedPlaceholder, Placeholder, Value, InvalidValue, BackConst, ConstTarget, NoPath, Crate, Nested, InvalidNested, OfType, OfImpl, OfTrait, Generic, BackPath, PathTarget, NoType, Basic, Reference, InvalidReferenceType, Pointer, Slice, Array, Tuple, Function, FunctionTo, InvalidFunction, Dyn, InvalidDynType, Named, BackType, TypeTarget, LifetimeItem, TypeItem, ConstItem, TraitItem, NoItems, ItemThen, NoBindings, Binding, InvalidBinding, path_height, type_height, const_height, item_height, items_height, bindings_height, Listed, Arguments, Types, Traits}
use Rattle.binfarce_v0_grammar.specs.Reading.{ReadsConst, ReadsPath, ReadsType, ReadsItem, ReadsItems, ReadsBindings}
use Rattle.binfarce_v0_grammar.specs.machine.Ends.{const_end, identifier_end, bound_from, bindings_end, item_end, items_end, type_end, path_end, ends}
use Rattle.binfarce_v0_grammar.proofs.ReadingForward.{item_forward, bound_forward}

pub suc-one : (l : ℕ) → suc l - 1 ≡ l
suc-one l = omega arith

pub path_end_at : (part : List ℕ) (l at : ℕ) → 1 ≤ l → (ends part l).path at ≡ path_end part (ends part (l - 1)) (path_form part (Some at))
unfolding ends
path_end_at part zero at h = absurd (omega arith)
path_end_at part (suc l) at h = rw (suc-one l) refl

pub type_end_at : (part : List ℕ) (l at : ℕ) → 1 ≤ l → (ends part l).ty at ≡ type_end part (ends part (l - 1)) at (type_form part (Some at))
unfolding ends
type_end_at part zero at h = absurd (omega arith)
type_end_at part (suc l) at h = rw (suc-one l) refl

pub const_end_at : (part : List ℕ) (l at : ℕ) → 1 ≤ l → (ends part l).constant at ≡ const_end (const_form part (Some at))
unfolding ends
const_end_at part zero at h = absurd (omega arith)
const_end_at part (suc l) at h = refl

pub path_end_none : (part : List ℕ) (l at : ℕ) → l ≡ 0 → (ends part l).path at ≡ None
unfolding ends
path_end_none part l at h = rw h refl

pub type_end_none : (part : List ℕ) (l at : ℕ) → l ≡ 0 → (ends part l).ty at ≡ None
unfolding ends
type_end_none part l at h = rw h refl

pub const_end_none : (part : List ℕ) (l at : ℕ) → l ≡ 0 → (ends part l).constant at ≡ None
unfolding ends
const_end_none part l at h = rw h refl

-- a byte at a position is one of the part
pub within : (part : List ℕ) (byte at : ℕ) → has_byte part (suc byte) (Some at) ≡ true → at < length part
within part byte at e = grind (arith, nat_tests, get_or_past)

pub if_so : {T : Type 0} (b : Bool) (x y : T) → b ≡ true → (if b then x else y) ≡ x
if_so b x y e = rw e refl

pub if_not : {T : Type 0} (b : Bool) (x y : T) → b ≡ false → (if b then x else y) ≡ y
if_not b x y e = rw e refl

pub then_is : {A : Type 0} (o : Option A) (f : A → Option ℕ) (a : A) → o ≡ Some a → (o >>= f) ≡ f a
then_is o f a e = rw e refl

pub const_ends : (c : ConstTree) (part : List ℕ) (l at after : ℕ) → ReadsConst part c at after → const_height c ≤ l → (ends part l).constant at ≡ Some after
unfolding ReadsConst const_end
const_ends NoConst part l at after r h = absurd r
const_ends UntypedPlaceholder part l at after r h = const_end_at part l at h ∙ ap const_end r
const_ends (Placeholder type_name) part l at after r h = const_end_at part l at h ∙ ap const_end r
const_ends (Value type_name value) part l at after r h = const_end_at part l at h ∙ ap const_end r
const_ends (InvalidValue negative type_name) part l at after r h = absurd r
const_ends (BackConst c) part l at after r h = absurd r
const_ends (ConstTarget target) part l at after r h = const_end_at part l at h ∙ ap const_end r

-- a list begins within the part
pub items_within : (items : Items) (part : List ℕ) (listed : Listed) (at after : ℕ) → ReadsItems part listed items at after → at < length part
unfolding ReadsItems
items_within NoItems part listed at after r = within part 68 at r.0
items_within (ItemThen i items) part listed at after r =
    omega (arith, item_forward i part listed at r.0 r.2, items_within items part listed r.0 after r.3)

mutual
  unfolding ReadsPath path_height path_end type_end item_end items_end bindings_end

  pub path_ends : (t : PathTree) (part : List ℕ) (l at after : ℕ) → ReadsPath part t at after → path_height t ≤ l → (ends part l).path at ≡ Some after
  path_ends NoPath part l at after r h = absurd r
  path_ends (Crate root) part l at after r h = path_end_at part l at h ∙ ap (path_end part (ends part (l - 1))) r
  path_ends (Nested namespace p identifier) part l at after r h =
      path_end_at part l at (omega arith) ∙ ap (path_end part (ends part (l - 1))) r.2 ∙ then_is _ _ r.1 (path_ends p part (l - 1) r.0 r.1 r.3 (omega arith)) ∙ ap identifier_end r.4
  path_ends (InvalidNested p) part l at after r h = absurd r
  path_ends (OfType p t) part l at after r h =
      path_end_at part l at (omega arith) ∙ ap (path_end part (ends part (l - 1))) r.2 ∙ then_is _ _ r.1 (path_ends p part (l - 1) r.0 r.1 r.3 (omega arith)) ∙ type_ends t part (l - 1) r.1 after r.4 (omega arith)
  path_ends (OfImpl p t u) part l at after r h =
      path_end_at part l at (omega arith) ∙ ap (path_end part (ends part (l - 1))) r.3 ∙ then_is _ _ r.1 (path_ends p part (l - 1) r.0 r.1 r.4 (omega arith)) ∙ then_is _ _ r.2 (type_ends t part (l - 1) r.1 r.2 r.5 (omega arith)) ∙ path_ends u part (l - 1) r.2 after r.6 (omega arith)
  path_ends (OfTrait t u) part l at after r h =
      path_end_at part l at (omega arith) ∙ ap (path_end part (ends part (l - 1))) r.2 ∙ then_is _ _ r.1 (type_ends t part (l - 1) r.0 r.1 r.3 (omega arith)) ∙ path_ends u part (l - 1) r.1 after r.4 (omega arith)
  path_ends (Generic p items) part l at after r h =
      path_end_at part l at (omega arith) ∙ ap (path_end part (ends part (l - 1))) r.2 ∙ then_is _ _ r.1 (path_ends p part (l - 1) r.0 r.1 r.3 (omega arith)) ∙ items_ends items part (l - 1) Arguments (suc (length part)) r.1 after r.4 (omega arith) (omega arith)
  path_ends (BackPath p) part l at after r h = absurd r
  path_ends (PathTarget target) part l at after r h =
      path_end_at part l at h ∙ ap (path_end part (ends part (l - 1))) r

  pub type_ends : (t : TypeTree) (part : List ℕ) (l at after : ℕ) → ReadsType part t at after → type_height t ≤ l → (ends part l).ty at ≡ Some after
  type_ends NoType part l at after r h = absurd r
  type_ends (Basic text) part l at after r h = type_end_at part l at h ∙ ap (type_end part (ends part (l - 1)) at) r
  type_ends (Reference mutable life t) part l at after r h =
      type_end_at part l at (omega arith) ∙ ap (type_end part (ends part (l - 1)) at) r.1 ∙ type_ends t part (l - 1) r.0 after r.2 (omega arith)
  type_ends InvalidReferenceType part l at after r h = absurd r
  type_ends (Pointer mutable t) part l at after r h =
      type_end_at part l at (omega arith) ∙ ap (type_end part (ends part (l - 1)) at) r.1 ∙ type_ends t part (l - 1) r.0 after r.2 (omega arith)
  type_ends (Slice t) part l at after r h =
      type_end_at part l at (omega arith) ∙ ap (type_end part (ends part (l - 1)) at) r.1 ∙ type_ends t part (l - 1) r.0 after r.2 (omega arith)
  type_ends (Array t c) part l at after r h =
      type_end_at part l at (omega arith) ∙ ap (type_end part (ends part (l - 1)) at) r.2 ∙ then_is _ _ r.1 (type_ends t part (l - 1) r.0 r.1 r.3 (omega arith)) ∙ const_ends c part (l - 1) r.1 after r.4 (omega arith)
  type_ends (Tuple items) part l at after r h =
      type_end_at part l at (omega arith) ∙ ap (type_end part (ends part (l - 1)) at) r.1 ∙ items_ends items part (l - 1) Types (suc (length part)) r.0 after r.2 (omega arith) (omega arith)
  type_ends (Function signature items) part l at after r h =
      type_end_at part l at (omega arith) ∙ ap (type_end part (ends part (l - 1)) at) r.2 ∙ then_is _ _ r.1 (items_ends items part (l - 1) Types (suc (length part)) r.0 r.1 r.3 (omega arith) (omega arith)) ∙ if_so _ _ _ r.4 ∙ ap Some (sym r.5)
  type_ends (FunctionTo signature items t) part l at after r h =
      type_end_at part l at (omega arith) ∙ ap (type_end part (ends part (l - 1)) at) r.2 ∙ then_is _ _ r.1 (items_ends items part (l - 1) Types (suc (length part)) r.0 r.1 r.3 (omega arith) (omega arith)) ∙ if_not _ _ _ r.4 ∙ type_ends t part (l - 1) r.1 after r.5 (omega arith)
  type_ends (InvalidFunction binder) part l at after r h = absurd r
  type_ends (Dyn binder items life) part l at after r h =
      type_end_at part l at (omega arith) ∙ ap (type_end part (ends part (l - 1)) at) r.2 ∙ then_is _ _ r.1 (items_ends items part (l - 1) Traits (suc (length part)) r.0 r.1 r.3 (omega arith) (omega arith)) ∙ if_so _ _ _ r.4 ∙ ap (λ x. x.1) r.5
  type_ends InvalidDynType part l at after r h = absurd r
  type_ends (Named p) part l at after r h =
      type_end_at part l at (omega arith) ∙ ap (type_end part (ends part (l - 1)) at) r.0 ∙ path_ends p part (l - 1) at after r.1 (omega arith)
  type_ends (BackType t) part l at after r h = absurd r
  type_ends (TypeTarget target) part l at after r h = type_end_at part l at h ∙ ap (type_end part (ends part (l - 1)) at) r

  pub item_ends : (i : Item) (part : List ℕ) (l : ℕ) (listed : Listed) (at after : ℕ) → ReadsItem part listed i at after → item_height i ≤ l → item_end part (ends part l) listed at ≡ Some after
  item_ends (LifetimeItem life) part l Arguments at after r h = if_so _ _ _ r.0 ∙ ap (λ x. x.1) r.1
  item_ends (LifetimeItem life) part l Types at after r h = absurd r
  item_ends (LifetimeItem life) part l Traits at after r h = absurd r
  item_ends (TypeItem t) part l Arguments at after r h =
      if_not _ _ _ r.0 ∙ if_not _ _ _ r.1 ∙ type_ends t part l at after r.2 h
  item_ends (TypeItem t) part l Types at after r h = type_ends t part l at after r h
  item_ends (TypeItem t) part l Traits at after r h = absurd r
  item_ends (ConstItem c) part l Arguments at after r h =
      if_not _ _ _ r.0 ∙ if_so _ _ _ r.1 ∙ const_ends c part l (at + 1) after r.2 h
  item_ends (ConstItem c) part l Types at after r h = absurd r
  item_ends (ConstItem c) part l Traits at after r h = absurd r
  item_ends (TraitItem p bound) part l Arguments at after r h = absurd r
  item_ends (TraitItem p bound) part l Types at after r h = absurd r
  item_ends (TraitItem p bound) part l Traits at after r h =
      then_is _ _ r.0 (path_ends p part l at r.0 r.1 (omega arith)) ∙ bindings_ends bound part l (suc (length part)) r.0 after r.2 (omega arith) (omega arith)

  pub items_ends : (items : Items) (part : List ℕ) (l : ℕ) (listed : Listed) (n at after : ℕ) → ReadsItems part listed items at after → items_height items ≤ l → length part - at < n → items_end part (ends part l) listed n at ≡ Some after
  items_ends NoItems part l listed zero at after r h f = absurd (omega arith)
  items_ends NoItems part l listed (suc n) at after r h f = if_so _ _ _ r.0 ∙ ap Some (sym r.1)
  items_ends (ItemThen i items) part l listed zero at after r h f = absurd (omega arith)
  items_ends (ItemThen i items) part l listed (suc n) at after r h f =
      let below = items_within items part listed r.0 after r.3 in
      let forward = item_forward i part listed at r.0 r.2 in
      if_not _ _ _ r.1 ∙ then_is _ _ r.0 (item_ends i part l listed at r.0 r.2 (omega arith)) ∙ items_ends items part l listed n r.0 after r.3 (omega arith) (omega arith)

  pub bindings_ends : (bindings : Bindings) (part : List ℕ) (l n at after : ℕ) → ReadsBindings part bindings at after → bindings_height bindings ≤ l → length part - at < n → bindings_end part (ends part l) n at ≡ Some after
  bindings_ends NoBindings part l zero at after r h f = absurd (omega arith)
  bindings_ends NoBindings part l (suc n) at after r h f = if_not _ _ _ r.0 ∙ ap Some (sym r.1)
  bindings_ends (Binding i t more) part l zero at after r h f = absurd (omega arith)
  bindings_ends (Binding i t more) part l (suc n) at after r h f =
      let here = within part 111 at r.2 in
      let forward = bound_forward i t part at r.0 r.1 r.3 r.4 in
      if_so _ _ _ r.2 ∙ ap (bound_from (ends part l) (bindings_end part (ends part l) n)) r.3 ∙ then_is _ _ r.1 (type_ends t part l r.0 r.1 r.4 (omega arith)) ∙ bindings_ends more part l n r.1 after r.5 (omega arith) (omega arith)
  bindings_ends InvalidBinding part l n at after r h f = absurd r
