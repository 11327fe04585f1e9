-- A position reads to one tree: a reading that makes the tree finds each tree that the relation relates.
use Rattle.std.proofs.Common.{◌≡◌, ℕ, zero, suc, ◌+◌, ◌-◌, ◌≤◌, ◌<◌, List, Option, Some, None, max, if◌then◌else◌, length, refl, ap, sym, ◌∙◌, arith}
use Rattle.binfarce_text.specs.Steps.{◌>>=◌}
use Rattle.binfarce_v0_grammar.specs.Identifiers.{identifier, undisambiguated_identifier}
use Rattle.binfarce_v0_grammar.specs.Forms.{has_byte, lifetime, path_form, type_form, const_form, PathForm, NoPathForm, CrateRoot, NestedIn, InherentImpl, TraitImpl, TraitDefinition, WithArguments, BackToPath, TypeForm, NoTypeForm, BasicType, ReferenceTo, InvalidReference, PointerTo, SliceOf, ArrayOf, TupleOf, FunctionOf, InvalidAbi, DynOf, InvalidDyn, BackToType, PathType, ConstForm, NoConstForm, UntypedPlaceholderConst, PlaceholderConst, ValueConst, InvalidConst, BackToConst}
use Rattle.binfarce_v0_grammar.specs.Tree.{PathTree, TypeTree, ConstTree, Item, Items, Bindings, NoConst, UntypedPlaceholder, Placeholder, Value, InvalidValue, BackConst, ConstTarget, NoPath, Crate, Nested, InvalidNested, OfType, OfImpl, OfTrait, Generic, BackPath, PathTarget, NoType, Basic, Reference, InvalidReferenceType, Pointer, Slice, Array, Tuple, Function, FunctionTo, InvalidFunction, Dyn, InvalidDynType, Named, BackType, TypeTarget, LifetimeItem, TypeItem, ConstItem, TraitItem, NoItems, ItemThen, NoBindings, Binding, InvalidBinding, path_height, type_height, const_height, item_height, items_height, bindings_height, Listed, Arguments, Types, Traits}
use Rattle.binfarce_v0_grammar.specs.Reading.{ReadsConst, ReadsPath, ReadsType, ReadsItem, ReadsItems, ReadsBindings}
use Rattle.binfarce_v0_grammar.proofs.ReadingComplete.{if_so, if_not, suc-one, within, items_within}
use Rattle.binfarce_v0_grammar.proofs.ReadingForward.{item_forward, bound_forward}

-- the readers of one level less
record Trees : Type 0 where
  path : ℕ → Option (PathTree × ℕ)
  ty : ℕ → Option (TypeTree × ℕ)
  constant : ℕ → Option (ConstTree × ℕ)

const_tree : ConstForm → Option (ConstTree × ℕ)
const_tree NoConstForm = None
const_tree (UntypedPlaceholderConst q) = Some (UntypedPlaceholder, q)
const_tree (PlaceholderConst type_name q) = Some (Placeholder type_name, q)
const_tree (ValueConst type_name value q) = Some (Value type_name value, q)
const_tree (InvalidConst negative type_name) = None
const_tree (BackToConst target q) = Some (ConstTarget target, q)

abbrev made : {A B : Type 0} → Option (A × ℕ) → (A → B) → Option (B × ℕ)
made o f = o >>= λ a. Some (f a.0, a.1)

abbrev placed : {B : Type 0} → B → Option ℕ → Option (B × ℕ)
placed b o = o >>= λ q. Some (b, q)

bindings_tree : List ℕ → Trees → ℕ → ℕ → Option (Bindings × ℕ)
bindings_tree part R zero at = None
bindings_tree part R (suc n) at =
    if has_byte part 112 (Some at) then (undisambiguated_identifier part (at + 1) >>= λ i. (R.ty i.1 >>= λ t. made (bindings_tree part R n t.1) (Binding i.0 t.0))) else Some (NoBindings, at)

item_tree : List ℕ → Trees → Listed → ℕ → Option (Item × ℕ)
item_tree part R Arguments at =
    if has_byte part 76 (Some at) then placed (LifetimeItem (lifetime part (Some at)).0) (lifetime part (Some at)).1 else (if has_byte part 75 (Some at) then made (R.constant (at + 1)) ConstItem else made (R.ty at) TypeItem)
item_tree part R Types at = made (R.ty at) TypeItem
item_tree part R Traits at = R.path at >>= λ p. made (bindings_tree part R (suc (length part)) p.1) (TraitItem p.0)

items_tree : List ℕ → Trees → Listed → ℕ → ℕ → Option (Items × ℕ)
items_tree part R listed zero at = None
items_tree part R listed (suc n) at =
    if has_byte part 69 (Some at) then Some (NoItems, at + 1) else (item_tree part R listed at >>= λ i. made (items_tree part R listed n i.1) (ItemThen i.0))

type_tree : List ℕ → Trees → ℕ → TypeForm → Option (TypeTree × ℕ)
type_tree part R at NoTypeForm = None
type_tree part R at (BasicType text q) = Some (Basic text, q)
type_tree part R at (ReferenceTo mutable life q) = made (R.ty q) (Reference mutable life)
type_tree part R at InvalidReference = None
type_tree part R at (PointerTo mutable q) = made (R.ty q) (Pointer mutable)
type_tree part R at (SliceOf q) = made (R.ty q) Slice
type_tree part R at (ArrayOf q) = R.ty q >>= λ t. made (R.constant t.1) (Array t.0)
type_tree part R at (TupleOf q) = made (items_tree part R Types (suc (length part)) q) Tuple
type_tree part R at (FunctionOf signature q) =
    items_tree part R Types (suc (length part)) q >>= λ i. (if has_byte part 117 (Some i.1) then Some (Function signature i.0, i.1 + 1) else made (R.ty i.1) (FunctionTo signature i.0))
type_tree part R at (InvalidAbi binder) = None
type_tree part R at (DynOf binder q) =
    items_tree part R Traits (suc (length part)) q >>= λ i. placed (Dyn binder i.0 (lifetime part (Some i.1)).0) (lifetime part (Some i.1)).1
type_tree part R at InvalidDyn = None
type_tree part R at (BackToType target q) = Some (TypeTarget target, q)
type_tree part R at PathType = made (R.path at) Named

path_tree : List ℕ → Trees → PathForm → Option (PathTree × ℕ)
path_tree part R NoPathForm = None
path_tree part R (CrateRoot root q) = Some (Crate root, q)
path_tree part R (NestedIn namespace q) = R.path q >>= λ p. made (identifier part p.1) (Nested namespace p.0)
path_tree part R (InherentImpl q) = R.path q >>= λ p. made (R.ty p.1) (OfType p.0)
path_tree part R (TraitImpl q) = R.path q >>= λ p. (R.ty p.1 >>= λ t. made (R.path t.1) (OfImpl p.0 t.0))
path_tree part R (TraitDefinition q) = R.ty q >>= λ t. made (R.path t.1) (OfTrait t.0)
path_tree part R (WithArguments q) =
    R.path q >>= λ p. made (items_tree part R Arguments (suc (length part)) p.1) (Generic p.0)
path_tree part R (BackToPath target q) = Some (PathTarget target, q)

trees : List ℕ → ℕ → Trees
trees part zero = record { path = λ at. None; ty = λ at. None; constant = λ at. None }
trees part (suc levels_left) =
    record { path = λ at. path_tree part (trees part levels_left) (path_form part (Some at)); ty = λ at. type_tree part (trees part levels_left) at (type_form part (Some at)); constant = λ at. const_tree (const_form part (Some at)) }

path_at : (part : List ℕ) (l at : ℕ) → 1 ≤ l → (trees part l).path at ≡ path_tree part (trees part (l - 1)) (path_form part (Some at))
unfolding trees
path_at part zero at h = absurd (omega arith)
path_at part (suc l) at h = rw (suc-one l) refl

type_at : (part : List ℕ) (l at : ℕ) → 1 ≤ l → (trees part l).ty at ≡ type_tree part (trees part (l - 1)) at (type_form part (Some at))
unfolding trees
type_at part zero at h = absurd (omega arith)
type_at part (suc l) at h = rw (suc-one l) refl

const_at : (part : List ℕ) (l at : ℕ) → 1 ≤ l → (trees part l).constant at ≡ const_tree (const_form part (Some at))
unfolding trees
const_at part zero at h = absurd (omega arith)
const_at part (suc l) at h = refl

-- what a step finds goes on
on : {A B : Type 0} (o : Option A) (f : A → Option B) (a : A) → o ≡ Some a → (o >>= f) ≡ f a
on o f a e = rw e refl

const_found : (c : ConstTree) (part : List ℕ) (l at after : ℕ) → ReadsConst part c at after → const_height c ≤ l → (trees part l).constant at ≡ Some (c, after)
unfolding ReadsConst const_tree
const_found NoConst part l at after r h = absurd r
const_found UntypedPlaceholder part l at after r h = const_at part l at h ∙ ap const_tree r
const_found (Placeholder type_name) part l at after r h = const_at part l at h ∙ ap const_tree r
const_found (Value type_name value) part l at after r h = const_at part l at h ∙ ap const_tree r
const_found (InvalidValue negative type_name) part l at after r h = absurd r
const_found (BackConst c) part l at after r h = absurd r
const_found (ConstTarget target) part l at after r h = const_at part l at h ∙ ap const_tree r

mutual
  unfolding ReadsPath path_height path_tree type_tree item_tree items_tree bindings_tree

  path_found : (t : PathTree) (part : List ℕ) (l at after : ℕ) → ReadsPath part t at after → path_height t ≤ l → (trees part l).path at ≡ Some (t, after)
  path_found NoPath part l at after r h = absurd r
  path_found (Crate root) part l at after r h = path_at part l at h ∙ ap (path_tree part (trees part (l - 1))) r
  path_found (Nested namespace p i) part l at after r h =
      path_at part l at (omega arith) ∙ ap (path_tree part (trees part (l - 1))) r.2 ∙ on _ _ _ (path_found p part (l - 1) r.0 r.1 r.3 (omega arith)) ∙ on _ _ _ r.4
  path_found (InvalidNested p) part l at after r h = absurd r
  path_found (OfType p t) part l at after r h =
      path_at part l at (omega arith) ∙ ap (path_tree part (trees part (l - 1))) r.2 ∙ on _ _ _ (path_found p part (l - 1) r.0 r.1 r.3 (omega arith)) ∙ on _ _ _ (type_found t part (l - 1) r.1 after r.4 (omega arith))
  path_found (OfImpl p t u) part l at after r h =
      path_at part l at (omega arith) ∙ ap (path_tree part (trees part (l - 1))) r.3 ∙ on _ _ _ (path_found p part (l - 1) r.0 r.1 r.4 (omega arith)) ∙ on _ _ _ (type_found t part (l - 1) r.1 r.2 r.5 (omega arith)) ∙ on _ _ _ (path_found u part (l - 1) r.2 after r.6 (omega arith))
  path_found (OfTrait t u) part l at after r h =
      path_at part l at (omega arith) ∙ ap (path_tree part (trees part (l - 1))) r.2 ∙ on _ _ _ (type_found t part (l - 1) r.0 r.1 r.3 (omega arith)) ∙ on _ _ _ (path_found u part (l - 1) r.1 after r.4 (omega arith))
  path_found (Generic p items) part l at after r h =
      path_at part l at (omega arith) ∙ ap (path_tree part (trees part (l - 1))) r.2 ∙ on _ _ _ (path_found p part (l - 1) r.0 r.1 r.3 (omega arith)) ∙ on _ _ _ (items_found items part (l - 1) Arguments (suc (length part)) r.1 after r.4 (omega arith) (omega arith))
  path_found (BackPath p) part l at after r h = absurd r
  path_found (PathTarget target) part l at after r h = path_at part l at h ∙ ap (path_tree part (trees part (l - 1))) r

  type_found : (t : TypeTree) (part : List ℕ) (l at after : ℕ) → ReadsType part t at after → type_height t ≤ l → (trees part l).ty at ≡ Some (t, after)
  type_found NoType part l at after r h = absurd r
  type_found (Basic text) part l at after r h = type_at part l at h ∙ ap (type_tree part (trees part (l - 1)) at) r
  type_found (Reference mutable life t) part l at after r h =
      type_at part l at (omega arith) ∙ ap (type_tree part (trees part (l - 1)) at) r.1 ∙ on _ _ _ (type_found t part (l - 1) r.0 after r.2 (omega arith))
  type_found InvalidReferenceType part l at after r h = absurd r
  type_found (Pointer mutable t) part l at after r h =
      type_at part l at (omega arith) ∙ ap (type_tree part (trees part (l - 1)) at) r.1 ∙ on _ _ _ (type_found t part (l - 1) r.0 after r.2 (omega arith))
  type_found (Slice t) part l at after r h =
      type_at part l at (omega arith) ∙ ap (type_tree part (trees part (l - 1)) at) r.1 ∙ on _ _ _ (type_found t part (l - 1) r.0 after r.2 (omega arith))
  type_found (Array t c) part l at after r h =
      type_at part l at (omega arith) ∙ ap (type_tree part (trees part (l - 1)) at) r.2 ∙ on _ _ _ (type_found t part (l - 1) r.0 r.1 r.3 (omega arith)) ∙ on _ _ _ (const_found c part (l - 1) r.1 after r.4 (omega arith))
  type_found (Tuple items) part l at after r h =
      type_at part l at (omega arith) ∙ ap (type_tree part (trees part (l - 1)) at) r.1 ∙ on _ _ _ (items_found items part (l - 1) Types (suc (length part)) r.0 after r.2 (omega arith) (omega arith))
  type_found (Function signature items) part l at after r h =
      type_at part l at (omega arith) ∙ ap (type_tree part (trees part (l - 1)) at) r.2 ∙ on _ _ _ (items_found items part (l - 1) Types (suc (length part)) r.0 r.1 r.3 (omega arith) (omega arith)) ∙ if_so _ _ _ r.4 ∙ rw r.5 refl
  type_found (FunctionTo signature items t) part l at after r h =
      type_at part l at (omega arith) ∙ ap (type_tree part (trees part (l - 1)) at) r.2 ∙ on _ _ _ (items_found items part (l - 1) Types (suc (length part)) r.0 r.1 r.3 (omega arith) (omega arith)) ∙ if_not _ _ _ r.4 ∙ on _ _ _ (type_found t part (l - 1) r.1 after r.5 (omega arith))
  type_found (InvalidFunction binder) part l at after r h = absurd r
  type_found (Dyn binder items life) part l at after r h =
      type_at part l at (omega arith) ∙ ap (type_tree part (trees part (l - 1)) at) r.2 ∙ on _ _ _ (items_found items part (l - 1) Traits (suc (length part)) r.0 r.1 r.3 (omega arith) (omega arith)) ∙ rw r.5 refl
  type_found InvalidDynType part l at after r h = absurd r
  type_found (Named p) part l at after r h =
      type_at part l at (omega arith) ∙ ap (type_tree part (trees part (l - 1)) at) r.0 ∙ on _ _ _ (path_found p part (l - 1) at after r.1 (omega arith))
  type_found (BackType t) part l at after r h = absurd r
  type_found (TypeTarget target) part l at after r h =
      type_at part l at h ∙ ap (type_tree part (trees part (l - 1)) at) r

  item_found : (i : Item) (part : List ℕ) (l : ℕ) (listed : Listed) (at after : ℕ) → ReadsItem part listed i at after → item_height i ≤ l → item_tree part (trees part l) listed at ≡ Some (i, after)
  item_found (LifetimeItem life) part l Arguments at after r h = if_so _ _ _ r.0 ∙ rw r.1 refl
  item_found (LifetimeItem life) part l Types at after r h = absurd r
  item_found (LifetimeItem life) part l Traits at after r h = absurd r
  item_found (TypeItem t) part l Arguments at after r h =
      if_not _ _ _ r.0 ∙ if_not _ _ _ r.1 ∙ on _ _ _ (type_found t part l at after r.2 h)
  item_found (TypeItem t) part l Types at after r h = on _ _ _ (type_found t part l at after r h)
  item_found (TypeItem t) part l Traits at after r h = absurd r
  item_found (ConstItem c) part l Arguments at after r h =
      if_not _ _ _ r.0 ∙ if_so _ _ _ r.1 ∙ on _ _ _ (const_found c part l (at + 1) after r.2 h)
  item_found (ConstItem c) part l Types at after r h = absurd r
  item_found (ConstItem c) part l Traits at after r h = absurd r
  item_found (TraitItem p more) part l Arguments at after r h = absurd r
  item_found (TraitItem p more) part l Types at after r h = absurd r
  item_found (TraitItem p more) part l Traits at after r h =
      on _ _ _ (path_found p part l at r.0 r.1 (omega arith)) ∙ on _ _ _ (bindings_found more part l (suc (length part)) r.0 after r.2 (omega arith) (omega arith))

  items_found : (items : Items) (part : List ℕ) (l : ℕ) (listed : Listed) (n at after : ℕ) → ReadsItems part listed items at after → items_height items ≤ l → length part - at < n → items_tree part (trees part l) listed n at ≡ Some (items, after)
  items_found NoItems part l listed zero at after r h f = absurd (omega arith)
  items_found NoItems part l listed (suc n) at after r h f = if_so _ _ _ r.0 ∙ rw r.1 refl
  items_found (ItemThen i items) part l listed zero at after r h f = absurd (omega arith)
  items_found (ItemThen i items) part l listed (suc n) at after r h f =
      let below = items_within items part listed r.0 after r.3 in
      let forward = item_forward i part listed at r.0 r.2 in
      if_not _ _ _ r.1 ∙ on _ _ _ (item_found i part l listed at r.0 r.2 (omega arith)) ∙ on _ _ _ (items_found items part l listed n r.0 after r.3 (omega arith) (omega arith))

  bindings_found : (bound : Bindings) (part : List ℕ) (l n at after : ℕ) → ReadsBindings part bound at after → bindings_height bound ≤ l → length part - at < n → bindings_tree part (trees part l) n at ≡ Some (bound, after)
  bindings_found NoBindings part l zero at after r h f = absurd (omega arith)
  bindings_found NoBindings part l (suc n) at after r h f = if_not _ _ _ r.0 ∙ rw r.1 refl
  bindings_found (Binding i t more) part l zero at after r h f = absurd (omega arith)
  bindings_found (Binding i t more) part l (suc n) at after r h f =
      let here = within part 111 at r.2 in
      let forward = bound_forward i t part at r.0 r.1 r.3 r.4 in
      if_so _ _ _ r.2 ∙ on _ _ _ r.3 ∙ on _ _ _ (type_found t part l r.0 r.1 r.4 (omega arith)) ∙ on _ _ _ (bindings_found more part l n r.1 after r.5 (omega arith) (omega arith))
  bindings_found InvalidBinding part l n at after r h f = absurd r

same_pair : (t u : PathTree) (a b : ℕ) → ◌≡◌ {A = Option (PathTree × ℕ)} (Some (t, a)) (Some (u, b)) → (t ≡ u) × (a ≡ b)
same_pair t u a b e =
    let same : ◌≡◌ {A = PathTree × ℕ} (t, a) (u, b) = cc in (ap (λ r. r.0) same, ap (λ r. r.1) same)

pub reads_one_tree : (part : List ℕ) (t u : PathTree) (at after end : ℕ) → ReadsPath part t at after → ReadsPath part u at end → (t ≡ u) × (after ≡ end)
reads_one_tree part t u at after end p q =
    let l = max (path_height t) (path_height u) in
    let first = path_found t part l at after p (omega arith) in
    let second = path_found u part l at end q (omega arith) in same_pair t u after end (sym first ∙ second)
