-- Whatever the reading reads is a tree of the relation, of at most so many levels.
use Rattle.std.proofs.Common.{◌≡◌, ℕ, zero, suc, ◌+◌, ◌≤◌, Bool, true, false, List, Option, Some, None, cond, length, refl, ap, arith}
use Rattle.binfarce_text.specs.Steps.{◌>>=◌}
use Rattle.binfarce_v0_grammar.specs.Identifiers.{UndisambiguatedIdentifier, Identifier, identifier, undisambiguated_identifier}
use Rattle.binfarce_v0_grammar.specs.Forms.{Lifetime, has_byte, lifetime, path_form, type_form, const_form, PathForm, NoPathForm, CrateRoot, NestedIn, InherentImpl, TraitImpl, TraitDefinition, WithArguments, BackToPath, TypeForm, NoTypeForm, BasicType, ReferenceTo, InvalidReference, PointerTo, SliceOf, ArrayOf, TupleOf, FunctionOf, InvalidAbi, DynOf, InvalidDyn, BackToType, PathType, ConstForm, NoConstForm, UntypedPlaceholderConst, PlaceholderConst, ValueConst, InvalidConst, BackToConst}
use Rattle.binfarce_v0_grammar.specs.Tree.{PathTree, TypeTree, ConstTree, Item, Items, Bindings, UntypedPlaceholder, Placeholder, Value, ConstTarget, Crate, Nested, OfType, OfImpl, OfTrait, Generic, PathTarget, Basic, Reference, Pointer, Slice, Array, Tuple, Function, FunctionTo, Dyn, Named, TypeTarget, LifetimeItem, TypeItem, ConstItem, TraitItem, NoItems, ItemThen, NoBindings, Binding, path_height, type_height, const_height, item_height, items_height, bindings_height, Listed, Arguments, Types, Traits}
use Rattle.binfarce_v0_grammar.specs.Reading.{ReadsConst, ReadsPath, ReadsType, ReadsItem, ReadsItems, ReadsBindings}
use Rattle.binfarce_v0_grammar.specs.machine.Ends.{Ends, const_end, identifier_end, lifetime_end, bound_from, bindings_end, argument_end, item_end, items_end, list_end, return_end, type_end, path_end, ends}

pub record ConstRead (part : List ℕ) (levels_left at after : ℕ) : Type 0 where
  pub tree : ConstTree
  pub reads : ReadsConst part tree at after
  pub height : const_height tree ≤ levels_left

pub record PathRead (part : List ℕ) (levels_left at after : ℕ) : Type 0 where
  pub tree : PathTree
  pub reads : ReadsPath part tree at after
  pub height : path_height tree ≤ levels_left

pub record TypeRead (part : List ℕ) (levels_left at after : ℕ) : Type 0 where
  pub tree : TypeTree
  pub reads : ReadsType part tree at after
  pub height : type_height tree ≤ levels_left

pub record ItemRead (part : List ℕ) (listed : Listed) (levels_left at after : ℕ) : Type 0 where
  pub tree : Item
  pub reads : ReadsItem part listed tree at after
  pub height : item_height tree ≤ levels_left

pub record ItemsRead (part : List ℕ) (listed : Listed) (levels_left at after : ℕ) : Type 0 where
  pub tree : Items
  pub reads : ReadsItems part listed tree at after
  pub height : items_height tree ≤ levels_left

pub record BindingsRead (part : List ℕ) (levels_left at after : ℕ) : Type 0 where
  pub tree : Bindings
  pub reads : ReadsBindings part tree at after
  pub height : bindings_height tree ≤ levels_left

pub record ReadsTrees (part : List ℕ) (levels_left : ℕ) (R : Ends) : Type 0 where
  pub path : (at after : ℕ) → R.path at ≡ Some after → PathRead part levels_left at after
  pub ty : (at after : ℕ) → R.ty at ≡ Some after → TypeRead part levels_left at after
  pub constant : (at after : ℕ) → R.constant at ≡ Some after → ConstRead part levels_left at after

-- what two steps in a row read
pub record Between {A : Type 0} (o : Option A) (f : A → Option ℕ) (after : ℕ) : Type 0 where
  pub mid : A
  pub first : o ≡ Some mid
  pub second : f mid ≡ Some after

pub between : {A : Type 0} (o : Option A) (f : A → Option ℕ) (after : ℕ) → (o >>= f) ≡ Some after → Between o f after
between None f after e = cc
between (Some mid) f after e = record { mid = mid; first = refl; second = e }

pub const_read : (part : List ℕ) (levels_left at after : ℕ) (form : ConstForm) → const_form part (Some at) ≡ form → const_end form ≡ Some after → ConstRead part (suc levels_left) at after
unfolding const_end ReadsConst
const_read part levels_left at after NoConstForm e p = cc
const_read part levels_left at after (UntypedPlaceholderConst q) e p =
    let q_is : q ≡ after = cc in record { tree = UntypedPlaceholder; reads = rw (← q_is) e; height = omega arith }
const_read part levels_left at after (PlaceholderConst type_name q) e p =
    let q_is : q ≡ after = cc in record { tree = Placeholder type_name; reads = rw (← q_is) e; height = omega arith }
const_read part levels_left at after (ValueConst type_name value q) e p =
    let q_is : q ≡ after = cc in record { tree = Value type_name value; reads = rw (← q_is) e; height = omega arith }
const_read part levels_left at after (InvalidConst negative type_name) e p = cc
const_read part levels_left at after (BackToConst target q) e p =
    let q_is : q ≡ after = cc in record { tree = ConstTarget target; reads = rw (← q_is) e; height = omega arith }

bindings_read : (part : List ℕ) (levels_left : ℕ) (R : Ends) → ReadsTrees part levels_left R → (n at after : ℕ) → bindings_end part R n at ≡ Some after → BindingsRead part levels_left at after
unfolding bindings_end ReadsBindings bindings_height
bindings_read part levels_left R H zero at after e = cc
bindings_read part levels_left R H (suc n) at after e =
    by (bindings_read part levels_left R H n) (has_byte part 112 (Some at)) refl e
  where
    bound : ((at after : ℕ) → bindings_end part R n at ≡ Some after → BindingsRead part levels_left at after) → has_byte part 112 (Some at) ≡ true → (i : Option (UndisambiguatedIdentifier × ℕ)) → undisambiguated_identifier part (at + 1) ≡ i → bound_from R (bindings_end part R n) i ≡ Some after → BindingsRead part levels_left at after
    bound M t None ei e = cc
    bound M t (Some i) ei e =
        let b = between (R.ty i.1) (bindings_end part R n) after e in
        let f = H.ty i.1 b.mid b.first in
        let m = M b.mid after b.second in
        record {
          tree = Binding i.0 f.tree m.tree;
          reads = (i.1, b.mid, t, ei, f.reads, m.reads);
          height = omega arith;
        }

    by : ((at after : ℕ) → bindings_end part R n at ≡ Some after → BindingsRead part levels_left at after) → (b : Bool) → has_byte part 112 (Some at) ≡ b → cond b (bound_from R (bindings_end part R n) (undisambiguated_identifier part (at + 1))) (Some at) ≡ Some after → BindingsRead part levels_left at after
    by M true t e = bound M t (undisambiguated_identifier part (at + 1)) refl e
    by M false t e =
        let here : after ≡ at = cc in record { tree = NoBindings; reads = (t, here); height = omega arith }

argument_read : (part : List ℕ) (levels_left : ℕ) (R : Ends) → ReadsTrees part levels_left R → (at after : ℕ) → argument_end part R at ≡ Some after → ItemRead part Arguments levels_left at after
unfolding ReadsItem item_height
argument_read part levels_left R H at after e = by (has_byte part 76 (Some at)) (has_byte part 75 (Some at)) refl refl e
  where
    by : (a b : Bool) → has_byte part 76 (Some at) ≡ a → has_byte part 75 (Some at) ≡ b → cond a (lifetime part (Some at)).1 (cond b (R.constant (at + 1)) (R.ty at)) ≡ Some after → ItemRead part Arguments levels_left at after
    by true b ea eb e =
        let f : Option ℕ → Lifetime × Option ℕ = λ x. ((lifetime part (Some at)).0, x) in
        record { tree = LifetimeItem (lifetime part (Some at)).0; reads = (ea, ap f e); height = omega arith }
    by false true ea eb e =
        let f = H.constant (at + 1) after e in
        record { tree = ConstItem f.tree; reads = (ea, eb, f.reads); height = f.height }
    by false false ea eb e =
        let f = H.ty at after e in record { tree = TypeItem f.tree; reads = (ea, eb, f.reads); height = f.height }

item_read : (part : List ℕ) (levels_left : ℕ) (R : Ends) → ReadsTrees part levels_left R → (listed : Listed) (at after : ℕ) → item_end part R listed at ≡ Some after → ItemRead part listed levels_left at after
unfolding item_end ReadsItem item_height
item_read part levels_left R H Arguments at after e = argument_read part levels_left R H at after e
item_read part levels_left R H Types at after e =
    let f = H.ty at after e in record { tree = TypeItem f.tree; reads = f.reads; height = f.height }
item_read part levels_left R H Traits at after e =
    let b = between (R.path at) (bindings_end part R (suc (length part))) after e in
    let f = H.path at b.mid b.first in
    let m = bindings_read part levels_left R H (suc (length part)) b.mid after b.second in
    record { tree = TraitItem f.tree m.tree; reads = (b.mid, f.reads, m.reads); height = omega arith }

pub items_read : (part : List ℕ) (levels_left : ℕ) (R : Ends) → ReadsTrees part levels_left R → (listed : Listed) (n at after : ℕ) → items_end part R listed n at ≡ Some after → ItemsRead part listed levels_left at after
unfolding items_end ReadsItems items_height
items_read part levels_left R H listed zero at after e = cc
items_read part levels_left R H listed (suc n) at after e =
    by (items_read part levels_left R H listed n) (has_byte part 69 (Some at)) refl e
  where
    by : ((at after : ℕ) → items_end part R listed n at ≡ Some after → ItemsRead part listed levels_left at after) → (b : Bool) → has_byte part 69 (Some at) ≡ b → cond b (Some (at + 1)) (item_end part R listed at >>= items_end part R listed n) ≡ Some after → ItemsRead part listed levels_left at after
    by M true t e =
        let here : after ≡ at + 1 = cc in record { tree = NoItems; reads = (t, here); height = omega arith }
    by M false t e =
        let b = between (item_end part R listed at) (items_end part R listed n) after e in
        let f = item_read part levels_left R H listed at b.mid b.first in
        let m = M b.mid after b.second in
        record {
          tree = ItemThen f.tree m.tree;
          reads = (b.mid, t, f.reads, m.reads);
          height = omega arith;
        }

type_read : (part : List ℕ) (levels_left : ℕ) (R : Ends) → ReadsTrees part levels_left R → (at after : ℕ) (form : TypeForm) → type_form part (Some at) ≡ form → type_end part R at form ≡ Some after → TypeRead part (suc levels_left) at after
unfolding type_end ReadsType type_height
type_read part levels_left R H at after NoTypeForm e p = cc
type_read part levels_left R H at after (BasicType text q) e p =
    let q_is : q ≡ after = cc in record { tree = Basic text; reads = rw (← q_is) e; height = omega arith }
type_read part levels_left R H at after (ReferenceTo mutable life q) e p =
    let f = H.ty q after p in
    record { tree = Reference mutable life f.tree; reads = (q, e, f.reads); height = omega arith }
type_read part levels_left R H at after InvalidReference e p = cc
type_read part levels_left R H at after (PointerTo mutable q) e p =
    let f = H.ty q after p in
    record { tree = Pointer mutable f.tree; reads = (q, e, f.reads); height = omega arith }
type_read part levels_left R H at after (SliceOf q) e p =
    let f = H.ty q after p in
    record { tree = Slice f.tree; reads = (q, e, f.reads); height = omega arith }
type_read part levels_left R H at after (ArrayOf q) e p =
    let b = between (R.ty q) R.constant after p in
    let f = H.ty q b.mid b.first in
    let c = H.constant b.mid after b.second in
    record { tree = Array f.tree c.tree; reads = (q, b.mid, e, f.reads, c.reads); height = omega arith }
type_read part levels_left R H at after (TupleOf q) e p =
    let f = items_read part levels_left R H Types (suc (length part)) q after p in
    record { tree = Tuple f.tree; reads = (q, e, f.reads); height = omega arith }
type_read part levels_left R H at after (FunctionOf signature q) e p =
    let b = between (list_end part R Types q) (return_end part R) after p in
    let f = items_read part levels_left R H Types (suc (length part)) q b.mid b.first in
    by b.mid f (has_byte part 117 (Some b.mid)) refl b.second
  where
    by : (mid : ℕ) → ItemsRead part Types levels_left q mid → (b : Bool) → has_byte part 117 (Some mid) ≡ b → cond b (Some (mid + 1)) (R.ty mid) ≡ Some after → TypeRead part (suc levels_left) at after
    by mid f true t s =
        let here : after ≡ mid + 1 = cc in
        record { tree = Function signature f.tree; reads = (q, mid, e, f.reads, t, here); height = omega arith }
    by mid f false t s =
        let g = H.ty mid after s in
        record { tree = FunctionTo signature f.tree g.tree; reads = (q, mid, e, f.reads, t, g.reads); height = omega arith }
type_read part levels_left R H at after (InvalidAbi binder) e p = cc
type_read part levels_left R H at after (DynOf binder q) e p =
    let b = between (list_end part R Traits q) (lifetime_end part) after p in
    let f = items_read part levels_left R H Traits (suc (length part)) q b.mid b.first in
    by b.mid f (has_byte part 76 (Some b.mid)) refl b.second
  where
    by : (mid : ℕ) → ItemsRead part Traits levels_left q mid → (b : Bool) → has_byte part 76 (Some mid) ≡ b → cond b (lifetime part (Some mid)).1 None ≡ Some after → TypeRead part (suc levels_left) at after
    by mid f true t s =
        let g : Option ℕ → Lifetime × Option ℕ = λ x. ((lifetime part (Some mid)).0, x) in
        record { tree = Dyn binder f.tree (lifetime part (Some mid)).0; reads = (q, mid, e, f.reads, t, ap g s); height = omega arith }
    by mid f false t s = cc
type_read part levels_left R H at after InvalidDyn e p = cc
type_read part levels_left R H at after (BackToType target q) e p =
    let q_is : q ≡ after = cc in record { tree = TypeTarget target; reads = rw (← q_is) e; height = omega arith }
type_read part levels_left R H at after PathType e p =
    let f = H.path at after p in record { tree = Named f.tree; reads = (e, f.reads); height = omega arith }

identifier_read : (l : Option (Identifier × ℕ)) (after : ℕ) → identifier_end l ≡ Some after → (i : Identifier) × (l ≡ Some (i, after))
identifier_read None after e = cc
identifier_read (Some l) after e = let e' : l.1 ≡ after = cc in (l.0, rw (← e') refl)

path_read : (part : List ℕ) (levels_left : ℕ) (R : Ends) → ReadsTrees part levels_left R → (at after : ℕ) (form : PathForm) → path_form part (Some at) ≡ form → path_end part R form ≡ Some after → PathRead part (suc levels_left) at after
unfolding path_end ReadsPath path_height
path_read part levels_left R H at after NoPathForm e p = cc
path_read part levels_left R H at after (CrateRoot root q) e p =
    let q_is : q ≡ after = cc in record { tree = Crate root; reads = rw (← q_is) e; height = omega arith }
path_read part levels_left R H at after (NestedIn namespace q) e p =
    let b = between (R.path q) (λ mid. identifier_end (identifier part mid)) after p in
    let f = H.path q b.mid b.first in
    let l = identifier_read (identifier part b.mid) after b.second in
    record { tree = Nested namespace f.tree l.0; reads = (q, b.mid, e, f.reads, l.1); height = omega arith }
path_read part levels_left R H at after (InherentImpl q) e p =
    let b = between (R.path q) R.ty after p in
    let f = H.path q b.mid b.first in
    let t = H.ty b.mid after b.second in
    record { tree = OfType f.tree t.tree; reads = (q, b.mid, e, f.reads, t.reads); height = omega arith }
path_read part levels_left R H at after (TraitImpl q) e p =
    let b = between (R.path q) (λ mid. R.ty mid >>= R.path) after p in
    let c = between (R.ty b.mid) R.path after b.second in
    let f = H.path q b.mid b.first in
    let t = H.ty b.mid c.mid c.first in
    let u = H.path c.mid after c.second in
    record { tree = OfImpl f.tree t.tree u.tree; reads = (q, b.mid, c.mid, e, f.reads, t.reads, u.reads); height = omega arith }
path_read part levels_left R H at after (TraitDefinition q) e p =
    let b = between (R.ty q) R.path after p in
    let t = H.ty q b.mid b.first in
    let u = H.path b.mid after b.second in
    record { tree = OfTrait t.tree u.tree; reads = (q, b.mid, e, t.reads, u.reads); height = omega arith }
path_read part levels_left R H at after (WithArguments q) e p =
    let b = between (R.path q) (list_end part R Arguments) after p in
    let f = H.path q b.mid b.first in
    let i = items_read part levels_left R H Arguments (suc (length part)) b.mid after b.second in
    record { tree = Generic f.tree i.tree; reads = (q, b.mid, e, f.reads, i.reads); height = omega arith }
path_read part levels_left R H at after (BackToPath target q) e p =
    let q_is : q ≡ after = cc in record { tree = PathTarget target; reads = rw (← q_is) e; height = omega arith }

pub ends_read : (part : List ℕ) (levels_left : ℕ) → ReadsTrees part levels_left (ends part levels_left)
unfolding ends
ends_read part zero = record { path = λ at after e. cc; ty = λ at after e. cc; constant = λ at after e. cc }
ends_read part (suc levels_left) =
    let H = ends_read part levels_left in
    record {
      path = λ at after e. path_read part levels_left (ends part levels_left) H at after (path_form part (Some at)) refl e;
      ty = λ at after e. type_read part levels_left (ends part levels_left) H at after (type_form part (Some at)) refl e;
      constant = λ at after e. const_read part levels_left at after (const_form part (Some at)) refl e;
    }
