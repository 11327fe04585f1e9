-- What a position unfolds to, up to a position after it, is read there: a back reference as a leaf that names its target.
use Rattle.std.proofs.Common.{◌≡◌, ℕ, ◌+◌, ◌≤◌, Bool, true, false, List, Option, Some, None, cond, eqb, get_or, refl, sym, ap, subst, ◌∙◌, arith}
use Rattle.std.proofs.lemmas.Bool.{not-false, not-true}
use Rattle.binfarce_v0_grammar.specs.Base62.{base_62_number}
use Rattle.binfarce_v0_grammar.proofs.ReadingForward.{indexed_lifetime}
use Rattle.binfarce_v0_grammar.specs.Identifiers.{Identifier, identifier}
use Rattle.binfarce_v0_grammar.specs.Forms.{Lifetime, NoLifetime, InvalidLifetime, IndexedLifetime, has_byte, after_byte, identifier_at, lifetime, path_form, type_form, const_form, CrateRoot, BackToPath, BasicType, BackToType, UntypedPlaceholderConst, PlaceholderConst, ValueConst, BackToConst}
use Rattle.binfarce_v0_grammar.specs.Tree.{PathTree, TypeTree, ConstTree, Item, Items, Bindings, NoConst, UntypedPlaceholder, Placeholder, Value, InvalidValue, BackConst, ConstTarget, NoPath, Crate, Nested, InvalidNested, OfType, OfImpl, OfTrait, Generic, BackPath, PathTarget, NoType, Basic, Reference, InvalidReferenceType, Pointer, Slice, Array, Tuple, Function, FunctionTo, InvalidFunction, Dyn, InvalidDynType, Named, BackType, TypeTarget, LifetimeItem, TypeItem, ConstItem, TraitItem, NoItems, ItemThen, NoBindings, Binding, InvalidBinding, path_height, type_height, const_height, item_height, items_height, bindings_height, Listed, Arguments, Types, Traits, is_announced}
use Rattle.binfarce_v0_grammar.specs.Unfolding.{bound_end, required_end, IsConst, IsPath, IsType, IsItem, AreItems, AreBindings}
use Rattle.binfarce_v0_grammar.specs.Reading.{ReadsConst, ReadsPath, ReadsType, ReadsItem, ReadsItems, ReadsBindings}

pub record ConstFolds (part : List ℕ) (at after height : ℕ) : Type 0 where
  pub tree : ConstTree
  pub reads : ReadsConst part tree at after
  pub levels : const_height tree ≤ height

pub record PathFolds (part : List ℕ) (at after height : ℕ) : Type 0 where
  pub tree : PathTree
  pub reads : ReadsPath part tree at after
  pub levels : path_height tree ≤ height

pub record TypeFolds (part : List ℕ) (at after height : ℕ) : Type 0 where
  pub tree : TypeTree
  pub reads : ReadsType part tree at after
  pub levels : type_height tree ≤ height

pub record ItemFolds (part : List ℕ) (listed : Listed) (at after height : ℕ) : Type 0 where
  pub tree : Item
  pub reads : ReadsItem part listed tree at after
  pub levels : item_height tree ≤ height

pub record ItemsFold (part : List ℕ) (listed : Listed) (at after height : ℕ) : Type 0 where
  pub tree : Items
  pub reads : ReadsItems part listed tree at after
  pub levels : items_height tree ≤ height

pub record BindingsFold (part : List ℕ) (at after height : ℕ) : Type 0 where
  pub tree : Bindings
  pub reads : ReadsBindings part tree at after
  pub levels : bindings_height tree ≤ height

-- After invalid syntax there is no position

-- it is a position of the part
abbrev Stands : Option ℕ → Type 0
Stands at = (q : ℕ) × (at ≡ Some q)

const_from : (c : ConstTree) (part : List ℕ) (at : Option ℕ) (after : ℕ) → IsConst part c at (Some after) → Stands at
unfolding IsConst const_form
const_from c part (Some at) after is = (at, refl)
const_from NoConst part None after is = let e = is.1 in absurd cc
const_from (Placeholder type_name) part None after is = let e = is.1 in absurd cc
const_from UntypedPlaceholder part None after is = let e = is.1 in absurd cc
const_from (Value type_name value) part None after is = let e = is.1 in absurd cc
const_from (InvalidValue negative type_name) part None after is = let e = is.1 in absurd cc
const_from (BackConst c) part None after is = let e = is.3 in absurd cc
const_from (ConstTarget target) part None after is = absurd is

path_from : (t : PathTree) (part : List ℕ) (at : Option ℕ) (binder_depth after : ℕ) → IsPath part t at binder_depth (Some after) → Stands at
unfolding IsPath path_form
path_from t part (Some at) binder_depth after is = (at, refl)
path_from NoPath part None binder_depth after is = let e = is.1 in absurd cc
path_from (Crate root) part None binder_depth after is = let e = is.1 in absurd cc
path_from (Nested namespace p l) part None binder_depth after is = let e = is.3 in absurd cc
path_from (InvalidNested p) part None binder_depth after is = let e = is.3 in absurd cc
path_from (OfType p t) part None binder_depth after is = let e = is.2 in absurd cc
path_from (OfImpl p t u) part None binder_depth after is = let e = is.3 in absurd cc
path_from (OfTrait t u) part None binder_depth after is = let e = is.2 in absurd cc
path_from (Generic p items) part None binder_depth after is = let e = is.2 in absurd cc
path_from (BackPath p) part None binder_depth after is = let e = is.3 in absurd cc
path_from (PathTarget target) part None binder_depth after is = absurd is

type_from : (t : TypeTree) (part : List ℕ) (at : Option ℕ) (binder_depth after : ℕ) → IsType part t at binder_depth (Some after) → Stands at
unfolding IsType type_form
type_from t part (Some at) binder_depth after is = (at, refl)
type_from NoType part None binder_depth after is = let e = is.1 in absurd cc
type_from (Basic text) part None binder_depth after is = let e = is.1 in absurd cc
type_from (Reference mutable life t) part None binder_depth after is = let e = is.1 in absurd cc
type_from InvalidReferenceType part None binder_depth after is = let e = is.1 in absurd cc
type_from (Pointer mutable t) part None binder_depth after is = let e = is.1 in absurd cc
type_from (Slice t) part None binder_depth after is = let e = is.1 in absurd cc
type_from (Array t c) part None binder_depth after is = let e = is.2 in absurd cc
type_from (Tuple items) part None binder_depth after is = let e = is.1 in absurd cc
type_from (Function signature items) part None binder_depth after is = let e = is.2 in absurd cc
type_from (FunctionTo signature items t) part None binder_depth after is = let e = is.2 in absurd cc
type_from (InvalidFunction binder) part None binder_depth after is = let e = is.1 in absurd cc
type_from (Dyn binder items life) part None binder_depth after is = let e = is.3 in absurd cc
type_from InvalidDynType part None binder_depth after is = let e = is.1 in absurd cc
type_from (Named p) part None binder_depth after is = let e = is.0 in absurd cc
type_from (BackType t) part None binder_depth after is = let e = is.3 in absurd cc
type_from (TypeTarget target) part None binder_depth after is = absurd is

items_from : (items : Items) (part : List ℕ) (listed : Listed) (at : Option ℕ) (binder_depth after : ℕ) → AreItems part listed items at binder_depth (Some after) → Stands at
unfolding AreItems
items_from items part listed (Some at) binder_depth after is = (at, refl)
items_from NoItems part listed None binder_depth after is = let e = is.1 in absurd cc
items_from (ItemThen i items) part listed None binder_depth after is = let e = is.1 in absurd cc

bindings_from : (bound : Bindings) (part : List ℕ) (at : Option ℕ) (binder_depth after : ℕ) → AreBindings part bound at binder_depth (Some after) → Stands at
unfolding AreBindings
bindings_from bound part (Some at) binder_depth after is = (at, refl)
bindings_from NoBindings part None binder_depth after is = let e = is.1 in absurd cc
bindings_from (Binding i t bound) part None binder_depth after is = let e = is.2 in absurd cc
bindings_from InvalidBinding part None binder_depth after is = let e = is.0 in absurd cc

identifier_from : (part : List ℕ) (at : Option ℕ) (r : Identifier × ℕ) → identifier_at part at ≡ Some r → Stands at
identifier_from part (Some at) r e = (at, refl)
identifier_from part None r e = absurd cc

after_from : (at : Option ℕ) (after : ℕ) → Some after ≡ after_byte at → Stands at
after_from (Some at) after e = (at, refl)
after_from None after e = absurd cc

-- One position

same_position : (a b : ℕ) → ◌≡◌ {A = Option ℕ} (Some a) (Some b) → a ≡ b
same_position a b e = cc

placed : (P : ℕ → Type 0) (after q : ℕ) → ◌≡◌ {A = Option ℕ} (Some after) (Some q) → P q → P after
placed P after q e h = subst P (sym (same_position after q e)) h

-- Lifetimes

bound_at : (binder_depth : ℕ) (life : Lifetime) (q m : ℕ) → bound_end binder_depth life (Some q) ≡ Some m → m ≡ q
unfolding bound_end
bound_at binder_depth NoLifetime q m e = cc
bound_at binder_depth InvalidLifetime q m e = absurd cc
bound_at binder_depth (IndexedLifetime k) q m e = by (is_announced binder_depth k) e
  where
    by : (b : Bool) → cond b (Some q) None ≡ Some m → m ≡ q
    by true e = cc
    by false e = absurd cc

required_last : (binder_depth : ℕ) (life : Lifetime) (last : Option ℕ) (after : ℕ) → Some after ≡ required_end binder_depth life last → last ≡ Some after
unfolding bound_end
required_last binder_depth NoLifetime last after e = absurd cc
required_last binder_depth InvalidLifetime last after e = absurd cc
required_last binder_depth (IndexedLifetime k) last after e = by (is_announced binder_depth k) e
  where
    by : (b : Bool) → Some after ≡ cond b last None → last ≡ Some after
    by true e = sym e
    by false e = absurd cc

lifetime_from : (part : List ℕ) (at : Option ℕ) (life : Lifetime) (after : ℕ) → lifetime part at ≡ (life, Some after) → Stands at
unfolding lifetime
lifetime_from part (Some at) life after e = (at, refl)
lifetime_from part None life after e = let f = ap (λ l. l.1) e in absurd cc

-- a required lifetime is there
lifetime_is_at : (part : List ℕ) (at binder_depth : ℕ) (life : Lifetime) (last : Option ℕ) (after : ℕ) → lifetime part (Some at) ≡ (life, last) → Some after ≡ required_end binder_depth life last → has_byte part 76 (Some at) ≡ true
unfolding lifetime
lifetime_is_at part at binder_depth life last after e r = by (eqb (get_or part at 0) 76) e
  where
    none : (l : Lifetime) → NoLifetime ≡ l → Some after ≡ required_end binder_depth l last → false ≡ true
    none NoLifetime f r = absurd cc
    none InvalidLifetime f r = absurd cc
    none (IndexedLifetime k) f r = absurd cc

    by : (b : Bool) → cond b (indexed_lifetime (base_62_number part (at + 1))) (NoLifetime, Some at) ≡ (life, last) → b ≡ true
    by true e = refl
    by false e = none life (ap (λ l. l.0) e) r

-- Trees

pub const_folds : (c : ConstTree) (part : List ℕ) (at after : ℕ) → IsConst part c (Some at) (Some after) → ConstFolds part at after (const_height c)
unfolding IsConst ReadsConst
const_folds NoConst part at after is = let e = is.1 in absurd cc
const_folds (Placeholder type_name) part at after is =
    record { tree = Placeholder type_name; reads = placed (λ q. const_form part (Some at) ≡ PlaceholderConst type_name q) after is.0 is.2 is.1; levels = omega arith }
const_folds UntypedPlaceholder part at after is =
    record { tree = UntypedPlaceholder; reads = placed (λ q. const_form part (Some at) ≡ UntypedPlaceholderConst q) after is.0 is.2 is.1; levels = omega arith }
const_folds (Value type_name value) part at after is =
    record { tree = Value type_name value; reads = placed (λ q. const_form part (Some at) ≡ ValueConst type_name value q) after is.0 is.2 is.1; levels = omega arith }
const_folds (InvalidValue negative type_name) part at after is = let e = is.1 in absurd cc
const_folds (BackConst c) part at after is =
    record { tree = ConstTarget is.0; reads = placed (λ q. const_form part (Some at) ≡ BackToConst is.0 q) after is.1 is.5 is.3; levels = omega arith }
const_folds (ConstTarget target) part at after is = absurd is

mutual
  unfolding IsPath ReadsPath path_height

  pub path_folds : (t : PathTree) (part : List ℕ) (at binder_depth after : ℕ) → IsPath part t (Some at) binder_depth (Some after) → PathFolds part at after (path_height t)
  path_folds NoPath part at binder_depth after is = let e = is.1 in absurd cc
  path_folds (Crate root) part at binder_depth after is =
      record { tree = Crate root; reads = placed (λ q. path_form part (Some at) ≡ CrateRoot root q) after is.0 is.2 is.1; levels = omega arith }
  path_folds (Nested namespace p l) part at binder_depth after is =
      let m = identifier_from part is.1 (l, is.2) is.5 in
      let f = path_folds p part is.0 binder_depth m.0 (subst (λ x. IsPath part p (Some is.0) binder_depth x) m.1 is.4) in
      let named = subst (λ x. identifier_at part x ≡ Some (l, is.2)) m.1 is.5 in
      record { tree = Nested namespace f.tree l; reads = (is.0, m.0, is.3, f.reads, placed (λ q. identifier part m.0 ≡ Some (l, q)) after is.2 is.6 named); levels = omega (arith, f.levels) }
  path_folds (InvalidNested p) part at binder_depth after is = let e = is.6 in absurd cc
  path_folds (OfType p t) part at binder_depth after is =
      let m = type_from t part is.1 binder_depth after is.4 in
      let f = path_folds p part is.0 binder_depth m.0 (subst (λ x. IsPath part p (Some is.0) binder_depth x) m.1 is.3) in
      let g = type_folds t part m.0 binder_depth after (subst (λ x. IsType part t x binder_depth (Some after)) m.1 is.4) in
      record { tree = OfType f.tree g.tree; reads = (is.0, m.0, is.2, f.reads, g.reads); levels = omega (arith, f.levels, g.levels) }
  path_folds (OfImpl p t u) part at binder_depth after is =
      let e = path_from u part is.2 binder_depth after is.6 in
      let second = subst (λ x. IsType part t is.1 binder_depth x) e.1 is.5 in
      let m = type_from t part is.1 binder_depth e.0 second in
      let f = path_folds p part is.0 binder_depth m.0 (subst (λ x. IsPath part p (Some is.0) binder_depth x) m.1 is.4) in
      let g = type_folds t part m.0 binder_depth e.0 (subst (λ x. IsType part t x binder_depth (Some e.0)) m.1 second) in
      let h = path_folds u part e.0 binder_depth after (subst (λ x. IsPath part u x binder_depth (Some after)) e.1 is.6) in
      record { tree = OfImpl f.tree g.tree h.tree; reads = (is.0, m.0, e.0, is.3, f.reads, g.reads, h.reads); levels = omega (arith, f.levels, g.levels, h.levels) }
  path_folds (OfTrait t u) part at binder_depth after is =
      let m = path_from u part is.1 binder_depth after is.4 in
      let f = type_folds t part is.0 binder_depth m.0 (subst (λ x. IsType part t (Some is.0) binder_depth x) m.1 is.3) in
      let g = path_folds u part m.0 binder_depth after (subst (λ x. IsPath part u x binder_depth (Some after)) m.1 is.4) in
      record { tree = OfTrait f.tree g.tree; reads = (is.0, m.0, is.2, f.reads, g.reads); levels = omega (arith, f.levels, g.levels) }
  path_folds (Generic p items) part at binder_depth after is =
      let m = items_from items part Arguments is.1 binder_depth after is.4 in
      let f = path_folds p part is.0 binder_depth m.0 (subst (λ x. IsPath part p (Some is.0) binder_depth x) m.1 is.3) in
      let g = items_fold items part Arguments m.0 binder_depth after (subst (λ x. AreItems part Arguments items x binder_depth (Some after)) m.1 is.4) in
      record { tree = Generic f.tree g.tree; reads = (is.0, m.0, is.2, f.reads, g.reads); levels = omega (arith, f.levels, g.levels) }
  path_folds (BackPath p) part at binder_depth after is =
      record { tree = PathTarget is.0; reads = placed (λ q. path_form part (Some at) ≡ BackToPath is.0 q) after is.1 is.5 is.3; levels = omega arith }
  path_folds (PathTarget target) part at binder_depth after is = absurd is

  pub type_folds : (t : TypeTree) (part : List ℕ) (at binder_depth after : ℕ) → IsType part t (Some at) binder_depth (Some after) → TypeFolds part at after (type_height t)
  type_folds NoType part at binder_depth after is = let e = is.1 in absurd cc
  type_folds (Basic text) part at binder_depth after is =
      record { tree = Basic text; reads = placed (λ q. type_form part (Some at) ≡ BasicType text q) after is.0 is.2 is.1; levels = omega arith }
  type_folds (Reference mutable life t) part at binder_depth after is =
      let m = type_from t part (bound_end binder_depth life (Some is.0)) binder_depth after is.2 in
      let f = type_folds t part m.0 binder_depth after (subst (λ x. IsType part t x binder_depth (Some after)) m.1 is.2) in
      record { tree = Reference mutable life f.tree; reads = (is.0, is.1, subst (λ x. ReadsType part f.tree x after) (bound_at binder_depth life is.0 m.0 m.1) f.reads); levels = omega (arith, f.levels) }
  type_folds InvalidReferenceType part at binder_depth after is = let e = is.1 in absurd cc
  type_folds (Pointer mutable t) part at binder_depth after is =
      let f = type_folds t part is.0 binder_depth after is.2 in
      record { tree = Pointer mutable f.tree; reads = (is.0, is.1, f.reads); levels = omega (arith, f.levels) }
  type_folds (Slice t) part at binder_depth after is =
      let f = type_folds t part is.0 binder_depth after is.2 in
      record { tree = Slice f.tree; reads = (is.0, is.1, f.reads); levels = omega (arith, f.levels) }
  type_folds (Array t c) part at binder_depth after is =
      let m = const_from c part is.1 after is.4 in
      let f = type_folds t part is.0 binder_depth m.0 (subst (λ x. IsType part t (Some is.0) binder_depth x) m.1 is.3) in
      let g = const_folds c part m.0 after (subst (λ x. IsConst part c x (Some after)) m.1 is.4) in
      record { tree = Array f.tree g.tree; reads = (is.0, m.0, is.2, f.reads, g.reads); levels = omega (arith, f.levels, g.levels) }
  type_folds (Tuple items) part at binder_depth after is =
      let f = items_fold items part Types is.0 binder_depth after is.2 in
      record { tree = Tuple f.tree; reads = (is.0, is.1, f.reads); levels = omega (arith, f.levels) }
  type_folds (Function signature items) part at binder_depth after is =
      let e = after_from is.1 after is.5 in
      let f = items_fold items part Types is.0 (binder_depth + signature.binder) e.0 (subst (λ x. AreItems part Types items (Some is.0) (binder_depth + signature.binder) x) e.1 is.3) in
      record { tree = Function signature f.tree; reads = (is.0, e.0, is.2, f.reads, subst (λ x. has_byte part 117 x ≡ true) e.1 is.4, same_position after (e.0 + 1) (subst (λ x. Some after ≡ after_byte x) e.1 is.5)); levels = omega (arith, f.levels) }
  type_folds (FunctionTo signature items t) part at binder_depth after is =
      let inner = binder_depth + signature.binder in
      let e = type_from t part is.1 inner after is.5 in
      let f = items_fold items part Types is.0 inner e.0 (subst (λ x. AreItems part Types items (Some is.0) inner x) e.1 is.3) in
      let g = type_folds t part e.0 inner after (subst (λ x. IsType part t x inner (Some after)) e.1 is.5) in
      record { tree = FunctionTo signature f.tree g.tree; reads = (is.0, e.0, is.2, f.reads, subst (λ x. has_byte part 117 x ≡ false) e.1 is.4, g.reads); levels = omega (arith, f.levels, g.levels) }
  type_folds (InvalidFunction binder) part at binder_depth after is = let e = is.1 in absurd cc
  type_folds (Dyn binder items life) part at binder_depth after is =
      let last = required_last binder_depth life is.2 after is.6 in
      let e = lifetime_from part is.1 life after (is.5 ∙ ap (λ (x : Option ℕ). (life, x)) last) in
      let there = subst (λ x. lifetime part x ≡ (life, is.2)) e.1 is.5 in
      let f = items_fold items part Traits is.0 (binder_depth + binder) e.0 (subst (λ x. AreItems part Traits items (Some is.0) (binder_depth + binder) x) e.1 is.4) in
      record { tree = Dyn binder f.tree life; reads = (is.0, e.0, is.3, f.reads, lifetime_is_at part e.0 binder_depth life is.2 after there is.6, there ∙ ap (λ (x : Option ℕ). (life, x)) last); levels = omega (arith, f.levels) }
  type_folds InvalidDynType part at binder_depth after is = let e = is.1 in absurd cc
  type_folds (Named p) part at binder_depth after is =
      let f = path_folds p part at binder_depth after is.1 in
      record { tree = Named f.tree; reads = (is.0, f.reads); levels = omega (arith, f.levels) }
  type_folds (BackType t) part at binder_depth after is =
      record { tree = TypeTarget is.0; reads = placed (λ q. type_form part (Some at) ≡ BackToType is.0 q) after is.1 is.5 is.3; levels = omega arith }
  type_folds (TypeTarget target) part at binder_depth after is = absurd is

  pub item_folds : (i : Item) (part : List ℕ) (listed : Listed) (at binder_depth after : ℕ) → IsItem part listed i (Some at) binder_depth (Some after) → ItemFolds part listed at after (item_height i)
  item_folds (LifetimeItem life) part Arguments at binder_depth after is =
      record { tree = LifetimeItem life; reads = (is.1, is.2 ∙ ap (λ (x : Option ℕ). (life, x)) (required_last binder_depth life is.0 after is.3)); levels = omega arith }
  item_folds (LifetimeItem life) part Types at binder_depth after is = absurd is
  item_folds (LifetimeItem life) part Traits at binder_depth after is = absurd is
  item_folds (TypeItem t) part Arguments at binder_depth after is =
      let f = type_folds t part at binder_depth after is.2 in
      record { tree = TypeItem f.tree; reads = (is.0, is.1, f.reads); levels = f.levels }
  item_folds (TypeItem t) part Types at binder_depth after is =
      let f = type_folds t part at binder_depth after is in
      record { tree = TypeItem f.tree; reads = f.reads; levels = f.levels }
  item_folds (TypeItem t) part Traits at binder_depth after is = absurd is
  item_folds (ConstItem c) part Arguments at binder_depth after is =
      let f = const_folds c part (at + 1) after is.2 in
      record { tree = ConstItem f.tree; reads = (is.0, is.1, f.reads); levels = f.levels }
  item_folds (ConstItem c) part Types at binder_depth after is = absurd is
  item_folds (ConstItem c) part Traits at binder_depth after is = absurd is
  item_folds (TraitItem p bound) part Arguments at binder_depth after is = absurd is
  item_folds (TraitItem p bound) part Types at binder_depth after is = absurd is
  item_folds (TraitItem p bound) part Traits at binder_depth after is =
      let m = bindings_from bound part is.0 binder_depth after is.2 in
      let f = path_folds p part at binder_depth m.0 (subst (λ x. IsPath part p (Some at) binder_depth x) m.1 is.1) in
      let g = bindings_fold bound part m.0 binder_depth after (subst (λ x. AreBindings part bound x binder_depth (Some after)) m.1 is.2) in
      record { tree = TraitItem f.tree g.tree; reads = (m.0, f.reads, g.reads); levels = omega (arith, f.levels, g.levels) }

  pub items_fold : (items : Items) (part : List ℕ) (listed : Listed) (at binder_depth after : ℕ) → AreItems part listed items (Some at) binder_depth (Some after) → ItemsFold part listed at after (items_height items)
  items_fold NoItems part listed at binder_depth after is =
      record { tree = NoItems; reads = (not-false (has_byte part 69 (Some at)) is.0, same_position after (at + 1) is.1); levels = omega arith }
  items_fold (ItemThen i items) part listed at binder_depth after is =
      let m = items_from items part listed is.0 binder_depth after is.3 in
      let f = item_folds i part listed at binder_depth m.0 (subst (λ x. IsItem part listed i (Some at) binder_depth x) m.1 is.2) in
      let g = items_fold items part listed m.0 binder_depth after (subst (λ x. AreItems part listed items x binder_depth (Some after)) m.1 is.3) in
      record { tree = ItemThen f.tree g.tree; reads = (m.0, not-true (has_byte part 69 (Some at)) is.1, f.reads, g.reads); levels = omega (arith, f.levels, g.levels) }

  pub bindings_fold : (bound : Bindings) (part : List ℕ) (at binder_depth after : ℕ) → AreBindings part bound (Some at) binder_depth (Some after) → BindingsFold part at after (bindings_height bound)
  bindings_fold NoBindings part at binder_depth after is =
      record { tree = NoBindings; reads = (is.0, same_position after at is.1); levels = omega arith }
  bindings_fold (Binding i t more) part at binder_depth after is =
      let m = bindings_from more part is.1 binder_depth after is.5 in
      let f = type_folds t part is.0 binder_depth m.0 (subst (λ x. IsType part t (Some is.0) binder_depth x) m.1 is.4) in
      let g = bindings_fold more part m.0 binder_depth after (subst (λ x. AreBindings part more x binder_depth (Some after)) m.1 is.5) in
      record { tree = Binding i f.tree g.tree; reads = (is.0, m.0, is.2, is.3, f.reads, g.reads); levels = omega (arith, f.levels, g.levels) }
  bindings_fold InvalidBinding part at binder_depth after is = let e = is.2 in absurd cc
