-- What a v0 mangling means: trees of paths, types and consts, with their levels and steps. No byte of a mangling appears here.
use Rattle.std.specs.Prelude.{◌≡◌, ℕ, suc, ◌+◌, List, [], Option, Some, None, Bool, false, nat_le, codes, max}
use Rattle.std.proofs.Common.{refl}
use Rattle.std.specs.Option.{option_or}
use Rattle.binfarce_v0_grammar.specs.Identifiers.{UndisambiguatedIdentifier, Identifier}
use Rattle.binfarce_v0_grammar.specs.Forms.{Lifetime, NoLifetime, Signature, ConstValue}

pub data ConstTree : Type 0 where
  -- invalid syntax
  NoConst : ConstTree
  UntypedPlaceholder : ConstTree
  Placeholder : (type_name : List ℕ) → ConstTree
  Value : (type_name : List ℕ) (value : ConstValue) → ConstTree
  -- a value that is invalid, and whether it has a sign
  InvalidValue : (negative : Bool) (type_name : List ℕ) → ConstTree
  -- the target of a back reference, in an unfolding
  BackConst : ConstTree → ConstTree
  -- the position of a back reference's target, in a reading
  ConstTarget : (target : ℕ) → ConstTree

mutual
  pub data PathTree : Type 0 where
    -- invalid syntax
    NoPath : PathTree
    Crate : (root : Identifier) → PathTree
    Nested : (namespace : ℕ) (parent : PathTree) (name : Identifier) → PathTree
    -- a nested path whose name is invalid
    InvalidNested : (parent : PathTree) → PathTree
    -- <T>, with the path of its impl
    OfType : (impl_path : PathTree) (self_type : TypeTree) → PathTree
    -- <T as Trait>, with the path of its impl
    OfImpl : (impl_path : PathTree) (self_type : TypeTree) (trait_path : PathTree) → PathTree
    -- <T as Trait>
    OfTrait : (self_type : TypeTree) (trait_path : PathTree) → PathTree
    Generic : (path : PathTree) (arguments : Items) → PathTree
    -- the target of a back reference, in an unfolding
    BackPath : PathTree → PathTree
    -- the position of a back reference's target, in a reading
    PathTarget : (target : ℕ) → PathTree

  pub data TypeTree : Type 0 where
    -- invalid syntax
    NoType : TypeTree
    Basic : (name : List ℕ) → TypeTree
    Reference : (mutable : Bool) (life : Lifetime) (to : TypeTree) → TypeTree
    InvalidReferenceType : TypeTree
    Pointer : (mutable : Bool) (to : TypeTree) → TypeTree
    Slice : TypeTree → TypeTree
    Array : (of_type : TypeTree) (size : ConstTree) → TypeTree
    Tuple : Items → TypeTree
    -- a function type that returns ()
    Function : (signature : Signature) (parameters : Items) → TypeTree
    FunctionTo : (signature : Signature) (parameters : Items) (returned : TypeTree) → TypeTree
    InvalidFunction : (binder : ℕ) → TypeTree
    Dyn : (binder : ℕ) (traits : Items) (life : Lifetime) → TypeTree
    InvalidDynType : TypeTree
    Named : PathTree → TypeTree
    -- the target of a back reference, in an unfolding
    BackType : TypeTree → TypeTree
    -- the position of a back reference's target, in a reading
    TypeTarget : (target : ℕ) → TypeTree

  -- an item of a list: an argument, a type, or a trait with its bindings
  pub data Item : Type 0 where
    LifetimeItem : Lifetime → Item
    TypeItem : TypeTree → Item
    ConstItem : ConstTree → Item
    TraitItem : (path : PathTree) (bindings : Bindings) → Item

  -- the items of a list, in order
  pub data Items : Type 0 where
    NoItems : Items
    ItemThen : Item → Items → Items

  -- the bindings of a trait, in order: an invalid one ends them
  pub data Bindings : Type 0 where
    NoBindings : Bindings
    Binding : (name : UndisambiguatedIdentifier) (bound : TypeTree) → Bindings → Bindings
    -- a binding whose name is invalid
    InvalidBinding : Bindings

-- the kind of a list's items: arguments, types or traits
pub data Listed : Type 0 where
  Arguments : Listed
  Types : Listed
  Traits : Listed

-- Levels and steps

abbrev pub const_height : (c : ConstTree) → ℕ
const_height (BackConst c) = suc (const_height c)
const_height _ = 1

-- levels: 1 plus the greatest height of a tree's parts
unfoldable mutual
  pub path_height : PathTree → ℕ
  path_height (Nested namespace p name) = suc (path_height p)
  path_height (InvalidNested p) = suc (path_height p)
  path_height (OfType p t) = suc (max (path_height p) (type_height t))
  path_height (OfImpl p t u) = suc (max (path_height p) (max (type_height t) (path_height u)))
  path_height (OfTrait t u) = suc (max (type_height t) (path_height u))
  path_height (Generic p items) = suc (max (path_height p) (items_height items))
  path_height (BackPath p) = suc (path_height p)
  path_height _ = 1

  pub type_height : TypeTree → ℕ
  type_height (Reference mutable life t) = suc (type_height t)
  type_height (Pointer mutable t) = suc (type_height t)
  type_height (Slice t) = suc (type_height t)
  type_height (Array t c) = suc (max (type_height t) (const_height c))
  type_height (Tuple items) = suc (items_height items)
  type_height (Function signature items) = suc (items_height items)
  type_height (FunctionTo signature items t) = suc (max (items_height items) (type_height t))
  type_height (Dyn binder items life) = suc (items_height items)
  type_height (Named p) = suc (path_height p)
  type_height (BackType t) = suc (type_height t)
  type_height _ = 1

  pub item_height : Item → ℕ
  item_height (LifetimeItem life) = 0
  item_height (TypeItem t) = type_height t
  item_height (ConstItem c) = const_height c
  item_height (TraitItem p bindings) = max (path_height p) (bindings_height bindings)

  pub items_height : Items → ℕ
  items_height NoItems = 0
  items_height (ItemThen i items) = max (item_height i) (items_height items)

  pub bindings_height : Bindings → ℕ
  bindings_height (Binding name t bindings) = max (type_height t) (bindings_height bindings)
  bindings_height _ = 0

-- 1 for an "L" that was read, also for one whose number is invalid
abbrev pub lifetime_steps : (life : Lifetime) → ℕ
lifetime_steps NoLifetime = 0
lifetime_steps _ = 1

abbrev pub const_steps : (c : ConstTree) → ℕ
const_steps (BackConst c) = suc (const_steps c)
const_steps _ = 1

-- steps: 1 for each path, type and const, also for one that is invalid, 1 for each "L" read, and 1 for each lifetime announced
unfoldable mutual
  pub path_steps : PathTree → ℕ
  path_steps (Nested namespace p name) = suc (path_steps p)
  path_steps (InvalidNested p) = suc (path_steps p)
  path_steps (OfType p t) = suc (path_steps p + type_steps t)
  path_steps (OfImpl p t u) = suc (path_steps p + type_steps t + path_steps u)
  path_steps (OfTrait t u) = suc (type_steps t + path_steps u)
  path_steps (Generic p items) = suc (path_steps p + items_steps items)
  path_steps (BackPath p) = suc (path_steps p)
  path_steps _ = 1

  pub type_steps : TypeTree → ℕ
  type_steps (Reference mutable life t) = suc (lifetime_steps life + type_steps t)
  type_steps InvalidReferenceType = 2
  type_steps (Pointer mutable t) = suc (type_steps t)
  type_steps (Slice t) = suc (type_steps t)
  type_steps (Array t c) = suc (type_steps t + const_steps c)
  type_steps (Tuple items) = suc (items_steps items)
  type_steps (Function signature items) = suc (signature.binder + items_steps items)
  type_steps (FunctionTo signature items t) = suc (signature.binder + items_steps items + type_steps t)
  type_steps (InvalidFunction binder) = suc binder
  type_steps (Dyn binder items life) = suc (binder + items_steps items + lifetime_steps life)
  type_steps (Named p) = suc (path_steps p)
  type_steps (BackType t) = suc (type_steps t)
  type_steps _ = 1

  pub item_steps : Item → ℕ
  item_steps (LifetimeItem life) = lifetime_steps life
  item_steps (TypeItem t) = type_steps t
  item_steps (ConstItem c) = const_steps c
  item_steps (TraitItem p bindings) = path_steps p + bindings_steps bindings

  pub items_steps : Items → ℕ
  items_steps NoItems = 0
  items_steps (ItemThen i items) = item_steps i + items_steps items

  pub bindings_steps : Bindings → ℕ
  bindings_steps (Binding name t bindings) = type_steps t + bindings_steps bindings
  bindings_steps _ = 0

-- The crate's name

-- the first crate root in reading order that is in no back reference
unfoldable mutual
  pub path_root : PathTree → Option UndisambiguatedIdentifier
  path_root (Crate root) = Some root.name
  path_root (Nested namespace p name) = path_root p
  path_root (InvalidNested p) = path_root p
  path_root (OfType p t) = option_or (path_root p) (type_root t)
  path_root (OfImpl p t u) = option_or (option_or (path_root p) (type_root t)) (path_root u)
  path_root (OfTrait t u) = option_or (type_root t) (path_root u)
  path_root (Generic p items) = option_or (path_root p) (items_root items)
  path_root _ = None

  pub type_root : TypeTree → Option UndisambiguatedIdentifier
  type_root (Reference mutable life t) = type_root t
  type_root (Pointer mutable t) = type_root t
  type_root (Slice t) = type_root t
  type_root (Array t c) = type_root t
  type_root (Tuple items) = items_root items
  type_root (Function signature items) = items_root items
  type_root (FunctionTo signature items t) = option_or (items_root items) (type_root t)
  type_root (Dyn binder items life) = items_root items
  type_root (Named p) = path_root p
  type_root _ = None

  pub item_root : Item → Option UndisambiguatedIdentifier
  item_root (TypeItem t) = type_root t
  item_root (TraitItem p bindings) = option_or (path_root p) (bindings_root bindings)
  item_root _ = None

  pub items_root : Items → Option UndisambiguatedIdentifier
  items_root NoItems = None
  items_root (ItemThen i items) = option_or (item_root i) (items_root items)

  pub bindings_root : Bindings → Option UndisambiguatedIdentifier
  bindings_root (Binding name t bindings) = option_or (type_root t) (bindings_root bindings)
  bindings_root _ = None

-- Lifetimes under binders

-- an index counts the lifetimes that the binders around it announce, from the innermost out, from 1 on; 0 is the erased lifetime, which is in scope everywhere
abbrev pub is_announced : (binder_depth index : ℕ) → Bool
is_announced binder_depth index = nat_le index binder_depth

-- `a::<&u8, &u8>`, of which the second type is a back reference to the first
abbrev pub worked_tree : PathTree
worked_tree =
    let u : TypeTree = Reference false NoLifetime (Basic (codes "u8")) in
    Generic (Crate (record { disambiguator = 0; name = record { ascii = codes "a"; punycode = [] } })) (ItemThen (TypeItem u) (ItemThen (TypeItem (BackType u)) NoItems))

worked_levels : path_height worked_tree ≡ 4
unfolding path_height
worked_levels = refl

worked_steps : path_steps worked_tree ≡ 7
unfolding path_steps
worked_steps = refl
