-- The text of a tree, with or without the disambiguators of crates.
use Rattle.std.specs.Prelude.{◌≡◌, ℕ, ◌+◌, List, [], ◌++◌, Bool, true, false, codes}
use Rattle.std.proofs.Common.{refl}
use Rattle.std.specs.Fmt.{digits}
use Rattle.binfarce_v0_grammar.specs.Tree.{ConstTree, PathTree, TypeTree, Item, Items, Bindings, worked_tree, NoConst, UntypedPlaceholder, Placeholder, Value, InvalidValue, BackConst, ConstTarget, NoPath, Crate, Nested, InvalidNested, OfType, OfImpl, OfTrait, Generic, BackPath, PathTarget, NoType, Basic, Reference, InvalidReferenceType, Pointer, Slice, Array, Tuple, Function, FunctionTo, InvalidFunction, Dyn, InvalidDynType, Named, BackType, TypeTarget, LifetimeItem, TypeItem, ConstItem, TraitItem, NoItems, ItemThen, NoBindings, Binding, InvalidBinding}
use Rattle.binfarce_v0_state.specs.LeafTexts.{identifier_text, binder_text, reference_lifetime, argument_lifetime, dyn_lifetime, disambiguator_text, nested_text, mutable_text, signature_text, sign_text, value_text}

-- where a tree is shown: a path as a value, a path as a type, and a trait, whose <..> its bindings may go on with
pub data Position : Type 0 where
  InValue : Position
  InType : Position
  OpenTrait : Position

-- where the path within a path is shown: as a type where the whole is an open trait, since only the arguments that end a trait's path stay open. A
-- back reference passes its own position on
abbrev pub parent_position : (position : Position) → Position
parent_position OpenTrait = InType
parent_position position = position

abbrev pub const_text : (c : ConstTree) → List ℕ
const_text NoConst = codes "?"
const_text UntypedPlaceholder = codes "_"
const_text (Placeholder type_name) = codes "_" ++ (codes ": " ++ type_name)
const_text (Value type_name value) = value_text value ++ (codes ": " ++ type_name)
const_text (InvalidValue negative type_name) = (sign_text negative ++ codes "?") ++ (codes ": " ++ type_name)
const_text (BackConst c) = const_text c
-- positions occur in readings alone, which are never shown
const_text (ConstTarget at) = []

-- "::" before the arguments of a value
abbrev pub value_mark : (position : Position) → List ℕ
value_mark InValue = codes "::"
value_mark _ = []

-- the arguments of an open trait are not closed
abbrev pub closing : (position : Position) → List ℕ
closing OpenTrait = []
closing _ = codes ">"

abbrev pub is_open_trait : (position : Position) → Bool
is_open_trait OpenTrait = true
is_open_trait _ = false

-- a path with arguments that a position leaves open
abbrev pub is_left_open : (path : PathTree) (position : Position) → Bool
is_left_open (Generic p items) position = is_open_trait position
is_left_open (BackPath p) position = is_left_open p position
is_left_open _ position = false

-- the text before an item: nothing before the first
abbrev pub separator : (is_first : Bool) (between : List ℕ) → List ℕ
separator true between = []
separator false between = between

-- a tuple of one has a ","
abbrev pub single_mark : (items : Items) → List ℕ
single_mark NoItems = []
single_mark (ItemThen i NoItems) = codes ","
single_mark (ItemThen i (ItemThen j items)) = []

-- before a binding: its trait's arguments may have been left open, or an earlier binding have opened the list
abbrev pub open_mark : (is_open : Bool) → List ℕ
open_mark true = codes ", "
open_mark false = codes "<"

-- after the last binding, where a list was opened
abbrev pub close_mark : (is_open : Bool) → List ℕ
close_mark true = codes ">"
close_mark false = []

-- the text of a tree, with or without the disambiguators of crates, under a depth of binders. The path of an impl isn't shown
unfoldable mutual
  pub path_text : (full : Bool) (tree : PathTree) (position : Position) (binder_depth : ℕ) → List ℕ
  path_text full NoPath position binder_depth = codes "?"
  path_text full (Crate root) position binder_depth = identifier_text root.name ++ disambiguator_text full root.disambiguator
  path_text full (Nested namespace p name) position binder_depth =
      path_text full p (parent_position position) binder_depth ++ nested_text namespace name
  path_text full (InvalidNested p) position binder_depth =
      path_text full p (parent_position position) binder_depth ++ codes "?"
  path_text full (OfType p t) position binder_depth = codes "<" ++ (type_text full t binder_depth ++ codes ">")
  path_text full (OfImpl p t u) position binder_depth =
      codes "<" ++ (type_text full t binder_depth ++ (codes " as " ++ (path_text full u InType binder_depth ++ codes ">")))
  path_text full (OfTrait t u) position binder_depth =
      codes "<" ++ (type_text full t binder_depth ++ (codes " as " ++ (path_text full u InType binder_depth ++ codes ">")))
  path_text full (Generic p items) position binder_depth =
      path_text full p (parent_position position) binder_depth ++ (value_mark position ++ (codes "<" ++ (items_text full items (codes ", ") true binder_depth ++ closing position)))
  path_text full (BackPath p) position binder_depth = path_text full p position binder_depth
  -- positions occur in readings alone, which are never shown
  path_text full (PathTarget at) position binder_depth = []

  pub type_text : (full : Bool) (tree : TypeTree) (binder_depth : ℕ) → List ℕ
  type_text full NoType binder_depth = codes "?"
  type_text full (Basic name) binder_depth = name
  type_text full (Reference mutable life t) binder_depth =
      codes "&" ++ (reference_lifetime binder_depth life ++ (mutable_text mutable (codes "mut ") [] ++ type_text full t binder_depth))
  type_text full InvalidReferenceType binder_depth = codes "&?"
  type_text full (Pointer mutable t) binder_depth =
      mutable_text mutable (codes "*mut ") (codes "*const ") ++ type_text full t binder_depth
  type_text full (Slice t) binder_depth = codes "[" ++ (type_text full t binder_depth ++ codes "]")
  type_text full (Array t c) binder_depth =
      codes "[" ++ (type_text full t binder_depth ++ (codes "; " ++ (const_text c ++ codes "]")))
  type_text full (Tuple items) binder_depth =
      codes "(" ++ (items_text full items (codes ", ") true binder_depth ++ (single_mark items ++ codes ")"))
  type_text full (Function s items) binder_depth =
      binder_text binder_depth s.binder ++ (signature_text s ++ (items_text full items (codes ", ") true (binder_depth + s.binder) ++ codes ")"))
  type_text full (FunctionTo s items t) binder_depth =
      binder_text binder_depth s.binder ++ (signature_text s ++ (items_text full items (codes ", ") true (binder_depth + s.binder) ++ (codes ")" ++ (codes " -> " ++ type_text full t (binder_depth + s.binder)))))
  type_text full (InvalidFunction binder) binder_depth = binder_text binder_depth binder ++ codes "?"
  type_text full (Dyn binder items life) binder_depth =
      codes "dyn " ++ (binder_text binder_depth binder ++ (items_text full items (codes " + ") true (binder_depth + binder) ++ dyn_lifetime binder_depth life))
  type_text full InvalidDynType binder_depth = codes "dyn ??"
  type_text full (Named p) binder_depth = path_text full p InType binder_depth
  type_text full (BackType t) binder_depth = type_text full t binder_depth
  -- positions occur in readings alone, which are never shown
  type_text full (TypeTarget at) binder_depth = []

  pub item_text : (full : Bool) (i : Item) (binder_depth : ℕ) → List ℕ
  item_text full (LifetimeItem life) binder_depth = argument_lifetime binder_depth life
  item_text full (TypeItem t) binder_depth = type_text full t binder_depth
  item_text full (ConstItem c) binder_depth = const_text c
  item_text full (TraitItem p bindings) binder_depth =
      path_text full p OpenTrait binder_depth ++ bindings_text full bindings (is_left_open p OpenTrait) binder_depth

  pub items_text : (full : Bool) (items : Items) (between : List ℕ) (is_first : Bool) (binder_depth : ℕ) → List ℕ
  items_text full NoItems between is_first binder_depth = []
  items_text full (ItemThen i items) between is_first binder_depth =
      separator is_first between ++ (item_text full i binder_depth ++ items_text full items between false binder_depth)

  pub bindings_text : (full : Bool) (bindings : Bindings) (is_open : Bool) (binder_depth : ℕ) → List ℕ
  bindings_text full NoBindings is_open binder_depth = close_mark is_open
  bindings_text full (Binding name t bindings) is_open binder_depth =
      open_mark is_open ++ (identifier_text name ++ (codes " = " ++ (type_text full t binder_depth ++ bindings_text full bindings true binder_depth)))
  bindings_text full InvalidBinding is_open binder_depth = open_mark is_open ++ codes "?"

-- the text of a mangling that unfolds to a tree
abbrev pub name_text : (full : Bool) (tree : PathTree) → List ℕ
name_text full tree = path_text full tree InValue 0

-- `a::<&u8, &u8>`
worked_text : name_text true worked_tree ≡ codes "a[0]::<&u8, &u8>"
unfolding path_text identifier_text digits
worked_text = refl
