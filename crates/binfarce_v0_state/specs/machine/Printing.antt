-- The printer, step by step: a name is read and written in one pass. Each step gives the tree that it read, and the state that it leaves.
use Rattle.std.specs.Prelude.{ℕ, zero, suc, ◌+◌, ◌-◌, ◌*◌, ◌≤◌, List, [], ◌++◌, Option, Some, None, Bool, true, false, if◌then◌else◌, ◌&&◌, nat_le, codes, min}
use Rattle.std.specs.Option.{option_or}
use Rattle.binfarce_v0_state.specs.machine.Counted.{grown, is_whole}
use Rattle.binfarce_text.specs.Letters.{'K', 'L', 'p', 'u'}
use Rattle.binfarce_v0_grammar.specs.Identifiers.{UndisambiguatedIdentifier, Identifier}
use Rattle.binfarce_v0_state.specs.LeafTexts.{identifier_text}
use Rattle.binfarce_v0_grammar.specs.Forms.{Lifetime, NoLifetime, Signature, has_byte, after_byte, identifier_at, undisambiguated_at, lifetime, path_form, type_form, const_form, PathForm, NoPathForm, CrateRoot, NestedIn, InherentImpl, TraitImpl, TraitDefinition, WithArguments, BackToPath, TypeForm, NoTypeForm, BasicType, ReferenceTo, InvalidReference, PointerTo, SliceOf, ArrayOf, TupleOf, FunctionOf, InvalidAbi, DynOf, InvalidDyn, BackToType, PathType, ConstForm, NoConstForm, UntypedPlaceholderConst, PlaceholderConst, ValueConst, InvalidConst, BackToConst}
use Rattle.binfarce_v0_grammar.specs.Tree.{PathTree, TypeTree, ConstTree, Item, Items, Bindings, NoConst, UntypedPlaceholder, Placeholder, Value, InvalidValue, BackConst, NoPath, Crate, Nested, InvalidNested, OfType, OfImpl, OfTrait, Generic, BackPath, NoType, Basic, Reference, InvalidReferenceType, Pointer, Slice, Array, Tuple, Function, FunctionTo, InvalidFunction, Dyn, InvalidDynType, Named, BackType, LifetimeItem, TypeItem, ConstItem, TraitItem, NoItems, ItemThen, NoBindings, Binding, InvalidBinding, lifetime_steps, Listed, Arguments, Types, Traits}
use Rattle.binfarce_v0_state.specs.TreeTexts.{Position, InType, OpenTrait, parent_position, value_mark, closing, is_left_open, separator, single_mark, open_mark, close_mark}
use Rattle.binfarce_v0_state.specs.LeafTexts.{binder_text, reference_lifetime, argument_lifetime, dyn_lifetime, disambiguator_text, nested_text, mutable_text, signature_text, sign_text, value_text}
use Rattle.binfarce_v0_grammar.specs.Unfolding.{bound_end, required_end, list_goes_on}
use Rattle.binfarce_v0_grammar.specs.declared.limits.TheConstants.{MAX_LEVELS, MAX_STEPS}

-- the state of a printing
pub record State : Type 0 where
  -- the position, None after invalid syntax
  pub at : Option ℕ
  -- the steps that are left
  pub steps_left : ℕ
  -- the least number of levels that were left so far
  pub least_levels_left : ℕ
  -- a limit was passed
  pub limit_exceeded : Bool
  -- what was written, unless it is muted
  pub text : List ℕ
  -- the same without the disambiguators of crates
  pub trimmed : List ℕ
  pub muted : Bool
  -- disambiguators of crates are written
  pub full : Bool
  -- within the target of a back reference
  pub in_back_reference : Bool
  -- the first crate root
  pub root : Option UndisambiguatedIdentifier
  -- how many bytes of each text are counted; all of them where it is None
  pub most : Option ℕ

abbrev pub heard : Bool → List ℕ → List ℕ
heard true text = []
heard false text = text

-- both texts are whole
abbrev pub has_room : State → Bool
has_room s = is_whole s.most s.text && is_whole s.most s.trimmed

abbrev pub write : List ℕ → State → State
write text s = record s { text = grown s.most s.text (heard s.muted text); trimmed = grown s.most s.trimmed (heard s.muted text) }

-- what is written again has a text with the disambiguators that are shown, and one without
abbrev pub write_both : (text trimmed : List ℕ) → State → State
write_both text trimmed s = record s { text = grown s.most s.text (heard s.muted text); trimmed = grown s.most s.trimmed (heard s.muted trimmed) }

-- a crate's disambiguator
abbrev pub disambiguate : ℕ → State → State
disambiguate disambiguator s = record s { text = grown s.most s.text (heard s.muted (disambiguator_text s.full disambiguator)) }

abbrev pub seek : Option ℕ → State → State
seek at s = record s { at = at }

-- after invalid syntax
abbrev pub after_invalid_syntax : State → State
after_invalid_syntax s = write (codes "?") (seek None s)

-- a limit is passed
abbrev pub stopped : State → State
stopped s = record s { at = None; limit_exceeded = true }

-- steps
abbrev pub take : ℕ → State → State
take n s = record s { steps_left = s.steps_left - n }

-- a level and a step
abbrev pub entered : ℕ → State → State
entered levels_left s = record s { steps_left = s.steps_left - 1; least_levels_left = min s.least_levels_left levels_left }

-- the first crate root outside back references
abbrev pub kept_root : Bool → Option UndisambiguatedIdentifier → Option UndisambiguatedIdentifier → Option UndisambiguatedIdentifier
kept_root true root other = root
kept_root false root other = option_or root other

abbrev pub rooted : UndisambiguatedIdentifier → State → State
rooted name s = record s { root = kept_root s.in_back_reference s.root (Some name) }

-- what is read in a back reference's target
abbrev pub into : ℕ → State → State
into target s = record s { at = Some target; in_back_reference = true }

abbrev pub back_to : ℕ → Bool → State → State
back_to q in_back_reference s = record s { at = if s.limit_exceeded then None else Some q; in_back_reference = in_back_reference }

abbrev pub set_muted : Bool → State → State
set_muted muted s = record s { muted = muted }

-- the readers of one level less
pub record Readers : Type 0 where
  pub path : Position → ℕ → State → PathTree × State
  pub ty : ℕ → State → TypeTree × State
  pub constant : State → ConstTree × State

-- Consts

abbrev pub back_const : ℕ → Bool → ConstTree × State → ConstTree × State
back_const q in_back_reference r = (BackConst r.0, back_to q in_back_reference r.1)

-- a text and the name of its type
abbrev pub typed : List ℕ → List ℕ → State → State
typed text type_name s = write type_name (write (codes ": ") (write text s))

unfoldable pub const_rule : Readers → State → ConstForm → ConstTree × State
const_rule R s NoConstForm = (NoConst, after_invalid_syntax s)
const_rule R s (UntypedPlaceholderConst q) = (UntypedPlaceholder, write (codes "_") (seek (Some q) s))
const_rule R s (PlaceholderConst type_name q) = (Placeholder type_name, typed (codes "_") type_name (seek (Some q) s))
const_rule R s (ValueConst type_name value q) =
    (Value type_name value, typed (value_text value) type_name (seek (Some q) s))
const_rule R s (InvalidConst negative type_name) =
    (InvalidValue negative type_name, typed (sign_text negative ++ codes "?") type_name (seek None s))
const_rule R s (BackToConst target q) = back_const q s.in_back_reference (R.constant (into target s))

-- Lists

abbrev pub lifetime_item : ℕ → Lifetime × Option ℕ → State → Item × State
lifetime_item binder_depth l s =
    (LifetimeItem l.0, write (argument_lifetime binder_depth l.0) (seek (required_end binder_depth l.0 l.1) s))

-- what takes steps, where so many are left
abbrev pub taking : {T : Type 0} → ℕ → T → State → (State → T × State) → T × State
taking n none s f = if nat_le n s.steps_left then f (take n s) else (none, stopped s)

abbrev pub const_item : ConstTree × State → Item × State
const_item r = (ConstItem r.0, r.1)

abbrev pub type_item : TypeTree × State → Item × State
type_item r = (TypeItem r.0, r.1)

abbrev pub argument_rule : List ℕ → Readers → ℕ → State → Bool → Bool → Item × State
argument_rule part R binder_depth s true is_const =
    taking 1 (LifetimeItem NoLifetime) s (lifetime_item binder_depth (lifetime part s.at))
argument_rule part R binder_depth s false true = const_item (R.constant (seek (after_byte s.at) s))
argument_rule part R binder_depth s false false = type_item (R.ty binder_depth s)

-- the bindings of a trait
abbrev pub binding_then : UndisambiguatedIdentifier → TypeTree → Bindings × State → Bindings × State
binding_then i t r = (Binding i t r.0, r.1)

abbrev pub bound_type : (Bool → State → Bindings × State) → UndisambiguatedIdentifier → TypeTree × State → Bindings × State
bound_type more i r = binding_then i r.0 (more true r.1)

abbrev pub named_binding : Readers → ℕ → (Bool → State → Bindings × State) → Bool → State → Option (UndisambiguatedIdentifier × ℕ) → Bindings × State
named_binding R binder_depth more is_open s None = (InvalidBinding, after_invalid_syntax (write (open_mark is_open) s))
named_binding R binder_depth more is_open s (Some i) =
    bound_type more i.0 (R.ty binder_depth (write (codes " = ") (write (identifier_text i.0) (seek (Some i.1) (write (open_mark is_open) s)))))

abbrev pub binding_rule : List ℕ → Readers → ℕ → (Bool → State → Bindings × State) → Bool → State → Bool → Bindings × State
binding_rule part R binder_depth more is_open s true =
    named_binding R binder_depth more is_open s (undisambiguated_at part (after_byte s.at))
binding_rule part R binder_depth more is_open s false = (NoBindings, write (close_mark is_open) s)

unfoldable pub bindings_rule : List ℕ → Readers → ℕ → ℕ → Bool → State → Bindings × State
bindings_rule part R binder_depth zero is_open s = (NoBindings, stopped s)
bindings_rule part R binder_depth (suc n) is_open s =
    binding_rule part R binder_depth (bindings_rule part R binder_depth n) is_open s (has_byte part 'p' s.at)

abbrev pub trait_item : PathTree → Bindings × State → Item × State
trait_item p r = (TraitItem p r.0, r.1)

abbrev pub trait_rule : List ℕ → Readers → ℕ → PathTree × State → Item × State
trait_rule part R binder_depth r =
    trait_item r.0 (bindings_rule part R binder_depth (suc r.1.steps_left) (is_left_open r.0 OpenTrait) r.1)

unfoldable pub item_rule : List ℕ → Readers → ℕ → Listed → State → Item × State
item_rule part R binder_depth Arguments s = argument_rule part R binder_depth s (has_byte part 'L' s.at) (has_byte part 'K' s.at)
item_rule part R binder_depth Types s = type_item (R.ty binder_depth s)
item_rule part R binder_depth Traits s = trait_rule part R binder_depth (R.path OpenTrait binder_depth s)

abbrev pub item_then : Item → Items × State → Items × State
item_then i r = (ItemThen i r.0, r.1)

abbrev pub items_after : (State → Items × State) → Item × State → Items × State
items_after more r = item_then r.0 (more r.1)

abbrev pub list_rule : List ℕ → Readers → ℕ → Listed → List ℕ → (State → Items × State) → Bool → State → Bool → Items × State
list_rule part R binder_depth listed between more is_first s true =
    items_after more (item_rule part R binder_depth listed (write (separator is_first between) s))
list_rule part R binder_depth listed between more is_first s false = (NoItems, seek (after_byte s.at) s)

unfoldable pub items_rule : List ℕ → Readers → ℕ → Listed → List ℕ → ℕ → Bool → State → Items × State
items_rule part R binder_depth listed between zero is_first s = (NoItems, stopped s)
items_rule part R binder_depth listed between (suc n) is_first s =
    list_rule part R binder_depth listed between (items_rule part R binder_depth listed between n false) is_first s (list_goes_on part s.at)

abbrev pub items_count : Items → ℕ
items_count NoItems = 0
items_count (ItemThen i items) = suc (items_count items)

-- a list, of no more items than there are steps left
abbrev pub items_from : List ℕ → Readers → ℕ → Listed → List ℕ → State → Items × State
items_from part R binder_depth listed between s = items_rule part R binder_depth listed between (suc s.steps_left) true s

-- Types

abbrev pub type_then : List ℕ → (TypeTree → TypeTree) → TypeTree × State → TypeTree × State
type_then text make r = (make r.0, write text r.1)

abbrev pub type_as : (TypeTree → TypeTree) → TypeTree × State → TypeTree × State
type_as make r = (make r.0, r.1)

abbrev pub array_end : TypeTree → ConstTree × State → TypeTree × State
array_end t r = (Array t r.0, write (codes "]") r.1)

abbrev pub array_rule : Readers → TypeTree × State → TypeTree × State
array_rule R r = array_end r.0 (R.constant (write (codes "; ") r.1))

abbrev pub tuple_end : Items × State → TypeTree × State
tuple_end r = (Tuple r.0, write (codes ")") (write (single_mark r.0) r.1))

abbrev pub returned : List ℕ → Readers → ℕ → Signature → Items → State → Bool → TypeTree × State
returned part R binder_depth signature items s true = (Function signature items, seek (after_byte s.at) s)
returned part R binder_depth signature items s false =
    type_as (FunctionTo signature items) (R.ty binder_depth (write (codes " -> ") s))

abbrev pub function_end : List ℕ → Readers → ℕ → Signature → Items × State → TypeTree × State
function_end part R binder_depth signature r =
    returned part R binder_depth signature r.0 (write (codes ")") r.1) (has_byte part 'u' r.1.at)

abbrev pub function_rule : List ℕ → Readers → ℕ → Signature → ℕ → State → TypeTree × State
function_rule part R binder_depth signature q s =
    function_end part R (binder_depth + signature.binder) signature (items_from part R (binder_depth + signature.binder) Types (codes ", ") (write (signature_text signature) (write (binder_text binder_depth signature.binder) (seek (Some q) s))))

abbrev pub dyn_lifetime_rule : ℕ → ℕ → Items → Lifetime × Option ℕ → State → TypeTree × State
dyn_lifetime_rule binder_depth binder items l s =
    (Dyn binder items l.0, write (dyn_lifetime binder_depth l.0) (seek (required_end binder_depth l.0 l.1) s))

abbrev pub dyn_life : ℕ → ℕ → Items → Lifetime × Option ℕ → State → TypeTree × State
dyn_life binder_depth binder items l s =
    taking (lifetime_steps l.0) NoType s (dyn_lifetime_rule binder_depth binder items l)

abbrev pub dyn_end : List ℕ → ℕ → ℕ → Items × State → TypeTree × State
dyn_end part binder_depth binder r = dyn_life binder_depth binder r.0 (lifetime part r.1.at) r.1

abbrev pub dyn_rule : List ℕ → Readers → ℕ → ℕ → ℕ → State → TypeTree × State
dyn_rule part R binder_depth binder q s =
    dyn_end part binder_depth binder (items_from part R (binder_depth + binder) Traits (codes " + ") (write (binder_text binder_depth binder) (write (codes "dyn ") (seek (Some q) s))))

abbrev pub reference_rule : Readers → ℕ → Bool → Lifetime → ℕ → State → TypeTree × State
reference_rule R binder_depth mutable life q s =
    type_as (Reference mutable life) (R.ty binder_depth (write (mutable_text mutable (codes "mut ") []) (write (reference_lifetime binder_depth life) (write (codes "&") (seek (bound_end binder_depth life (Some q)) s)))))

abbrev pub back_type : ℕ → Bool → TypeTree × State → TypeTree × State
back_type q in_back_reference r = (BackType r.0, back_to q in_back_reference r.1)

abbrev pub named_type : PathTree × State → TypeTree × State
named_type r = (Named r.0, r.1)

abbrev pub invalid_reference : State → TypeTree × State
invalid_reference s = (InvalidReferenceType, write (codes "&?") (seek None s))

abbrev pub invalid_function : ℕ → ℕ → State → TypeTree × State
invalid_function binder_depth binder s = (InvalidFunction binder, after_invalid_syntax (write (binder_text binder_depth binder) s))

unfoldable pub type_rule : List ℕ → Readers → ℕ → State → TypeForm → TypeTree × State
type_rule part R binder_depth s NoTypeForm = (NoType, after_invalid_syntax s)
type_rule part R binder_depth s (BasicType text q) = (Basic text, write text (seek (Some q) s))
type_rule part R binder_depth s (ReferenceTo mutable life q) =
    taking (lifetime_steps life) NoType s (reference_rule R binder_depth mutable life q)
type_rule part R binder_depth s InvalidReference = taking 1 NoType s invalid_reference
type_rule part R binder_depth s (PointerTo mutable q) =
    type_as (Pointer mutable) (R.ty binder_depth (write (mutable_text mutable (codes "*mut ") (codes "*const ")) (seek (Some q) s)))
type_rule part R binder_depth s (SliceOf q) = type_then (codes "]") Slice (R.ty binder_depth (write (codes "[") (seek (Some q) s)))
type_rule part R binder_depth s (ArrayOf q) = array_rule R (R.ty binder_depth (write (codes "[") (seek (Some q) s)))
type_rule part R binder_depth s (TupleOf q) =
    tuple_end (items_from part R binder_depth Types (codes ", ") (write (codes "(") (seek (Some q) s)))
type_rule part R binder_depth s (FunctionOf signature q) =
    taking signature.binder NoType s (function_rule part R binder_depth signature q)
type_rule part R binder_depth s (InvalidAbi binder) = taking binder NoType s (invalid_function binder_depth binder)
type_rule part R binder_depth s (DynOf binder q) = taking binder NoType s (dyn_rule part R binder_depth binder q)
type_rule part R binder_depth s InvalidDyn = (InvalidDynType, write (codes "dyn ??") (seek None s))
type_rule part R binder_depth s (BackToType target q) = back_type q s.in_back_reference (R.ty binder_depth (into target s))
type_rule part R binder_depth s PathType = named_type (R.path InType binder_depth s)

-- Paths

abbrev pub named_tree : ℕ → PathTree → Option (Identifier × ℕ) → PathTree
named_tree namespace p None = InvalidNested p
named_tree namespace p (Some l) = Nested namespace p l.0

abbrev pub named_state : ℕ → State → Option (Identifier × ℕ) → State
named_state namespace s None = after_invalid_syntax s
named_state namespace s (Some l) = write (nested_text namespace l.0) (seek (Some l.1) s)

abbrev pub nested_rule : List ℕ → ℕ → PathTree × State → PathTree × State
nested_rule part namespace r =
    (named_tree namespace r.0 (identifier_at part r.1.at), named_state namespace r.1 (identifier_at part r.1.at))

-- the path of an impl is read and not written
abbrev pub unmuted : Bool → PathTree × State → PathTree × State
unmuted muted r = (r.0, set_muted muted r.1)

abbrev pub path_then : List ℕ → (PathTree → PathTree) → PathTree × State → PathTree × State
path_then text make r = (make r.0, write text r.1)

abbrev pub of_type_end : PathTree → TypeTree × State → PathTree × State
of_type_end p r = (OfType p r.0, write (codes ">") r.1)

abbrev pub of_type_rule : Readers → ℕ → PathTree × State → PathTree × State
of_type_rule R binder_depth r = of_type_end r.0 (R.ty binder_depth (write (codes "<") r.1))

abbrev pub as_trait : Readers → ℕ → (TypeTree → PathTree → PathTree) → TypeTree × State → PathTree × State
as_trait R binder_depth make r = path_then (codes ">") (make r.0) (R.path InType binder_depth (write (codes " as ") r.1))

abbrev pub of_impl_rule : Readers → ℕ → PathTree × State → PathTree × State
of_impl_rule R binder_depth r = as_trait R binder_depth (OfImpl r.0) (R.ty binder_depth (write (codes "<") r.1))

abbrev pub generic_end : Position → PathTree → Items × State → PathTree × State
generic_end position p r = (Generic p r.0, write (closing position) r.1)

abbrev pub generic_rule : List ℕ → Readers → Position → ℕ → PathTree × State → PathTree × State
generic_rule part R position binder_depth r =
    generic_end position r.0 (items_from part R binder_depth Arguments (codes ", ") (write (codes "<") (write (value_mark position) r.1)))

abbrev pub back_path : ℕ → Bool → PathTree × State → PathTree × State
back_path q in_back_reference r = (BackPath r.0, back_to q in_back_reference r.1)

abbrev pub crate_rule : Identifier → State → PathTree × State
crate_rule root s =
    (Crate root, disambiguate root.disambiguator (write (identifier_text root.name) (rooted root.name s)))

-- a crate root, or none where its identifier is invalid
abbrev pub crate_state : Option (Identifier × ℕ) → State → State
crate_state None s = after_invalid_syntax s
crate_state (Some l) s = (crate_rule l.0 (seek (Some l.1) s)).1

unfoldable pub path_rule : List ℕ → Readers → Position → ℕ → State → PathForm → PathTree × State
path_rule part R position binder_depth s NoPathForm = (NoPath, after_invalid_syntax s)
path_rule part R position binder_depth s (CrateRoot root q) = crate_rule root (seek (Some q) s)
path_rule part R position binder_depth s (NestedIn namespace q) =
    nested_rule part namespace (R.path (parent_position position) binder_depth (seek (Some q) s))
path_rule part R position binder_depth s (InherentImpl q) =
    of_type_rule R binder_depth (unmuted s.muted (R.path (parent_position position) binder_depth (set_muted true (seek (Some q) s))))
path_rule part R position binder_depth s (TraitImpl q) =
    of_impl_rule R binder_depth (unmuted s.muted (R.path (parent_position position) binder_depth (set_muted true (seek (Some q) s))))
path_rule part R position binder_depth s (TraitDefinition q) =
    as_trait R binder_depth OfTrait (R.ty binder_depth (write (codes "<") (seek (Some q) s)))
path_rule part R position binder_depth s (WithArguments q) =
    generic_rule part R position binder_depth (R.path (parent_position position) binder_depth (seek (Some q) s))
path_rule part R position binder_depth s (BackToPath target q) =
    back_path q s.in_back_reference (R.path position binder_depth (into target s))

-- a type and the trait after its " as "
abbrev pub qualified : Readers → ℕ → State → PathTree × State
qualified R binder_depth s = as_trait R binder_depth OfTrait (R.ty binder_depth (write (codes "<") s))

-- Levels

-- a level and a step
abbrev pub entering : {T : Type 0} → ℕ → T → State → (State → T × State) → T × State
entering levels_left none s f = if nat_le 1 s.steps_left then f (entered levels_left s) else (none, stopped s)

unfoldable pub readers : List ℕ → ℕ → Readers
readers part zero =
    record { path = λ position binder_depth s. (NoPath, stopped s); ty = λ binder_depth s. (NoType, stopped s); constant = λ s. (NoConst, stopped s) }
readers part (suc levels_left) =
    record { path = λ position binder_depth s. entering levels_left NoPath s (λ e. path_rule part (readers part levels_left) position binder_depth e (path_form part s.at)); ty = λ binder_depth s. entering levels_left NoType s (λ e. type_rule part (readers part levels_left) binder_depth e (type_form part s.at)); constant = λ s. entering levels_left NoConst s (λ e. const_rule (readers part levels_left) e (const_form part s.at)) }

-- at most `MAX_LEVELS` levels are left, and the levels above them have announced at most `MAX_STEPS` lifetimes each
abbrev pub WithinLevels : (levels_left binder_depth : ℕ) → Type 0
WithinLevels levels_left binder_depth = (levels_left ≤ MAX_LEVELS) × (binder_depth ≤ MAX_STEPS * (MAX_LEVELS - levels_left))

-- a printing at its beginning; a muted one reads all and writes nothing
abbrev pub first_state : (full muted : Bool) (most : Option ℕ) → State
first_state full muted most =
    record { at = Some 0; steps_left = MAX_STEPS; least_levels_left = MAX_LEVELS; limit_exceeded = false; text = []; trimmed = []; muted = muted; full = full; in_back_reference = false; root = None; most = most }

-- what clauses see of a printer: the part that it prints, which doesn't change, and the state of the printing
pub record Printing : Type 0 where
  pub part : List ℕ
  pub state : State

abbrev pub with_state : State → Printing → Printing
with_state s p = record p { state = s }

abbrev pub first_printing : List ℕ → (full muted : Bool) (most : Option ℕ) → Printing
first_printing part full muted most = record { part = part; state = first_state full muted most }
