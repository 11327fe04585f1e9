-- The reading, step by step: from a position to the position after what the grammar reads there, with some levels left.
use Rattle.std.specs.Prelude.{ℕ, zero, suc, ◌+◌, List, Option, Some, None, if◌then◌else◌, length}
use Rattle.binfarce_text.specs.Letters.{'E', 'K', 'L', 'p', 'u'}
use Rattle.binfarce_text.specs.Steps.{◌>>=◌}
use Rattle.binfarce_v0_grammar.specs.Identifiers.{UndisambiguatedIdentifier, Identifier, identifier, undisambiguated_identifier}
use Rattle.binfarce_v0_grammar.specs.Forms.{has_byte, lifetime, path_form, type_form, const_form, PathForm, NoPathForm, CrateRoot, NestedIn, InherentImpl, TraitImpl, TraitDefinition, WithArguments, BackToPath, TypeForm, NoTypeForm, BasicType, ReferenceTo, InvalidReference, PointerTo, SliceOf, ArrayOf, TupleOf, FunctionOf, InvalidAbi, DynOf, InvalidDyn, BackToType, PathType, ConstForm, NoConstForm, UntypedPlaceholderConst, PlaceholderConst, ValueConst, InvalidConst, BackToConst}
use Rattle.binfarce_v0_grammar.specs.Tree.{Listed, Arguments, Types, Traits}

-- the readers of one level less
pub record Ends : Type 0 where
  pub path : ℕ → Option ℕ
  pub ty : ℕ → Option ℕ
  pub constant : ℕ → Option ℕ

unfoldable pub const_end : ConstForm → Option ℕ
const_end NoConstForm = None
const_end (UntypedPlaceholderConst q) = Some q
const_end (PlaceholderConst type_name q) = Some q
const_end (ValueConst type_name value q) = Some q
const_end (InvalidConst negative type_name) = None
const_end (BackToConst target q) = Some q

abbrev pub identifier_end : Option (Identifier × ℕ) → Option ℕ
identifier_end None = None
identifier_end (Some l) = Some l.1

abbrev pub lifetime_end : List ℕ → ℕ → Option ℕ
lifetime_end part at = if has_byte part 'L' (Some at) then (lifetime part (Some at)).1 else None

abbrev pub bound_from : Ends → (ℕ → Option ℕ) → Option (UndisambiguatedIdentifier × ℕ) → Option ℕ
bound_from R more None = None
bound_from R more (Some i) = R.ty i.1 >>= more

unfoldable pub bindings_end : List ℕ → Ends → ℕ → ℕ → Option ℕ
bindings_end part R zero at = None
bindings_end part R (suc n) at =
    if has_byte part 'p' (Some at) then bound_from R (bindings_end part R n) (undisambiguated_identifier part (at + 1)) else Some at

abbrev pub argument_end : List ℕ → Ends → ℕ → Option ℕ
argument_end part R at =
    if has_byte part 'L' (Some at) then (lifetime part (Some at)).1 else (if has_byte part 'K' (Some at) then R.constant (at + 1) else R.ty at)

unfoldable pub item_end : List ℕ → Ends → Listed → ℕ → Option ℕ
item_end part R Arguments at = argument_end part R at
item_end part R Types at = R.ty at
item_end part R Traits at = R.path at >>= bindings_end part R (suc (length part))

unfoldable pub items_end : List ℕ → Ends → Listed → ℕ → ℕ → Option ℕ
items_end part R listed zero at = None
items_end part R listed (suc n) at =
    if has_byte part 'E' (Some at) then Some (at + 1) else (item_end part R listed at >>= items_end part R listed n)

abbrev pub list_end : List ℕ → Ends → Listed → ℕ → Option ℕ
list_end part R listed at = items_end part R listed (suc (length part)) at

abbrev pub return_end : List ℕ → Ends → ℕ → Option ℕ
return_end part R at = if has_byte part 'u' (Some at) then Some (at + 1) else R.ty at

unfoldable pub type_end : List ℕ → Ends → ℕ → TypeForm → Option ℕ
type_end part R at NoTypeForm = None
type_end part R at (BasicType text q) = Some q
type_end part R at (ReferenceTo mutable life q) = R.ty q
type_end part R at InvalidReference = None
type_end part R at (PointerTo mutable q) = R.ty q
type_end part R at (SliceOf q) = R.ty q
type_end part R at (ArrayOf q) = R.ty q >>= R.constant
type_end part R at (TupleOf q) = list_end part R Types q
type_end part R at (FunctionOf signature q) = list_end part R Types q >>= return_end part R
type_end part R at (InvalidAbi binder) = None
type_end part R at (DynOf binder q) = list_end part R Traits q >>= lifetime_end part
type_end part R at InvalidDyn = None
type_end part R at (BackToType target q) = Some q
type_end part R at PathType = R.path at

unfoldable pub path_end : List ℕ → Ends → PathForm → Option ℕ
path_end part R NoPathForm = None
path_end part R (CrateRoot root q) = Some q
path_end part R (NestedIn namespace q) = R.path q >>= λ mid. identifier_end (identifier part mid)
path_end part R (InherentImpl q) = R.path q >>= R.ty
path_end part R (TraitImpl q) = R.path q >>= λ mid. (R.ty mid >>= R.path)
path_end part R (TraitDefinition q) = R.ty q >>= R.path
path_end part R (WithArguments q) = R.path q >>= list_end part R Arguments
path_end part R (BackToPath target q) = Some q

unfoldable pub ends : List ℕ → ℕ → Ends
ends part zero = record { path = λ at. None; ty = λ at. None; constant = λ at. None }
ends part (suc levels_left) =
    record { path = λ at. path_end part (ends part levels_left) (path_form part (Some at)); ty = λ at. type_end part (ends part levels_left) at (type_form part (Some at)); constant = λ at. const_end (const_form part (Some at)) }
