-- What a position of a v0 mangling unfolds to (RFC 2603, "Symbol grammar summary" and "Compression/Substitution"), whatever the limits. A position is
-- None after invalid syntax. From there a path, a type or a const is a tree of its own, shown as `?`; an optional byte is absent, and a list ends. A
-- tree is unfolded from a position, under a depth of binders, up to the position after it. `part` is all that follows the prefix. `front` is the
-- position after a form's front, where its first path, type or const begins.
use Rattle.std.specs.Prelude.{◌≡◌, ℕ, ◌+◌, ◌≤◌, List, Option, Some, None, Bool, true, false, if◌then◌else◌, not, codes}
use Rattle.std.proofs.Common.{refl, arith}
use Rattle.binfarce_text.specs.Letters.{'E', 'K', 'L', 'p', 'u'}
use Rattle.binfarce_v0_grammar.specs.Base62.{digit_62, base_62_number, optional_base_62_number, back_reference}
use Rattle.binfarce_v0_grammar.specs.Identifiers.{length_at, identifier_of, identifier_bytes, undisambiguated_identifier, identifier}
use Rattle.binfarce_v0_grammar.specs.Forms.{basic_type, type_form_by, Lifetime, NoLifetime, InvalidLifetime, IndexedLifetime, has_byte, after_byte, identifier_at, undisambiguated_at, lifetime, path_form, type_form, const_form, NoPathForm, CrateRoot, NestedIn, InherentImpl, TraitImpl, TraitDefinition, WithArguments, BackToPath, NoTypeForm, BasicType, ReferenceTo, InvalidReference, PointerTo, SliceOf, ArrayOf, TupleOf, FunctionOf, InvalidAbi, DynOf, InvalidDyn, BackToType, PathType, NoConstForm, UntypedPlaceholderConst, PlaceholderConst, ValueConst, InvalidConst, BackToConst}
use Rattle.binfarce_v0_grammar.specs.Tree.{PathTree, TypeTree, ConstTree, Item, Items, Bindings, NoConst, UntypedPlaceholder, Placeholder, Value, InvalidValue, BackConst, ConstTarget, NoPath, Crate, Nested, InvalidNested, OfType, OfImpl, OfTrait, Generic, BackPath, PathTarget, NoType, Basic, Reference, InvalidReferenceType, Pointer, Slice, Array, Tuple, Function, FunctionTo, InvalidFunction, Dyn, InvalidDynType, Named, BackType, TypeTarget, LifetimeItem, TypeItem, ConstItem, TraitItem, NoItems, ItemThen, Listed, Arguments, Types, Traits, NoBindings, Binding, InvalidBinding, path_height, path_steps, is_announced, worked_tree}
use Rattle.binfarce_v0_grammar.specs.declared.limits.TheConstants.{MAX_LEVELS, MAX_STEPS}

-- the position after an optional lifetime: none where no binder announces its index. An invalid one makes an `InvalidReference`, and doesn't get here
unfoldable pub bound_end : (binder_depth : ℕ) (life : Lifetime) (after : Option ℕ) → Option ℕ
bound_end binder_depth NoLifetime after = after
bound_end binder_depth InvalidLifetime after = None
bound_end binder_depth (IndexedLifetime k) after = if is_announced binder_depth k then after else None

-- the same for a required lifetime
abbrev pub required_end : (binder_depth : ℕ) (life : Lifetime) (after : Option ℕ) → Option ℕ
required_end binder_depth (IndexedLifetime k) after = bound_end binder_depth (IndexedLifetime k) after
required_end binder_depth _ after = None

-- a list ends at an "E", and after invalid syntax
abbrev pub list_goes_on : (part : List ℕ) (at : Option ℕ) → Bool
list_goes_on part None = false
list_goes_on part (Some at) = not (has_byte part 'E' (Some at))

unfoldable pub IsConst : (part : List ℕ) (tree : ConstTree) (at after : Option ℕ) → Type 0
IsConst part NoConst at after = (const_form part at ≡ NoConstForm) × (after ≡ None)
IsConst part UntypedPlaceholder at after =
    (front : ℕ) × (const_form part at ≡ UntypedPlaceholderConst front) × (after ≡ Some front)
IsConst part (Placeholder type_name) at after =
    (front : ℕ) × (const_form part at ≡ PlaceholderConst type_name front) × (after ≡ Some front)
IsConst part (Value type_name value) at after =
    (front : ℕ) × (const_form part at ≡ ValueConst type_name value front) × (after ≡ Some front)
IsConst part (InvalidValue negative type_name) at after =
    (const_form part at ≡ InvalidConst negative type_name) × (after ≡ None)
IsConst part (BackConst c) at after =
    (target : ℕ) × (front : ℕ) × (end : Option ℕ) × (const_form part at ≡ BackToConst target front) × IsConst part c (Some target) end × (after ≡ Some front)
-- positions occur in readings alone
IsConst part (ConstTarget target) at after = ⊥

unfoldable mutual
  pub IsPath : (part : List ℕ) (tree : PathTree) (at : Option ℕ) (binder_depth : ℕ) (after : Option ℕ) → Type 0
  IsPath part NoPath at binder_depth after = (path_form part at ≡ NoPathForm) × (after ≡ None)
  IsPath part (Crate root) at binder_depth after =
      (front : ℕ) × (path_form part at ≡ CrateRoot root front) × (after ≡ Some front)
  IsPath part (Nested namespace p l) at binder_depth after =
      (front : ℕ) × (mid : Option ℕ) × (end : ℕ) × (path_form part at ≡ NestedIn namespace front) × IsPath part p (Some front) binder_depth mid × (identifier_at part mid ≡ Some (l, end)) × (after ≡ Some end)
  IsPath part (InvalidNested p) at binder_depth after =
      (namespace : ℕ) × (front : ℕ) × (mid : Option ℕ) × (path_form part at ≡ NestedIn namespace front) × IsPath part p (Some front) binder_depth mid × (identifier_at part mid ≡ None) × (after ≡ None)
  IsPath part (OfType p t) at binder_depth after =
      (front : ℕ) × (mid : Option ℕ) × (path_form part at ≡ InherentImpl front) × IsPath part p (Some front) binder_depth mid × IsType part t mid binder_depth after
  IsPath part (OfImpl p t u) at binder_depth after =
      (front : ℕ) × (mid : Option ℕ) × (end : Option ℕ) × (path_form part at ≡ TraitImpl front) × IsPath part p (Some front) binder_depth mid × IsType part t mid binder_depth end × IsPath part u end binder_depth after
  IsPath part (OfTrait t u) at binder_depth after =
      (front : ℕ) × (mid : Option ℕ) × (path_form part at ≡ TraitDefinition front) × IsType part t (Some front) binder_depth mid × IsPath part u mid binder_depth after
  IsPath part (Generic p items) at binder_depth after =
      (front : ℕ) × (mid : Option ℕ) × (path_form part at ≡ WithArguments front) × IsPath part p (Some front) binder_depth mid × AreItems part Arguments items mid binder_depth after
  IsPath part (BackPath p) at binder_depth after =
      (target : ℕ) × (front : ℕ) × (end : Option ℕ) × (path_form part at ≡ BackToPath target front) × IsPath part p (Some target) binder_depth end × (after ≡ Some front)
  -- positions occur in readings alone
  IsPath part (PathTarget target) at binder_depth after = ⊥

  pub IsType : (part : List ℕ) (tree : TypeTree) (at : Option ℕ) (binder_depth : ℕ) (after : Option ℕ) → Type 0
  IsType part NoType at binder_depth after = (type_form part at ≡ NoTypeForm) × (after ≡ None)
  IsType part (Basic text) at binder_depth after =
      (front : ℕ) × (type_form part at ≡ BasicType text front) × (after ≡ Some front)
  IsType part (Reference mutable life t) at binder_depth after =
      (front : ℕ) × (type_form part at ≡ ReferenceTo mutable life front) × IsType part t (bound_end binder_depth life (Some front)) binder_depth after
  IsType part InvalidReferenceType at binder_depth after = (type_form part at ≡ InvalidReference) × (after ≡ None)
  IsType part (Pointer mutable t) at binder_depth after =
      (front : ℕ) × (type_form part at ≡ PointerTo mutable front) × IsType part t (Some front) binder_depth after
  IsType part (Slice t) at binder_depth after =
      (front : ℕ) × (type_form part at ≡ SliceOf front) × IsType part t (Some front) binder_depth after
  IsType part (Array t c) at binder_depth after =
      (front : ℕ) × (mid : Option ℕ) × (type_form part at ≡ ArrayOf front) × IsType part t (Some front) binder_depth mid × IsConst part c mid after
  IsType part (Tuple items) at binder_depth after =
      (front : ℕ) × (type_form part at ≡ TupleOf front) × AreItems part Types items (Some front) binder_depth after
  IsType part (Function signature items) at binder_depth after =
      (front : ℕ) × (end : Option ℕ) × (type_form part at ≡ FunctionOf signature front) × AreItems part Types items (Some front) (binder_depth + signature.binder) end × (has_byte part 'u' end ≡ true) × (after ≡ after_byte end)
  IsType part (FunctionTo signature items t) at binder_depth after =
      (front : ℕ) × (end : Option ℕ) × (type_form part at ≡ FunctionOf signature front) × AreItems part Types items (Some front) (binder_depth + signature.binder) end × (has_byte part 'u' end ≡ false) × IsType part t end (binder_depth + signature.binder) after
  IsType part (InvalidFunction binder) at binder_depth after = (type_form part at ≡ InvalidAbi binder) × (after ≡ None)
  IsType part (Dyn binder items life) at binder_depth after =
      (front : ℕ) × (end : Option ℕ) × (last : Option ℕ) × (type_form part at ≡ DynOf binder front) × AreItems part Traits items (Some front) (binder_depth + binder) end × (lifetime part end ≡ (life, last)) × (after ≡ required_end binder_depth life last)
  IsType part InvalidDynType at binder_depth after = (type_form part at ≡ InvalidDyn) × (after ≡ None)
  IsType part (Named p) at binder_depth after = (type_form part at ≡ PathType) × IsPath part p at binder_depth after
  IsType part (BackType t) at binder_depth after =
      (target : ℕ) × (front : ℕ) × (end : Option ℕ) × (type_form part at ≡ BackToType target front) × IsType part t (Some target) binder_depth end × (after ≡ Some front)
  -- positions occur in readings alone
  IsType part (TypeTarget target) at binder_depth after = ⊥

  -- an item of a list, where the list goes on
  pub IsItem : (part : List ℕ) (listed : Listed) (i : Item) (at : Option ℕ) (binder_depth : ℕ) (after : Option ℕ) → Type 0
  IsItem part Arguments (LifetimeItem life) at binder_depth after =
      (last : Option ℕ) × (has_byte part 'L' at ≡ true) × (lifetime part at ≡ (life, last)) × (after ≡ required_end binder_depth life last)
  IsItem part Arguments (ConstItem c) at binder_depth after =
      (has_byte part 'L' at ≡ false) × (has_byte part 'K' at ≡ true) × IsConst part c (after_byte at) after
  IsItem part Arguments (TypeItem t) at binder_depth after =
      (has_byte part 'L' at ≡ false) × (has_byte part 'K' at ≡ false) × IsType part t at binder_depth after
  IsItem part Types (TypeItem t) at binder_depth after = IsType part t at binder_depth after
  IsItem part Traits (TraitItem p bindings) at binder_depth after =
      (mid : Option ℕ) × IsPath part p at binder_depth mid × AreBindings part bindings mid binder_depth after
  -- a list holds no other items
  IsItem part _ _ at binder_depth after = ⊥

  pub AreItems : (part : List ℕ) (listed : Listed) (items : Items) (at : Option ℕ) (binder_depth : ℕ) (after : Option ℕ) → Type 0
  AreItems part listed NoItems at binder_depth after =
      (list_goes_on part at ≡ false) × (after ≡ after_byte at)
  AreItems part listed (ItemThen i items) at binder_depth after =
      (mid : Option ℕ) × (list_goes_on part at ≡ true) × IsItem part listed i at binder_depth mid × AreItems part listed items mid binder_depth after

  pub AreBindings : (part : List ℕ) (bindings : Bindings) (at : Option ℕ) (binder_depth : ℕ) (after : Option ℕ) → Type 0
  AreBindings part NoBindings at binder_depth after = (has_byte part 'p' at ≡ false) × (after ≡ at)
  AreBindings part (Binding i t bindings) at binder_depth after =
      (front : ℕ) × (mid : Option ℕ) × (has_byte part 'p' at ≡ true) × (undisambiguated_at part (after_byte at) ≡ Some (i, front)) × IsType part t (Some front) binder_depth mid × AreBindings part bindings mid binder_depth after
  AreBindings part InvalidBinding at binder_depth after =
      (has_byte part 'p' at ≡ true) × (undisambiguated_at part (after_byte at) ≡ None) × (after ≡ None)

-- the first path of a mangling unfolds to a tree within some limits. `part` is all that follows the prefix, with the rest after the paths, since a
-- back reference may lead there. `after` may be anything, even None: `Reading` decides where the paths end
pub record UnfoldsWithin (most_levels most_steps : ℕ) (part : List ℕ) (tree : PathTree) : Type 0 where
  pub after : Option ℕ
  pub is_path : IsPath part tree (Some 0) 0 after
  pub levels : path_height tree ≤ most_levels
  pub steps : path_steps tree ≤ most_steps

-- within the limits of every answer: 500 levels (`MAX_LEVELS`) and 65,536 steps (`MAX_STEPS`)
abbrev pub UnfoldsTo : (part : List ℕ) (tree : PathTree) → Type 0
UnfoldsTo part tree = UnfoldsWithin MAX_LEVELS MAX_STEPS part tree

-- `a::<&u8, &u8>`: the back reference unfolds to the type at position 4
worked_unfolding : UnfoldsTo (codes "IC1aRhB3_E") worked_tree
unfolding IsPath bound_end path_height path_steps path_form type_form type_form_by basic_type lifetime back_reference base_62_number digit_62 optional_base_62_number length_at identifier_of identifier_bytes undisambiguated_identifier identifier
worked_unfolding = record {
  after = Some 10;
  is_path = (1, Some 4, refl, (4, refl, refl), (Some 6, refl, (refl, refl, (5, refl, (6, refl, refl))), (Some 9, refl, (refl, refl, (4, 9, Some 6, refl, (5, refl, (6, refl, refl)), refl)), (refl, refl))));
  levels = omega arith;
  steps = omega arith;
}
