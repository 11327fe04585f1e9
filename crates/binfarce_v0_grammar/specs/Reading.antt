-- Reading a v0 mangling by the grammar alone (RFC 2603, "Symbol grammar summary"): a position reads to a tree up to the position after it. A back
-- reference is a leaf that names an earlier position: neither its target nor the meaning of a lifetime's index is checked. `Reading` decides whether
-- a text is a v0 mangling: every byte has to be valid, and there is no limit of steps. `Unfolding` decides which tree it means, with `?` for invalid
-- syntax behind a back reference. `part` is all that follows the prefix. `front` is the position after a form's front, where its first path, type or
-- const begins.
use Rattle.std.specs.Prelude.{◌≡◌, ℕ, ◌+◌, List, [], Some, true, false, codes}
use Rattle.std.proofs.Common.{refl}
use Rattle.binfarce_text.specs.Letters.{'E', 'K', 'L', 'p', 'u'}
use Rattle.binfarce_v0_grammar.specs.Base62.{digit_62, base_62_number, optional_base_62_number, back_reference}
use Rattle.binfarce_v0_grammar.specs.Identifiers.{length_at, identifier_of, identifier_bytes, identifier, undisambiguated_identifier}
use Rattle.binfarce_v0_grammar.specs.Forms.{NoLifetime, has_byte, lifetime, basic_type, path_form, type_form_by, type_form, const_form, CrateRoot, NestedIn, InherentImpl, TraitImpl, TraitDefinition, WithArguments, BackToPath, BasicType, ReferenceTo, PointerTo, SliceOf, ArrayOf, TupleOf, FunctionOf, DynOf, BackToType, PathType, UntypedPlaceholderConst, PlaceholderConst, ValueConst, BackToConst}
use Rattle.binfarce_v0_grammar.specs.Tree.{PathTree, TypeTree, ConstTree, Item, Items, Bindings, UntypedPlaceholder, Placeholder, Value, ConstTarget, Crate, Nested, OfType, OfImpl, OfTrait, Generic, PathTarget, Basic, Reference, Pointer, Slice, Array, Tuple, Function, FunctionTo, Dyn, Named, TypeTarget, LifetimeItem, TypeItem, ConstItem, TraitItem, NoItems, ItemThen, NoBindings, Binding, InvalidBinding, Listed, Arguments, Types, Traits}

unfoldable pub ReadsConst : (part : List ℕ) (tree : ConstTree) (at after : ℕ) → Type 0
ReadsConst part UntypedPlaceholder at after = const_form part (Some at) ≡ UntypedPlaceholderConst after
ReadsConst part (Placeholder type_name) at after = const_form part (Some at) ≡ PlaceholderConst type_name after
ReadsConst part (Value type_name value) at after = const_form part (Some at) ≡ ValueConst type_name value after
ReadsConst part (ConstTarget target) at after = const_form part (Some at) ≡ BackToConst target after
-- invalid syntax doesn't read
ReadsConst part _ at after = ⊥

unfoldable mutual
  pub ReadsPath : (part : List ℕ) (tree : PathTree) (at after : ℕ) → Type 0
  ReadsPath part (Crate root) at after = path_form part (Some at) ≡ CrateRoot root after
  ReadsPath part (Nested namespace p l) at after =
      (front : ℕ) × (mid : ℕ) × (path_form part (Some at) ≡ NestedIn namespace front) × ReadsPath part p front mid × (identifier part mid ≡ Some (l, after))
  ReadsPath part (OfType p t) at after =
      (front : ℕ) × (mid : ℕ) × (path_form part (Some at) ≡ InherentImpl front) × ReadsPath part p front mid × ReadsType part t mid after
  ReadsPath part (OfImpl p t u) at after =
      (front : ℕ) × (mid : ℕ) × (end : ℕ) × (path_form part (Some at) ≡ TraitImpl front) × ReadsPath part p front mid × ReadsType part t mid end × ReadsPath part u end after
  ReadsPath part (OfTrait t u) at after =
      (front : ℕ) × (mid : ℕ) × (path_form part (Some at) ≡ TraitDefinition front) × ReadsType part t front mid × ReadsPath part u mid after
  ReadsPath part (Generic p items) at after =
      (front : ℕ) × (mid : ℕ) × (path_form part (Some at) ≡ WithArguments front) × ReadsPath part p front mid × ReadsItems part Arguments items mid after
  ReadsPath part (PathTarget target) at after = path_form part (Some at) ≡ BackToPath target after
  -- invalid syntax doesn't read
  ReadsPath part _ at after = ⊥

  pub ReadsType : (part : List ℕ) (tree : TypeTree) (at after : ℕ) → Type 0
  ReadsType part (Basic text) at after = type_form part (Some at) ≡ BasicType text after
  ReadsType part (Reference mutable life t) at after =
      (front : ℕ) × (type_form part (Some at) ≡ ReferenceTo mutable life front) × ReadsType part t front after
  ReadsType part (Pointer mutable t) at after =
      (front : ℕ) × (type_form part (Some at) ≡ PointerTo mutable front) × ReadsType part t front after
  ReadsType part (Slice t) at after =
      (front : ℕ) × (type_form part (Some at) ≡ SliceOf front) × ReadsType part t front after
  ReadsType part (Array t c) at after =
      (front : ℕ) × (mid : ℕ) × (type_form part (Some at) ≡ ArrayOf front) × ReadsType part t front mid × ReadsConst part c mid after
  ReadsType part (Tuple items) at after =
      (front : ℕ) × (type_form part (Some at) ≡ TupleOf front) × ReadsItems part Types items front after
  ReadsType part (Function signature items) at after =
      (front : ℕ) × (end : ℕ) × (type_form part (Some at) ≡ FunctionOf signature front) × ReadsItems part Types items front end × (has_byte part 'u' (Some end) ≡ true) × (after ≡ end + 1)
  ReadsType part (FunctionTo signature items t) at after =
      (front : ℕ) × (end : ℕ) × (type_form part (Some at) ≡ FunctionOf signature front) × ReadsItems part Types items front end × (has_byte part 'u' (Some end) ≡ false) × ReadsType part t end after
  ReadsType part (Dyn binder items life) at after =
      (front : ℕ) × (end : ℕ) × (type_form part (Some at) ≡ DynOf binder front) × ReadsItems part Traits items front end × (has_byte part 'L' (Some end) ≡ true) × (lifetime part (Some end) ≡ (life, Some after))
  ReadsType part (Named p) at after = (type_form part (Some at) ≡ PathType) × ReadsPath part p at after
  ReadsType part (TypeTarget target) at after = type_form part (Some at) ≡ BackToType target after
  -- invalid syntax doesn't read
  ReadsType part _ at after = ⊥

  pub ReadsItem : (part : List ℕ) (listed : Listed) (i : Item) (at after : ℕ) → Type 0
  ReadsItem part Arguments (LifetimeItem life) at after =
      (has_byte part 'L' (Some at) ≡ true) × (lifetime part (Some at) ≡ (life, Some after))
  ReadsItem part Arguments (ConstItem c) at after =
      (has_byte part 'L' (Some at) ≡ false) × (has_byte part 'K' (Some at) ≡ true) × ReadsConst part c (at + 1) after
  ReadsItem part Arguments (TypeItem t) at after =
      (has_byte part 'L' (Some at) ≡ false) × (has_byte part 'K' (Some at) ≡ false) × ReadsType part t at after
  ReadsItem part Types (TypeItem t) at after = ReadsType part t at after
  ReadsItem part Traits (TraitItem p bindings) at after =
      (mid : ℕ) × ReadsPath part p at mid × ReadsBindings part bindings mid after
  -- a list holds no other items
  ReadsItem part _ _ at after = ⊥

  pub ReadsItems : (part : List ℕ) (listed : Listed) (items : Items) (at after : ℕ) → Type 0
  ReadsItems part listed NoItems at after = (has_byte part 'E' (Some at) ≡ true) × (after ≡ at + 1)
  ReadsItems part listed (ItemThen i items) at after =
      (mid : ℕ) × (has_byte part 'E' (Some at) ≡ false) × ReadsItem part listed i at mid × ReadsItems part listed items mid after

  pub ReadsBindings : (part : List ℕ) (bindings : Bindings) (at after : ℕ) → Type 0
  ReadsBindings part NoBindings at after = (has_byte part 'p' (Some at) ≡ false) × (after ≡ at)
  ReadsBindings part (Binding i t bindings) at after =
      (front : ℕ) × (mid : ℕ) × (has_byte part 'p' (Some at) ≡ true) × (undisambiguated_identifier part (at + 1) ≡ Some (i, front)) × ReadsType part t front mid × ReadsBindings part bindings mid after
  ReadsBindings part InvalidBinding at after = ⊥

-- `a::<&u8, &u8>`, of which the second type is a back reference to position 4
worked_reading : ReadsPath (codes "IC1aRhB3_E") (Generic (Crate (record { disambiguator = 0; name = record { ascii = codes "a"; punycode = [] } })) (ItemThen (TypeItem (Reference false NoLifetime (Basic (codes "u8")))) (ItemThen (TypeItem (TypeTarget 4)) NoItems))) 0 10
unfolding ReadsPath path_form type_form type_form_by basic_type lifetime back_reference base_62_number digit_62 optional_base_62_number length_at identifier_of identifier_bytes undisambiguated_identifier identifier
worked_reading = (1, 4, refl, refl, (6, refl, (refl, refl, (5, refl, refl)), (9, refl, (refl, refl, refl), (refl, refl))))
