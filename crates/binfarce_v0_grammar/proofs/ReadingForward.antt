-- A reading moves forward.
use Rattle.std.proofs.Common.{◌≡◌, ℕ, ◌+◌, ◌^◌, ◌≤◌, ◌<◌, Bool, true, false, not, ◌&&◌, List, drop, Option, Some, None, cond, eqb, nat_lt, nat_le, length, get_or, refl, subst, arith}
use Rattle.std.specs.Prelude.{⊤, codes}
use Rattle.std.specs.Option.{option_map_or}
use Rattle.std.specs.List.{take_while}
use Rattle.std.specs.Char.{is_ascii_alphanumeric, is_ascii_alphabetic, is_ascii_digit}
use Rattle.std.specs.Str.Parse.{digits_value}
use Rattle.std.proofs.lemmas.Bool.{cond_both}
use Rattle.binfarce_text.specs.Letters.{is_hex_digit}
use Rattle.binfarce_text.specs.Steps.{◌>>=◌}
use Rattle.binfarce_v0_grammar.specs.Base62.{limited, value_62, base_62_number, optional_base_62_number, back_reference, hex_digits}
use Rattle.binfarce_v0_grammar.specs.Identifiers.{is_empty, UndisambiguatedIdentifier, Identifier, length_at, past, identifier_of, identifier_bytes, undisambiguated_identifier, identifier}
use Rattle.binfarce_v0_grammar.specs.Forms.{Lifetime, NoLifetime, has_byte, InvalidLifetime, IndexedLifetime, lifetime, basic_type, const_type, has_sign, value_of, const_value, abi, path_form, type_form_by, type_form, reference_form, function_form, const_form, typed_form, PathForm, NoPathForm, CrateRoot, NestedIn, InherentImpl, TraitImpl, TraitDefinition, WithArguments, BackToPath, TypeForm, NoTypeForm, BasicType, ReferenceTo, InvalidReference, PointerTo, SliceOf, ArrayOf, TupleOf, FunctionOf, InvalidAbi, DynOf, InvalidDyn, BackToType, PathType, ConstValue, ConstForm, NoConstForm, UntypedPlaceholderConst, PlaceholderConst, ValueConst, InvalidConst, BackToConst}
use Rattle.binfarce_v0_grammar.specs.Tree.{PathTree, TypeTree, ConstTree, Item, Items, Bindings, NoConst, UntypedPlaceholder, Placeholder, Value, InvalidValue, BackConst, ConstTarget, NoPath, Crate, Nested, InvalidNested, OfType, OfImpl, OfTrait, Generic, BackPath, PathTarget, NoType, Basic, Reference, InvalidReferenceType, Pointer, Slice, Array, Tuple, Function, FunctionTo, InvalidFunction, Dyn, InvalidDynType, Named, BackType, TypeTarget, LifetimeItem, TypeItem, ConstItem, TraitItem, NoItems, ItemThen, NoBindings, Binding, InvalidBinding, Listed, Arguments, Types, Traits}
use Rattle.binfarce_v0_grammar.specs.Reading.{ReadsConst, ReadsPath, ReadsType, ReadsItem, ReadsItems, ReadsBindings}

-- whatever is answered lies at a position or after it
abbrev After : {A : Type 0} → ℕ → Option (A × ℕ) → Type 0
After at None = ⊤
After at (Some r) = at ≤ r.1

after_is : {A : Type 0} (at : ℕ) (o : Option (A × ℕ)) (r : A × ℕ) → After at o → o ≡ Some r → at ≤ r.1
after_is at o r h e = subst (After at) e h

after_less : {A : Type 0} (less at : ℕ) (o : Option (A × ℕ)) → less ≤ at → After at o → After less o
after_less less at None h b = tt
after_less less at (Some r) h b = omega arith

after_then : {A B : Type 0} (at : ℕ) (o : Option A) (f : A → Option (B × ℕ)) → ((a : A) → o ≡ Some a → After at (f a)) → After at (o >>= f)
after_then at None f h = tt
after_then at (Some a) f h = h a refl

-- a function of an answer, and its value without an answer
mapped_after : {A B : Type 0} (P : B → Type 0) (at : ℕ) (f : A × ℕ → B) (o : Option (A × ℕ)) (d : B) → ((r : A × ℕ) → at ≤ r.1 → P (f r)) → P d → After at o → P (option_map_or f o d)
mapped_after P at f None d h k a = k
mapped_after P at f (Some r) d h k a = h r a

-- both branches
each : {A : Type 0} (P : A → Type 0) (b : Bool) (x y : A) → P x → P y → P (cond b x y)
each P b x y h k = cond_both b x y P (λ e. h) (λ e. k)

-- Numbers

limited_after : (value at : ℕ) → After at (limited value at)
limited_after value at = each (After at) (nat_lt value (2 ^ 64)) (Some (value, at)) None (omega arith) tt

number_after : (part : List ℕ) (at : ℕ) → After (at + 1) (base_62_number part at)
unfolding base_62_number
number_after part at =
    let digits : List ℕ = take_while is_ascii_alphanumeric (drop at part) in
    let end : ℕ = at + length digits in
    let value : ℕ = cond (eqb (length digits) 0) 0 (value_62 digits + 1) in
    each (After (at + 1)) (eqb (get_or part end 0) 95) (limited value (end + 1)) None (after_less (at + 1) (end + 1) (limited value (end + 1)) (omega arith) (limited_after value (end + 1))) tt

tagged_after : (part : List ℕ) (tag at : ℕ) → After at (optional_base_62_number part tag at)
unfolding optional_base_62_number
tagged_after part tag at =
    each (After at) (eqb (get_or part at 0) tag) _ (Some (0, at)) (after_then at (base_62_number part (at + 1)) _ (λ r e. after_less at r.1 (limited (r.0 + 1) r.1) (omega (arith, after_is (at + 1 + 1) _ r (number_after part (at + 1)) e)) (limited_after (r.0 + 1) r.1))) (omega arith)

back_reference_after : (part : List ℕ) (at : ℕ) → After (at + 1) (back_reference part at)
unfolding back_reference
back_reference_after part at =
    after_then (at + 1) (base_62_number part (at + 1)) _ (λ r e. each (After (at + 1)) (nat_lt r.0 at) (Some r) None (omega (arith, after_is (at + 1 + 1) _ r (number_after part (at + 1)) e)) tt)

hex_digits_after : (part : List ℕ) (at : ℕ) → After (at + 1) (hex_digits part at)
unfolding hex_digits
hex_digits_after part at =
    let digits : List ℕ = take_while is_hex_digit (drop at part) in
    let end : ℕ = at + length digits in
    each (After (at + 1)) (eqb (get_or part end 0) 95) (Some (digits, end + 1)) None (omega arith) tt

-- Identifiers

length_at_after : (part : List ℕ) (at : ℕ) → After at (length_at part at)
unfolding length_at
length_at_after part at =
    let digits : List ℕ = take_while is_ascii_digit (drop at part) in
    let value : ℕ = digits_value 10 digits in
    let more : After at (limited value (at + length digits)) = after_less at (at + length digits) (limited value (at + length digits)) (omega arith) (limited_after value (at + length digits)) in
    each (After at) (eqb (get_or part at 0) 48) (Some (0, at + 1)) _ (omega arith) (each (After at) (eqb (length digits) 0) None (limited value (at + length digits)) tt more)

past_after : (part : List ℕ) (byte at : ℕ) → at ≤ past part byte at
past_after part byte at = each (λ (q : ℕ). at ≤ q) (eqb (get_or part at 0) byte) (at + 1) at (omega arith) (omega arith)

identifier_bytes_after : (part : List ℕ) (is_punycode : Bool) (start size : ℕ) → After start (identifier_bytes part is_punycode start size)
unfolding identifier_bytes
identifier_bytes_after part is_punycode start size =
    each (After start) (nat_le (start + size) (length part)) _ None (after_then start (identifier_of is_punycode _) _ (λ i e. omega arith)) tt

undisambiguated_after : (part : List ℕ) (at : ℕ) → After at (undisambiguated_identifier part at)
unfolding undisambiguated_identifier
undisambiguated_after part at =
    after_then at (length_at part (past part 117 at)) _ (λ n e. after_less at (past part 95 n.1) _ (omega (arith, past_after part 117 at, after_is (past part 117 at) _ n (length_at_after part (past part 117 at)) e, past_after part 95 n.1)) (identifier_bytes_after part _ (past part 95 n.1) n.0))

undisambiguated_forward : (part : List ℕ) (at after : ℕ) (i : UndisambiguatedIdentifier) → undisambiguated_identifier part at ≡ Some (i, after) → at ≤ after
undisambiguated_forward part at after i e = after_is at (undisambiguated_identifier part at) (i, after) (undisambiguated_after part at) e

identifier_after : (part : List ℕ) (at : ℕ) → After at (identifier part at)
unfolding identifier
identifier_after part at =
    after_then at (optional_base_62_number part 115 at) _ (λ d e. after_then at (undisambiguated_identifier part d.1) _ (λ i f. omega (arith, after_is at _ d (tagged_after part 115 at) e, after_is d.1 _ i (undisambiguated_after part d.1) f)))

-- Forms

abbrev PositionAfter : ℕ → Option ℕ → Type 0
PositionAfter at None = ⊤
PositionAfter at (Some q) = at ≤ q

-- what the number of an "L" makes of it
abbrev pub indexed_lifetime : Option (ℕ × ℕ) → Lifetime × Option ℕ
indexed_lifetime n = option_map_or (λ n. (IndexedLifetime n.0, Some n.1)) n (InvalidLifetime, None)

indexed_after : (at : ℕ) (n : Option (ℕ × ℕ)) → After at n → PositionAfter at (indexed_lifetime n).1
indexed_after at None h = tt
indexed_after at (Some n) h = h

lifetime_after : (part : List ℕ) (at : ℕ) → PositionAfter at (lifetime part (Some at)).1
unfolding lifetime
lifetime_after part at =
    each (λ (l : Lifetime × Option ℕ). PositionAfter at l.1) (eqb (get_or part at 0) 76) (indexed_lifetime (base_62_number part (at + 1))) (NoLifetime, Some at) (indexed_after at (base_62_number part (at + 1)) (after_less at (at + 1 + 1) _ (omega arith) (number_after part (at + 1)))) (omega arith)

-- an "L" that is read
lifetime_forward : (part : List ℕ) (at after : ℕ) (life : Lifetime) → has_byte part 76 (Some at) ≡ true → lifetime part (Some at) ≡ (life, Some after) → at < after
unfolding lifetime
lifetime_forward part at after life e r =
    let past : PositionAfter (at + 1) (lifetime part (Some at)).1 = rw e (indexed_after (at + 1) (base_62_number part (at + 1)) (after_less (at + 1) (at + 1 + 1) _ (omega arith) (number_after part (at + 1)))) in
    let here : at + 1 ≤ after = subst (λ (l : Lifetime × Option ℕ). PositionAfter (at + 1) l.1) r past in omega arith

abbrev PathAfter : ℕ → PathForm → Type 0
PathAfter at NoPathForm = ⊤
PathAfter at (CrateRoot root q) = at < q
PathAfter at (NestedIn namespace q) = at < q
PathAfter at (InherentImpl q) = at < q
PathAfter at (TraitImpl q) = at < q
PathAfter at (TraitDefinition q) = at < q
PathAfter at (WithArguments q) = at < q
PathAfter at (BackToPath target q) = at < q

path_form_after : (part : List ℕ) (at : ℕ) → PathAfter at (path_form part (Some at))
unfolding path_form
path_form_after part at =
    let P = PathAfter at in
    let tag = get_or part at 0 in
    each P (eqb tag 67) _ _ (mapped_after P (at + 1) (λ (i : Identifier × ℕ). CrateRoot i.0 i.1) (identifier part (at + 1)) NoPathForm (λ r h. omega arith) tt (identifier_after part (at + 1))) (
    each P (eqb tag 78) _ _ (each P (is_ascii_alphabetic (get_or part (at + 1) 0)) (NestedIn (get_or part (at + 1) 0) (at + 2)) NoPathForm (omega arith) tt) (
    each P (eqb tag 77) _ _ (mapped_after P (at + 1) (λ (d : ℕ × ℕ). InherentImpl d.1) (optional_base_62_number part 115 (at + 1)) NoPathForm (λ r h. omega arith) tt (tagged_after part 115 (at + 1))) (
    each P (eqb tag 88) _ _ (mapped_after P (at + 1) (λ (d : ℕ × ℕ). TraitImpl d.1) (optional_base_62_number part 115 (at + 1)) NoPathForm (λ r h. omega arith) tt (tagged_after part 115 (at + 1))) (
    each P (eqb tag 89) (TraitDefinition (at + 1)) _ (omega arith) (
    each P (eqb tag 73) (WithArguments (at + 1)) _ (omega arith) (
    each P (eqb tag 66) _ NoPathForm (mapped_after P (at + 1) (λ (b : ℕ × ℕ). BackToPath b.0 b.1) (back_reference part at) NoPathForm (λ r h. omega arith) tt (back_reference_after part at)) tt))))))

abi_after : (part : List ℕ) (at : ℕ) → After at (abi part at)
unfolding abi
abi_after part at =
    each (After at) (eqb (get_or part at 0) 75) _ (Some (None, at)) (each (After at) (eqb (get_or part (at + 1) 0) 67) (Some (Some (codes "C"), at + 2)) _ (omega arith) (after_then at (undisambiguated_identifier part (at + 1)) _ (λ i e. each (After at) (not (is_empty i.0.ascii) && is_empty i.0.punycode) (Some (Some i.0.ascii, i.1)) None (omega (arith, after_is (at + 1) _ i (undisambiguated_after part (at + 1)) e)) tt))) (omega arith)

abbrev TypeAfter : ℕ → TypeForm → Type 0
TypeAfter at NoTypeForm = ⊤
TypeAfter at (BasicType text q) = at < q
TypeAfter at (ReferenceTo mutable life q) = at < q
TypeAfter at InvalidReference = ⊤
TypeAfter at (PointerTo mutable q) = at < q
TypeAfter at (SliceOf q) = at < q
TypeAfter at (ArrayOf q) = at < q
TypeAfter at (TupleOf q) = at < q
TypeAfter at (FunctionOf signature q) = at < q
TypeAfter at (InvalidAbi binder) = ⊤
TypeAfter at (DynOf binder q) = at < q
TypeAfter at InvalidDyn = ⊤
TypeAfter at (BackToType target q) = at < q
TypeAfter at PathType = ⊤

reference_after : (at : ℕ) (mutable : Bool) (l : Lifetime × Option ℕ) → PositionAfter (at + 1) l.1 → TypeAfter at (reference_form mutable l)
reference_after at mutable l h = by l.1 h
  where
    by : (o : Option ℕ) → PositionAfter (at + 1) o → TypeAfter at (option_map_or (ReferenceTo mutable l.0) o InvalidReference)
    by None h = tt
    by (Some q) h = omega arith

function_after : (part : List ℕ) (at : ℕ) (b : Option (ℕ × ℕ)) → After (at + 1) b → TypeAfter at (function_form part b)
function_after part at None h = tt
function_after part at (Some b) h =
    let q = past part 85 b.1 in
    mapped_after (TypeAfter at) (at + 1) (λ (a : Option (List ℕ) × ℕ). FunctionOf (record { binder = b.0; is_unsafe = eqb (get_or part b.1 0) 85; abi = a.0 }) a.1) (abi part q) (InvalidAbi b.0) (λ r h. omega arith) tt (after_less (at + 1) q (abi part q) (omega (arith, past_after part 85 b.1)) (abi_after part q))

type_form_by_after : (part : List ℕ) (at tag : ℕ) → TypeAfter at (type_form_by part at tag)
unfolding type_form_by
type_form_by_after part at tag =
    let T = TypeAfter at in
    each T (eqb tag 82) _ _ (reference_after at false (lifetime part (Some (at + 1))) (lifetime_after part (at + 1))) (
    each T (eqb tag 81) _ _ (reference_after at true (lifetime part (Some (at + 1))) (lifetime_after part (at + 1))) (
    each T (eqb tag 80) (PointerTo false (at + 1)) _ (omega arith) (
    each T (eqb tag 79) (PointerTo true (at + 1)) _ (omega arith) (
    each T (eqb tag 83) (SliceOf (at + 1)) _ (omega arith) (
    each T (eqb tag 65) (ArrayOf (at + 1)) _ (omega arith) (
    each T (eqb tag 84) (TupleOf (at + 1)) _ (omega arith) (
    each T (eqb tag 70) _ _ (function_after part at (optional_base_62_number part 71 (at + 1)) (tagged_after part 71 (at + 1))) (
    each T (eqb tag 68) _ _ (mapped_after T (at + 1) (λ (b : ℕ × ℕ). DynOf b.0 b.1) (optional_base_62_number part 71 (at + 1)) InvalidDyn (λ r h. omega arith) tt (tagged_after part 71 (at + 1))) (
    each T (eqb tag 66) _ PathType (mapped_after T (at + 1) (λ (b : ℕ × ℕ). BackToType b.0 b.1) (back_reference part at) NoTypeForm (λ r h. omega arith) tt (back_reference_after part at)) tt)))))))))

basic_after : (at : ℕ) (text : Option (List ℕ)) (other : TypeForm) → TypeAfter at other → TypeAfter at (option_map_or (λ (name : List ℕ). BasicType name (at + 1)) text other)
basic_after at None other h = h
basic_after at (Some text) other h = omega arith

type_form_after : (part : List ℕ) (at : ℕ) → TypeAfter at (type_form part (Some at))
unfolding type_form
type_form_after part at =
    let tag = get_or part at 0 in
    each (TypeAfter at) (nat_lt at (length part)) _ NoTypeForm (basic_after at (basic_type tag) (type_form_by part at tag) (type_form_by_after part at tag)) tt

abbrev ConstAfter : ℕ → ConstForm → Type 0
ConstAfter at NoConstForm = ⊤
ConstAfter at (UntypedPlaceholderConst q) = at < q
ConstAfter at (PlaceholderConst type_name q) = at < q
ConstAfter at (ValueConst type_name value q) = at < q
ConstAfter at (InvalidConst negative type_name) = ⊤
ConstAfter at (BackToConst target q) = at < q

const_value_after : (part : List ℕ) (letter : ℕ) (negative : Bool) (at : ℕ) → After at (const_value part letter negative at)
unfolding const_value
const_value_after part letter negative at =
    let start = cond negative (at + 1) at in
    after_then at (hex_digits part start) _ (λ d e. after_then at (value_of letter negative d.0) _ (λ v g. omega (arith, each (λ s. at ≤ s) negative (at + 1) at (omega arith) (omega arith), after_is (start + 1) _ d (hex_digits_after part start) e)))

typed_after : (part : List ℕ) (letter at : ℕ) (type_name : Option (List ℕ)) → ConstAfter at (typed_form part letter (at + 1) type_name)
typed_after part letter at None = tt
typed_after part letter at (Some type_name) =
    let negative = has_sign part letter (at + 1) in
    each (ConstAfter at) (eqb (get_or part (at + 1) 0) 112) (PlaceholderConst type_name (at + 1 + 1)) _ (omega arith) (mapped_after (ConstAfter at) (at + 1) (λ (v : ConstValue × ℕ). ValueConst type_name v.0 v.1) (const_value part letter negative (at + 1)) (InvalidConst negative type_name) (λ r h. omega arith) tt (const_value_after part letter negative (at + 1)))

const_form_after : (part : List ℕ) (at : ℕ) → ConstAfter at (const_form part (Some at))
unfolding const_form
const_form_after part at =
    let C = ConstAfter at in
    let tag = get_or part at 0 in
    each C (eqb tag 66) _ _ (mapped_after C (at + 1) (λ (b : ℕ × ℕ). BackToConst b.0 b.1) (back_reference part at) NoConstForm (λ r h. omega arith) tt (back_reference_after part at)) (
    each C (eqb tag 112) (UntypedPlaceholderConst (at + 1)) _ (omega arith) (typed_after part tag at (const_type tag)))

path_front : (part : List ℕ) (at : ℕ) (form : PathForm) → path_form part (Some at) ≡ form → PathAfter at form
path_front part at form e = subst (PathAfter at) e (path_form_after part at)

type_front : (part : List ℕ) (at : ℕ) (form : TypeForm) → type_form part (Some at) ≡ form → TypeAfter at form
type_front part at form e = subst (TypeAfter at) e (type_form_after part at)

const_front : (part : List ℕ) (at : ℕ) (form : ConstForm) → const_form part (Some at) ≡ form → ConstAfter at form
const_front part at form e = subst (ConstAfter at) e (const_form_after part at)

-- Trees

pub const_forward : (c : ConstTree) (part : List ℕ) (at after : ℕ) → ReadsConst part c at after → at < after
unfolding ReadsConst
const_forward NoConst part at after r = absurd r
const_forward UntypedPlaceholder part at after r = const_front part at _ r
const_forward (Placeholder type_name) part at after r = const_front part at _ r
const_forward (Value type_name value) part at after r = const_front part at _ r
const_forward (InvalidValue negative type_name) part at after r = absurd r
const_forward (BackConst c) part at after r = absurd r
const_forward (ConstTarget target) part at after r = const_front part at _ r

mutual
  unfolding ReadsPath

  pub path_forward : (t : PathTree) (part : List ℕ) (at after : ℕ) → ReadsPath part t at after → at < after
  path_forward NoPath part at after r = absurd r
  path_forward (Crate root) part at after r = path_front part at _ r
  path_forward (Nested namespace p l) part at after r =
      omega (arith, path_front part at _ r.2, path_forward p part r.0 r.1 r.3, after_is r.1 (identifier part r.1) _ (identifier_after part r.1) r.4)
  path_forward (InvalidNested p) part at after r = absurd r
  path_forward (OfType p t) part at after r =
      omega (arith, path_front part at _ r.2, path_forward p part r.0 r.1 r.3, type_forward t part r.1 after r.4)
  path_forward (OfImpl p t u) part at after r =
      omega (arith, path_front part at _ r.3, path_forward p part r.0 r.1 r.4, type_forward t part r.1 r.2 r.5, path_forward u part r.2 after r.6)
  path_forward (OfTrait t u) part at after r =
      omega (arith, path_front part at _ r.2, type_forward t part r.0 r.1 r.3, path_forward u part r.1 after r.4)
  path_forward (Generic p items) part at after r =
      omega (arith, path_front part at _ r.2, path_forward p part r.0 r.1 r.3, items_forward items part Arguments r.1 after r.4)
  path_forward (BackPath p) part at after r = absurd r
  path_forward (PathTarget target) part at after r = path_front part at _ r

  pub type_forward : (t : TypeTree) (part : List ℕ) (at after : ℕ) → ReadsType part t at after → at < after
  type_forward NoType part at after r = absurd r
  type_forward (Basic text) part at after r = type_front part at _ r
  type_forward (Reference mutable life t) part at after r =
      omega (arith, type_front part at _ r.1, type_forward t part r.0 after r.2)
  type_forward InvalidReferenceType part at after r = absurd r
  type_forward (Pointer mutable t) part at after r =
      omega (arith, type_front part at _ r.1, type_forward t part r.0 after r.2)
  type_forward (Slice t) part at after r = omega (arith, type_front part at _ r.1, type_forward t part r.0 after r.2)
  type_forward (Array t c) part at after r =
      omega (arith, type_front part at _ r.2, type_forward t part r.0 r.1 r.3, const_forward c part r.1 after r.4)
  type_forward (Tuple items) part at after r =
      omega (arith, type_front part at _ r.1, items_forward items part Types r.0 after r.2)
  type_forward (Function signature items) part at after r =
      omega (arith, type_front part at _ r.2, items_forward items part Types r.0 r.1 r.3, r.5)
  type_forward (FunctionTo signature items t) part at after r =
      omega (arith, type_front part at _ r.2, items_forward items part Types r.0 r.1 r.3, type_forward t part r.1 after r.5)
  type_forward (InvalidFunction binder) part at after r = absurd r
  type_forward (Dyn binder items life) part at after r =
      omega (arith, type_front part at _ r.2, items_forward items part Traits r.0 r.1 r.3, lifetime_forward part r.1 after life r.4 r.5)
  type_forward InvalidDynType part at after r = absurd r
  type_forward (Named p) part at after r = path_forward p part at after r.1
  type_forward (BackType t) part at after r = absurd r
  type_forward (TypeTarget target) part at after r = type_front part at _ r

  pub item_forward : (i : Item) (part : List ℕ) (listed : Listed) (at after : ℕ) → ReadsItem part listed i at after → at < after
  item_forward (LifetimeItem life) part Arguments at after r = lifetime_forward part at after life r.0 r.1
  item_forward (LifetimeItem life) part Types at after r = absurd r
  item_forward (LifetimeItem life) part Traits at after r = absurd r
  item_forward (TypeItem t) part Arguments at after r = type_forward t part at after r.2
  item_forward (TypeItem t) part Types at after r = type_forward t part at after r
  item_forward (TypeItem t) part Traits at after r = absurd r
  item_forward (ConstItem c) part Arguments at after r = omega (arith, const_forward c part (at + 1) after r.2)
  item_forward (ConstItem c) part Types at after r = absurd r
  item_forward (ConstItem c) part Traits at after r = absurd r
  item_forward (TraitItem p bound) part Arguments at after r = absurd r
  item_forward (TraitItem p bound) part Types at after r = absurd r
  item_forward (TraitItem p bound) part Traits at after r =
      omega (arith, path_forward p part at r.0 r.1, bindings_forward bound part r.0 after r.2)

  pub items_forward : (items : Items) (part : List ℕ) (listed : Listed) (at after : ℕ) → ReadsItems part listed items at after → at < after
  items_forward NoItems part listed at after r = omega (arith, r.1)
  items_forward (ItemThen i items) part listed at after r =
      omega (arith, item_forward i part listed at r.0 r.2, items_forward items part listed r.0 after r.3)

  pub bindings_forward : (bound : Bindings) (part : List ℕ) (at after : ℕ) → ReadsBindings part bound at after → at ≤ after
  bindings_forward NoBindings part at after r = omega (arith, r.1)
  bindings_forward (Binding i t more) part at after r =
      omega (arith, undisambiguated_forward part (at + 1) r.0 i r.3, type_forward t part r.0 r.1 r.4, bindings_forward more part r.1 after r.5)
  bindings_forward InvalidBinding part at after r = absurd r

-- a binding, from its "p"
pub bound_forward : (i : UndisambiguatedIdentifier) (t : TypeTree) (part : List ℕ) (at q mid : ℕ) → undisambiguated_identifier part (at + 1) ≡ Some (i, q) → ReadsType part t q mid → at < mid
bound_forward i t part at q mid e r = omega (arith, undisambiguated_forward part (at + 1) q i e, type_forward t part q mid r)
