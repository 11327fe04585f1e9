-- The printer's readers only lower the least number of levels: a lower one before is a lower one afterwards.
use Rattle.std.proofs.Common.{◌≡◌, ℕ, zero, suc, ◌-◌, Bool, true, false, List, Option, Some, None, cond, nat_le, min, refl, ap, ◌∙◌, arith, ◌+◌, []}
use Rattle.std.specs.Prelude.{codes}
use Rattle.binfarce_v0_grammar.specs.Identifiers.{UndisambiguatedIdentifier, Identifier}
use Rattle.binfarce_v0_state.specs.LeafTexts.{identifier_text}
use Rattle.binfarce_v0_grammar.specs.Forms.{NoLifetime, Signature, has_byte, after_byte, identifier_at, undisambiguated_at, lifetime, path_form, type_form, const_form, PathForm, NoPathForm, CrateRoot, NestedIn, InherentImpl, TraitImpl, TraitDefinition, WithArguments, BackToPath, TypeForm, NoTypeForm, BasicType, ReferenceTo, InvalidReference, PointerTo, SliceOf, ArrayOf, TupleOf, FunctionOf, InvalidAbi, DynOf, InvalidDyn, BackToType, PathType, ConstForm, NoConstForm, UntypedPlaceholderConst, PlaceholderConst, ValueConst, InvalidConst, BackToConst}
use Rattle.binfarce_v0_grammar.specs.Tree.{Listed, Arguments, Types, Traits, PathTree, TypeTree, Items, Bindings, NoPath, NoType, NoConst, LifetimeItem, Slice, Pointer, Reference, OfTrait, OfImpl, FunctionTo, lifetime_steps}
use Rattle.binfarce_v0_state.specs.TreeTexts.{Position, InType, OpenTrait, parent_position, separator, open_mark, value_mark, is_left_open}
use Rattle.binfarce_v0_state.specs.LeafTexts.{binder_text, signature_text, mutable_text, reference_lifetime}
use Rattle.binfarce_v0_grammar.specs.Unfolding.{bound_end, list_goes_on}
use Rattle.binfarce_v0_state.specs.machine.Printing.{State, Readers, write, seek, stopped, take, entered, into, set_muted, unmuted, taking, entering, const_rule, back_const, const_item, type_item, lifetime_item, argument_rule, binding_then, bound_type, named_binding, binding_rule, bindings_rule, trait_item, trait_rule, item_rule, item_then, items_after, list_rule, items_rule, items_from, type_then, type_as, array_end, array_rule, tuple_end, returned, function_end, function_rule, dyn_lifetime_rule, dyn_end, dyn_rule, reference_rule, back_type, named_type, invalid_reference, invalid_function, type_rule, nested_rule, named_state, named_tree, of_type_end, of_type_rule, path_then, as_trait, of_impl_rule, generic_end, generic_rule, back_path, path_rule, readers}
use Rattle.binfarce_v0_state.specs.machine.Kept.{lowered}

abbrev pub low : {T : Type 0} → ℕ → T × State → T × State
low x r = (r.0, lowered x r.1)

pub record Lowers (x : ℕ) (R : Readers) : Type 0 where
  pub path : (position : Position) (binder_depth : ℕ) (s : State) → R.path position binder_depth (lowered x s) ≡ low x (R.path position binder_depth s)
  pub ty : (binder_depth : ℕ) (s : State) → R.ty binder_depth (lowered x s) ≡ low x (R.ty binder_depth s)
  pub constant : (s : State) → R.constant (lowered x s) ≡ low x (R.constant s)

taking_low : {T : Type 0} (x n : ℕ) (none : T) (s : State) (f : State → T × State) → (f (take n (lowered x s)) ≡ low x (f (take n s))) → taking n none (lowered x s) f ≡ low x (taking n none s f)
taking_low {T} x n none s f h = by (nat_le n s.steps_left)
  where
    by : (b : Bool) → cond b (f (take n (lowered x s))) (none, stopped (lowered x s)) ≡ low x (cond b (f (take n s)) (none, stopped s))
    by true = h
    by false = refl

const_low : (x : ℕ) (R : Readers) → Lowers x R → (s : State) (form : ConstForm) → const_rule R (lowered x s) form ≡ low x (const_rule R s form)
unfolding const_rule
const_low x R H s NoConstForm = refl
const_low x R H s (UntypedPlaceholderConst q) = refl
const_low x R H s (PlaceholderConst type_name q) = refl
const_low x R H s (ValueConst type_name value q) = refl
const_low x R H s (InvalidConst negative type_name) = refl
const_low x R H s (BackToConst target q) = ap (back_const q s.in_back_reference) (H.constant (into target s))

argument_low : (x : ℕ) (part : List ℕ) (R : Readers) → Lowers x R → (binder_depth : ℕ) (s : State) (a b : Bool) → argument_rule part R binder_depth (lowered x s) a b ≡ low x (argument_rule part R binder_depth s a b)
argument_low x part R H binder_depth s true b =
    taking_low x 1 (LifetimeItem NoLifetime) s (lifetime_item binder_depth (lifetime part s.at)) refl
argument_low x part R H binder_depth s false true = ap const_item (H.constant (seek (after_byte s.at) s))
argument_low x part R H binder_depth s false false = ap type_item (H.ty binder_depth s)

named_binding_low : (x : ℕ) (R : Readers) → Lowers x R → (binder_depth : ℕ) (more : Bool → State → Bindings × State) → ((is_open : Bool) (s : State) → more is_open (lowered x s) ≡ low x (more is_open s)) → (is_open : Bool) (s : State) (i : Option (UndisambiguatedIdentifier × ℕ)) → named_binding R binder_depth more is_open (lowered x s) i ≡ low x (named_binding R binder_depth more is_open s i)
named_binding_low x R H binder_depth more M is_open s None = refl
named_binding_low x R H binder_depth more M is_open s (Some i) =
    let start = write (codes " = ") (write (identifier_text i.0) (seek (Some i.1) (write (open_mark is_open) s))) in
    ap (bound_type more i.0) (H.ty binder_depth start) ∙ ap (binding_then i.0 (R.ty binder_depth start).0) (M true (R.ty binder_depth start).1)

bindings_low : (x : ℕ) (part : List ℕ) (R : Readers) → Lowers x R → (binder_depth n : ℕ) (is_open : Bool) (s : State) → bindings_rule part R binder_depth n is_open (lowered x s) ≡ low x (bindings_rule part R binder_depth n is_open s)
unfolding bindings_rule
bindings_low x part R H binder_depth zero is_open s = refl
bindings_low x part R H binder_depth (suc n) is_open s =
    by (bindings_low x part R H binder_depth n) (has_byte part 112 s.at)
  where
    by : ((is_open : Bool) (s : State) → bindings_rule part R binder_depth n is_open (lowered x s) ≡ low x (bindings_rule part R binder_depth n is_open s)) → (b : Bool) → binding_rule part R binder_depth (bindings_rule part R binder_depth n) is_open (lowered x s) b ≡ low x (binding_rule part R binder_depth (bindings_rule part R binder_depth n) is_open s b)
    by M true =
        named_binding_low x R H binder_depth (bindings_rule part R binder_depth n) M is_open s (undisambiguated_at part (after_byte s.at))
    by M false = refl

item_low : (x : ℕ) (part : List ℕ) (R : Readers) → Lowers x R → (binder_depth : ℕ) (listed : Listed) (s : State) → item_rule part R binder_depth listed (lowered x s) ≡ low x (item_rule part R binder_depth listed s)
unfolding item_rule
item_low x part R H binder_depth Arguments s = argument_low x part R H binder_depth s (has_byte part 76 s.at) (has_byte part 75 s.at)
item_low x part R H binder_depth Types s = ap type_item (H.ty binder_depth s)
item_low x part R H binder_depth Traits s =
    let r = R.path OpenTrait binder_depth s in
    ap (trait_rule part R binder_depth) (H.path OpenTrait binder_depth s) ∙ ap (trait_item r.0) (bindings_low x part R H binder_depth (suc r.1.steps_left) (is_left_open r.0 OpenTrait) r.1)

items_low : (x : ℕ) (part : List ℕ) (R : Readers) → Lowers x R → (binder_depth : ℕ) (listed : Listed) (between : List ℕ) (n : ℕ) (is_first : Bool) (s : State) → items_rule part R binder_depth listed between n is_first (lowered x s) ≡ low x (items_rule part R binder_depth listed between n is_first s)
unfolding items_rule
items_low x part R H binder_depth listed between zero is_first s = refl
items_low x part R H binder_depth listed between (suc n) is_first s =
    by (items_low x part R H binder_depth listed between n false) (list_goes_on part s.at)
  where
    by : ((s : State) → items_rule part R binder_depth listed between n false (lowered x s) ≡ low x (items_rule part R binder_depth listed between n false s)) → (b : Bool) → list_rule part R binder_depth listed between (items_rule part R binder_depth listed between n false) is_first (lowered x s) b ≡ low x (list_rule part R binder_depth listed between (items_rule part R binder_depth listed between n false) is_first s b)
    by M true =
        let start = write (separator is_first between) s in
        let r = item_rule part R binder_depth listed start in
        ap (items_after (items_rule part R binder_depth listed between n false)) (item_low x part R H binder_depth listed start) ∙ ap (item_then r.0) (M r.1)
    by M false = refl

returned_low : (x : ℕ) (part : List ℕ) (R : Readers) → Lowers x R → (binder_depth : ℕ) (signature : Signature) (items : Items) (s : State) (b : Bool) → returned part R binder_depth signature items (lowered x s) b ≡ low x (returned part R binder_depth signature items s b)
returned_low x part R H binder_depth signature items s true = refl
returned_low x part R H binder_depth signature items s false =
    ap (type_as (FunctionTo signature items)) (H.ty binder_depth (write (codes " -> ") s))

type_low : (x : ℕ) (part : List ℕ) (R : Readers) → Lowers x R → (binder_depth : ℕ) (s : State) (form : TypeForm) → type_rule part R binder_depth (lowered x s) form ≡ low x (type_rule part R binder_depth s form)
unfolding type_rule
type_low x part R H binder_depth s NoTypeForm = refl
type_low x part R H binder_depth s (BasicType text q) = refl
type_low x part R H binder_depth s (ReferenceTo mutable life q) =
    let n = lifetime_steps life in
    taking_low x n NoType s (reference_rule R binder_depth mutable life q) (ap (type_as (Reference mutable life)) (H.ty binder_depth (write (mutable_text mutable (codes "mut ") []) (write (reference_lifetime binder_depth life) (write (codes "&") (seek (bound_end binder_depth life (Some q)) (take n s)))))))
type_low x part R H binder_depth s InvalidReference = taking_low x 1 NoType s invalid_reference refl
type_low x part R H binder_depth s (PointerTo mutable q) =
    ap (type_as (Pointer mutable)) (H.ty binder_depth (write (mutable_text mutable (codes "*mut ") (codes "*const ")) (seek (Some q) s)))
type_low x part R H binder_depth s (SliceOf q) =
    ap (type_then (codes "]") Slice) (H.ty binder_depth (write (codes "[") (seek (Some q) s)))
type_low x part R H binder_depth s (ArrayOf q) =
    let start = write (codes "[") (seek (Some q) s) in
    let r = R.ty binder_depth start in
    ap (array_rule R) (H.ty binder_depth start) ∙ ap (array_end r.0) (H.constant (write (codes "; ") r.1))
type_low x part R H binder_depth s (TupleOf q) =
    let start = write (codes "(") (seek (Some q) s) in
    ap tuple_end (items_low x part R H binder_depth Types (codes ", ") (suc start.steps_left) true start)
type_low x part R H binder_depth s (FunctionOf signature q) =
    let inner = binder_depth + signature.binder in
    let start = write (signature_text signature) (write (binder_text binder_depth signature.binder) (seek (Some q) (take signature.binder s))) in
    let r = items_from part R inner Types (codes ", ") start in
    taking_low x signature.binder NoType s (function_rule part R binder_depth signature q) (ap (function_end part R inner signature) (items_low x part R H inner Types (codes ", ") (suc start.steps_left) true start) ∙ returned_low x part R H inner signature r.0 (write (codes ")") r.1) (has_byte part 117 r.1.at))
type_low x part R H binder_depth s (InvalidAbi binder) = taking_low x binder NoType s (invalid_function binder_depth binder) refl
type_low x part R H binder_depth s (DynOf binder q) =
    let inner = binder_depth + binder in
    let start = write (binder_text binder_depth binder) (write (codes "dyn ") (seek (Some q) (take binder s))) in
    let r = items_from part R inner Traits (codes " + ") start in
    let life = lifetime part r.1.at in
    taking_low x binder NoType s (dyn_rule part R binder_depth binder q) (ap (dyn_end part binder_depth binder) (items_low x part R H inner Traits (codes " + ") (suc start.steps_left) true start) ∙ taking_low x (lifetime_steps life.0) NoType r.1 (dyn_lifetime_rule binder_depth binder r.0 life) refl)
type_low x part R H binder_depth s InvalidDyn = refl
type_low x part R H binder_depth s (BackToType target q) = ap (back_type q s.in_back_reference) (H.ty binder_depth (into target s))
type_low x part R H binder_depth s PathType = ap named_type (H.path InType binder_depth s)

nested_state_low : (x namespace : ℕ) (s : State) (l : Option (Identifier × ℕ)) → named_state namespace (lowered x s) l ≡ lowered x (named_state namespace s l)
nested_state_low x namespace s None = refl
nested_state_low x namespace s (Some l) = refl

trait_low : (x : ℕ) (R : Readers) → Lowers x R → (binder_depth : ℕ) (make : TypeTree → PathTree → PathTree) (s : State) → as_trait R binder_depth make (R.ty binder_depth (lowered x s)) ≡ low x (as_trait R binder_depth make (R.ty binder_depth s))
trait_low x R H binder_depth make s =
    let r = R.ty binder_depth s in
    ap (as_trait R binder_depth make) (H.ty binder_depth s) ∙ ap (path_then (codes ">") (make r.0)) (H.path InType binder_depth (write (codes " as ") r.1))

path_low : (x : ℕ) (part : List ℕ) (R : Readers) → Lowers x R → (position : Position) (binder_depth : ℕ) (s : State) (form : PathForm) → path_rule part R position binder_depth (lowered x s) form ≡ low x (path_rule part R position binder_depth s form)
unfolding path_rule
path_low x part R H position binder_depth s NoPathForm = refl
path_low x part R H position binder_depth s (CrateRoot root q) = refl
path_low x part R H position binder_depth s (NestedIn namespace q) =
    let r = R.path (parent_position position) binder_depth (seek (Some q) s) in
    ap (nested_rule part namespace) (H.path (parent_position position) binder_depth (seek (Some q) s)) ∙ ap (λ (v : State). (named_tree namespace r.0 (identifier_at part r.1.at), v)) (nested_state_low x namespace r.1 (identifier_at part r.1.at))
path_low x part R H position binder_depth s (InherentImpl q) =
    let start = set_muted true (seek (Some q) s) in
    let r = unmuted s.muted (R.path (parent_position position) binder_depth start) in
    ap (λ v. of_type_rule R binder_depth (unmuted s.muted v)) (H.path (parent_position position) binder_depth start) ∙ ap (of_type_end r.0) (H.ty binder_depth (write (codes "<") r.1))
path_low x part R H position binder_depth s (TraitImpl q) =
    let start = set_muted true (seek (Some q) s) in
    let r = unmuted s.muted (R.path (parent_position position) binder_depth start) in
    ap (λ v. of_impl_rule R binder_depth (unmuted s.muted v)) (H.path (parent_position position) binder_depth start) ∙ trait_low x R H binder_depth (OfImpl r.0) (write (codes "<") r.1)
path_low x part R H position binder_depth s (TraitDefinition q) =
    trait_low x R H binder_depth OfTrait (write (codes "<") (seek (Some q) s))
path_low x part R H position binder_depth s (WithArguments q) =
    let r = R.path (parent_position position) binder_depth (seek (Some q) s) in
    let start = write (codes "<") (write (value_mark position) r.1) in
    ap (generic_rule part R position binder_depth) (H.path (parent_position position) binder_depth (seek (Some q) s)) ∙ ap (generic_end position r.0) (items_low x part R H binder_depth Arguments (codes ", ") (suc start.steps_left) true start)
path_low x part R H position binder_depth s (BackToPath target q) =
    ap (back_path q s.in_back_reference) (H.path position binder_depth (into target s))

entered_low : (x levels_left : ℕ) (s : State) → entered levels_left (lowered x s) ≡ lowered x (entered levels_left s)
entered_low x levels_left s =
    let e : min (min x s.least_levels_left) levels_left ≡ min x (min s.least_levels_left levels_left) = omega arith in
    ap (λ k. record s { steps_left = s.steps_left - 1; least_levels_left = k }) e

entering_low : {T : Type 0} (x levels_left : ℕ) (none : T) (s : State) (f : State → T × State) → (f (lowered x (entered levels_left s)) ≡ low x (f (entered levels_left s))) → entering levels_left none (lowered x s) f ≡ low x (entering levels_left none s f)
entering_low {T} x levels_left none s f h = by (nat_le 1 s.steps_left)
  where
    by : (b : Bool) → cond b (f (entered levels_left (lowered x s))) (none, stopped (lowered x s)) ≡ low x (cond b (f (entered levels_left s)) (none, stopped s))
    by true = ap f (entered_low x levels_left s) ∙ h
    by false = refl

pub readers_low : (x : ℕ) (part : List ℕ) (levels_left : ℕ) → Lowers x (readers part levels_left)
unfolding readers
readers_low x part zero = record { path = λ position binder_depth s. refl; ty = λ binder_depth s. refl; constant = λ s. refl }
readers_low x part (suc levels_left) =
    let H = readers_low x part levels_left in
    let R = readers part levels_left in
    record {
      path = λ position binder_depth s. entering_low x levels_left NoPath s (λ e. path_rule part R position binder_depth e (path_form part s.at)) (path_low x part R H position binder_depth (entered levels_left s) (path_form part s.at));
      ty = λ binder_depth s. entering_low x levels_left NoType s (λ e. type_rule part R binder_depth e (type_form part s.at)) (type_low x part R H binder_depth (entered levels_left s) (type_form part s.at));
      constant = λ s. entering_low x levels_left NoConst s (λ e. const_rule R e (const_form part s.at)) (const_low x R H (entered levels_left s) (const_form part s.at));
    }
