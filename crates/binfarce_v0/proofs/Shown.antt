-- What is shown of an identifier: a disambiguator that isn't shown need not be known.
use Rattle.std.proofs.Common.{◌≡◌, ℕ, ◌+◌, ◌==◌, List, [], Bool, true, false, if◌then◌else◌, Option, Some, None, codes, slice_index, refl, ap, ◌∙◌}
use Rattle.std.specs.Option.{option_map, option_map_or}
use Rattle.std.specs.Char.{is_ascii_uppercase, is_ascii_alphabetic}
use Rattle.std.proofs.lemmas.Bool.{cond-false}
use Rattle.binfarce_text.specs.Letters.{'B', 'C', 'I', 'M', 'N', 'X', 'Y', 's'}
use Rattle.binfarce_v0_grammar.specs.Base62.{optional_base_62_number}
use Rattle.binfarce_v0_grammar.specs.Identifiers.{UndisambiguatedIdentifier, Identifier, identifier}
use Rattle.binfarce_v0_grammar.specs.Tree.{PathTree}
use Rattle.binfarce_v0_state.specs.LeafTexts.{identifier_text}
use Rattle.binfarce_v0_grammar.specs.Forms.{PathForm, NoPathForm, CrateRoot, InherentImpl, TraitImpl, path_form}
use Rattle.binfarce_v0_state.specs.TreeTexts.{Position, is_left_open}
use Rattle.binfarce_v0_state.specs.LeafTexts.{after_mark, nested_text, disambiguator_text}
use Rattle.binfarce_v0_state.specs.machine.Counted.{grown}
use Rattle.binfarce_v0_state.proofs.Counting.{grown_none}
use Rattle.binfarce_v0_state.specs.machine.Printing.{State, Readers, heard, write, seek, after_invalid_syntax, rooted, named_state, named_tree, crate_state, path_rule}

-- an identifier without its disambiguator, and the position after it
abbrev name_of : Option (Identifier × ℕ) → Option (UndisambiguatedIdentifier × ℕ)
name_of l = option_map (λ l. (l.0.name, l.1)) l

-- a nested path's name

plain_text : (namespace : ℕ) (l : Identifier) → is_ascii_uppercase namespace ≡ false → nested_text namespace l ≡ after_mark (codes "::") l.name
unfolding nested_text
plain_text namespace l lower = cond-false (is_ascii_uppercase namespace) _ _ lower

abbrev plain_state : State → Option (UndisambiguatedIdentifier × ℕ) → State
plain_state s None = after_invalid_syntax s
plain_state s (Some n) = write (after_mark (codes "::") n.0) (seek (Some n.1) s)

pub plain_name : (namespace : ℕ) (s : State) (l : Option (Identifier × ℕ)) → is_ascii_uppercase namespace ≡ false → named_state namespace s l ≡ plain_state s (name_of l)
plain_name namespace s None lower = refl
plain_name namespace s (Some l) lower = ap (λ text. write text (seek (Some l.1) s)) (plain_text namespace l.0 lower)

-- a crate's name

says_nothing : (s : State) → record s { text = grown s.most s.text (heard s.muted []) } ≡ s
says_nothing s = ap (λ t. record s { text = t }) (unheard s.muted)
  where
    unheard : (muted : Bool) → grown s.most s.text (heard muted []) ≡ s.text
    unheard true = grown_none s.most s.text
    unheard false = grown_none s.most s.text

abbrev trimmed_state : State → Option (UndisambiguatedIdentifier × ℕ) → State
trimmed_state s None = after_invalid_syntax s
trimmed_state s (Some n) = write (identifier_text n.0) (rooted n.0 (seek (Some n.1) s))

pub trimmed_root : (s : State) (l : Option (Identifier × ℕ)) → s.full ≡ false → crate_state l s ≡ trimmed_state s (name_of l)
trimmed_root s None short = refl
trimmed_root s (Some l) short =
    let named : State = write (identifier_text l.0.name) (rooted l.0.name (seek (Some l.1) s)) in
    ap (λ full. record named { text = grown named.most named.text (heard named.muted (disambiguator_text full l.0.disambiguator)) }) short ∙ says_nothing named

-- the front of a crate root
abbrev crate_form : Option (Identifier × ℕ) → PathForm
crate_form l = option_map_or (λ (i : Identifier × ℕ). CrateRoot i.0 i.1) l NoPathForm

pub root_state : (part : List ℕ) (R : Readers) (position : Position) (binder_depth : ℕ) (s : State) (l : Option (Identifier × ℕ)) → (path_rule part R position binder_depth s (crate_form l)).1 ≡ crate_state l s
unfolding path_rule
root_state part R position binder_depth s None = refl
root_state part R position binder_depth s (Some l) = refl

-- what holds in either case holds of a choice

either : {A : Type 0} (P : A → Type 0) (b : Bool) (x y : A) → P x → P y → P (if b then x else y)
either P true x y of_x of_y = of_x
either P false x y of_x of_y = of_y

of_option : {A B : Type 0} (P : B → Type 0) (f : A → B) (l : Option A) (none : B) → ((x : A) → P (f x)) → P none → P (option_map_or f l none)
of_option P f None none of_some of_none = of_none
of_option P f (Some x) none of_some of_none = of_some x

nested_closed : (namespace : ℕ) (parent : PathTree) (l : Option (Identifier × ℕ)) (position : Position) → is_left_open (named_tree namespace parent l) position ≡ false
nested_closed namespace parent None position = refl
nested_closed namespace parent (Some l) position = refl

-- a path without arguments that is no back reference isn't left open
pub path_closed : (part : List ℕ) (R : Readers) (position : Position) (binder_depth : ℕ) (s : State) (at : ℕ) → (slice_index part at == 'I') ≡ false → (slice_index part at == 'B') ≡ false → is_left_open (path_rule part R position binder_depth s (path_form part (Some at))).0 position ≡ false
unfolding path_rule path_form
path_closed part R position binder_depth s at no_arguments no_back_reference =
    let IsClosed : PathForm → Type 0 = λ form. is_left_open (path_rule part R position binder_depth s form).0 position ≡ false in
    let tag = slice_index part at in
    either IsClosed (tag == 'C') _ _ (of_option IsClosed (λ i. CrateRoot i.0 i.1) (identifier part (at + 1)) NoPathForm (λ i. refl) refl) (
    either IsClosed (tag == 'N') _ _ (either IsClosed (is_ascii_alphabetic (slice_index part (at + 1))) _ _ (nested_closed _ _ _ position) refl) (
    either IsClosed (tag == 'M') _ _ (of_option IsClosed (λ d. InherentImpl d.1) (optional_base_62_number part 's' (at + 1)) NoPathForm (λ d. refl) refl) (
    either IsClosed (tag == 'X') _ _ (of_option IsClosed (λ d. TraitImpl d.1) (optional_base_62_number part 's' (at + 1)) NoPathForm (λ d. refl) refl) (
    either IsClosed (tag == 'Y') _ _ refl (rw (no_arguments, no_back_reference) refl)))))
