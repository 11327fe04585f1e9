-- The answer of a name.
use Rattle.std.proofs.Common.{◌≡◌, ℕ, ◌⊎◌, List, [], ◌∷◌, get_or, nat_eq, Bool, true, false, Some, None, Result, Ok, Err, inl, inr, refl, ap, sym, ◌∙◌, subst, arith}
use Rattle.std.proofs.lemmas.Bool.{cases_Bool, cond-false}
use Rattle.std.specs.Prelude.{IfOk}
use Rattle.std.specs.List.{starts_with}
use Rattle.binfarce_text.specs.Prefixes.{after_prefix}
use Rattle.binfarce_names.specs.declared.demangle.Kind.TheVariants.{Legacy, V0}
use Rattle.binfarce_text.specs.Suffixes.{without_llvm}
use Rattle.binfarce_legacy.specs.Legacy as legacy_names
use Rattle.binfarce_legacy.specs.Legacy.{Element, IsLegacy}
use Rattle.binfarce_legacy.proofs.ElementLemmas.{reads_one_way}
use Rattle.binfarce_names.specs.Name.{Name, Mangled}
use Rattle.binfarce_names.specs.Named.{IsLegacyMangled, IsV0Mangled, IsMangled, IsNamed, legacy, v0, unknown}
use Rattle.binfarce_names.specs.Laws.{HasAnAnswer, HasOneAnswer}
use Rattle.binfarce_v0.specs.Mangling.{part_after_prefix, IsV0}
use Rattle.binfarce_v0_grammar.specs.Tree.{PathTree}
use Rattle.binfarce_v0_grammar.specs.Unfolding.{UnfoldsTo}
use Rattle.binfarce_v0.proofs.Manglings.{unfolds_once, printed, printed_is_outcome, printed_over}
use Rattle.binfarce_v0.proofs.RestLemmas.{one_part}
use Rattle.binfarce_text.proofs.TextLemmas.{some_same, begins-at}

-- Prefixes

one_of : (p q r text part : List ℕ) → after_prefix (p ∷ q ∷ r ∷ []) text ≡ Some part
    → (starts_with nat_eq text p ≡ true) ⊎ ((starts_with nat_eq text q ≡ true) ⊎ (starts_with nat_eq text r ≡ true))
one_of p q r text part e = elim (cases_Bool (starts_with nat_eq text p)) [
  | inl a ↦ inl a
  | inr a ↦ elim (cases_Bool (starts_with nat_eq text q)) [
    | inl b ↦ inr (inl b)
    | inr b ↦ elim (cases_Bool (starts_with nat_eq text r)) [
      | inl c ↦ inr (inr c)
      | inr c ↦
          let none : after_prefix (p ∷ q ∷ r ∷ []) text ≡ None =
          cond-false (starts_with nat_eq text p) _ _ a ∙ cond-false (starts_with nat_eq text q) _ _ b ∙ cond-false (starts_with nat_eq text r) _ _ c in
          let both = sym none ∙ e in absurd cc
    ]
  ]
]

-- a text begins with no `_`, one or two, and then a letter
abbrev BeginsWith : ℕ → List ℕ → Type 0
BeginsWith letter text =
    ((get_or text 0 0 ≡ 95) × (get_or text 1 0 ≡ letter))
    ⊎ ((get_or text 0 0 ≡ letter) ⊎ ((get_or text 0 0 ≡ 95) × (get_or text 1 0 ≡ 95) × (get_or text 2 0 ≡ letter)))

begins_with : (letter : ℕ) (more text part : List ℕ)
    → after_prefix ((95 ∷ letter ∷ more) ∷ (letter ∷ more) ∷ (95 ∷ 95 ∷ letter ∷ more) ∷ []) text ≡ Some part → BeginsWith letter text
begins_with letter more text part e = elim (one_of (95 ∷ letter ∷ more) (letter ∷ more) (95 ∷ 95 ∷ letter ∷ more) text part e) [
  | inl a ↦ inl (begins-at text (95 ∷ letter ∷ more) 0 a (omega arith), begins-at text (95 ∷ letter ∷ more) 1 a (omega arith))
  | inr b ↦ elim b [
    | inl c ↦ inr (inl (begins-at text (letter ∷ more) 0 c (omega arith)))
    | inr c ↦
        inr (inr (begins-at text (95 ∷ 95 ∷ letter ∷ more) 0 c (omega arith), begins-at text (95 ∷ 95 ∷ letter ∷ more) 1 c (omega arith), begins-at text (95 ∷ 95 ∷ letter ∷ more) 2 c (omega arith)))
  ]
]

apart : (text : List ℕ) → BeginsWith 82 text → BeginsWith 90 text → ⊥
apart text (inl a) (inl b) = omega (arith, a.0, a.1, b.0, b.1)
apart text (inl a) (inr (inl b)) = omega (arith, a.0, a.1, b)
apart text (inl a) (inr (inr b)) = omega (arith, a.0, a.1, b.0, b.1)
apart text (inr (inl a)) (inl b) = omega (arith, a, b.0)
apart text (inr (inl a)) (inr (inl b)) = omega (arith, a, b)
apart text (inr (inl a)) (inr (inr b)) = omega (arith, a, b.0)
apart text (inr (inr a)) (inl b) = omega (arith, a.1, b.1)
apart text (inr (inr a)) (inr (inl b)) = omega (arith, a.0, b)
apart text (inr (inr a)) (inr (inr b)) = omega (arith, a.2, b.2)

-- no prefix of a v0 mangling is one of a legacy mangling
v0_not_legacy : (text part : List ℕ) → part_after_prefix text ≡ Some part
    → (other : List ℕ) (elements : List Element) (rest : List ℕ) → IsLegacy text other elements rest → ⊥
unfolding part_after_prefix legacy_names.part_after_prefix
v0_not_legacy text part e other elements rest is =
    apart text (begins_with 82 [] text part e) (begins_with 90 (78 ∷ []) text other is.prefix)

-- a v0 name unfolds to one tree
pub one_tree : (text p q : List ℕ) (t u : PathTree) → IsV0 text p → UnfoldsTo p t → IsV0 text q → UnfoldsTo q u → t ≡ u
one_tree text p q t u v a w b =
    let same = one_part text p q v.after w.after v.mangling w.mangling in
    unfolds_once p t u a (subst (λ x. UnfoldsTo x u) (sym same) b)

pub legacy_not_v0 : (text : List ℕ) (m : Mangled) → IsLegacyMangled text m → m.kind ≡ V0 → ⊥
legacy_not_v0 text m a k = let both : Legacy ≡ V0 = sym a.kind_is ∙ k in cc

pub if_ok : {T E : Type 0} (P Q : T → Type 0) (r : Result T E) → ((x : T) → P x → Q x) → IfOk r P → IfOk r Q
if_ok P Q (Ok x) f h = f x h
if_ok P Q (Err e) f h = h

-- past a limit
pub named_past_limits : (text : List ℕ) (m : Mangled) (name : Name) → IsMangled text m → m.kind ≡ V0 → ((tree : PathTree) → UnfoldsTo m.part tree → ⊥) → name ≡ unknown text → IsNamed text name
unfolding IsMangled IsNamed
named_past_limits text m name is k none e = elim is [
  | inl a ↦ absurd (legacy_not_v0 text m a k)
  | inr a ↦ elim a [
    | inl v ↦ inr (inr (record { not_legacy = v0_not_legacy (without_llvm text) m.part v.mangling.mangling.prefix; no_tree = λ part tree w u. none tree (subst (λ x. UnfoldsTo x tree) (sym (one_part (without_llvm text) m.part part v.mangling.after w.after v.mangling.mangling w.mangling)) u); name_is = e }))
    | inr v ↦ inr (inr (record { not_legacy = v.not_legacy; no_tree = λ part tree w u. v.not_v0 part w; name_is = e }))
  ]
]

-- the kind of a text determines its answer: a v0 mangling is printed, or exceeds a limit
pub has_answer : (text : List ℕ) (m : Mangled) → IsMangled text m → HasAnAnswer text
unfolding IsMangled IsNamed
has_answer text m is = elim is [
  | inl a ↦ (legacy a.elements, inl (record { part = m.part; elements = a.elements; rest = a.rest; mangling = a.mangling; name_is = refl }))
  | inr a ↦ elim a [
    | inl v ↦ by v (printed m.part true false None).1.limit_exceeded refl
    | inr v ↦ (unknown text, inr (inr (record { not_legacy = v.not_legacy; no_tree = λ part tree w u. v.not_v0 part w; name_is = refl })))
  ]
]
  where
    by : IsV0Mangled text m → (limit_exceeded : Bool) → (printed m.part true false None).1.limit_exceeded ≡ limit_exceeded → HasAnAnswer text
    by v true o =
        (unknown text, named_past_limits text m (unknown text) is v.kind_is (λ tree u. printed_over m.part true false None o tree u) refl)
    by v false o =
        let t = printed_is_outcome m.part true false None o in
        (v0 t.tree, inr (inl (record { part = m.part; mangling = v.mangling; tree = t.tree; unfolds = t.unfolds; name_is = refl })))

-- a text is a legacy mangling of one list of elements
one_mangling : (text part other : List ℕ) (elements others : List Element) (rest after : List ℕ)
    → IsLegacy text part elements rest → IsLegacy text other others after → elements ≡ others
one_mangling text part other elements others rest after a b =
    let same : other ≡ part = some_same other part (sym b.prefix ∙ a.prefix) in
    (reads_one_way part elements others rest after a.reads (b.reads.0, sym same ∙ b.reads.1)).0

-- two answers of a text are the same
pub answers_same : (text : List ℕ) → HasOneAnswer text
unfolding IsNamed
answers_same text first second a b = elim a [
  | inl m ↦ elim b [
    | inl n ↦ m.name_is ∙ ap legacy (one_mangling (without_llvm text) m.part n.part m.elements n.elements m.rest n.rest m.mangling n.mangling) ∙ sym n.name_is
    | inr n ↦ elim n [
      | inl w ↦ absurd (v0_not_legacy (without_llvm text) w.part w.mangling.mangling.prefix m.part m.elements m.rest m.mangling)
      | inr w ↦ absurd (w.not_legacy m.part m.elements m.rest m.mangling)
    ]
  ]
  | inr m ↦ elim b [
    | inl n ↦ elim m [
      | inl v ↦ absurd (v0_not_legacy (without_llvm text) v.part v.mangling.mangling.prefix n.part n.elements n.rest n.mangling)
      | inr v ↦ absurd (v.not_legacy n.part n.elements n.rest n.mangling)
    ]
    | inr n ↦ elim m [
      | inl v ↦ elim n [
        | inl w ↦ v.name_is ∙ ap v0 (one_tree (without_llvm text) v.part w.part v.tree w.tree v.mangling v.unfolds w.mangling w.unfolds) ∙ sym w.name_is
        | inr w ↦ absurd (w.no_tree v.part v.tree v.mangling v.unfolds)
      ]
      | inr v ↦ elim n [ inl w ↦ absurd (v.no_tree w.part w.tree w.mangling w.unfolds) | inr w ↦ v.name_is ∙ sym w.name_is ]
    ]
  ]
]
