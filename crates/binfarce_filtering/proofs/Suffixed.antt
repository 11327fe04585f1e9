-- Each text has exactly one readable text with the suffix after the mangling.
use Rattle.std.proofs.Common.{◌≡◌, ℕ, List, [], ◌++◌, drop, Option, Some, inl, inr, refl, sym, ◌∙◌, ap, subst}
use Rattle.binfarce_text.specs.Suffixes.{without_llvm}
use Rattle.binfarce_text.proofs.TextLemmas.{some_same}
use Rattle.binfarce_legacy.specs.Legacy.{Reads}
use Rattle.binfarce_legacy.proofs.ElementLemmas.{reads_one_way}
use Rattle.binfarce_v0.specs.Mangling.{IsMangling}
use Rattle.binfarce_v0.proofs.Manglings.{read_paths_at}
use Rattle.binfarce_v0.proofs.RestLemmas.{one_part}
use Rattle.binfarce_names.specs.declared.demangle.Kind.{Kind}
use Rattle.binfarce_names.specs.declared.demangle.Kind.TheVariants.{Legacy, Unknown, V0}
use Rattle.binfarce_names.specs.Name.{Name}
use Rattle.binfarce_names.specs.Named.{IsNamed, IsRest, IsShown}
use Rattle.binfarce_names.proofs.NameLemmas.{answers_same}
use Rattle.binfarce_filtering.proofs.Decisions.{answers}

rest_of : (text : List ℕ) (answer : Name) → IsNamed text answer → (rest : List ℕ) × IsRest answer.kind text rest
unfolding IsNamed
rest_of text answer is = elim is [
  | inl legacy ↦ (legacy.rest, of_kind Legacy legacy.rest (ap kind legacy.name_is) (legacy.part, legacy.elements, legacy.mangling))
  | inr other ↦ elim other [
    | inl v0 ↦ let rest : List ℕ = drop v0.mangling.after v0.part in (rest, of_kind V0 rest (ap kind v0.name_is) (v0.part, (v0.mangling, refl)))
    | inr unchanged ↦ ([], of_kind Unknown [] (ap kind unchanged.name_is) refl)
  ]
]
  where
    kind : Name → Kind
    kind name = name.kind

    of_kind : (is : Kind) (rest : List ℕ) → answer.kind ≡ is → IsRest is text rest → IsRest answer.kind text rest
    of_kind is rest same has = subst (λ k. IsRest k text rest) (sym same) has

same_number : (a b : ℕ) → ◌≡◌ {A = Option ℕ} (Some a) (Some b) → a ≡ b
same_number a b same = cc

one_end : (text part : List ℕ) (a b : ℕ) → IsMangling text part a → IsMangling text part b → a ≡ b
one_end text part a b is also = same_number a b (sym (read_paths_at part a is.paths) ∙ read_paths_at part b also.paths)

one_rest : (kind : Kind) (text first second : List ℕ) → IsRest kind text first → IsRest kind text second → first ≡ second
one_rest Legacy text first second is also =
    let same : also.0 ≡ is.0 = some_same also.0 is.0 (sym also.2.prefix ∙ is.2.prefix) in
    (reads_one_way is.0 is.1 also.1 first second is.2.reads (subst (λ x. Reads x also.1 second) same also.2.reads)).1
one_rest V0 text first second is also =
    let name = without_llvm text in
    let a = is.1.0 in
    let b = also.1.0 in
    let part = one_part name is.0 also.0 a.after b.after a.mangling b.mangling in
    let end = one_end name is.0 a.after b.after a.mangling (subst (λ x. IsMangling name x b.after) (sym part) b.mangling) in
    is.1.1 ∙ ap (λ k. drop k is.0) end ∙ ap (drop b.after) part ∙ sym also.1.1
one_rest Unknown text first second is also = is ∙ sym also

pub has_shown : (text : List ℕ) → (shown : List ℕ) × IsShown text shown
has_shown text =
    let answer = answers text in
    let rest = rest_of text answer.0 answer.1 in
    (answer.0.trimmed ++ rest.0, record { answer = answer.0; is_named = answer.1; rest = rest.0; is_rest = rest.1; shown_is = refl })

pub one_shown : (text first second : List ℕ) → IsShown text first → IsShown text second → first ≡ second
one_shown text first second is also =
    let same : is.answer ≡ also.answer = answers_same text is.answer also.answer is.is_named also.is_named in
    let rest : is.rest ≡ also.rest = one_rest also.answer.kind text is.rest also.rest (subst (λ (x : Name). IsRest x.kind text is.rest) same is.is_rest) also.is_rest in
    is.shown_is ∙ ap (λ (x : Name). x.trimmed ++ is.rest) same ∙ ap (λ (x : List ℕ). also.answer.trimmed ++ x) rest ∙ sym also.shown_is
