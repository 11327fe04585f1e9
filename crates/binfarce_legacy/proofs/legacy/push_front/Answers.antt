use Rattle.std.proofs.Common.{ℕ, List, ◌++◌, length, drop, refl, ap, sym, subst, ◌∙◌, arith, append_assoc}
use Rattle.std.proofs.lemmas.List.{append-nil}
use Rattle.std.proofs.lemmas.Str.{IsCharBoundary-from_ascii}
use Rattle.std.specs.List.{starts_with}
use Rattle.std.specs.Prelude.{encode_utf8_all, codes, nat_eq}
use Rattle.std.specs.String.{string_bytes}
use Rattle.binfarce_legacy.specs.Legacy.{name_chars}
use Rattle.binfarce_legacy.specs.machine.Reading.{name_end, HasElement}
use Rattle.binfarce_legacy.proofs.Growing.{push_ok}
use Rattle.binfarce_legacy.proofs.JoinLemmas.{first_name, front_of_none, front_of_one, front_of_more, front_of_less}
use Rattle.binfarce_legacy.proofs.legacy.push_front.Goals as goal

pub returns-in_default-clause-front : goal.returns-in_default-clause-front
returns-in_default-clause-front c = λ elements rest r. (
  codes "",
  sym (append-nil (string_bytes c.args.text.now)),
  front_of_none c.args.part.now elements rest r (λ has. c.in_default.ensures (subst HasElement (sym c.as_bytes-bytes.ensures.value) has)),
)

pub range-first-requires-clause-start_le_end : goal.range-first-requires-clause-start_le_end
unfolding name_end
range-first-requires-clause-start_le_end c =
    omega (arith, ap (λ (p : ℕ × ℕ). p.0) c.in-Some.ensures.1, ap (λ (p : ℕ × ℕ). p.1) c.in-Some.ensures.1)

pub range-first-requires-clause-start_boundary : goal.range-first-requires-clause-start_boundary
unfolding name_end
range-first-requires-clause-start_boundary c = λ _.
    IsCharBoundary-from_ascii c.args.part.now c.in-Some.start c.requires
    (omega (
      arith,
      ap (λ (p : ℕ × ℕ). p.0) c.in-Some.ensures.1,
      ap (λ (p : ℕ × ℕ). p.1) c.in-Some.ensures.1,
      c.in-Some.ensures.0.1,
      ap length c.as_bytes-bytes.ensures.value,
    ))

pub returns-then-starts_with-clause-front : goal.returns-then-starts_with-clause-front
returns-then-starts_with-clause-front c =
    let part : List ℕ = c.args.part.now in
    let has : HasElement part = subst HasElement c.as_bytes-bytes.ensures.value c.in-Some.ensures.0 in
    let named = first_name part c.as_bytes-bytes.result.now c.in-Some.start c.in-Some.end c.range-first.result.now c.as_bytes-bytes.ensures.value c.in-Some.ensures.1 c.range-first.ensures.value in
    let less = ap (λ (x : List ℕ). starts_with nat_eq x (codes "_$LT$")) (sym c.as_bytes.ensures.value) ∙ sym c.if-starts_with.ensures.value in
    push_ok c.push_str.result (string_bytes c.args.text.now) (string_bytes c.push_str.new.self) (codes "<") _
    (λ e elements rest r. (codes "<", e, front_of_less part c.in-Some.end c.range-first.result.now elements rest r has named.0 named.1 less))
    c.push_str.ensures.bytes

pub returns-in_default-element-clause-front : goal.returns-in_default-element-clause-front
returns-in_default-element-clause-front c = λ elements rest r.
    let part : List ℕ = c.args.part.now in
    let has : HasElement part = subst HasElement c.as_bytes-bytes.ensures.value c.in-Some.ensures.0 in
    let named = first_name part c.as_bytes-bytes.result.now c.in-Some.start c.in-Some.end c.range-first.result.now c.as_bytes-bytes.ensures.value c.in-Some.ensures.1 c.range-first.ensures.value in (
      encode_utf8_all (name_chars c.range-first.result.now),
      c.in_ok-push_name.ensures.bytes,
      front_of_one part c.in-Some.end _ c.range-first.result.now elements rest r has named.0 named.1 refl
          (λ more. c.in_default-element.ensures (subst HasElement (sym (ap (drop c.in-Some.end) c.as_bytes-bytes.ensures.value)) more)),
    )

pub returns-clause-front : goal.returns-clause-front
returns-clause-front c =
    let part : List ℕ = c.args.part.now in
    let has : HasElement part = subst HasElement c.as_bytes-bytes.ensures.value c.in-Some.ensures.0 in
    let named = first_name part c.as_bytes-bytes.result.now c.in-Some.start c.in-Some.end c.range-first.result.now c.as_bytes-bytes.ensures.value c.in-Some.ensures.1 c.range-first.ensures.value in
    let old = string_bytes c.args.text.now in
    let first : List ℕ = encode_utf8_all (name_chars c.range-first.result.now) in
    push_ok c.push_str-2.result (string_bytes c.push_name.new.text) (string_bytes c.push_str-2.new.self) (codes "::") _
    (λ e elements rest r. (
      first ++ codes "::",
      e ∙ ap (λ (x : List ℕ). x ++ codes "::") c.in_ok-push_name.ensures.bytes ∙ append_assoc old first (codes "::"),
      front_of_more part c.in-Some.end first c.range-first.result.now elements rest r has named.0 named.1 refl
          (subst HasElement (ap (drop c.in-Some.end) c.as_bytes-bytes.ensures.value) c.in-Some-element.ensures.0),
    ))
    c.push_str-2.ensures.bytes
