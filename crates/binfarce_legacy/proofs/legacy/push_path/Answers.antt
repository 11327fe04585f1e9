use Rattle.std.proofs.Common.{◌≡◌, ℕ, List, ◌++◌, ◌+◌, ◌-◌, length, get_or, take, drop, ap, sym, subst, ◌∙◌, arith, length-drop}
use Rattle.std.proofs.lemmas.List.{append-nil, drop-drop}
use Rattle.std.proofs.lemmas.Str.{IsCharBoundary-from_ascii, IsAscii-take, IsAscii-drop}
use Rattle.std.specs.Str.Parse.{digits_value}
use Rattle.std.specs.List.{list_any}
use Rattle.std.specs.Str.{IsAscii, encode_utf8_all}
use Rattle.std.specs.String.{string_bytes}
use Rattle.binfarce_legacy.specs.Legacy.{name_chars}
use Rattle.binfarce_legacy.specs.machine.Reading.{is_mark, name_start, name_end, HasElement}
use Rattle.binfarce_legacy.proofs.JoinLemmas.{separator, separator-first, separator-later, left_at_start, left_step, left_at_end}
use Rattle.binfarce_legacy.proofs.LastElement.{left_out}
use Rattle.binfarce_legacy.proofs.Growing.{same, grown}
use Rattle.binfarce_legacy.proofs.legacy.push_path.Goals as goal
use Rattle.binfarce_legacy.proofs.legacy.push_path.Goals.{then-at-gt0+else-trimmed+in_ok-push_str, else-at-gt0}

pub loop-start-init : goal.loop-start-init
loop-start-init c = record {
  within = omega arith;
  printed = λ elements rest r. (elements, left_at_start c.args.part.now (string_bytes c.args.text.now) elements rest r);
  grows = same (string_bytes c.args.text.now);
}

pub loop-start-preserved : goal.loop-start-preserved
unfolding name_end
loop-start-preserved c =
    let part : List ℕ = c.args.part.now in
    let at = c.loop-start.at in
    let u : List ℕ = drop at part in
    let same : drop at c.as_bytes-bytes.result.now ≡ u = ap (drop at) c.as_bytes-bytes.ensures.value in
    let has : HasElement u = subst HasElement same c.in-Some.ensures.0 in
    let start : c.in-Some.start ≡ at + name_start u = ap (λ (p : ℕ × ℕ). p.0) c.in-Some.ensures.1 ∙ ap (λ (x : List ℕ). at + name_start x) same in
    let end : c.in-Some.end ≡ at + name_end u = ap (λ (p : ℕ × ℕ). p.1) c.in-Some.ensures.1 ∙ ap (λ (x : List ℕ). at + name_end x) same in
    let before : string_bytes c.if-at-gt0.text ≡ string_bytes c.loop-start.text ++ separator at = elim c.if-at-gt0.branch [
      | then-at-gt0+else-trimmed+in_ok-push_str w ↦ ap string_bytes w.text-is ∙ w.in_ok-push_str.ensures.bytes
          ∙ ap (λ (x : List ℕ). string_bytes c.loop-start.text ++ x) (sym (separator-later at w.if-at-gt0.true))
      | else-at-gt0 w ↦ ap string_bytes w.text-is ∙ sym (append-nil (string_bytes c.loop-start.text))
          ∙ ap (λ (x : List ℕ). string_bytes c.loop-start.text ++ x) (sym (separator-first at (omega (arith, w.if-at-gt0.false))))
    ] in
    let v : ℕ = digits_value 10 (take (name_start u) u) in
    let len : c.in-Some.end - c.in-Some.start ≡ v = omega (arith, start, end) in
    let slice : c.range-name.result.now ≡ take v (drop (name_start u) u) =
    c.range-name.ensures.value ∙ ap (λ j. take j (drop c.in-Some.start part)) len
    ∙ ap (λ j. take v (drop j part)) start ∙ ap (take v) (sym (drop-drop (name_start u) at part)) in
    record {
      within = omega (arith, end, has.1, length-drop at part, c.loop-start.invariant.within);
      printed = λ elements rest r.
          let left = c.loop-start.invariant.printed elements rest r in
          left_step part at c.in-Some.end (string_bytes c.args.text.now) (string_bytes c.loop-start.text) (string_bytes c.push_name.new.text) c.range-name.result.now elements rest left.0
          left.1 has end slice (c.in_ok-push_name.ensures.bytes ∙ ap (λ (x : List ℕ). x ++ encode_utf8_all (name_chars c.range-name.result.now)) before);
      grows = grown (string_bytes c.args.text.now) (string_bytes c.loop-start.text) (string_bytes c.push_name.new.text) c.loop-start.invariant.grows
          (grown (string_bytes c.loop-start.text) (string_bytes c.if-at-gt0.text) (string_bytes c.push_name.new.text) (separator at, before) c.push_name.ensures.grows);
    }

pub returns-clause-bytes : goal.returns-clause-bytes
returns-clause-bytes c = λ elements rest r.
    let left = c.loop-start.invariant.printed elements rest r in
    left_at_end c.args.part.now c.loop-start.at (string_bytes c.args.text.now) _ elements rest left.0 left.1
    (λ has. c.in_default.ensures (subst HasElement (sym (ap (drop c.loop-start.at) c.as_bytes-bytes.ensures.value)) has))

pub range-name-requires-clause-start_le_end : goal.range-name-requires-clause-start_le_end
unfolding name_end
range-name-requires-clause-start_le_end c =
    omega (arith, ap (λ (p : ℕ × ℕ). p.0) c.in-Some.ensures.1, ap (λ (p : ℕ × ℕ). p.1) c.in-Some.ensures.1)

pub range-name-requires-clause-start_boundary : goal.range-name-requires-clause-start_boundary
unfolding name_end
range-name-requires-clause-start_boundary c = λ _.
    IsCharBoundary-from_ascii c.args.part.now c.in-Some.start c.requires
    (omega (
      arith,
      ap (λ (p : ℕ × ℕ). p.0) c.in-Some.ensures.1,
      ap (λ (p : ℕ × ℕ). p.1) c.in-Some.ensures.1,
      c.in-Some.ensures.0.1,
      length-drop c.loop-start.at c.as_bytes-bytes.result.now,
      ap length c.as_bytes-bytes.ensures.value,
      c.loop-start.invariant.within,
    ))

pub returns-then-is_last_part-clause-bytes : goal.returns-then-is_last_part-clause-bytes
unfolding name_end
returns-then-is_last_part-clause-bytes c = λ elements rest r.
    let part : List ℕ = c.args.part.now in
    let at = c.loop-start.at in
    let u : List ℕ = drop at part in
    let same : drop at c.as_bytes-bytes.result.now ≡ u = ap (drop at) c.as_bytes-bytes.ensures.value in
    let has : HasElement u = subst HasElement same c.in-Some.ensures.0 in
    let start : c.in-Some.start ≡ at + name_start u = ap (λ (p : ℕ × ℕ). p.0) c.in-Some.ensures.1 ∙ ap (λ (x : List ℕ). at + name_start x) same in
    let end : c.in-Some.end ≡ at + name_end u = ap (λ (p : ℕ × ℕ). p.1) c.in-Some.ensures.1 ∙ ap (λ (x : List ℕ). at + name_end x) same in
    let v : ℕ = digits_value 10 (take (name_start u) u) in
    let len : c.in-Some.end - c.in-Some.start ≡ v = omega (arith, start, end) in
    let slice : c.range-name.result.now ≡ take v (drop (name_start u) u) =
    c.range-name.ensures.value ∙ ap (λ j. take j (drop c.in-Some.start part)) len
    ∙ ap (λ j. take v (drop j part)) start ∙ ap (take v) (sym (drop-drop (name_start u) at part)) in
    let ascii : IsAscii c.range-name.result.now = subst IsAscii (sym c.range-name.ensures.value) (IsAscii-take (drop c.in-Some.start part) _ (IsAscii-drop part c.in-Some.start c.requires)) in
    let is = c.is_last_part.ensures c.if-is_last_part.true in
    let last : get_or part c.in-Some.end 0 ≡ 69 = ap (λ (x : List ℕ). get_or x c.in-Some.end 0) (sym c.as_bytes-bytes.ensures.value) ∙ is.0 in
    let left = c.loop-start.invariant.printed elements rest r in
    left_out part at c.in-Some.end (string_bytes c.args.text.now) (string_bytes c.loop-start.text) c.range-name.result.now elements rest left.0
    left.1 has end slice ascii c.if-at-gt0.true last (ap (list_any is_mark) (sym c.as_bytes.ensures.value) ∙ is.1)
