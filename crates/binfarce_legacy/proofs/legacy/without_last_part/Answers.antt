use Rattle.std.proofs.Common.{◌≡◌, ℕ, List, ◌∷◌, ◌++◌, length, drop, take, ap, sym, ◌∙◌, arith}
use Rattle.std.proofs.lemmas.List.{take-append-drop}
use Rattle.std.proofs.lemmas.Str.{encodes_same}
use Rattle.std.specs.Char.{encode_utf8}
use Rattle.std.specs.Str.{encode_utf8_all}
use Rattle.std.specs.Str.Iter.{chars_rest}
use Rattle.binfarce_legacy.specs.Legacy.{without_last_part}
use Rattle.binfarce_legacy.proofs.LastPartLemmas.{without_last_part-none, without_last_part-split, without_last, front_of, split_chars}
use Rattle.binfarce_legacy.proofs.legacy.without_last_part.Goals as goal

pub returns-in-None-clause-text : goal.returns-in-None-clause-text
returns-in-None-clause-text c = λ chars is.
    let found = c.in-None.ensures.cases in
    let same : chars ≡ found.0 = encodes_same chars found.0 (sym is ∙ sym found.1) in
    is ∙ ap encode_utf8_all (same ∙ sym (without_last_part-none found.0 found.2) ∙ ap without_last_part (sym same))

pub returns-in-Some-clause-text : goal.returns-in-Some-clause-text
returns-in-Some-clause-text c = λ chars is.
    let s : List ℕ = c.args.complete.now in
    let found = c.in-Some.ensures.cases in
    let back = found.1.0 in
    let front = c.range.utf8 in
    let cutting : take c.in-Some.colon s ≡ encode_utf8_all front.0 = sym (front.1.1 ∙ c.range.ensures.value ∙ ap (λ k. take k s) (omega arith)) in
    let split : s ≡ encode_utf8_all front.0 ++ (encode_utf8 58 ++ encode_utf8_all back.0) =
    sym (take-append-drop c.in-Some.colon s)
    ∙ ap (λ (x : List ℕ). x ++ drop c.in-Some.colon s) cutting
    ∙ ap (λ (x : List ℕ). encode_utf8_all front.0 ++ x) (found.1.1.split ∙ ap (λ (x : List ℕ). encode_utf8 58 ++ x) (sym back.1)) in
    let same : chars ≡ front.0 ++ 58 ∷ back.0 = split_chars chars s front.0 back.0 is split in
    let u = c.as_str.utf8 in
    let last = without_last front.0 c.chars-front.result.rest.now c.next_back.new.self.rest.now c.next_back.result
    (front.1.1 ∙ sym c.chars-front.ensures.rest) (u.0, (u.1.0, u.1.1 ∙ c.as_str.ensures)) (λ x. ap chars_rest x) c.next_back.ensures.steps in
    c.as_str.ensures ∙ last ∙ ap encode_utf8_all (sym (ap without_last_part same ∙ without_last_part-split front.0 back.0 back.2))

pub returns-in-Some-clause-front : goal.returns-in-Some-clause-front
returns-in-Some-clause-front c =
    let s : List ℕ = c.args.complete.now in
    let t = c.next_back.new.self.rest.now in
    c.as_str.ensures
    ∙ front_of s c.chars-front.result.rest.now t c.in-Some.colon c.next_back.result (c.chars-front.ensures.rest ∙ c.range.ensures.value ∙ ap (λ k. take k s) (omega arith)) (λ x. ap chars_rest x) c.next_back.ensures.steps
    ∙ ap (λ (x : List ℕ). take (length x) s) (sym c.as_str.ensures)
