use Rattle.std.proofs.Common.{◌≡◌, ◌+◌, ◌≤◌, ℕ, List, ◌++◌, length, take, drop, ap, sym, ◌∙◌, arith}
use Rattle.std.proofs.lemmas.List.{length-take}
use Rattle.std.proofs.lemmas.Str.{IsUtf8-string_bytes}
use Rattle.std.specs.Str.{encode_utf8_all}
use Rattle.std.specs.String.{string_bytes}
use Rattle.binfarce_legacy.specs.Legacy.{legacy_chars}
use Rattle.binfarce_legacy.proofs.Growing.{seam, front, boundary, split_point, rest_is}
use Rattle.binfarce_legacy.proofs.legacy.push_trimmed.Goals as goal

pub range_from-requires : goal.range_from-requires
range_from-requires c = λ _.
    let old = c.as_str-start.result.now in
    let grows = c.push_path.ensures.grows in
    let grown : c.as_str.result.now ≡ old ++ grows.0 = c.as_str.ensures.value ∙ grows.1 ∙ ap (λ (t : List ℕ). t ++ grows.0) (sym c.as_str-start.ensures.value) in
    seam old c.as_str.result.now (grows.0, grown) c.as_str-start.utf8 c.as_str.utf8

pub truncate-requires-in-Err : goal.truncate-requires-in-Err
truncate-requires-in-Err c = λ _.
    let old = c.as_str-start.result.now in
    let new = string_bytes c.push_path.new.text in
    let grows = c.push_path.ensures.grows in
    let grown : new ≡ old ++ grows.0 = grows.1 ∙ ap (λ (t : List ℕ). t ++ grows.0) (sym c.as_str-start.ensures.value) in
    split_point new (length old) (seam old new (grows.0, grown) c.as_str-start.utf8 (IsUtf8-string_bytes c.push_path.new.text))

pub truncate-requires : goal.truncate-requires
truncate-requires c = λ _.
    let old = c.as_str-start.result.now in
    let new = string_bytes c.push_path.new.text in
    let kept = c.without_last_part-kept.result.now in
    let grows = c.push_path.ensures.grows in
    let grown : new ≡ old ++ grows.0 = grows.1 ∙ ap (λ (t : List ℕ). t ++ grows.0) (sym c.as_str-start.ensures.value) in
    let written : c.range_from.result.now ≡ grows.0 = c.range_from.ensures.value ∙ ap (drop (length old)) c.as_str.ensures.value ∙ rest_is old grows.0 new grown in
    let part : kept ≡ take (length kept) grows.0 = c.without_last_part-kept.ensures.front ∙ ap (take (length kept)) written in
    let within : length kept ≤ length grows.0 = omega (arith, ap length part, length-take (length kept) grows.0) in
    split_point new (length old + length kept) (boundary old grows.0 kept new grown part within c.as_str-start.utf8 c.without_last_part-kept.utf8 (IsUtf8-string_bytes c.push_path.new.text))

pub returns-in-Ok-false-clause-bytes : goal.returns-in-Ok-false-clause-bytes
returns-in-Ok-false-clause-bytes c = λ elements rest r.
    let old = c.as_str-start.result.now in
    let new = string_bytes c.push_path.new.text in
    let kept = c.without_last_part-kept.result.now in
    let whole = encode_utf8_all (legacy_chars elements) in
    let same : string_bytes c.args.text.now ≡ old = sym c.as_str-start.ensures.value in
    let bytes = rw c.in-Ok-false.field-0-test at c.in-Ok-false.ensures.bytes in
    let grown : new ≡ old ++ whole = bytes elements rest r ∙ ap (λ (t : List ℕ). t ++ whole) same in
    let written : c.range_from.result.now ≡ whole = c.range_from.ensures.value ∙ ap (drop (length old)) c.as_str.ensures.value ∙ rest_is old whole new grown in
    let part : kept ≡ take (length kept) whole = c.without_last_part-kept.ensures.front ∙ ap (take (length kept)) written in
    c.truncate.ensures.bytes ∙ front old whole kept new grown part
    ∙ ap (λ (t : List ℕ). t ++ kept) c.as_str-start.ensures.value
    ∙ ap (λ (t : List ℕ). string_bytes c.args.text.now ++ t) (c.without_last_part-kept.ensures.text (legacy_chars elements) written)
