use Rattle.std.proofs.Common.{◌≡◌, ◌≤◌, ◌+◌, ℕ, List, [], ◌++◌, Option, Some, None, false, length, take, drop, ap, sym, ◌∙◌, arith, append-nil}
use Rattle.std.proofs.lemmas.List.{length-take}
use Rattle.std.proofs.lemmas.Str.{IsUtf8-string_bytes}
use Rattle.std.specs.Prelude.{encode_utf8_all, nat_eq, codes, is_some, unwrap_or}
use Rattle.std.specs.List.{starts_with}
use Rattle.std.specs.String.{string_bytes}
use Rattle.binfarce_legacy.specs.Legacy.{legacy_chars}
use Rattle.binfarce_legacy.proofs.Growing.{seam, back, front, boundary, split_point, rest_is}
use Rattle.binfarce_names.specs.Crates.{first_part, path_crate}
use Rattle.binfarce_names.proofs.FirstPart.{crate_of_front, lacks_less, taken_whole}
use Rattle.binfarce_names.proofs.demangle.push_path_crate.Goals as goal

pub range_from-front-requires : goal.range_from-front-requires
range_from-front-requires c = λ _.
    let old = c.as_str-start.result.now in
    let grows = c.push_front.ensures.grows in
    let grown : c.as_str.result.now ≡ old ++ grows.0 = c.as_str.ensures.value ∙ grows.1 ∙ ap (λ (t : List ℕ). t ++ grows.0) (sym c.as_str-start.ensures.value) in
    seam old c.as_str.result.now (grows.0, grown) c.as_str-start.utf8 c.as_str.utf8

pub truncate-requires-in-Err : goal.truncate-requires-in-Err
truncate-requires-in-Err c = λ _.
    let old = c.as_str-start.result.now in
    let new = string_bytes c.push_front.new.text in
    let grows = c.push_front.ensures.grows in
    let grown : new ≡ old ++ grows.0 = grows.1 ∙ ap (λ (t : List ℕ). t ++ grows.0) (sym c.as_str-start.ensures.value) in
    split_point new (length old) (seam old new (grows.0, grown) c.as_str-start.utf8 (IsUtf8-string_bytes c.push_front.new.text))

pub truncate-requires-in-Ok : goal.truncate-requires-in-Ok
truncate-requires-in-Ok c = λ _.
    let old = c.as_str-start.result.now in
    let new = string_bytes c.push_front.new.text in
    let kept = c.first_part-kept.result.now in
    let grows = c.push_front.ensures.grows in
    let grown : new ≡ old ++ grows.0 = grows.1 ∙ ap (λ (t : List ℕ). t ++ grows.0) (sym c.as_str-start.ensures.value) in
    let written : c.range_from-front.result.now ≡ grows.0 = c.range_from-front.ensures.value ∙ ap (drop (length old)) c.as_str.ensures.value ∙ rest_is old grows.0 new grown in
    let part : kept ≡ take (length kept) grows.0 = taken_whole c.range_from-front.result.now kept grows.0 c.first_part-kept.ensures written in
    let within : length kept ≤ length grows.0 = omega (arith, ap length part, length-take (length kept) grows.0) in
    split_point new (length old + length kept) (boundary old grows.0 kept new grown part within c.as_str-start.utf8 c.first_part-kept.utf8 (IsUtf8-string_bytes c.push_front.new.text))

pub truncate-requires : goal.truncate-requires
truncate-requires c = λ _.
    let old = c.as_str-start.result.now in
    let new = string_bytes c.push_front.new.text in
    let grows = c.push_front.ensures.grows in
    let grown : new ≡ old ++ grows.0 = grows.1 ∙ ap (λ (t : List ℕ). t ++ grows.0) (sym c.as_str-start.ensures.value) in
    split_point new (length old) (seam old new (grows.0, grown) c.as_str-start.utf8 (IsUtf8-string_bytes c.push_front.new.text))

pub returns-then-starts_with-clause-crate_found : goal.returns-then-starts_with-clause-crate_found
returns-then-starts_with-clause-crate_found c = λ elements rest r.
    let old = c.as_str-start.result.now in
    let new = string_bytes c.push_front.new.text in
    let path = encode_utf8_all (legacy_chars elements) in
    let front_is = c.in-Ok.ensures.front elements rest r in
    let grown : new ≡ old ++ front_is.0 = front_is.1 ∙ ap (λ (t : List ℕ). t ++ front_is.0) (sym c.as_str-start.ensures.value) in
    let written : c.range_from-front.result.now ≡ front_is.0 = c.range_from-front.ensures.value ∙ ap (drop (length old)) c.as_str.ensures.value ∙ rest_is old front_is.0 new grown in
    let less = c.if-starts_with.ensures.cases in
    let crate_found : path_crate path ≡ None = sym (crate_of_front front_is.0 path front_is.2) ∙ ap path_crate (sym written ∙ less.1.1) in (
      sym (ap (λ (x : Option (List ℕ)). is_some x) crate_found),
      c.truncate.ensures.bytes ∙ back old new (front_is.0, grown) ∙ c.as_str-start.ensures.value ∙ sym (append-nil (string_bytes c.args.text.now))
          ∙ ap (λ (x : Option (List ℕ)). string_bytes c.args.text.now ++ unwrap_or x []) (sym crate_found),
    )

pub returns-else-starts_with-clause-crate_found : goal.returns-else-starts_with-clause-crate_found
returns-else-starts_with-clause-crate_found c = λ elements rest r.
    let old = c.as_str-start.result.now in
    let new = string_bytes c.push_front.new.text in
    let kept = c.first_part-kept.result.now in
    let path = encode_utf8_all (legacy_chars elements) in
    let front_is = c.in-Ok.ensures.front elements rest r in
    let grown : new ≡ old ++ front_is.0 = front_is.1 ∙ ap (λ (t : List ℕ). t ++ front_is.0) (sym c.as_str-start.ensures.value) in
    let written : c.range_from-front.result.now ≡ front_is.0 = c.range_from-front.ensures.value ∙ ap (drop (length old)) c.as_str.ensures.value ∙ rest_is old front_is.0 new grown in
    let lacks : starts_with nat_eq front_is.0 (codes "<") ≡ false =
    ap (λ (s : List ℕ). starts_with nat_eq s (codes "<")) (sym written) ∙ lacks_less c.range_from-front.result.now c.if-starts_with.ensures.cases in
    let found : path_crate front_is.0 ≡ Some kept = rw lacks (ap Some (sym (c.first_part-kept.ensures ∙ ap first_part written))) in
    let crate_found : path_crate path ≡ Some kept = sym (crate_of_front front_is.0 path front_is.2) ∙ found in
    let part : kept ≡ take (length kept) front_is.0 = taken_whole c.range_from-front.result.now kept front_is.0 c.first_part-kept.ensures written in (
      sym (ap (λ (x : Option (List ℕ)). is_some x) crate_found),
      c.truncate-in-Ok.ensures.bytes ∙ front old front_is.0 kept new grown part
          ∙ ap (λ (t : List ℕ). t ++ kept) c.as_str-start.ensures.value
          ∙ ap (λ (x : Option (List ℕ)). string_bytes c.args.text.now ++ unwrap_or x []) (sym crate_found),
    )
