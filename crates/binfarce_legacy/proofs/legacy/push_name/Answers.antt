use Rattle.std.proofs.Common.{◌≡◌, ℕ, List, ◌+◌, ◌++◌, length, take, drop, refl, ap, sym, ◌∙◌, arith, length-drop}
use Rattle.std.proofs.lemmas.List.{drop-drop, drop_all, append-nil}
use Rattle.std.proofs.lemmas.Str.{IsAscii-drop}
use Rattle.std.specs.List.{prefix_len}
use Rattle.std.specs.Str.{encode_utf8_all}
use Rattle.std.specs.String.{string_bytes}
use Rattle.binfarce_legacy.specs.Legacy.{first_piece}
use Rattle.binfarce_legacy.specs.machine.Reading.{is_plain, chars_left}
use Rattle.binfarce_legacy.proofs.PieceLemmas.{written_step, written_end, chars_left-nil}
use Rattle.binfarce_legacy.proofs.Growing.{grown}
use Rattle.binfarce_legacy.proofs.legacy.push_name.Goals as goal

pub loop-at-preserved : goal.loop-at-preserved
loop-at-preserved c =
    let t : List ℕ = c.args.name.now in
    let at = c.loop-at.at in
    let u : List ℕ = drop at t in
    let k : ℕ = prefix_len is_plain u in
    let special = c.plain_end-special.result in
    let here : special ≡ at + k = c.plain_end-special.ensures.value ∙ ap (λ (x : List ℕ). at + prefix_len is_plain (drop at x)) c.as_bytes-bytes.ensures.value in
    let len = ap length c.as_bytes-bytes.ensures.value in
    let w : List ℕ = drop special t in
    let n = c.in_ok-at.field-0 in
    let after : c.range_from.result.now ≡ w = c.range_from.ensures.value in
    let slice : c.range.result.now ≡ take k u = c.range.ensures.value ∙ ap (λ j. take j u) (omega (arith, here)) in
    let within = c.plain_end-special.ensures.within in
    let piece = c.in_ok-at.ensures.within in
    record {
      within = omega (arith, piece.1, ap length after, length-drop special t, within.1, len);
      written =
          ap (λ (x : List ℕ). string_bytes c.push_piece.new.text ++ encode_utf8_all (chars_left x)) (sym (drop-drop n special t))
          ∙ written_step u k n w (string_bytes c.loop-at.text) (string_bytes c.push_piece.new.text)
          (IsAscii-drop t at c.requires.ascii) refl (ap (λ j. drop j t) here ∙ sym (drop-drop k at t))
          (omega (arith, piece.0, piece.1, ap length after)) (c.in_ok-at.ensures.len ∙ ap (λ (x : List ℕ). (first_piece x).len) after) piece.0
          (c.in_ok-at.ensures.bytes
          ∙ ap (λ (x : List ℕ). x ++ encode_utf8_all (first_piece c.range_from.result.now).chars) (c.in_ok-push_run.ensures.bytes ∙ ap (λ (x : List ℕ). string_bytes c.loop-at.text ++ x) slice)
          ∙ ap (λ (x : List ℕ). (string_bytes c.loop-at.text ++ take k u) ++ encode_utf8_all (first_piece x).chars) after)
          ∙ c.loop-at.invariant.written;
      grows = grown (string_bytes c.args.text.now) (string_bytes c.loop-at.text) (string_bytes c.push_piece.new.text) c.loop-at.invariant.grows
          (grown (string_bytes c.loop-at.text) (string_bytes c.push_run.new.text) (string_bytes c.push_piece.new.text) (c.range.result.now, c.in_ok-push_run.ensures.bytes) c.push_piece.ensures.grows);
    }

pub returns-then-special-name-clause-bytes : goal.returns-then-special-name-clause-bytes
returns-then-special-name-clause-bytes c =
    let t : List ℕ = c.args.name.now in
    let at = c.loop-at.at in
    let u : List ℕ = drop at t in
    let k : ℕ = prefix_len is_plain u in
    let here : c.plain_end-special.result ≡ at + k = c.plain_end-special.ensures.value ∙ ap (λ (x : List ℕ). at + prefix_len is_plain (drop at x)) c.as_bytes-bytes.ensures.value in
    let slice : c.range.result.now ≡ take k u = c.range.ensures.value ∙ ap (λ j. take j u) (omega (arith, here)) in
    c.in_ok-push_run.ensures.bytes
    ∙ ap (λ (x : List ℕ). string_bytes c.loop-at.text ++ x) (slice ∙ written_end u k (IsAscii-drop t at c.requires.ascii) refl (omega (arith, here, length-drop at t)))
    ∙ c.loop-at.invariant.written

pub returns-clause-bytes : goal.returns-clause-bytes
returns-clause-bytes c =
    let t : List ℕ = c.args.name.now in
    let text : List ℕ = string_bytes c.loop-at.text in
    sym (append-nil text) ∙ ap (λ (x : List ℕ). text ++ encode_utf8_all x) (sym (ap chars_left (drop_all c.loop-at.at t (omega arith)) ∙ chars_left-nil))
    ∙ c.loop-at.invariant.written
