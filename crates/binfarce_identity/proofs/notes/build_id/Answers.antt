use Rattle.std.proofs.Common.{◌≡◌, ◌+◌, ◌-◌, ◌<◌, ◌≤◌, ℕ, length, Ok, Some, ap, ap₂, sym, ◌∙◌, arith}
use Rattle.binfarce_bytes.specs.Number.{bytes_at}
use Rattle.binfarce_identity.specs.Notes.{build_id_from, descriptor_end, descriptor_offset, padded}
use Rattle.binfarce_identity.specs.machine.Views.{head_view}
use Rattle.binfarce_identity.proofs.NoteSteps.{none_wanted, no_head, too_long, found, next}
use Rattle.binfarce_identity.proofs.notes.build_id.Goals as goal

pub returns-in_default : goal.returns-in_default
returns-in_default c = sym c.loop-k.invariant ∙ no_head c.args.byte_order c.word_of-word.result c.args.notes.now (length c.args.notes.now - c.loop-k._k) c.loop-k.start c.in_default.ensures

pub returns-in_default-slice_at : goal.returns-in_default-slice_at
returns-in_default-slice_at c =
    let word = c.word_of-word.result in
    let head = head_view c.in-Some.head in
    let offset : c.padded-offset.result ≡ descriptor_offset word head = c.padded-offset.ensures ∙ ap (λ (n : ℕ). padded word (12 + n)) c.from.ensures in
    let past : length c.args.notes.now < c.loop-k.start + descriptor_end word head = omega (arith, offset, c.to_index-begin.ensures, c.in_default-slice_at.ensures) in
    sym c.loop-k.invariant
    ∙ too_long c.args.byte_order word c.args.notes.now (length c.args.notes.now - c.loop-k._k) c.loop-k.start head (omega (arith, c.loop-k-test.true)) c.in-Some.ensures.0 c.in-Some.ensures.1 past

pub returns-then-is_build_id : goal.returns-then-is_build_id
returns-then-is_build_id c =
    let word = c.word_of-word.result in
    let head = head_view c.in-Some.head in
    let offset : c.padded-offset.result ≡ descriptor_offset word head = c.padded-offset.ensures ∙ ap (λ (n : ℕ). padded word (12 + n)) c.from.ensures in
    let inside : c.loop-k.start + descriptor_end word head ≤ length c.args.notes.now = omega (arith, offset, c.to_index-begin.ensures, c.in-Ok.ensures.0) in
    let begin : c.to_index-begin.result ≡ c.loop-k.start + descriptor_offset word head = omega (arith, offset, c.to_index-begin.ensures) in
    sym c.loop-k.invariant
    ∙ found c.args.byte_order word c.args.notes.now (length c.args.notes.now - c.loop-k._k) c.loop-k.start head (omega (arith, c.loop-k-test.true)) c.in-Some.ensures.0 c.in-Some.ensures.1 inside
    (sym c.is_build_id.ensures ∙ c.if-is_build_id.true)
    ∙ ap (λ b. Ok (Some b)) (ap (λ (n : ℕ). bytes_at c.args.notes.now n head.descsz) (sym begin) ∙ sym c.in-Ok.ensures.1)

pub loop-k-preserved : goal.loop-k-preserved
loop-k-preserved c =
    let word = c.word_of-word.result in
    let notes = c.args.notes.now in
    let head = head_view c.in-Some.head in
    let offset : c.padded-offset.result ≡ descriptor_offset word head = c.padded-offset.ensures ∙ ap (λ (n : ℕ). padded word (12 + n)) c.from.ensures in
    let inside : c.loop-k.start + descriptor_end word head ≤ length notes = omega (arith, offset, c.to_index-begin.ensures, c.in-Ok.ensures.0) in
    let end : c.padded-offset.result + c.from-size.result ≡ descriptor_end word head = omega (arith, offset, c.from-size.ensures) in
    let after : c.to_index-start.result ≡ c.loop-k.start + padded word (descriptor_end word head) =
    c.to_index-start.ensures ∙ ap (λ (n : ℕ). c.loop-k.start + n) (c.padded.ensures ∙ ap (padded word) end) in
    let left : (length notes - c.loop-k._k) - 1 ≡ length notes - (c.loop-k._k + 1) = omega arith in
    sym (next c.args.byte_order word notes (length notes - c.loop-k._k) c.loop-k.start head (omega (arith, c.loop-k-test.true)) c.in-Some.ensures.0 c.in-Some.ensures.1 inside
    (sym c.is_build_id.ensures ∙ c.if-is_build_id.false)
    ∙ ap₂ (λ (n o : ℕ). build_id_from c.args.byte_order word notes n o) left (sym after))
    ∙ c.loop-k.invariant

pub returns : goal.returns
returns c = sym c.loop-k.invariant ∙ none_wanted c.args.byte_order c.word_of-word.result c.args.notes.now (length c.args.notes.now - c.loop-k._k) c.loop-k.start (omega (arith, c.loop-k-test.false))
