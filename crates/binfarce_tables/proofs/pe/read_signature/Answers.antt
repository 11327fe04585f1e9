use Rattle.std.proofs.Common.{◌≡◌, ◌+◌, ◌≤◌, ℕ, Vec, Global, Ok, ap, ◌∙◌, arith, length}
use Rattle.binfarce_bytes.specs.Number.{bytes_at}
use Rattle.binfarce_tables.proofs.Contents.{part_long}
use Rattle.binfarce_tables.proofs.Readings.{as_long_as, held, passed}
use Rattle.binfarce_pe.specs.Pe.{signature_offset}
use Rattle.binfarce_tables.proofs.Sure.{in_any, only, passed_only, within}
use Rattle.binfarce_tables.proofs.pe.read_signature.Goals as goal

pub returns-in_err-signature_in-clause-answer : goal.returns-in_err-signature_in-clause-answer
returns-in_err-signature_in-clause-answer g c = λ file known.
    let inside : 60 + 4 ≤ length file = omega (arith, known.1, c.in_ok-pointer.ensures.lies) in
    let bytes : c.deref.result.now ≡ bytes_at file 60 4 = c.deref.ensures.value ∙ held 64 file _ _ (c.in_ok-pointer.ensures.answer file known) in
    let long : length c.deref.result.now ≡ 4 = ap length bytes ∙ part_long file 60 4 inside in
    absurd (omega (arith, long, c.in_err-signature_in.ensures.0))

pub returns-in_err-pointer-clause-answer : goal.returns-in_err-pointer-clause-answer
returns-in_err-pointer-clause-answer g c = λ file known.
    let fails = g.S.Source.may_fail c.args.opened.now.source.now in
    let e = c.in_err-pointer.field-0.0 in
    passed fails (λ (n : ℕ). n) _ e c.from_residual.result c.from_residual.ensures
    (as_long_as fails (λ (v : Vec ℕ Global). v.items) (λ (n : ℕ). n) 64 file (bytes_at file 60 4) (Ok (signature_offset file)) e (c.in_err-pointer.ensures.answer file known))

pub returns-in_err-pointer-clause-only : goal.returns-in_err-pointer-clause-only
returns-in_err-pointer-clause-only g c = λ file known. passed_only _ (within (λ P all. in_any P file 60 4 (only P _ all)) (c.in_err-pointer.ensures.only file known)) c.from_residual.ensures

pub returns-clause-only : goal.returns-clause-only
returns-clause-only g c = λ file known. within (λ P all. in_any P file 60 4 (only P _ all)) (c.in_ok-pointer.ensures.only file known)
