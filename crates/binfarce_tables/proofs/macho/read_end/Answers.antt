use Rattle.std.proofs.Common.{◌≡◌, ◌+◌, ◌≤◌, ℕ, List, Vec, Global, Ok, min, ap, ap₂, sym, ◌∙◌, arith, length}
use Rattle.binfarce_bytes.specs.Number.{bytes_at}
use Rattle.binfarce_macho.specs.Macho.{Header, header_of, header_length}
use Rattle.binfarce_tables.proofs.MachoPrefix.{prefix_long, header_said}
use Rattle.binfarce_tables.proofs.Readings.{as_long_as, held, passed}
use Rattle.std.proofs.lemmas.Bool.{le-ltb}
use Rattle.binfarce_tables.specs.MachoReads.{said_end}
use Rattle.binfarce_tables.proofs.Sure.{in_any, only, passed_only, within}
use Rattle.binfarce_tables.proofs.macho.read_end.Goals as goal

pub returns-in_err-header-clause-answer : goal.returns-in_err-header-clause-answer
returns-in_err-header-clause-answer g c = λ file known.
    let inside : 28 ≤ length file = omega (arith, known.1, c.in_ok-bytes.ensures.lies) in
    let bytes : c.deref.result.now ≡ bytes_at file 0 28 = c.deref.ensures.value ∙ held 28 file _ _ (c.in_ok-bytes.ensures.answer file known) in
    let long : length c.deref.result.now ≡ 28 = ap length bytes ∙ prefix_long file 28 inside in
    absurd (omega (arith, long, c.in_err-header.ensures))

pub returns-clause-answer : goal.returns-clause-answer
returns-clause-answer g c = λ file known.
    let inside : 28 ≤ length file = omega (arith, known.1, c.in_ok-bytes.ensures.lies) in
    let bytes : c.deref.result.now ≡ bytes_at file 0 28 = c.deref.ensures.value ∙ held 28 file _ _ (c.in_ok-bytes.ensures.answer file known) in
    let said : c.in_ok-header.header.sizeofcmds ≡ (header_of file).sizeofcmds =
    ap (λ (h : Header ℕ). h.sizeofcmds) c.in_ok-header.ensures.1 ∙ ap (λ (f : List ℕ). (header_of f).sizeofcmds) bytes ∙ header_said file inside in
    rw (le-ltb (length file) 28 inside) (ap Ok (sym (c.min.ensures ∙ ap₂ (λ (a b : ℕ). min a b) (c.commands_end.ensures ∙ ap (λ (n : ℕ). header_length + n) said) known.1)))

pub returns-in_err-bytes-clause-answer : goal.returns-in_err-bytes-clause-answer
returns-in_err-bytes-clause-answer g c = λ file known.
    let fails = g.S.Source.may_fail c.args.opened.now.source.now in
    let e = c.in_err-bytes.field-0.0 in
    passed fails (λ (n : ℕ). n) _ e c.from_residual.result c.from_residual.ensures
    (as_long_as fails (λ (v : Vec ℕ Global). v.items) (λ (n : ℕ). n) 28 file (bytes_at file 0 28) (Ok (said_end file)) e (c.in_err-bytes.ensures.answer file known))

pub returns-in_err-bytes-clause-only : goal.returns-in_err-bytes-clause-only
returns-in_err-bytes-clause-only g c = λ file known. passed_only _ (within (λ P all. in_any P file 0 28 (only P _ all)) (c.in_err-bytes.ensures.only file known)) c.from_residual.ensures

pub returns-clause-only : goal.returns-clause-only
returns-clause-only g c = λ file known. within (λ P all. in_any P file 0 28 (only P _ all)) (c.in_ok-bytes.ensures.only file known)
