use Rattle.std.proofs.Common.{◌≡◌, ◌+◌, ◌≤◌, ℕ, Vec, Global, Ok, length, take, min, ap, sym, ◌∙◌, arith}
use Rattle.std.proofs.lemmas.List.{take_min}
use Rattle.binfarce_bytes.specs.Format.{format_of}
use Rattle.binfarce_bytes.specs.declared.format.Format.{Format}
use Rattle.binfarce_bytes.specs.Number.{bytes_at}
use Rattle.binfarce_tables.proofs.FirstBytes.{format_of_first}
use Rattle.binfarce_tables.proofs.Readings.{after_err, passed, taken}
use Rattle.binfarce_tables.proofs.Sure.{only, unmeasured}
use Rattle.binfarce_tables.proofs.format.read_format.Goals as goal

pub returns-clause-answer : goal.returns-clause-answer
returns-clause-answer g c = λ file known.
    let is_known = c.in_ok-opened.ensures.known file known in
    let size : c.min.result ≡ min 8 (length file) = c.min.ensures ∙ ap (min 8) is_known.1 in
    let inside : 0 + c.min.result ≤ length file = omega (arith, size) in
    let head : c.deref.result.now ≡ take 8 file = c.deref.ensures.value ∙ taken (c.in_ok-head.ensures.part file is_known.0 inside) ∙ ap (bytes_at file 0) size ∙ take_min 8 file in
    ap (λ (f : Format). Ok f) (sym (c.detect_format.ensures ∙ ap format_of head ∙ format_of_first file))

pub returns-in_err-opened-clause-only : goal.returns-in_err-opened-clause-only
returns-in_err-opened-clause-only g c = λ file known. unmeasured _ (λ P. only P _) c.in_err-opened.ensures.unsure

pub returns-in_err-head-clause-answer : goal.returns-in_err-head-clause-answer
returns-in_err-head-clause-answer g c = λ file known.
    let is_known = c.in_ok-opened.ensures.known file known in
    let fails = g.S.Source.may_fail c.in_ok-opened.opened.source.now in
    let e = c.in_err-head.field-0.0 in
    let inside : 0 + c.min.result ≤ length file = omega (arith, c.min.ensures, is_known.1) in
    rw c.in_ok-opened.ensures.source at (passed fails (λ (format : Format). format) (Ok (format_of file)) e c.from_residual-in_err-head.result c.from_residual-in_err-head.ensures
    (after_err fails (λ (v : Vec ℕ Global). v.items) (λ (format : Format). format) (Ok (bytes_at file 0 c.min.result)) (λ bytes. Ok (format_of file)) e (c.in_err-head.ensures.part file is_known.0 inside)))
