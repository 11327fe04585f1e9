use Rattle.std.proofs.Common.{◌≡◌, ◌+◌, ◌≤◌, List, Vec, Global, ℕ, Ok, Err, refl, subst, sym, ap, ◌∙◌, arith, length}
use Rattle.std.proofs.lemmas.Bool.{le-ltb}
use Rattle.std.specs.Prelude.{All}
use Rattle.binfarce_bytes.specs.Number.{bytes_at}
use Rattle.binfarce_elf.specs.Classes.{class_of}
use Rattle.binfarce_elf.specs.Elf.{header_of}
use Rattle.binfarce_tables.proofs.HeadersAlone.{within_of, table_is, kind_is, programs_are}
use Rattle.binfarce_tables.proofs.Readings.{as_long_as, held, passed}
use Rattle.binfarce_bytes.specs.Part.{whole_part}
use Rattle.binfarce_bytes.specs.Refusal.{if_as_long_as}
use Rattle.binfarce_tables.specs.Reading.{Reads}
use Rattle.binfarce_tables.specs.ElfReads.{table_of}
use Rattle.binfarce_tables.specs.machine.Places.{table_at, table_step}
use Rattle.binfarce_tables.proofs.Sure.{in_any, only, passed_only, within}
use Rattle.binfarce_tables.proofs.elf.read_place.Goals as goal

pub returns-clause-table : goal.returns-clause-table
returns-clause-table g c = λ file known.
    let class = class_of c.args.width in
    let size = c.header_length-size.result in
    let long : size ≤ length file = omega (arith, known.1, c.in_ok-bytes.ensures.lies) in
    let header : c.deref.result.now ≡ bytes_at file 0 class.header_length = c.deref.ensures.value ∙ held _ file _ _ (c.in_ok-bytes.ensures.answer file known) ∙ ap (bytes_at file 0) c.header_length-size.ensures in
    rw (le-ltb (length file) class.header_length (omega (arith, long, c.header_length-size.ensures))) (ap Ok (table_is class c.args.byte_order file c.deref.result.now c.in_ok-place_in.field-0 (within_of c.args.width) header c.in_ok-place_in.ensures.1))

pub returns-clause-kind_is : goal.returns-clause-kind_is
returns-clause-kind_is g c = λ file known.
    let class = class_of c.args.width in
    let size = c.header_length-size.result in
    let long : size ≤ length file = omega (arith, known.1, c.in_ok-bytes.ensures.lies) in
    let header : c.deref.result.now ≡ bytes_at file 0 class.header_length = c.deref.ensures.value ∙ held _ file _ _ (c.in_ok-bytes.ensures.answer file known) ∙ ap (bytes_at file 0) c.header_length-size.ensures in
    let stated = header_of class c.args.byte_order c.deref.result.now in
    c.in_ok-place_in.ensures.1.4 ∙ kind_is class c.args.byte_order file class.header_length stated (within_of c.args.width) refl (ap (λ (b : List ℕ). header_of class c.args.byte_order b) header)

pub returns-clause-programs : goal.returns-clause-programs
returns-clause-programs g c = λ file known.
    let class = class_of c.args.width in
    let size = c.header_length-size.result in
    let long : size ≤ length file = omega (arith, known.1, c.in_ok-bytes.ensures.lies) in
    let header : c.deref.result.now ≡ bytes_at file 0 class.header_length = c.deref.ensures.value ∙ held _ file _ _ (c.in_ok-bytes.ensures.answer file known) ∙ ap (bytes_at file 0) c.header_length-size.ensures in
    let are = programs_are class c.args.byte_order file class.header_length (within_of c.args.width) refl in
    let stated = c.in_ok-place_in.ensures.1 in (
      stated.0,
      stated.5 ∙ ap (λ (b : List ℕ). (header_of class c.args.byte_order b).phoff) header ∙ are.0,
      stated.6 ∙ ap (λ (b : List ℕ). (header_of class c.args.byte_order b).phnum) header ∙ are.1,
    )

pub returns-in_err-bytes-clause-table : goal.returns-in_err-bytes-clause-table
returns-in_err-bytes-clause-table g c = λ file known.
    let class = class_of c.args.width in
    let fails = g.S.Source.may_fail c.args.opened.now.source.now in
    let e = c.in_err-bytes.field-0.0 in
    let size : 0 + c.header_length-size.result ≡ class.header_length = omega (arith, c.header_length-size.ensures) in
    let there = bytes_at file 0 c.header_length-size.result in
    passed fails (table_at file) (table_step class c.args.byte_order file) e c.from_residual.result c.from_residual.ensures
    (as_long_as fails (λ (v : Vec ℕ Global). v.items) (table_at file) class.header_length file there (Ok (table_of class c.args.byte_order file)) e
    (subst (λ (n : ℕ). Reads fails (λ (v : Vec ℕ Global). v.items) (if_as_long_as n file (Ok there)) (Err e)) size (c.in_err-bytes.ensures.answer file known)))

pub returns-in_err-bytes-clause-only : goal.returns-in_err-bytes-clause-only
returns-in_err-bytes-clause-only g c = λ file known.
    let class = class_of c.args.width in
    passed_only _ (within (λ P all. subst (λ (n : ℕ). All P (whole_part file 0 n)) (sym c.header_length-size.ensures) (in_any P file 0 class.header_length (only P _ all))) (c.in_err-bytes.ensures.only file known)) c.from_residual.ensures

pub returns-clause-only : goal.returns-clause-only
returns-clause-only g c = λ file known.
    let class = class_of c.args.width in
    within (λ P all. subst (λ (n : ℕ). All P (whole_part file 0 n)) (sym c.header_length-size.ensures) (in_any P file 0 class.header_length (only P _ all))) (c.in_ok-bytes.ensures.only file known)
