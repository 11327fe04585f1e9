use Rattle.std.proofs.Common.{◌≡◌, ◌+◌, ◌-◌, ◌<◌, ◌≤◌, ℕ, Vec, Global, List, Result, Ok, Err, refl, ap, ap₂, sym, ◌∙◌, length, drop, arith}
use Rattle.std.proofs.lemmas.Bool.{lt-leb}
use Rattle.binfarce_bytes.specs.Number.{bytes_at}
use Rattle.binfarce_bytes.specs.Refusal.{Refusal, if_as_long_as}
use Rattle.binfarce_pe.specs.PeParts.{places_view}
use Rattle.binfarce_pe.specs.PeSymbols.{CoffTable}
use Rattle.binfarce_tables.specs.machine.PePlaces.{records_view, table_at}
use Rattle.binfarce_tables.proofs.PeSteps.{table_inside}
use Rattle.binfarce_tables.proofs.PeSure.{rows_where, strings_sure}
use Rattle.binfarce_tables.proofs.Readings.{as_long_as, held, instead, passed, taken}
use Rattle.binfarce_tables.proofs.Sure.{one, next, passed_only, within}
use Rattle.binfarce_tables.proofs.pe.read_records.Goals as goal

pub returns-in_err-rows-clause-answer : goal.returns-in_err-rows-clause-answer
returns-in_err-rows-clause-answer g c = λ file known.
    let fails = g.S.Source.may_fail c.args.opened.now.source.now in
    let places = places_view c.args.places in
    let end = places.symbols + places.symbols_size in
    let begins : places.symbols < length file = omega (arith, known.1, c.if-offset-opened.false) in
    let symbols : CoffTable = record { rows = bytes_at file places.symbols places.symbols_size; strings = drop end file } in
    let same : table_at file places ≡ if_as_long_as end file (Ok symbols) = rw (lt-leb (length file) places.symbols begins) refl in
    let e = c.in_err-rows.field-0.0 in
    passed fails records_view (table_at file places) e c.from_residual.result c.from_residual.ensures
    (instead fails records_view (table_at file places) (if_as_long_as end file (Ok symbols)) (Err e) same
    (as_long_as fails (λ (v : Vec ℕ Global). v.items) records_view end file (bytes_at file places.symbols places.symbols_size) (Ok symbols) e (c.in_err-rows.ensures.answer file known)))

pub returns-clause-answer : goal.returns-clause-answer
returns-clause-answer g c = λ file known.
    let places = places_view c.args.places in
    let end = places.symbols + places.symbols_size in
    let begins : places.symbols < length file = omega (arith, known.1, c.if-offset-opened.false) in
    let inside : end ≤ length file = omega (arith, known.1, c.in_ok-rows.ensures.lies) in
    let rows = held end file _ _ (c.in_ok-rows.ensures.answer file known) in
    let there : end + (c.args.opened.now.len - end) ≤ length file = omega (arith, known.1, inside) in
    let table_of : List ℕ → List ℕ → Result CoffTable Refusal = λ r s. Ok (record { rows = r; strings = s }) in
    let strings = taken (c.in_ok-strings.ensures.part file known.0 there) ∙ ap (λ (n : ℕ). bytes_at file end (n - end)) known.1 in
    table_inside file places begins inside
    ∙ ap₂ (table_of) (sym rows) (sym strings)

pub returns-in_err-rows-clause-only : goal.returns-in_err-rows-clause-only
returns-in_err-rows-clause-only g c = λ file known.
    passed_only _ (within (λ P. rows_where P file (places_view c.args.places)) (c.in_err-rows.ensures.only file known)) c.from_residual.ensures

pub returns-in_err-strings-clause-only : goal.returns-in_err-strings-clause-only
returns-in_err-strings-clause-only g c = λ file known.
    let places = places_view c.args.places in
    let inside : places.symbols + places.symbols_size ≤ length file = omega (arith, known.1, c.in_ok-rows.ensures.lies) in
    passed_only _ (next (within (λ P. rows_where P file places) (c.in_ok-rows.ensures.only file known))
    (one (λ P all. strings_sure P file places all inside c.args.opened.now.len known.1) c.in_err-strings.ensures.only)) c.from_residual-in_err-strings.ensures

pub returns-clause-only : goal.returns-clause-only
returns-clause-only g c = λ file known.
    let places = places_view c.args.places in
    let inside : places.symbols + places.symbols_size ≤ length file = omega (arith, known.1, c.in_ok-rows.ensures.lies) in
    next (within (λ P. rows_where P file places) (c.in_ok-rows.ensures.only file known))
    (one (λ P all. strings_sure P file places all inside c.args.opened.now.len known.1) c.in_ok-strings.ensures.only)
