use Rattle.std.proofs.Common.{◌≡◌, ℕ, ◌+◌, ◌-◌, ◌*◌, sym, ap, ◌∙◌, arith}
use Rattle.std.specs.Option.{option_map}
use Rattle.binfarce_identity.specs.ElfIdentity.{header_place, headers_reading, place_reading}
use Rattle.binfarce_identity.specs.machine.Views.{note_place_view, shape_of}
use Rattle.binfarce_identity.proofs.Headers.{next_header, none_left}
use Rattle.binfarce_identity.proofs.OrElse.{ended, found, left_is, passed_by, stopped}
use Rattle.binfarce_tables.proofs.ReadingSteps.{same}
use Rattle.binfarce_identity.proofs.elf.read_headers.Goals as goal

pub returns-in_err-found : goal.returns-in_err-found
returns-in_err-found g c = λ file known.
    let order = c.args.byte_order in
    let shape = shape_of c.args.table.form in
    let headers = c.args.headers.now in
    let index = c.loop-index.index in
    let whole = headers_reading order shape headers c.args.table.count 0 in
    let place : option_map note_place_view c.place_at-place.result ≡ header_place order shape headers (index * shape.length) =
    c.place_at-place.ensures ∙ ap (λ (n : ℕ). header_place order shape headers (index * n)) c.length-length.ensures.is in
    stopped file whole (place_reading order (header_place order shape headers (index * shape.length))) (headers_reading order shape headers (c.args.table.count - index - 1) (index + 1)) c.from_residual.result
    (left_is file whole (next_header order shape headers (c.args.table.count - index) index (omega (arith, c.loop-index-test.true))) (c.loop-index.invariant file known))
    (same file (ap (place_reading order) place) (c.in_err-found.ensures file known)) c.from_residual.ensures

pub returns-then-is_some : goal.returns-then-is_some
returns-then-is_some g c = λ file known.
    let order = c.args.byte_order in
    let shape = shape_of c.args.table.form in
    let headers = c.args.headers.now in
    let index = c.loop-index.index in
    let whole = headers_reading order shape headers c.args.table.count 0 in
    let place : option_map note_place_view c.place_at-place.result ≡ header_place order shape headers (index * shape.length) =
    c.place_at-place.ensures ∙ ap (λ (n : ℕ). header_place order shape headers (index * n)) c.length-length.ensures.is in
    found file whole (place_reading order (header_place order shape headers (index * shape.length))) (headers_reading order shape headers (c.args.table.count - index - 1) (index + 1)) c.in_ok-found.found
    (sym c.is_some.ensures ∙ c.if-is_some.true)
    (left_is file whole (next_header order shape headers (c.args.table.count - index) index (omega (arith, c.loop-index-test.true))) (c.loop-index.invariant file known))
    (same file (ap (place_reading order) place) (c.in_ok-found.ensures file known))

pub loop-index-preserved : goal.loop-index-preserved
loop-index-preserved g c = λ file known.
    let order = c.args.byte_order in
    let shape = shape_of c.args.table.form in
    let headers = c.args.headers.now in
    let index = c.loop-index.index in
    let whole = headers_reading order shape headers c.args.table.count 0 in
    let place : option_map note_place_view c.place_at-place.result ≡ header_place order shape headers (index * shape.length) =
    c.place_at-place.ensures ∙ ap (λ (n : ℕ). header_place order shape headers (index * n)) c.length-length.ensures.is in
    let left : c.args.table.count - index - 1 ≡ c.args.table.count - (index + 1) = omega arith in
    left_is file whole (ap (λ (n : ℕ). headers_reading order shape headers n (index + 1)) left)
    (passed_by file whole (place_reading order (header_place order shape headers (index * shape.length))) (headers_reading order shape headers (c.args.table.count - index - 1) (index + 1)) c.in_ok-found.found
    (sym c.is_some.ensures ∙ c.if-is_some.false)
    (left_is file whole (next_header order shape headers (c.args.table.count - index) index (omega (arith, c.loop-index-test.true))) (c.loop-index.invariant file known))
    (same file (ap (place_reading order) place) (c.in_ok-found.ensures file known)))

pub returns : goal.returns
returns g c = λ file known.
    let order = c.args.byte_order in
    let shape = shape_of c.args.table.form in
    let whole = headers_reading order shape c.args.headers.now c.args.table.count 0 in
    ended file whole (left_is file whole (none_left order shape c.args.headers.now (c.args.table.count - c.loop-index.index) c.loop-index.index (omega (arith, c.loop-index-test.false))) (c.loop-index.invariant file known))
