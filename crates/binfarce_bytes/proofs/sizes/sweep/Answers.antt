use Rattle.std.proofs.Common.{◌≡◌, ◌<◌, ◌≤◌, ◌+◌, ◌-◌, sym, ap, ◌∙◌, arith, length, get_or, length-set, get_or-set_other, None, inl, inr}
use Rattle.std.proofs.lemmas.Grind.{get_or-set_at}
use Rattle.std.proofs.lemmas.Bool.{cases_eq}
use Rattle.binfarce_bytes.specs.Sizes.{least_above}
use Rattle.binfarce_bytes.proofs.Sweeping.{addresses, addresses_view, past, filled_whole, last_above, next_above, same_above}
use Rattle.binfarce_bytes.proofs.sizes.sweep.Goals as goal
use Rattle.binfarce_bytes.proofs.sizes.sweep.Goals.{then-place-rows+then-rows-place, else-place-rows, else-place-rows-via-then-place-rows+else-rows-place, else-place-rows-via-else-place-rows}

pub loop-place-preserved : goal.loop-place-preserved
loop-place-preserved c =
    let rows = c.args.rows.now in
    let k = c.loop-place.place - 1 in
    let room : k < length c.loop-place.above.items = omega arith in
    let remembered : c.if-place-rows.greater ≡ least_above (addresses rows) (get_or rows k past).address =
    elim c.if-place-rows.branch [
      | then-place-rows+then-rows-place w ↦ w.greater-is ∙ next_above rows c.requires k past w.if-place-rows.true w.if-rows-place.true
      | else-place-rows w ↦ w.greater-is ∙ elim w.else-place-rows.branch [
        | else-place-rows-via-then-place-rows+else-rows-place w' ↦
            let here : c.loop-place.place ≡ k + 1 = omega arith in
            let inside : k + 1 < length rows = w'.if-place-rows.true in
            c.loop-place.invariant.remembered (omega arith) ∙ ap (λ n. least_above (addresses rows) (get_or rows n past).address) here ∙ same_above rows c.requires k past inside w'.if-rows-place.false
        | else-place-rows-via-else-place-rows w' ↦
            let over : length rows ≤ k + 1 = w'.if-place-rows.false in
            c.loop-place.invariant.nothing (omega arith) ∙ last_above rows c.requires k past (omega arith)
      ]
    ] in
    record {
      room = omega (arith, length-set c.loop-place.above.items k c.if-place-rows.greater);
      filled = λ j low high. elim (cases_eq j k) [
        | inl same ↦ get_or-set_at c.loop-place.above.items k j c.if-place-rows.greater None same room ∙ remembered ∙ ap (λ n. least_above (addresses rows) (get_or rows n past).address) (sym same)
        | inr other ↦ get_or-set_other c.loop-place.above.items k j c.if-place-rows.greater None other ∙ c.loop-place.invariant.filled j (omega arith) high
      ];
      remembered = λ _. remembered;
      nothing = λ e. absurd (omega arith);
      counted = omega arith;
    }

pub returns-clause-above : goal.returns-clause-above
returns-clause-above c =
    rw (addresses_view c.args.rows.now)
    (filled_whole c.args.rows.now (λ r. least_above (addresses c.args.rows.now) r.address) c.loop-place.above.items c.loop-place.invariant.room (λ k lt. c.loop-place.invariant.filled k (omega arith) lt))
