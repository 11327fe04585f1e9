use Rattle.std.proofs.Common.{◌≡◌, ℕ, ◌+◌, ◌<◌, true, List, length, drop, get_or, sym, ap, ◌∙◌}
use Rattle.std.proofs.lemmas.Bool.{and_parts}
use Rattle.std.proofs.lemmas.List.{drop_more}
use Rattle.binfarce_image.specs.Structure.{filled}
use Rattle.binfarce_image.specs.declared.image.tables.Field.{Field}
use Rattle.binfarce_image.specs.machine.Views.{field_view, fits, all_fit, numbers_view}
use Rattle.binfarce_image.proofs.image.write.fill.Goals as goal

none : Field × ℕ
none = (record { 0 = 0; 1 = 0 }, 0)

first_fits : (n : ℕ) (numbers : List (Field × ℕ)) (i : ℕ) → i < length numbers → all_fit n (numbers_view (drop i numbers)) ≡ true → (fits n (field_view (get_or numbers i none).0) ≡ true) × (all_fit n (numbers_view (drop (i + 1) numbers)) ≡ true)
first_fits n numbers i h fit =
    and_parts _ (all_fit n (numbers_view (drop (i + 1) numbers))) (sym (ap (λ ns. all_fit n (numbers_view ns)) (drop_more numbers i none h)) ∙ fit)

pub put-requires : goal.put-requires
unfolding none
put-requires c = (first_fits (length c.loop-number.structure) c.args.numbers.now c.loop-number.number-index c.loop-number-test.true c.loop-number.invariant.fit).0

pub loop-number-preserved : goal.loop-number-preserved
unfolding none
loop-number-preserved c =
    let numbers = c.args.numbers.now in
    let i = c.loop-number.number-index in
    let rest = numbers_view (drop (i + 1) numbers) in
    let more = ap (λ ns. filled c.args.order c.loop-number.structure (numbers_view ns)) (drop_more numbers i none c.loop-number-test.true) in
    record {
      fit = ap (λ n. all_fit n rest) c.put.auto.structure ∙ (first_fits (length c.loop-number.structure) numbers i c.loop-number-test.true c.loop-number.invariant.fit).1;
      done = ap (λ s. filled c.args.order s rest) c.put.ensures ∙ sym more ∙ c.loop-number.invariant.done;
    }
