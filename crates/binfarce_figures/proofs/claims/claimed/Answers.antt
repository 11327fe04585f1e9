use Rattle.std.proofs.Common.{◌+◌, ◌-◌, ◌≤◌, ℕ, List, [], map, refl, reverse, rules, sym, ap, subst, ◌∙◌, arith}
use Rattle.std.proofs.lemmas.List.{drop-map, drop_all}
use Rattle.binfarce.specs.SectionEntries.{SectionEntry}
use Rattle.binfarce.specs.SymbolViews.{section_function_view}
use Rattle.binfarce_bytes.specs.declared.functions.SectionFunction.{SectionFunction}
use Rattle.binfarce_figures.specs.declared.claims.Span.{Span}
use Rattle.binfarce_figures.specs.machine.Spans.{Ascend, gaps}
use Rattle.binfarce_figures.proofs.Growing.{map_push, mapped_split}
use Rattle.binfarce_figures.proofs.Places.{Claimed, begun, ended, one_more, rises_from}
use Rattle.binfarce_figures.proofs.Spans.{gaps_le}
use Rattle.binfarce_figures.proofs.claims.claimed.Goals as goal

pub loop-function-init : goal.loop-function-init
loop-function-init c =
    let all = map section_function_view c.args.functions.now in
    let P : List SectionEntry → List Span → Type 0 = λ claims spans. Claimed all claims 0 spans in
    subst (λ (xs : List SectionFunction). P (map section_function_view xs) (reverse c.new-spans.result.items)) (sym c.in_ok-claims.ensures.items) (subst (λ (xs : List Span). P [] (reverse xs)) (sym c.new-spans.ensures.items) (begun all c.requires))

pub cover-requires-clause-rising : goal.cover-requires-clause-rising
cover-requires-clause-rising c =
    let spans = reverse c.loop-function.spans.items in
    let split = mapped_split section_function_view c.args.functions.now c.loop-function.function-index _ c.loop-function-test.true in
    subst (λ (p : ℕ). Ascend p spans) (sym c.place_of-place.ensures.is) (rises_from _ _ spans c.loop-function.function-index _ split c.loop-function.invariant)

pub cover-requires-clause-fits : goal.cover-requires-clause-fits
cover-requires-clause-fits c =
    let spans = reverse c.loop-function.spans.items in
    let place = c.place_of-place.result in
    let split = mapped_split section_function_view c.args.functions.now c.loop-function.function-index _ c.loop-function-test.true in
    let rising : Ascend place spans = subst (λ (p : ℕ). Ascend p spans) (sym c.place_of-place.ensures.is) (rises_from _ _ spans c.loop-function.function-index _ split c.loop-function.invariant) in
    let most : gaps spans place (place + c.from.result) ≤ (place + c.from.result) - place = gaps_le spans place (place + c.from.result) rising in
    let le : gaps spans place (place + c.from.result) ≤ c.from.result = omega (arith, most) in search (rules, le)

pub overflow_cast-size : goal.overflow_cast-size
overflow_cast-size c =
    let spans = reverse c.loop-function.spans.items in
    let place = c.place_of-place.result in
    let split = mapped_split section_function_view c.args.functions.now c.loop-function.function-index _ c.loop-function-test.true in
    let rising : Ascend place spans = subst (λ (p : ℕ). Ascend p spans) (sym c.place_of-place.ensures.is) (rises_from _ _ spans c.loop-function.function-index _ split c.loop-function.invariant) in
    let most : gaps spans place (place + c.from.result) ≤ (place + c.from.result) - place = gaps_le spans place (place + c.from.result) rising in
    let le : c.in_ok-added.added ≤ c.from.result = omega (arith, most, c.in_ok-added.ensures.added) in search (rules, le)

pub loop-function-preserved : goal.loop-function-preserved
loop-function-preserved c =
    let place = c.place_of-place.result in
    let split = mapped_split section_function_view c.args.functions.now c.loop-function.function-index _ c.loop-function-test.true in
    one_more _ _ (reverse c.loop-function.spans.items) c.loop-function.function-index _ split c.loop-function.invariant (map section_function_view c.push.new.self.items) (reverse c.cover.new.spans.items) place (place + c.from.result) c.in_ok-added.added
    c.place_of-place.ensures.is (ap (λ (n : ℕ). place + n) c.from.ensures) c.in_ok-added.ensures.added c.in_ok-added.ensures.rises c.in_ok-added.ensures.covered (map_push section_function_view c.loop-function.claims.items c.push.new.self.items _ _ c.in_ok-push.ensures.items refl)

pub returns : goal.returns
returns c =
    let all = c.args.functions.now in
    let none = drop-map section_function_view c.loop-function.function-index all ∙ ap (map section_function_view) (drop_all c.loop-function.function-index all c.loop-function-test.false) in
    ended _ _ c.loop-function.function-index (reverse c.loop-function.spans.items) none c.loop-function.invariant
