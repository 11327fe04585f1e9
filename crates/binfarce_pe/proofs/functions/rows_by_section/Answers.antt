use Rattle.std.proofs.Common.{◌≡◌, ◌+◌, ℕ, ◌∷◌, ◌++◌, [], ap, arith, sym, ◌∙◌}
use Rattle.binfarce_pe.specs.PeParts.{table_view}
use Rattle.binfarce_pe.specs.PeSelection.{rules_of, sections_view}
use Rattle.binfarce_pe.specs.PeSymbols.{SymbolRow}
use Rattle.binfarce_pe.specs.machine.RawPe.{ending_name}
use Rattle.binfarce_pe.proofs.Rows.{after, all_left, one_before, all_before}
use Rattle.binfarce_pe.proofs.EachSection.{each_holds_none, each_goes_on, each_adds, each_holds_all}
use Rattle.binfarce_pe.proofs.functions.rows_by_section.Goals as goal

pub loop-next-init : goal.loop-next-init
loop-next-init c =
    let t = table_view c.args.symbols in
    let rules = rules_of (sections_view c.args.sections) in
    ([], all_left t, each_holds_none t rules c.in_ok-held.held.items c.span_of-count.result.1 c.span_of-count.ensures.count c.in_ok-held.ensures.0 c.in_ok-held.ensures.1)

pub loop-next-preserved-in-None : goal.loop-next-preserved-in-None
loop-next-preserved-in-None c =
    let t = table_view c.args.symbols in
    let rules = rules_of (sections_view c.args.sections) in
    let k = c.loop-next.next in
    let next = k + (1 + c.symbol_of-row.result.number_of_aux_symbols) in
    let follows : next ≡ after t k = omega (arith, ap (λ r. r.number_of_aux_symbols) c.symbol_of-row.ensures) in
    let before = c.loop-next.invariant.0 in (
      before ++ k ∷ [],
      one_before t k next before c.loop-next-test.true follows c.loop-next.invariant.1,
      each_goes_on t rules before k c.loop-next.held.items
          (λ i lt. ap (ending_name t (rules.section (rules.first + i)) k) (sym c.symbol_of-row.ensures) ∙ c.in-None.ensures i lt) c.loop-next.invariant.2,
    )

pub loop-next-preserved : goal.loop-next-preserved
loop-next-preserved c =
    let t = table_view c.args.symbols in
    let rules = rules_of (sections_view c.args.sections) in
    let k = c.loop-next.next in
    let next = k + (1 + c.symbol_of-row.result.number_of_aux_symbols) in
    let follows : next ≡ after t k = omega (arith, ap (λ r. r.number_of_aux_symbols) c.symbol_of-row.ensures) in
    let before = c.loop-next.invariant.0 in (
      before ++ k ∷ [],
      one_before t k next before c.loop-next-test.true follows c.loop-next.invariant.1,
      each_adds t rules before k c.in-Some.at c.loop-next.held.items c.index_mut.result.now c.push_row.new.held c.from.result c.in-Some.name c.in-Some.ensures.0 c.index_mut.ensures.value
          (c.from.ensures ∙ ap (λ (r : SymbolRow ℕ). r.value) c.symbol_of-row.ensures) c.in_ok-push_row-in-Some.ensures.rows c.in_ok-push_row-in-Some.ensures.names
          (λ i. ap (ending_name t (rules.section (rules.first + i)) k) (sym c.symbol_of-row.ensures) ∙ c.in-Some.ensures.1 i) c.loop-next.invariant.2,
    )

pub returns-clause-held : goal.returns-clause-held
returns-clause-held c =
    let t = table_view c.args.symbols in
    each_holds_all t (rules_of (sections_view c.args.sections)) c.loop-next.invariant.0 c.loop-next.held.items
    (all_before t c.loop-next.next c.loop-next.invariant.0 (omega arith) c.loop-next.invariant.1) c.loop-next.invariant.2
