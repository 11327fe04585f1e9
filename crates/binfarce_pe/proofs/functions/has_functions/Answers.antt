use Rattle.std.proofs.Common.{◌≡◌, ◌+◌, ℕ, ◌∷◌, ◌++◌, [], ap, arith, sym, is_some, ◌∙◌}
use Rattle.std.proofs.lemmas.List.Elements.{All-nil}
use Rattle.binfarce_bytes.proofs.SomeListed.{has_some, has_none}
use Rattle.binfarce_pe.specs.PeParts.{table_view}
use Rattle.binfarce_pe.specs.PeSelection.{entries_by, rules_of, sections_view}
use Rattle.binfarce_pe.specs.PeSymbols.{SymbolRow}
use Rattle.binfarce_pe.specs.PeRules.{accepted_name}
use Rattle.binfarce_pe.proofs.Rows.{after, all_left, one_before, all_before, IsLeftOut}
use Rattle.binfarce_pe.proofs.EachSection.{none_more, none_selected, some_selected}
use Rattle.binfarce_pe.proofs.functions.has_functions.Goals as goal

pub loop-next-init : goal.loop-next-init
loop-next-init c =
    let t = table_view c.args.symbols in
    let rules = rules_of (sections_view c.args.sections) in
    ([], all_left t, λ i lt. All-nil (IsLeftOut t (rules.section (rules.first + i))))

pub loop-next-preserved : goal.loop-next-preserved
loop-next-preserved c =
    let t = table_view c.args.symbols in
    let rules = rules_of (sections_view c.args.sections) in
    let k = c.loop-next.next in
    let next = k + 1 + c.symbol_of-row.result.number_of_aux_symbols in
    let follows : next ≡ after t k = omega (arith, ap (λ r. r.number_of_aux_symbols) c.symbol_of-row.ensures) in
    let before = c.loop-next.invariant.0 in (
      before ++ k ∷ [],
      one_before t k next before c.loop-next-test.true follows c.loop-next.invariant.1,
      none_more t rules before k
          (λ i lt. ap (accepted_name t (rules.section (rules.first + i)).accepts k) (sym c.symbol_of-row.ensures) ∙ c.in-None.ensures i lt) c.loop-next.invariant.2,
    )

pub returns-in-Some : goal.returns-in-Some
returns-in-Some c =
    let t = table_view c.args.symbols in
    let rules = rules_of (sections_view c.args.sections) in
    let k = c.loop-next.next in
    has_some (entries_by rules t)
    (some_selected t rules c.loop-next.invariant.0 k c.in-Some.field-0 c.loop-next-test.true c.loop-next.invariant.1 c.in-Some.ensures.0
    (ap (λ (r : SymbolRow ℕ). is_some (accepted_name t (rules.section (rules.first + c.in-Some.field-0)).accepts k r)) (sym c.symbol_of-row.ensures) ∙ c.in-Some.ensures.1))

pub returns : goal.returns
returns c =
    let t = table_view c.args.symbols in
    let rules = rules_of (sections_view c.args.sections) in
    has_none (entries_by rules t)
    (none_selected t rules c.loop-next.invariant.0 (all_before t c.loop-next.next c.loop-next.invariant.0 (omega arith) c.loop-next.invariant.1) c.loop-next.invariant.2)
