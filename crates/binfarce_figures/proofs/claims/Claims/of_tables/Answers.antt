use Rattle.std.proofs.Common.{◌∙◌, ℕ, List, length, map, ap, arith}
use Rattle.binfarce.specs.SymbolViews.{section_function_view}
use Rattle.binfarce_bytes.specs.declared.functions.SectionFunction.{SectionFunction}
use Rattle.binfarce_figures.specs.Claims.{sum_of_sizes}
use Rattle.binfarce_figures.proofs.Got.{got, too_large_got}
use Rattle.binfarce_figures.proofs.Once.{bytes_are}
use Rattle.binfarce_figures.proofs.claims.Claims.of_tables.Goals as goal

abbrev sizes : List SectionFunction → ℕ
sizes functions = sum_of_sizes (map section_function_view functions)

pub returns-then-total-from-clause-made : goal.returns-then-total-from-clause-made
returns-then-total-from-clause-made c = λ which file section are.
    too_large_got which file section c.in_ok-selected.selected (map section_function_view c.in_ok-functions.functions.items) c.in_ok-functions.size (c.in_ok-selected.ensures.gets which file section are) c.in_ok-functions.ensures
    (omega (arith, bytes_are _ _ c.in_ok-list.ensures, ap sizes c.deref.ensures.value, c.total_of-total.ensures, c.from.ensures, c.if-total-from.true))

pub returns-clause-made : goal.returns-clause-made
returns-clause-made c = λ which file section are.
    let entries = map section_function_view c.in_ok-functions.functions.items in
    got which file section c.in_ok-selected.selected entries c.in_ok-functions.size (c.in_ok-selected.ensures.gets which file section are) c.in_ok-functions.ensures c.args.tables.now (map section_function_view c.in_ok-list.list.items) are
    (omega (arith, bytes_are _ _ c.in_ok-list.ensures, ap sizes c.deref.ensures.value, c.total_of-total.ensures, c.from.ensures, c.if-total-from.false)) c.in_ok-list.ensures

pub invariant_of-result : goal.invariant_of-result
invariant_of-result c = record {
  total_is = c.total_of-total.ensures ∙ ap sizes c.deref.ensures.value;
  fits = omega (arith, c.total_of-total.ensures, c.from.ensures, c.if-total-from.false);
  few = omega (arith, ap length c.deref.ensures.value, c.deref.ensures.len);
}
