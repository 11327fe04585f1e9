use Rattle.std.proofs.Common.{◌≡◌, length, sym, ap, subst, ◌∙◌, List, map, ◌++◌}
use Rattle.std.specs.Prelude.{IfOk}
use Rattle.std.proofs.lemmas.List.Elements.{All-same}
use Rattle.std.proofs.lemmas.List.Sorted.{All-permutation}
use Rattle.binfarce_bytes.specs.declared.sizes.RowAddress.{RowAddress}
use Rattle.binfarce_bytes.specs.Sizes as sizes
use Rattle.binfarce_bytes.specs.Sizes.{arranged, addresses_of, least_above}
use Rattle.binfarce_bytes.specs.RowViews.{rows_view}
use Rattle.binfarce_bytes.specs.SymbolViews.{section_function_view}
use Rattle.binfarce_macho.specs.MachoSelection.{extent_view}
use Rattle.binfarce_macho.specs.machine.RawMacho.{function_in, IsInside}
use Rattle.binfarce_macho.proofs.functions.push_section.Goals as goal

pub push_kept-requires-clause-inside : goal.push_kept-requires-clause-inside
push_kept-requires-clause-inside c =
    let P = IsInside (extent_view c.args.section) (length c.args.names.now) in
    All-same P c.deref.result.now c.in_ok-arranged.arranged.rows.items c.deref.ensures.value
    (All-permutation P c.args.rows.items c.in_ok-arranged.arranged.rows.items c.in_ok-arranged.ensures.same c.requires)

pub push_kept-requires-clause-above : goal.push_kept-requires-clause-above
push_kept-requires-clause-above c =
    c.deref-2.ensures.value ∙ c.in_ok-arranged.ensures.above
    ∙ ap (λ (rows : List RowAddress). map (λ r. least_above (addresses_of (rows_view rows)) r.address) rows) (sym c.deref.ensures.value)

pub returns : goal.returns
returns c =
    let before = map section_function_view c.args.functions.now.items in
    let names = map (λ t. t.now) c.args.names.now in
    let is : rows_view c.deref.result.now ≡ arranged (rows_view c.args.rows.items) = ap rows_view c.deref.ensures.value ∙ c.in_ok-arranged.ensures.arranged in
    subst (λ (rows : List sizes.RowAddress). IfOk c.push_kept.result (λ x. map section_function_view c.push_kept.new.functions.items ≡ before ++ map (function_in (extent_view c.args.section) c.args.number names rows) rows)) is c.push_kept.ensures
