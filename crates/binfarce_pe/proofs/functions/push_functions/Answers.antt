use Rattle.std.proofs.Common.{◌≡◌, ◌<◌, ◌++◌, ℕ, List, Option, length, map, All, sym, ap, subst, ◌∙◌}
use Rattle.std.specs.Prelude.{IfOk}
use Rattle.std.specs.List.{filter_map}
use Rattle.std.proofs.lemmas.List.Elements.{All-same}
use Rattle.std.proofs.lemmas.List.Sorted.{All-permutation}
use Rattle.binfarce_bytes.specs.declared.sizes.RowAddress.{RowAddress}
use Rattle.binfarce_bytes.specs.Sizes.{arranged, addresses_of}
use Rattle.binfarce_bytes.specs.SectionEntries.{SectionEntry}
use Rattle.binfarce_bytes.specs.SymbolViews.{section_function_view}
use Rattle.binfarce_bytes.specs.RowViews.{rows_view}
use Rattle.binfarce_pe.specs.PeSelection.{rules_of, sections_view, section_entries}
use Rattle.binfarce_pe.specs.machine.RawPe.{function_in, names_view}
use Rattle.binfarce_pe.proofs.Listing.{section_entries_are}
use Rattle.binfarce_pe.proofs.functions.push_functions.Goals as goal

pub push_rows-requires-clause-named : goal.push_rows-requires-clause-named
push_rows-requires-clause-named c =
    let P = λ (r : RowAddress). r.index < length c.args.held.names.items in
    let long : length c.args.held.names.items ≡ length c.deref-2.result.now = ap length (sym c.deref-2.ensures.value) in
    subst (λ (n : ℕ). All (λ (r : RowAddress). r.index < n) c.deref.result.now) long
    (All-same P c.deref.result.now c.in_ok-arranged.arranged.rows.items c.deref.ensures.value
    (All-permutation P c.args.held.rows.items c.in_ok-arranged.arranged.rows.items c.in_ok-arranged.ensures.same c.requires.named))

pub returns : goal.returns
returns c t h =
    let chosen = sections_view c.args.sections in
    let rules = rules_of chosen in
    let index = c.args.index in
    let before = map section_function_view c.args.functions.now.items in
    let names = names_view c.args.held.names.items in
    let in_order = rows_view c.deref.result.now in
    let are : in_order ≡ arranged (rows_view c.args.held.rows.items) = ap rows_view c.deref.ensures.value ∙ c.in_ok-arranged.ensures.arranged in
    let handed : names_view c.deref-2.result.now ≡ names = ap names_view c.deref-2.ensures.value in
    let same : filter_map (function_in rules index (names_view c.deref-2.result.now) (addresses_of in_order)) in_order ≡ section_entries rules t index =
    ap (λ (ns : List (Option (List ℕ))). filter_map (function_in rules index ns (addresses_of in_order)) in_order) handed
    ∙ section_entries_are t chosen index (rows_view c.args.held.rows.items) in_order names h are in
    subst (λ (es : List SectionEntry). IfOk c.push_rows.result (λ x. map section_function_view c.push_rows.new.functions.items ≡ before ++ es)) same c.push_rows.ensures
