use Rattle.std.proofs.Common.{List, None, subst, sym}
use Rattle.std.proofs.lemmas.List.Elements.{All-push}
use Rattle.std.specs.List.{All}
use Rattle.binfarce.specs.SymbolViews.{section_function_view}
use Rattle.binfarce_figures.specs.declared.order.Row.{Row}
use Rattle.binfarce_figures.specs.machine.Listings.{HasName, IsShownBy, entry_of, name_of}
use Rattle.binfarce_figures.proofs.Growing.{maps_more}
use Rattle.binfarce_figures.proofs.NamedRows.{index_below, shown_at}
use Rattle.binfarce_figures.proofs.rows.Listing.rows_of.Goals as goal

pub bounds-indices-i : goal.bounds-indices-i
bounds-indices-i c = index_below (IsShownBy c.args.self.now.shown.now.naming c.args.texts.now) name_of c.args.functions.now c.args.indices.now c.loop-i.i c.requires c.loop-i-test.true

pub row_at-requires : goal.row_at-requires
row_at-requires c = shown_at c.args.self.now.shown.now.naming c.args.texts.now c.args.functions.now c.args.indices.now c.loop-i.i _ None c.requires c.loop-i-test.true

pub loop-i-preserved : goal.loop-i-preserved
loop-i-preserved c =
    let naming = c.args.self.now.shown.now.naming in
    let row = c.row_at.result in
    let grown = c.in_ok-push.ensures.items in (
      maps_more entry_of section_function_view c.loop-i.rows.items c.push.new.self.items row c.args.functions.now c.loop-i.i _ c.loop-i-test.true grown c.row_at.ensures.entry c.loop-i.invariant.0,
      subst (λ (rs : List Row). All (HasName naming) rs) (sym grown) (All-push (HasName naming) c.loop-i.rows.items row c.loop-i.invariant.1 c.row_at.ensures.name),
    )
