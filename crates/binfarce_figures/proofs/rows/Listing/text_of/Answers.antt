use Rattle.std.proofs.Common.{List, map, subst, sym}
use Rattle.std.specs.String.{string_bytes}
use Rattle.binfarce.specs.SymbolViews.{section_function_view}
use Rattle.binfarce_bytes.specs.declared.functions.SectionFunction.{SectionFunction}
use Rattle.binfarce_figures.specs.machine.Listings.{IsPlaced}
use Rattle.binfarce_figures.proofs.rows.Listing.text_of.Goals as goal

pub returns : goal.returns
returns c =
    let entries = map section_function_view c.args.functions.items in
    let P : List SectionFunction → Type 0 = λ fs. IsPlaced c.args.self.now.shown.now.order entries (map section_function_view fs) in
    let (sorted, ordered, rows) = c.in_ok-text.ensures entries (subst P (sym c.deref.ensures.value) c.in_ok-sort.ensures) in
    (sorted, ordered, string_bytes c.in_ok-text.text, rows, c.in_ok-push_last_line.ensures)
