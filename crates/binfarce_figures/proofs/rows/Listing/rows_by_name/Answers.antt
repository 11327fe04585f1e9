use Rattle.std.proofs.Common.{List, map, nat_cmp, subst, sym}
use Rattle.std.proofs.lemmas.List.Sorted.{All-permutation}
use Rattle.std.proofs.lemmas.Result.{IfOk-weaker}
use Rattle.std.specs.Cmp.Lexicographic.{slice_cmp}
use Rattle.std.specs.List.{All}
use Rattle.std.specs.String.{string_bytes}
use Rattle.binfarce.specs.SectionEntries.{SectionEntry}
use Rattle.binfarce_figures.specs.Order.{AreNamed}
use Rattle.binfarce_figures.specs.declared.order.Row.{Row}
use Rattle.binfarce_figures.specs.machine.Listings.{AreRows, HasName, entry_of}
use Rattle.binfarce_figures.proofs.NamedRows.{are_named}
use Rattle.binfarce_figures.proofs.Ordered.{named_by_name, named_of}
use Rattle.binfarce_figures.proofs.rows.Listing.rows_by_name.Goals.{In_ok-sort_by_name}
use Rattle.binfarce_figures.proofs.rows.Listing.rows_by_name.Goals as goal

have_names : (c : In_ok-sort_by_name) → All (HasName c.args.self.now.shown.now.naming) c.sort_by_name.new.rows.items
have_names c = All-permutation (HasName c.args.self.now.shown.now.naming) c.in_ok-rows.rows.items c.sort_by_name.new.rows.items c.in_ok-sort_by_name.ensures.same c.in_ok-rows.ensures.1

pub first_named-requires : goal.first_named-requires
first_named-requires c = subst (λ (rs : List Row). All (HasName c.args.self.now.shown.now.naming) rs) (sym c.deref-3.ensures.value) (have_names (goal.at.first_named-requires c).In_ok-sort_by_name)

pub returns : goal.returns
returns c =
    let listing = c.args.self.now in
    let naming = listing.shown.now.naming in
    let rows = c.in_ok-rows.rows.items in
    let sorted = c.sort_by_name.new.rows.items in
    IfOk-weaker c.first_named.result _ _ (λ t are. (
      map named_of rows,
      map named_of sorted,
      map entry_of sorted,
      subst (λ (es : List SectionEntry). AreNamed naming es (map named_of rows)) c.in_ok-rows.ensures.0 (are_named naming rows c.in_ok-rows.ensures.1),
      named_by_name (slice_cmp nat_cmp) rows sorted c.in_ok-sort_by_name.ensures,
      are_named naming sorted (have_names (goal.at.returns c).In_ok-sort_by_name),
      subst (λ (rs : List Row). AreRows listing (map entry_of rs) (string_bytes t)) c.deref-3.ensures.value are,
    )) c.first_named.ensures
