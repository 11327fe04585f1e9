use Rattle.std.proofs.Common.{sym, ◌∙◌, get_or, ◌+◌}
use Rattle.std.specs.List.Sorted.{IsSortedBy}
use Rattle.binfarce_bytes.specs.RowViews.{row_view}
use Rattle.binfarce_bytes.proofs.Arranging.{lt_is}
use Rattle.binfarce_bytes.proofs.Views.{before, arrangement_view, addresses_rise_view}
use Rattle.binfarce_bytes.proofs.sizes.put_in_order.Goals as goal
use Rattle.binfarce_bytes.proofs.sizes.put_in_order.Goals.{After-sort_unstable}

-- the sort goes by the test
by_test : (c : After-sort_unstable) → IsSortedBy before c.sort_unstable.new.self.items
by_test c k d low high = sym (lt_is (row_view (get_or c.sort_unstable.new.self.items (k + 1) d)) (row_view (get_or c.sort_unstable.new.self.items k d))) ∙ c.sort_unstable.ensures.sorted k d low high

pub returns-clause-arranged : goal.returns-clause-arranged
returns-clause-arranged c = arrangement_view c.args.rows.now.items c.sort_unstable.new.self.items c.sort_unstable.ensures.permutation (by_test c)

pub returns-clause-rises : goal.returns-clause-rises
returns-clause-rises c = addresses_rise_view c.sort_unstable.new.self.items (by_test c)
