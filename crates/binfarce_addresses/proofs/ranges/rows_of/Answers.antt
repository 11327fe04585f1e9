use Rattle.std.proofs.Common.{◌≡◌, ◌+◌, length, get_or, sym, subst, ◌∙◌, arith}
use Rattle.std.specs.List.Sorted.{IsSortedBy}
use Rattle.binfarce_addresses.proofs.Rows.{AreMade, comes_before, lt_is, arranged_rows}
use Rattle.binfarce_addresses.proofs.ranges.rows_of.Goals as goal
use Rattle.binfarce_addresses.proofs.ranges.rows_of.Goals.{After-sort_unstable}

-- the sort goes by the test
by_test : (c : After-sort_unstable) → IsSortedBy comes_before c.sort_unstable.new.self.items
by_test c k d low high = sym (lt_is (get_or c.sort_unstable.new.self.items (k + 1) d) (get_or c.sort_unstable.new.self.items k d)) ∙ c.sort_unstable.ensures.sorted k d low high

pub returns : goal.returns
returns c =
    let whole : c.loop-place.place ≡ length c.args.ranges.now = omega arith in
    let made = subst (AreMade c.args.ranges.now c.loop-place.rows.items) whole c.loop-place.invariant in
    arranged_rows c.args.ranges.now c.loop-place.rows.items c.sort_unstable.new.self.items made c.sort_unstable.ensures.permutation (by_test c)
