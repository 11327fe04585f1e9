use Rattle.std.proofs.Common.{refl, take}
use Rattle.binfarce_logs.specs.Maps.{lowest}
use Rattle.binfarce_logs.specs.machine.Wanted.{value_for}
use Rattle.binfarce_logs.proofs.Mapped.{next_line}
use Rattle.binfarce_logs.proofs.maps.lowest.Goals as goal

pub loop-rest-preserved : goal.loop-rest-preserved
loop-rest-preserved c =
    let wanted = c.args.wanted in
    let rest = c.loop-rest.rest.now in
    let len = c.len_before-len.result in
    next_line wanted (lowest (value_for wanted) c.args.maps.now) c.loop-rest.lowest c.value_for.result c.less_of-lowest.result rest (take len rest) c.behind-rest.result.now len c.loop-rest.invariant c.len_before-len.ensures.len refl c.behind-rest.ensures c.value_for.ensures c.less_of-lowest.ensures
