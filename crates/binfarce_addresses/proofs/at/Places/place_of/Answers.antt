use Rattle.std.proofs.Common.{arith}
use Rattle.binfarce_addresses.proofs.Shown.{place_is}
use Rattle.binfarce_addresses.proofs.at.Places.place_of.Goals as goal

pub returns : goal.returns
returns c = place_is c.self.inside.functions.items c.self.inside.ranges c.args.self.now c.self.invariant.are c.self.view_is c.args.address (omega arith) c.find.result c.find.ensures
