use Rattle.std.proofs.Common.{refl, ◌∙◌, arith}
use Rattle.std.proofs.lemmas.Grind.{common_steps}
use Rattle.binfarce_tools.proofs.Listings.{begins, further}
use Rattle.binfarce_tools.proofs.writing.write_whole.Goals as goal

pub returns-in-None-clause-takes : goal.returns-in-None-clause-takes
returns-in-None-clause-takes g c = (refl, begins _ _ _ c.args.bytes.now c.loop-at.at c.loop-at.invariant.taken c.in-None.ensures.none)

pub loop-at-preserved : goal.loop-at-preserved
loop-at-preserved g c = record {
  within = grind (arith, common_steps, c.in-Some.ensures.count, c.loop-at.invariant.within);
  taken = further _ _ _ c.args.bytes.now c.loop-at.at c.in-Some.n c.loop-at.invariant.taken c.in-Some.ensures.takes;
  kept = c.in-Some.ensures.kept ∙ c.loop-at.invariant.kept;
}
