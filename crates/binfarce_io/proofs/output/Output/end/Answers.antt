use Rattle.std.proofs.KnownBytes.{Keeps-trans}
use Rattle.binfarce_io.proofs.Streams.{moved_part}
use Rattle.binfarce_io.proofs.output.Output.end.Goals as goal

pub loop-self-preserved : goal.loop-self-preserved
loop-self-preserved g c =
    let old = g.W.Write.contents c.loop-self.self.writer in
    let new = g.W.Write.contents c.write.new.self in
    record {
      kept = Keeps-trans _ _ _ c.loop-self.invariant.kept (moved_part old new c.loop-self.self.heading.items c.deref.result.now c.loop-self.self.done c.in-Ok.n c.deref.ensures.value c.in-Ok.ensures.bytes);
      failed = c.loop-self.invariant.failed;
    }
