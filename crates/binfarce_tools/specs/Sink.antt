-- The views of an `Out` that clauses use.
use Rattle.std.specs.Prelude.{Bool}
use Rattle.binfarce_tools.specs.declared.list.Out.{Out}

-- the writer of the sink
abbrev pub writer_of : {W : Type 0} → Out W → W
writer_of out = out.writer

-- a write has failed
abbrev pub has_failed : {W : Type 0} → Out W → Bool
has_failed out = out.failed
