-- The views of a sink with headings that clauses use.
use Rattle.std.specs.Prelude.{ℕ, Bool, List, ◌++◌, drop, Option, is_some}
use Rattle.std.specs.Option.{option_map}
use Rattle.binfarce_io.specs.declared.output.Output.{Output}

-- the writer of the sink
abbrev pub writer_of : {W : Type 0} → Output W → W
writer_of sink = sink.writer

-- the rest of the heading
abbrev pub pending : {W : Type 0} → Output W → List ℕ
pending sink = drop sink.done sink.heading.items

-- a write has failed
abbrev pub has_failed : {W : Type 0} → Output W → Bool
has_failed sink = is_some sink.reason

-- the bytes that were taken: those of the writer, and the rest of the heading
abbrev pub taken : {W : Type 0} → (W → Option (List ℕ)) → Output W → Option (List ℕ)
taken contents sink = option_map (λ bytes. bytes ++ pending sink) (contents (writer_of sink))
