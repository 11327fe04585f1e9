use Rattle.std.proofs.Common.{◌≡◌, ◌≤◌, length}
use Rattle.std.specs.Io.KnownBytes.{Consumes}
use Rattle.binfarce_io.proofs.input.read_first.Given as goal

-- the bytes were read, and are no more than 512; the buffer has room for as many
abbrev pub invariant-loop : goal.invariant-loop
invariant-loop g l = record {
  whole : length l.part ≡ 512;
  short : length l.bytes.items ≤ 512;
  read : Consumes (g.R.Read.remaining l.fn.reader) (g.R.Read.remaining l.reader) l.bytes.items;
}
