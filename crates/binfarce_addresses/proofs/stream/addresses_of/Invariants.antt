use Rattle.std.proofs.Common.{◌-◌, length}
use Rattle.binfarce_addresses.proofs.Streams.{ReadTo}
use Rattle.binfarce_addresses.proofs.stream.addresses_of.Given as goal

-- the lines so far write the addresses
abbrev pub invariant-loop-line : goal.invariant-loop-line
invariant-loop-line l = ReadTo l.bytes l.addresses.items l.len

abbrev pub decreases-loop-line : goal.decreases-loop-line
decreases-loop-line l = length l.bytes - l.len
