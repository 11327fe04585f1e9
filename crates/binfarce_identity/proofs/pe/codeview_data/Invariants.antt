use Rattle.std.proofs.Common.{◌≡◌, ◌-◌, ◌/◌, length}
use Rattle.binfarce_identity.specs.PeIdentity.{codeview_data, data_from}
use Rattle.binfarce_identity.proofs.pe.codeview_data.Given as goal

-- the answer is that of the entries that are left
abbrev pub invariant-loop-index : goal.invariant-loop-index
invariant-loop-index l = data_from l.entries (length l.entries / 28 - l.index) l.index ≡ codeview_data l.entries
