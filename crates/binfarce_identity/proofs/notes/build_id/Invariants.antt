use Rattle.std.proofs.Common.{◌≡◌, ◌-◌, length}
use Rattle.binfarce_identity.specs.Notes.{build_id, build_id_from}
use Rattle.binfarce_identity.proofs.notes.build_id.Given as goal

-- the answer is that of the notes that are left
abbrev pub invariant-loop-k : goal.invariant-loop-k
invariant-loop-k l = build_id_from l.byte_order l.word l.notes (length l.notes - l._k) l.start ≡ build_id l.byte_order l.align l.notes
