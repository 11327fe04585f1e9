use Rattle.std.proofs.Common.{◌≡◌, ◌++◌, List, ℕ, drop}
use Rattle.binfarce_frames.specs.Rest.{rest}
use Rattle.binfarce_frames.proofs.Frames.take.Given as goal

-- what is left of the text is as it was, after what was appended
abbrev pub invariant-loop-byte : goal.invariant-loop-byte
invariant-loop-byte l =
    (added : List ℕ) × (l.out.items ≡ l.fn.out.items ++ added)
    × ((text : List ℕ) → rest l.fn.self (l.part ++ text) ≡ added ++ rest l.self (drop l.byte-index l.part ++ text))
