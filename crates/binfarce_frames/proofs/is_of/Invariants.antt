use Rattle.std.proofs.Common.{◌≡◌, drop, map}
use Rattle.binfarce_frames.specs.Frames.{is_of}
use Rattle.binfarce_frames.proofs.is_of.Given as goal

-- the line ends with one of all names exactly if it does with one of those that are left
abbrev pub invariant-loop-name : goal.invariant-loop-name
invariant-loop-name l = is_of (map (λ name. name.now) l.names) l.line ≡ is_of (map (λ name. name.now) (drop l.name-index l.names)) l.line
