use Rattle.std.proofs.Common.{ℕ, List, ◌-◌, ◌≤◌, length}
use Rattle.std.specs.String.{string_bytes}
use Rattle.binfarce_legacy.specs.Legacy.{Element, Reads}
use Rattle.binfarce_legacy.specs.machine.Reading.{Grows}
use Rattle.binfarce_legacy.proofs.Left.{IsLeft}
use Rattle.binfarce_legacy.proofs.legacy.push_path.Given as goal

abbrev pub invariant-loop-start : goal.invariant-loop-start
invariant-loop-start l = record {
  within : l.at ≤ length l.part;
  printed : (elements : List Element) (rest : List ℕ) → Reads l.part elements rest → (left : List Element) × IsLeft l.part l.at (string_bytes l.fn.text) (string_bytes l.text) elements rest left;
  grows : Grows (string_bytes l.fn.text) (string_bytes l.text);
}

abbrev pub decreases-loop-start : goal.decreases-loop-start
decreases-loop-start l = length l.part - l.at
