use Rattle.std.proofs.Common.{◌≡◌, ℕ, List, ◌-◌, ◌≤◌, length, drop, take}
use Rattle.binfarce_legacy.specs.Legacy.{Element, Reads, ends_in_hash}
use Rattle.binfarce_legacy.proofs.ElementLemmas.{last_is_hash}
use Rattle.binfarce_legacy.proofs.elements.elements_end.Given as goal

abbrev pub invariant-loop-at : goal.invariant-loop-at
invariant-loop-at l = record {
  before : l.last ≤ l.at;
  within : l.at ≤ length l.text;
  after : (elements : List Element) (rest : List ℕ) → Reads (drop l.at l.text) elements rest → (all : List Element) × Reads l.text all rest × (ends_in_hash all ≡ last_is_hash (take (l.at - l.last) (drop l.last l.text)) elements);
  ahead : (elements : List Element) (rest : List ℕ) → Reads l.text elements rest → (left : List Element) × Reads (drop l.at l.text) left rest;
}

abbrev pub decreases-loop-at : goal.decreases-loop-at
decreases-loop-at l = length l.text - l.at
