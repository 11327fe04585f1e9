use Rattle.std.proofs.Common.{◌≡◌, ◌++◌, ◌∷◌, drop, filter}
use Rattle.binfarce_sections.specs.Changes.{differs}
use Rattle.binfarce_sections.specs.machine.Changed.{Fit, joined, joined_to}
use Rattle.binfarce_sections.proofs.changes.joined_of.Given as goal

-- with the last one and what is left after it, the changes are those of all
abbrev pub invariant-loop-next : goal.invariant-loop-next
invariant-loop-next l =
    (l.joined.items ++ filter differs (joined_to l.last (drop l.next-index l.others)) ≡ filter differs (joined l.changes)) × Fit (l.last ∷ drop l.next-index l.others)
