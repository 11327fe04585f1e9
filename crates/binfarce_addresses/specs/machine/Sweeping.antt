-- What the steps of a sweep change.
use Rattle.std.specs.Prelude.{◌≡◌, ℕ, ◌<◌, ◌≤◌, List, [], ◌∷◌, ◌++◌, length, Option}
use Rattle.binfarce_addresses.specs.declared.ranges.Row.{Row}
use Rattle.binfarce_addresses.specs.declared.ranges.Sweep.{Sweep}
use Rattle.binfarce_addresses.specs.machine.Sweep.{IsInnermost, IsSweep, stack_at}

-- the first n rows were swept
abbrev pub IsSweptTo : List Row → Sweep → ℕ → Type 0
IsSweptTo rows sweep n = (n ≤ length rows) × IsSweep rows n sweep.spans.items sweep.stack.items

-- each open row is one of the rows
abbrev pub AreOpenRowsAmong : List Row → Sweep → Type 0
AreOpenRowsAmong rows sweep = (m : ℕ) → m < length sweep.stack.items → stack_at sweep.stack.items m < length rows

-- one span more, with the place of the last open row
abbrev pub BeginsSpan : List Row → Sweep → Sweep → ℕ → Type 0
BeginsSpan rows old new start =
    (new.stack.items ≡ old.stack.items) × ((place : Option ℕ) × IsInnermost rows old.stack.items place × (new.spans.items ≡ old.spans.items ++ (record { start = start; place = place }) ∷ []))
