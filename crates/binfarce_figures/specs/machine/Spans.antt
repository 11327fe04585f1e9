-- The bytes that rows have, as spans.
use Rattle.std.specs.Prelude.{◌≡◌, ℕ, ◌+◌, ◌-◌, ◌≤◌, Bool, ◌&&◌, ◌||◌, List, [], ◌∷◌, nat_le, nat_lt, if◌then◌else◌}
use Rattle.std.specs.List.{list_any}
use Rattle.binfarce_figures.specs.declared.claims.Span.{Span}

-- a span has the byte at a place
abbrev pub spans_over : (place : ℕ) → Span → Bool
spans_over place span = nat_le span.start place && nat_lt place span.end

abbrev pub covers : List Span → (place : ℕ) → Bool
covers spans place = list_any (spans_over place) spans

-- spans follow each other from a place on
abbrev pub Ascend : (low : ℕ) → List Span → Type 0
Ascend low [] = Unit {0}
Ascend low (span ∷ others) = (low ≤ span.start) × (span.start ≤ span.end) × Ascend span.end others

-- how many places from one up to another are in none of spans that follow each other
abbrev pub gaps : List Span → (from end : ℕ) → ℕ
gaps [] from end = end - from
gaps (span ∷ others) from end = if nat_lt span.start end then (span.start - from) + gaps others span.end end else end - from

-- new spans cover what the old ones do, and the places from one up to another
abbrev pub CoverMore : (place end : ℕ) → (old new : List Span) → Type 0
CoverMore place end old new = (at : ℕ) → covers new at ≡ ((nat_le place at && nat_lt at end) || covers old at)
