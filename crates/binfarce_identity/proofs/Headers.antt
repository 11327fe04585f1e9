-- The steps of the search among headers.
use Rattle.std.proofs.Common.{◌≡◌, ℕ, zero, suc, ◌+◌, ◌-◌, ◌*◌, ◌<◌, List, None, Ok, refl, arith}
use Rattle.binfarce_bytes.specs.declared.ByteOrder.{ByteOrder}
use Rattle.binfarce_identity.specs.ElfIdentity.{Shape, header_place, headers_reading, place_reading}
use Rattle.binfarce_tables.specs.Readings.{answered}
use Rattle.binfarce_identity.specs.Reading.{or_else}

module _ (order : ByteOrder) (shape : Shape) (headers : List ℕ) where
  pub none_left : (n index : ℕ) → n ≡ 0 → headers_reading order shape headers n index ≡ answered (Ok None)
  unfolding headers_reading
  none_left zero index e = refl
  none_left (suc n) index e = absurd (omega arith)

  pub next_header : (n index : ℕ) → 0 < n
      → headers_reading order shape headers n index ≡ or_else (place_reading order (header_place order shape headers (index * shape.length))) (headers_reading order shape headers (n - 1) (index + 1))
  unfolding headers_reading
  next_header zero index some = absurd (omega arith)
  next_header (suc n) index some = rw (less n) refl
    where
      less : (n : ℕ) → suc n - 1 ≡ n
      less n = omega arith
