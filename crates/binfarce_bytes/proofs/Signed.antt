-- Two's complement, as std casts it.
use Rattle.std.proofs.Common.{◌≡◌, ℕ, ◌<◌, ◌≤◌, ◌*◌, ◌^◌, inl, inr, arith, refl, pos, ◌-ℤ◌}
use Rattle.std.specs.Int.{w8, w16, cast_signed}
use Rattle.std.proofs.lemmas.Int.{ints}
use Rattle.std.proofs.lemmas.Bool.{cases_lt, lt-ltb, le-ltb}
use Rattle.binfarce_bytes.specs.Number.{signed}

low_8 : (n : ℕ) → 2 * n < 256 → cast_signed w8 n ≡ pos n
low_8 n low = omega (arith, ints)

high_8 : (n : ℕ) → n < 256 → 128 ≤ n → cast_signed w8 n ≡ (pos n -ℤ pos 256)
high_8 n fits high = rw (le-ltb n 128 high, lt-ltb n 256 fits) refl

low_16 : (n : ℕ) → 2 * n < 65536 → cast_signed w16 n ≡ pos n
low_16 n low = omega (arith, ints)

high_16 : (n : ℕ) → n < 65536 → 32768 ≤ n → cast_signed w16 n ≡ (pos n -ℤ pos 65536)
high_16 n fits high = rw (le-ltb n 32768 high, lt-ltb n 65536 fits) refl

pub signed_8 : (n : ℕ) → n < 2 ^ 8 → cast_signed w8 n ≡ signed 1 n
unfolding signed
signed_8 n fits =
    elim (cases_lt (2 * n) (256 ^ 1)) [
      | inl low ↦ rw (lt-ltb (2 * n) (256 ^ 1) low) (low_8 n low)
      | inr high ↦ rw (le-ltb (2 * n) (256 ^ 1) high) (high_8 n fits (omega arith))
    ]

pub signed_16 : (n : ℕ) → n < 2 ^ 16 → cast_signed w16 n ≡ signed 2 n
unfolding signed
signed_16 n fits =
    elim (cases_lt (2 * n) (256 ^ 2)) [
      | inl low ↦ rw (lt-ltb (2 * n) (256 ^ 2) low) (low_16 n low)
      | inr high ↦ rw (le-ltb (2 * n) (256 ^ 2) high) (high_16 n fits (omega arith))
    ]
