-- The steps of the search among section headers, and among the entries of a debug directory.
use Rattle.std.proofs.Common.{◌≡◌, ℕ, zero, suc, ◌+◌, ◌-◌, ◌*◌, ◌<◌, true, false, List, Option, Some, None, refl, arith}
use Rattle.std.specs.Option.{is_some}
use Rattle.binfarce_identity.specs.PeIdentity.{Place, data_from, data_in, offset_from, offset_in, or_later}

less : (n : ℕ) → suc n - 1 ≡ n
less n = omega arith

taken : {A : Type 0} (o later : Option A) → is_some o ≡ true → or_later o later ≡ o
taken (Some x) later is = refl
taken None later is = absurd cc

skipped : {A : Type 0} (o later : Option A) → is_some o ≡ false → or_later o later ≡ later
skipped (Some x) later is = absurd cc
skipped None later is = refl

module _ (headers : List ℕ) (place : Place) where
  pub no_section : (n index : ℕ) → n ≡ 0 → offset_from headers place n index ≡ None
  unfolding offset_from
  no_section zero index e = refl
  no_section (suc n) index e = absurd (omega arith)

  pub this_section : (n index : ℕ) → 0 < n → is_some (offset_in headers place (index * 40)) ≡ true → offset_from headers place n index ≡ offset_in headers place (index * 40)
  unfolding offset_from
  this_section zero index some is = absurd (omega arith)
  this_section (suc n) index some is = taken (offset_in headers place (index * 40)) (offset_from headers place n (index + 1)) is

  pub later_section : (n index : ℕ) → 0 < n → is_some (offset_in headers place (index * 40)) ≡ false → offset_from headers place n index ≡ offset_from headers place (n - 1) (index + 1)
  unfolding offset_from
  later_section zero index some is = absurd (omega arith)
  later_section (suc n) index some is = rw (less n) (skipped (offset_in headers place (index * 40)) (offset_from headers place n (index + 1)) is)

module _ (entries : List ℕ) where
  pub no_entry : (n index : ℕ) → n ≡ 0 → data_from entries n index ≡ None
  unfolding data_from
  no_entry zero index e = refl
  no_entry (suc n) index e = absurd (omega arith)

  pub this_entry : (n index : ℕ) → 0 < n → is_some (data_in entries (index * 28)) ≡ true → data_from entries n index ≡ data_in entries (index * 28)
  unfolding data_from
  this_entry zero index some is = absurd (omega arith)
  this_entry (suc n) index some is = taken (data_in entries (index * 28)) (data_from entries n (index + 1)) is

  pub later_entry : (n index : ℕ) → 0 < n → is_some (data_in entries (index * 28)) ≡ false → data_from entries n index ≡ data_from entries (n - 1) (index + 1)
  unfolding data_from
  later_entry zero index some is = absurd (omega arith)
  later_entry (suc n) index some is = rw (less n) (skipped (data_in entries (index * 28)) (data_from entries n (index + 1)) is)
