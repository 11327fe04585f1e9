-- Numbers in decimal digits.
use Rattle.std.proofs.Common.{◌≡◌, ℕ, ◌<◌, ◌^◌, Bool, ◌&&◌, true, false, List, [], ◌∷◌, length, Result, Ok, Err, Some, None, if◌then◌else◌, refl, sym, ap}
use Rattle.std.proofs.lemmas.Bool.{lt-ltb, ltb-true}
use Rattle.std.specs.Char.{digit_value}
use Rattle.std.specs.List.{list_all}
use Rattle.std.specs.Prelude.{nat_lt}
use Rattle.std.specs.Result.{OkIff, result_ok}
use Rattle.std.specs.Str.Parse.{AllDigits, IsNumeral, digits_value}
use Rattle.binfarce_words.specs.Words.{count_of}

abbrev is_digit : ℕ → Bool
is_digit c = nat_lt (digit_value c) 10

both : (a b : Bool) → (a && b) ≡ true → (a ≡ true) × (b ≡ true)
both true b e = (refl, e)
both false b e = absurd cc

are_digits : (ds : List ℕ) → list_all is_digit ds ≡ true → AllDigits 10 ds
are_digits [] e = tt
are_digits (d ∷ ds) e = let parts = both (is_digit d) (list_all is_digit ds) e in (ltb-true (digit_value d) 10 parts.0, are_digits ds parts.1)

all_pass : (ds : List ℕ) → AllDigits 10 ds → list_all is_digit ds ≡ true
all_pass [] all = refl
all_pass (d ∷ ds) all = rw (lt-ltb (digit_value d) 10 all.0) (all_pass ds all.1)

-- what `parse` gives is the number that the digits write
pub count_is : {E : Type 0} (ds : List ℕ) (r : Result ℕ E) → OkIff r (IsNumeral 10 ds × (digits_value 10 ds < 2 ^ 64)) (digits_value 10 ds) → result_ok r ≡ count_of ds
count_is ds (Ok n) is = rw (lt-ltb 0 (length ds) is.0.0.0, all_pass ds is.0.0.1, lt-ltb (digits_value 10 ds) (2 ^ 64) is.0.1) (ap (λ (m : ℕ). Some m) is.1)
count_is ds (Err e) isnt = sym (by_test (nat_lt 0 (length ds) && (list_all is_digit ds && nat_lt (digits_value 10 ds) (2 ^ 64))) refl)
  where
    by_test : (b : Bool) → (nat_lt 0 (length ds) && (list_all is_digit ds && nat_lt (digits_value 10 ds) (2 ^ 64))) ≡ b → (if b then Some (digits_value 10 ds) else None) ≡ None
    by_test true e =
        let first = both (nat_lt 0 (length ds)) (list_all is_digit ds && nat_lt (digits_value 10 ds) (2 ^ 64)) e in
        let second = both (list_all is_digit ds) (nat_lt (digits_value 10 ds) (2 ^ 64)) first.1 in
        absurd (isnt ((ltb-true 0 (length ds) first.0, are_digits ds second.0), ltb-true (digits_value 10 ds) (2 ^ 64) second.1))
    by_test false e = refl
