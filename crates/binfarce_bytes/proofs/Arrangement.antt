-- Rows whose numbers rise have an arrangement that rises strictly.
use Rattle.std.proofs.Common.{◌≡◌, ℕ, zero, suc, ◌+◌, ◌<◌, Bool, true, false, cond, ◌&&◌, ◌||◌, List, [], ◌∷◌, length, get_or, All, refl, arith, nat_lt, nat_eq}
use Rattle.std.proofs.lemmas.Bool.Decides.{nat_tests}
use Rattle.std.proofs.lemmas.List.Elements.{All-nil, All-cons, All-head, All-tail, All-weaker}
use Rattle.std.proofs.lemmas.List.Sorted.{All-permutation}
use Rattle.binfarce_bytes.specs.Sizes.{RowAddress, comes_before, put_in, arranged, IsArrangementOf}
use Rattle.binfarce_bytes.proofs.Arranging.{put_in_all, arranged_same, is_order}

-- each comes before all later ones
abbrev pub Strict : List RowAddress → Type 0
Strict [] = Unit {0}
Strict (x ∷ xs) = All (λ y. comes_before x y ≡ true) xs × Strict xs

-- the numbers rise
abbrev pub Rising : List RowAddress → Type 0
Rising [] = Unit {0}
Rising (x ∷ xs) = All (λ y. x.row < y.row) xs × Rising xs

-- of two different rows one comes first
other_way : (x y : RowAddress) → x.row < y.row → comes_before y x ≡ false → comes_before x y ≡ true
other_way x y lt e = other_way_at x.address y.address x.row y.row lt e
  where
    other_way_at : (a b r s : ℕ) → r < s → (nat_lt b a || (nat_eq b a && nat_lt s r)) ≡ false → (nat_lt a b || (nat_eq a b && nat_lt r s)) ≡ true
    other_way_at a b r s lt e = grind (arith, nat_tests)

through : (x y z : RowAddress) → comes_before x y ≡ true → comes_before y z ≡ true → comes_before x z ≡ true
through x y z e f = by_test (comes_before x z) refl
  where
    by_test : (b : Bool) → comes_before x z ≡ b → b ≡ true
    by_test true g = refl
    by_test false g = let back = is_order.chain x z y g (is_order.one_way y z f) in absurd cc

put_in_strict : (x : RowAddress) (ys : List RowAddress) → All (λ y. x.row < y.row) ys → Strict ys → Strict (put_in x ys)
put_in_strict x [] rows up = (All-nil _, tt)
put_in_strict x (y ∷ ys) rows up = by_test (comes_before y x) refl (put_in_strict x ys (All-tail (λ y. x.row < y.row) y ys rows) up.1)
  where
    by_test : (b : Bool) → comes_before y x ≡ b → Strict (put_in x ys) → Strict (cond b (y ∷ put_in x ys) (x ∷ y ∷ ys))
    by_test true e rest = (put_in_all (λ z. comes_before y z ≡ true) x ys e up.0, rest)
    by_test false e rest =
        let first : comes_before x y ≡ true = other_way x y (All-head (λ y. x.row < y.row) y ys rows) e in
        (All-cons (λ z. comes_before x z ≡ true) y ys first (All-weaker (λ z. comes_before y z ≡ true) (λ z. comes_before x z ≡ true) (λ z f. through x y z first f) ys up.0), up)

arranged_strict : (xs : List RowAddress) → Rising xs → Strict (arranged xs)
unfolding arranged
arranged_strict [] up = tt
arranged_strict (x ∷ xs) up =
    put_in_strict x (arranged xs) (All-permutation (λ y. x.row < y.row) xs (arranged xs) (arranged_same xs) up.0) (arranged_strict xs up.1)

rises_at : (xs : List RowAddress) → Strict xs → (k j : ℕ) (d : RowAddress) → j ≡ suc k → j < length xs → comes_before (get_or xs k d) (get_or xs j d) ≡ true
rises_at [] up k j d next within = absurd (omega arith)
rises_at (x ∷ xs) up k zero d next within = absurd (omega arith)
rises_at (x ∷ xs) up zero (suc j) d next within = up.0 j d (omega arith)
rises_at (x ∷ xs) up (suc k) (suc j) d next within = rises_at xs up.1 k j d (omega arith) (omega arith)

-- rows whose numbers rise have an arrangement that rises strictly
pub arrangement_of : (xs : List RowAddress) → Rising xs → IsArrangementOf xs (arranged xs)
arrangement_of xs up = record {
  same = arranged_same xs;
  rises = λ k d lt. rises_at (arranged xs) (arranged_strict xs up) k (k + 1) d (omega arith) lt;
}
