-- Rows in order: each list of rows has one arrangement.
use Rattle.std.proofs.Common.{◌≡◌, ℕ, suc, ◌<◌, ◌≤◌, Bool, true, false, cond, ◌&&◌, ◌||◌, List, [], ◌∷◌, length, get_or, All, ◌⊎◌, inl, inr, refl, sym, ap, ◌∙◌, arith, nat_lt, nat_eq, nat_cmp, is_lt, IsPermutation}
use Rattle.std.specs.Cmp.{IsStrictWeakOrder}
use Rattle.std.specs.List.{sum_by}
use Rattle.std.specs.List.Sorted.{IsSortedBy, IsNonDecreasingBy}
use Rattle.std.specs.Ordering.{ordering_then}
use Rattle.std.proofs.lemmas.Bool.Decides.{nat_tests}
use Rattle.std.proofs.lemmas.List.Elements.{All-nil, All-cons, All-head, All-tail, All-weaker}
use Rattle.std.proofs.lemmas.List.Sorted.{sorted_far, sum_by-IsPermutation, IsPermutation-refl, IsPermutation-sym, IsPermutation-cons, IsPermutation-trans, IsPermutation-middle}
use Rattle.std.proofs.lemmas.List.Sums.{sum_by-cons}
use Rattle.binfarce_bytes.specs.Sizes.{RowAddress, comes_before, put_in, arranged}

before_means : (a b r s : ℕ) → (nat_lt a b || (nat_eq a b && nat_lt r s)) ≡ true → (a < b) ⊎ ((a ≡ b) × (r < s))
before_means a b r s e = grind (arith, nat_tests)

not_before_means : (a b r s : ℕ) → (nat_lt a b || (nat_eq a b && nat_lt r s)) ≡ false → (b < a) ⊎ ((a ≡ b) × (s ≤ r))
not_before_means a b r s e = grind (arith, nat_tests)

not_before_from : (a b r s : ℕ) → (b < a) ⊎ ((a ≡ b) × (s ≤ r)) → (nat_lt a b || (nat_eq a b && nat_lt r s)) ≡ false
not_before_from a b r s h = grind (arith, nat_tests)

-- the derived comparison is the test
pub lt_is : (x y : RowAddress) → is_lt (ordering_then (nat_cmp x.address y.address) (nat_cmp x.row y.row)) ≡ comes_before x y
lt_is x y = lt_is_at x.address y.address x.row y.row
  where
    lt_is_at : (a b r s : ℕ) → is_lt (ordering_then (nat_cmp a b) (nat_cmp r s)) ≡ (nat_lt a b || (nat_eq a b && nat_lt r s))
    lt_is_at a b r s = grind (arith, nat_tests)

one_way : (x y : RowAddress) → comes_before x y ≡ true → comes_before y x ≡ false
one_way x y e = not_before_from y.address x.address y.row x.row (elim (before_means x.address y.address x.row y.row e) [ inl lt ↦ inl lt | inr same ↦ inr (sym same.0, omega arith) ])

chain : (x y z : RowAddress) → comes_before x y ≡ false → comes_before y z ≡ false → comes_before x z ≡ false
chain x y z e f = not_before_from x.address z.address x.row z.row (chained (not_before_means x.address y.address x.row y.row e) (not_before_means y.address z.address y.row z.row f))
  where
    chained : (y.address < x.address) ⊎ ((x.address ≡ y.address) × (y.row ≤ x.row)) → (z.address < y.address) ⊎ ((y.address ≡ z.address) × (z.row ≤ y.row)) → (z.address < x.address) ⊎ ((x.address ≡ z.address) × (z.row ≤ x.row))
    chained (inl p) (inl q) = inl (omega arith)
    chained (inl p) (inr q) = inl (omega (arith, q.0))
    chained (inr p) (inl q) = inl (omega (arith, p.0))
    chained (inr p) (inr q) = inr (p.0 ∙ q.0, omega (arith, p.1, q.1))

pub is_order : IsStrictWeakOrder comes_before
is_order = record { one_way = one_way; chain = chain }

same_row : (x y : RowAddress) → x.address ≡ y.address → x.row ≡ y.row → x ≡ y
same_row x y p q =
    let first : x ≡ record { address = y.address; row = x.row } = ap (λ (n : ℕ). record { address = n; row = x.row }) p in
    first ∙ ap (λ (n : ℕ). record { address = y.address; row = n }) q

-- of two rows of which neither comes first, there is one
pub tied : (x y : RowAddress) → comes_before x y ≡ false → comes_before y x ≡ false → x ≡ y
tied x y e f = ties (not_before_means x.address y.address x.row y.row e) (not_before_means y.address x.address y.row x.row f)
  where
    ties : (y.address < x.address) ⊎ ((x.address ≡ y.address) × (y.row ≤ x.row)) → (x.address < y.address) ⊎ ((y.address ≡ x.address) × (x.row ≤ y.row)) → x ≡ y
    ties (inl p) (inl q) = absurd (omega arith)
    ties (inl p) (inr q) = absurd (omega (arith, q.0))
    ties (inr p) (inl q) = absurd (omega (arith, p.0))
    ties (inr p) (inr q) = same_row x y p.0 (omega (arith, p.1, q.1))

-- none comes before an earlier one
abbrev pub InOrder : List RowAddress → Type 0
InOrder [] = Unit {0}
InOrder (x ∷ xs) = All (λ y. comes_before y x ≡ false) xs × InOrder xs

in_order_from : (xs : List RowAddress) → ((i j : ℕ) (d : RowAddress) → i ≤ j → j < length xs → comes_before (get_or xs j d) (get_or xs i d) ≡ false) → InOrder xs
in_order_from [] far = tt
in_order_from (x ∷ xs) far =
    ((λ k d lt. far 0 (suc k) d (omega arith) (omega arith)), in_order_from xs (λ i j d le lt. far (suc i) (suc j) d (omega arith) (omega arith)))

-- as a sort leaves them
pub in_order : (xs : List RowAddress) → IsSortedBy comes_before xs → InOrder xs
in_order xs up = in_order_from xs (sorted_far comes_before is_order xs up)

pub put_in_all : (P : RowAddress → Type 0) (x : RowAddress) (ys : List RowAddress) → P x → All P ys → All P (put_in x ys)
put_in_all P x [] p all = All-cons P x [] p all
put_in_all P x (y ∷ ys) p all = by_test (comes_before y x) (put_in_all P x ys p (All-tail P y ys all))
  where
    by_test : (b : Bool) → All P (put_in x ys) → All P (cond b (y ∷ put_in x ys) (x ∷ y ∷ ys))
    by_test true behind = All-cons P y (put_in x ys) (All-head P y ys all) behind
    by_test false behind = All-cons P x (y ∷ ys) p all

put_in_in_order : (x : RowAddress) (ys : List RowAddress) → InOrder ys → InOrder (put_in x ys)
put_in_in_order x [] up = (All-nil _, tt)
put_in_in_order x (y ∷ ys) up = by_test (comes_before y x) refl (put_in_in_order x ys up.1)
  where
    by_test : (b : Bool) → comes_before y x ≡ b → InOrder (put_in x ys) → InOrder (cond b (y ∷ put_in x ys) (x ∷ y ∷ ys))
    by_test true e behind = (put_in_all (λ z. comes_before z y ≡ false) x ys (one_way y x e) up.0, behind)
    by_test false e behind = (All-cons (λ z. comes_before z x ≡ false) y ys e (All-weaker (λ z. comes_before z y ≡ false) (λ z. comes_before z x ≡ false) (λ z f. chain z y x f e) ys up.0), up)

pub arranged_in_order : (xs : List RowAddress) → InOrder (arranged xs)
unfolding arranged
arranged_in_order [] = tt
arranged_in_order (x ∷ xs) = put_in_in_order x (arranged xs) (arranged_in_order xs)

put_in_same : (x : RowAddress) (ys : List RowAddress) → IsPermutation (x ∷ ys) (put_in x ys)
put_in_same x [] = IsPermutation-refl (x ∷ [])
put_in_same x (y ∷ ys) = by_test (comes_before y x) (put_in_same x ys)
  where
    by_test : (b : Bool) → IsPermutation (x ∷ ys) (put_in x ys) → IsPermutation (x ∷ y ∷ ys) (cond b (y ∷ put_in x ys) (x ∷ y ∷ ys))
    by_test true behind = IsPermutation-trans (x ∷ y ∷ ys) (y ∷ x ∷ ys) (y ∷ put_in x ys) (IsPermutation-sym (y ∷ x ∷ ys) (x ∷ y ∷ ys) (IsPermutation-middle (y ∷ []) x ys)) (IsPermutation-cons y (x ∷ ys) (put_in x ys) behind)
    by_test false behind = IsPermutation-refl (x ∷ y ∷ ys)

-- an arrangement has the same rows
pub arranged_same : (xs : List RowAddress) → IsPermutation xs (arranged xs)
unfolding arranged
arranged_same [] = IsPermutation-refl []
arranged_same (x ∷ xs) = IsPermutation-trans (x ∷ xs) (x ∷ arranged xs) (put_in x (arranged xs)) (IsPermutation-cons x xs (arranged xs) (arranged_same xs)) (put_in_same x (arranged xs))

-- the same elements, as every sum sees them
abbrev SameSums : List RowAddress → List RowAddress → Type 0
SameSums xs ys = (f : RowAddress → ℕ) → sum_by f xs ≡ sum_by f ys

-- 1 for what comes before x
abbrev counts : RowAddress → RowAddress → ℕ
counts x z = cond (comes_before z x) 1 0

sum_none : (x : RowAddress) (xs : List RowAddress) → All (λ y. comes_before y x ≡ false) xs → sum_by (counts x) xs ≡ 0
sum_none x [] none = refl
sum_none x (y ∷ ys) none =
    sum_by-cons (counts x) y ys ∙ rw (All-head (λ y. comes_before y x ≡ false) y ys none) (omega (arith, sum_none x ys (All-tail (λ y. comes_before y x ≡ false) y ys none)))

irreflexive : (x : RowAddress) → comes_before x x ≡ false
irreflexive x = not_before_from x.address x.address x.row x.row (inr (refl, omega arith))

-- a first element in order has none before it in another list with the same elements
none_first : (x y : RowAddress) (xs ys : List RowAddress) → All (λ z. comes_before z x ≡ false) xs → SameSums (x ∷ xs) (y ∷ ys) → comes_before y x ≡ false
none_first x y xs ys first same = by_test (comes_before y x) refl
  where
    by_test : (b : Bool) → comes_before y x ≡ b → b ≡ false
    by_test false e = refl
    by_test true e =
        let nothing : sum_by (counts x) (x ∷ xs) ≡ 0 = sum_none x (x ∷ xs) (All-cons (λ z. comes_before z x ≡ false) x xs (irreflexive x) first) in
        let one : counts x y ≡ 1 = rw e refl in
        absurd (omega (arith, nothing, same (counts x), sum_by-cons (counts x) y ys, one))

-- two lists in order with the same elements are one
pub one_order : (xs ys : List RowAddress) → InOrder xs → InOrder ys → SameSums xs ys → xs ≡ ys
one_order [] [] up up' same = refl
one_order [] (y ∷ ys) up up' same = absurd (omega (arith, same (λ _. 1), sum_by-cons (λ _. 1) y ys))
one_order (x ∷ xs) [] up up' same = absurd (omega (arith, same (λ _. 1), sum_by-cons (λ _. 1) x xs))
one_order (x ∷ xs) (y ∷ ys) up up' same =
    let heads : x ≡ y = tied x y (none_first y x ys xs up'.0 (λ f. sym (same f))) (none_first x y xs ys up.0 same) in
    let tails : xs ≡ ys = one_order xs ys up.1 up'.1 (λ f. omega (arith, same f, sum_by-cons f x xs, sum_by-cons f y ys, ap f heads)) in
    cc

-- a sorted list with the same rows is the arrangement
pub arrangement_is : (xs ys : List RowAddress) → IsPermutation xs ys → IsSortedBy comes_before ys → ys ≡ arranged xs
arrangement_is xs ys same up =
    one_order ys (arranged xs) (in_order ys up) (arranged_in_order xs) (λ f. sum_by-IsPermutation f xs ys same ∙ sym (sum_by-IsPermutation f xs (arranged xs) (arranged_same xs)))

-- rows in order have addresses that don't fall
pub addresses_rise : (xs : List RowAddress) → IsSortedBy comes_before xs → IsNonDecreasingBy (λ r. r.address) xs
addresses_rise xs up i j d le lt = no_fall (get_or xs i d) (get_or xs j d) (sorted_far comes_before is_order xs up i j d le lt)
  where
    no_fall : (x y : RowAddress) → comes_before y x ≡ false → x.address ≤ y.address
    no_fall x y e = elim (not_before_means y.address x.address y.row x.row e) [ inl lt ↦ omega arith | inr same ↦ omega (arith, same.0) ]
