-- The least member above: its meaning, that it is a member, and its position among rising addresses.
use Rattle.std.proofs.Common.{◌≡◌, ℕ, suc, ◌<◌, ◌≤◌, Bool, true, false, cond, inl, inr, List, [], ◌∷◌, All, Contains, filter, Option, Some, None, min, nat_lt, refl, sym, ap, subst, arith, IsPermutation}
use Rattle.std.proofs.lemmas.Bool.{ltb-true, ltb-false, cases_lt}
use Rattle.std.proofs.lemmas.List.Elements.{All-nil, All-cons, All-weaker, All-contains}
use Rattle.std.proofs.lemmas.List.Sorted.{All-permutation, Contains-permutation, IsPermutation-map}
use Rattle.binfarce_bytes.specs.Sizes.{RowAddress, arranged, addresses_of, least, least_of, least_above}
use Rattle.binfarce_bytes.proofs.Arranging.{arranged_same}

-- b is a member above a, and no member above a is less
pub record IsLeastAbove (members : List ℕ) (a b : ℕ) : Type 0 where
  pub member : Contains members b
  pub above : a < b
  pub least : All (λ c. a < c → b ≤ c) members

-- what `least_above` says: the least member above a, or that there is none
abbrev pub LeastAbove : List ℕ → ℕ → Option ℕ → Type 0
LeastAbove members a (Some b) = IsLeastAbove members a b
LeastAbove members a None = All (λ c. c ≤ a) members

behind_first : (x b : ℕ) (xs : List ℕ) → Contains xs b → Contains (x ∷ xs) b
behind_first x b xs c = (suc c.0, omega (arith, c.1), c.2)

-- a member that isn't above changes nothing
not_above : (x a : ℕ) (xs : List ℕ) (o : Option ℕ) → x ≤ a → LeastAbove xs a o → LeastAbove (x ∷ xs) a o
not_above x a xs None le none = All-cons (λ c. c ≤ a) x xs le none
not_above x a xs (Some b) le is = record {
  member = behind_first x b xs is.member;
  above = is.above;
  least = All-cons (λ c. a < c → b ≤ c) x xs (λ lt. absurd (omega arith)) is.least;
}

-- a member above is the least, or what was
above_too : (x a : ℕ) (xs : List ℕ) (o : Option ℕ) → a < x → LeastAbove xs a o → IsLeastAbove (x ∷ xs) a (least_of x o)
above_too x a xs None lt none = record {
  member = (0, omega arith, refl);
  above = lt;
  least = All-cons (λ c. a < c → x ≤ c) x xs (λ _. omega arith) (All-weaker (λ c. c ≤ a) (λ c. a < c → x ≤ c) (λ c le lt'. absurd (omega arith)) xs none);
}
above_too x a xs (Some b) lt is = elim (cases_lt b x) [
  | inl less ↦ let m : min x b ≡ b = omega arith in subst (λ (n : ℕ). IsLeastAbove (x ∷ xs) a n) (sym m) (record {
    member = behind_first x b xs is.member;
    above = is.above;
    least = All-cons (λ c. a < c → b ≤ c) x xs (λ _. omega arith) is.least;
  })
  | inr least' ↦ let m : min x b ≡ x = omega arith in subst (λ (n : ℕ). IsLeastAbove (x ∷ xs) a n) (sym m) (record {
    member = (0, omega arith, refl);
    above = lt;
    least = All-cons (λ c. a < c → x ≤ c) x xs (λ _. omega arith) (All-weaker (λ c. a < c → b ≤ c) (λ c. a < c → x ≤ c) (λ c h lt'. let le : b ≤ c = h lt' in omega arith) xs is.least);
  })
]

-- the least member above is what its name says
pub least_above_is : (xs : List ℕ) (a : ℕ) → LeastAbove xs a (least_above xs a)
unfolding least_above
least_above_is [] a = All-nil (λ c. c ≤ a)
least_above_is (x ∷ xs) a = by_test (nat_lt a x) refl (least_above_is xs a)
  where
    by_test : (b : Bool) → nat_lt a x ≡ b → LeastAbove xs a (least (filter (λ b. nat_lt a b) xs)) → LeastAbove (x ∷ xs) a (least (cond b (x ∷ filter (λ b. nat_lt a b) xs) (filter (λ b. nat_lt a b) xs)))
    by_test true e rest = above_too x a xs (least (filter (λ b. nat_lt a b) xs)) (ltb-true a x e) rest
    by_test false e rest = not_above x a xs (least (filter (λ b. nat_lt a b) xs)) (ltb-false a x e) rest

pub above_less : (xs : List ℕ) (a n : ℕ) → least_above xs a ≡ Some n → a < n
above_less xs a n e = let is : LeastAbove xs a (Some n) = rw e at (least_above_is xs a) in is.above

none_of : (xs : List ℕ) (a b : ℕ) → IsLeastAbove xs a b → All (λ c. c ≤ a) xs → ⊥
none_of xs a b is none =
    let le : b ≤ a = All-contains (λ c. c ≤ a) xs b none is.member in
    let lt = is.above in
    omega arith

one_least : (xs : List ℕ) (a b c : ℕ) → IsLeastAbove xs a b → IsLeastAbove xs a c → b ≡ c
one_least xs a b c is also =
    let le : b ≤ c = All-contains (λ c. a < c → b ≤ c) xs c is.least also.member also.above in
    let ge : c ≤ b = All-contains (λ b. a < b → c ≤ b) xs b also.least is.member is.above in
    omega arith

-- and there is no other
pub one_above : (xs : List ℕ) (a : ℕ) (o p : Option ℕ) → LeastAbove xs a o → LeastAbove xs a p → o ≡ p
one_above xs a None None is also = refl
one_above xs a None (Some c) is also = absurd (none_of xs a c also is)
one_above xs a (Some b) None is also = absurd (none_of xs a b is also)
one_above xs a (Some b) (Some c) is also = ap Some (one_least xs a b c is also)

pub above_is : (xs : List ℕ) (a : ℕ) (o : Option ℕ) → LeastAbove xs a o → o ≡ least_above xs a
above_is xs a o is = one_above xs a o (least_above xs a) is (least_above_is xs a)

moved : (xs ys : List ℕ) (a : ℕ) (o : Option ℕ) → IsPermutation xs ys → LeastAbove xs a o → LeastAbove ys a o
moved xs ys a None same none = All-permutation (λ c. c ≤ a) xs ys same none
moved xs ys a (Some b) same is = record {
  member = Contains-permutation xs ys b same is.member;
  above = is.above;
  least = All-permutation (λ c. a < c → b ≤ c) xs ys same is.least;
}

-- it is said of a set: an arrangement has the same
pub arranged_above : (rows : List RowAddress) (a : ℕ) → least_above (addresses_of (arranged rows)) a ≡ least_above (addresses_of rows) a
arranged_above rows a =
    let same : IsPermutation (addresses_of rows) (addresses_of (arranged rows)) = IsPermutation-map (λ r. r.address) rows (arranged rows) (arranged_same rows) in
    sym (above_is (addresses_of (arranged rows)) a (least_above (addresses_of rows) a) (moved (addresses_of rows) (addresses_of (arranged rows)) a (least_above (addresses_of rows) a) same (least_above_is (addresses_of rows) a)))
