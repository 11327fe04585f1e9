-- Whether lists have an element.
use Rattle.std.proofs.Common.{◌≡◌, ◌≢◌, ℕ, zero, suc, ◌+◌, ◌<◌, true, false, nat_lt, List, [], ◌∷◌, ◌++◌, length, refl, sym, ap, subst, ◌∙◌, arith}
use Rattle.std.specs.List.{range_with_len, flat_map}
use Rattle.std.proofs.lemmas.Bool.{lt-ltb, true≢false}

append_some : {A : Type 0} (xs ys : List A) → ys ≢ [] → xs ++ ys ≢ []
append_some [] ys some none = some none
append_some (x ∷ xs) ys some none = cc

some_append : {A : Type 0} (xs ys : List A) → xs ≢ [] → xs ++ ys ≢ []
some_append [] ys some none = some refl
some_append (x ∷ xs) ys some none = cc

-- where one of the lists has an element, all together have one
pub some_listed : {A : Type 0} (f : ℕ → List A) (a n i : ℕ) → i < n → f (a + i) ≢ [] → flat_map f (range_with_len a n) ≢ []
some_listed f a zero i lt some = absurd (omega arith)
some_listed f a (suc n) zero lt some =
    let here : f a ≢ [] = subst (λ (m : ℕ). f m ≢ []) (omega arith) some in
    some_append (f a) (flat_map f (range_with_len (a + 1) n)) here
some_listed f a (suc n) (suc i) lt some =
    let there : f (a + 1 + i) ≢ [] = subst (λ (m : ℕ). f m ≢ []) (omega arith) some in
    append_some (f a) (flat_map f (range_with_len (a + 1) n)) (some_listed f (a + 1) n i (omega arith) there)

-- if none has an element, all together have none
pub none_listed : {A : Type 0} (f : ℕ → List A) (a n : ℕ) → ((i : ℕ) → i < n → f (a + i) ≡ []) → flat_map f (range_with_len a n) ≡ []
none_listed f a zero none = refl
none_listed f a (suc n) none =
    let here : f a ≡ [] = subst (λ (m : ℕ). f m ≡ []) (omega arith) (none 0 (omega arith)) in
    rw here (none_listed f (a + 1) n (λ i lt. subst (λ (m : ℕ). f m ≡ []) (omega arith) (none (suc i) (omega arith))))

-- whether a list has an element
pub has_some : {X : Type 0} (xs : List X) → xs ≢ [] → true ≡ nat_lt 0 (length xs)
has_some [] some = absurd (some refl)
has_some (x ∷ xs) some = sym (lt-ltb 0 (length (x ∷ xs)) (omega arith))

pub has_none : {X : Type 0} (xs : List X) → xs ≡ [] → false ≡ nat_lt 0 (length xs)
has_none xs none = ap (λ (xs : List _). nat_lt 0 (length xs)) (sym none)

pub some_of : {X : Type 0} (xs : List X) → true ≡ nat_lt 0 (length xs) → xs ≢ []
some_of xs has none = true≢false (has ∙ sym (has_none xs none))

pub none_of : {X : Type 0} (xs : List X) → false ≡ nat_lt 0 (length xs) → xs ≡ []
none_of [] has = refl
none_of (x ∷ xs) has = absurd (true≢false (has_some (x ∷ xs) (λ e. cc) ∙ sym has))
