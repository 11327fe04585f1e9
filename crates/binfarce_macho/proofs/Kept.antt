-- What is kept of rows up to a refusal, as a loop goes over them.
use Rattle.std.proofs.Common.{◌≡◌, ◌≢◌, ℕ, suc, ◌+◌, ◌<◌, Bool, true, false, cond, not, nat_eq, List, [], ◌∷◌, ◌++◌, length, get_or, take, drop, map, Option, Some, None, Result, Ok, Err, refl, sym, ap, ◌∙◌, arith, drop-cons}
use Rattle.std.specs.List.{range_with_len, filter_map, cons_option}
use Rattle.std.proofs.lemmas.List.{append-nil, take_more, take-append-drop}
use Rattle.std.proofs.lemmas.Bool.{not-true, not-false}
use Rattle.binfarce_bytes.specs.Refusal.{◌>>=◌, Refusal}
use Rattle.binfarce_macho.specs.MachoSymbols.{kept, symbol_of, address_of}
use Rattle.binfarce_bytes.specs.Sizes.{RowAddress}
use Rattle.binfarce_macho.proofs.Walks.{kept_after}
use Rattle.binfarce_bytes.proofs.Rows.{one_more}

-- some row below n is kept
pub some_kept : {X : Type 0} (f : ℕ → Option X) (n k : ℕ) (x : X) → f k ≡ Some x → k < n → filter_map f (range_with_len 0 n) ≢ []
some_kept {X} f n k x some lt none =
    let b = kept_after f n k lt in
    not_nothing (filter_map f (range_with_len 0 k)) x b.0 (ap (λ (o : Option _). filter_map f (range_with_len 0 k) ++ cons_option o b.0) (sym some) ∙ sym b.1 ∙ none)
  where
    not_nothing : (xs : List X) (x : X) (ys : List X) → xs ++ x ∷ ys ≡ [] → ⊥
    not_nothing [] x ys e = cc
    not_nothing (z ∷ zs) x ys e = cc

-- what row k adds to numbered rows
pub added_some : {X : Type 0} (f : ℕ → Option X) (k : ℕ) (x : X) → f k ≡ Some x → filter_map f (range_with_len 0 (k + 1)) ≡ filter_map f (range_with_len 0 k) ++ x ∷ []
added_some f k x some = one_more f k ∙ rw some refl

pub added_none : {X : Type 0} (f : ℕ → Option X) (k : ℕ) → f k ≡ None → filter_map f (range_with_len 0 (k + 1)) ≡ filter_map f (range_with_len 0 k)
added_none f k none = one_more f k ∙ rw none (append-nil (filter_map f (range_with_len 0 k)))

-- the address of a row whose value was read
pub address_some : (rows : List ℕ) (k v : ℕ) → v ≡ (symbol_of rows k).value → not (nat_eq v 0) ≡ true → address_of rows k ≡ Some (record { address = v; row = k })
address_some rows k v e some = rw (← e, not-true (nat_eq v 0) some) refl

pub address_none : (rows : List ℕ) (k v : ℕ) → v ≡ (symbol_of rows k).value → not (nat_eq v 0) ≡ false → address_of rows k ≡ None
address_none rows k v e none = rw (← e, not-false (nat_eq v 0) none) refl

-- the number of a row that is kept
pub address_row : (rows : List ℕ) (k : ℕ) (x : RowAddress) → address_of rows k ≡ Some x → x.row ≡ k
address_row rows k x e = by_test (nat_eq (symbol_of rows k).value 0) e
  where
    by_test : (b : Bool) → cond b None (Some (record { address = (symbol_of rows k).value; row = k })) ≡ Some x → x.row ≡ k
    by_test true e = absurd cc
    by_test false e = let same : record { address = (symbol_of rows k).value; row = k } ≡ x = cc in ap (λ (r : RowAddress). r.row) (sym same)

pub empty : {X : Type 0} (xs : List X) → length xs ≡ 0 → xs ≡ []
empty [] e = refl
empty (x ∷ xs) e = absurd (omega arith)

module _ {Y : Type 0} where
  in_front : (y : Option Y) (us bs : List Y) → cons_option y (us ++ bs) ≡ cons_option y us ++ bs
  in_front None us bs = refl
  in_front (Some y) us bs = refl

  bound_append : (r : Result (Option Y) Refusal) (s t : Result (List Y) Refusal) (us bs : List Y)
      → (r >>= λ y. s >>= λ ys. Ok (cons_option y ys)) ≡ Ok us → ((front : List Y) → s ≡ Ok front → t ≡ Ok (front ++ bs)) → (r >>= λ y. t >>= λ ys. Ok (cons_option y ys)) ≡ Ok (us ++ bs)
  bound_append (Err why) s t us bs e next = absurd cc
  bound_append (Ok y) (Err why) t us bs e next = absurd cc
  bound_append (Ok y) (Ok front) t us bs e next =
      let whole : cons_option y front ≡ us = cc in
      rw (next front refl) (ap Ok (in_front y front bs ∙ ap (λ (xs : List Y). xs ++ bs) whole))

  bound_stopped : (r : Result (Option Y) Refusal) (s t : Result (List Y) Refusal) (us : List Y) (why : Refusal)
      → (r >>= λ y. s >>= λ ys. Ok (cons_option y ys)) ≡ Ok us → ((front : List Y) → s ≡ Ok front → t ≡ Err why) → (r >>= λ y. t >>= λ ys. Ok (cons_option y ys)) ≡ Err why
  bound_stopped (Err w) s t us why e next = absurd cc
  bound_stopped (Ok y) (Err w) t us why e next = absurd cc
  bound_stopped (Ok y) (Ok front) t us why e next = rw (next front refl) refl

module _ {X Y : Type 0} (f : X → Result (Option Y) Refusal) where
  kept_one : (x : X) (y : Option Y) → f x ≡ Ok y → kept f (x ∷ []) ≡ Ok (cons_option y [])
  unfolding kept
  kept_one x y e = rw e refl

  kept_append : (xs ys : List X) (us bs : List Y) → kept f xs ≡ Ok us → kept f ys ≡ Ok bs → kept f (xs ++ ys) ≡ Ok (us ++ bs)
  unfolding kept
  kept_append [] ys us bs e d =
      let none : [] ≡ us = cc in
      d ∙ ap (λ (zs : List Y). Ok (zs ++ bs)) none
  kept_append (x ∷ xs) ys us bs e d = bound_append (f x) (kept f xs) (kept f (xs ++ ys)) us bs e (λ front e'. kept_append xs ys front bs e' d)

  kept_stopped : (xs ys : List X) (us : List Y) (why : Refusal) → kept f xs ≡ Ok us → kept f ys ≡ Err why → kept f (xs ++ ys) ≡ Err why
  unfolding kept
  kept_stopped [] ys us why e d = d
  kept_stopped (x ∷ xs) ys us why e d = bound_stopped (f x) (kept f xs) (kept f (xs ++ ys)) us why e (λ front e'. kept_stopped xs ys front why e' d)

  -- what row k adds
  pub kept_more : (xs : List X) (k : ℕ) (d : X) (us : List Y) (y : Option Y) → k < length xs → kept f (take k xs) ≡ Ok us → f (get_or xs k d) ≡ Ok y → kept f (take (k + 1) xs) ≡ Ok (us ++ cons_option y [])
  kept_more xs k d us y lt e here =
      let more : take (k + 1) xs ≡ take k xs ++ get_or xs k d ∷ [] = take_more xs k d lt in
      ap (kept f) more ∙ kept_append (take k xs) (get_or xs k d ∷ []) us (cons_option y []) e (kept_one (get_or xs k d) y here)

  refused_first : (x : X) (xs : List X) (why : Refusal) → f x ≡ Err why → kept f (x ∷ xs) ≡ Err why
  unfolding kept
  refused_first x xs why e = rw e refl

  -- row k refuses all
  pub kept_refused : (xs : List X) (k : ℕ) (d : X) (us : List Y) (why : Refusal) → k < length xs → kept f (take k xs) ≡ Ok us → f (get_or xs k d) ≡ Err why → kept f xs ≡ Err why
  kept_refused xs k d us why lt e here =
      let rest : drop k xs ≡ get_or xs k d ∷ drop (suc k) xs = drop-cons xs k d lt in
      ap (kept f) (sym (take-append-drop k xs)) ∙ kept_stopped (take k xs) (drop k xs) us why e (ap (kept f) rest ∙ refused_first (get_or xs k d) (drop (suc k) xs) why here)

-- what is kept of things as they are seen
pub kept_view : {X Y Z : Type 0} (f : Y → Result (Option Z) Refusal) (seen : X → Y) (xs : List X) → kept f (map seen xs) ≡ kept (λ x. f (seen x)) xs
unfolding kept
kept_view f seen [] = refl
kept_view f seen (x ∷ xs) = rw (kept_view f seen xs) refl
