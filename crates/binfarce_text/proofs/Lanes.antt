-- Bytes that are compared side by side: what their mask says of each, and of the run that they begin with.
use Rattle.std.proofs.Common.{◌≡◌, ℕ, zero, suc, ◌+◌, ◌%◌, ◌^◌, ◌<◌, ◌≤◌, inl, inr, Bool, true, false, not, ◌||◌, cond, eqb, List, [], ◌∷◌, map, length, get_or, drop, take, replicate, min, refl, sym, ap, ap₂, ◌∙◌, arith, w8, Fits}
use Rattle.std.proofs.lemmas.Bool.{agree_below, agree_below_at, cases_Bool, cond-true, cond-false}
use Rattle.std.proofs.lemmas.List.{length-map}
use Rattle.std.proofs.lemmas.Simd.{mask_l-mod, leading_from_mask_l, trailing_mask_l}
use Rattle.std.proofs.Math.Seq.{take-length}
use Rattle.std.specs.List.{prefix_len}
use lib.Bits.{bit_or}
use lib.Count.{count_trailing_zeros}
use lib.Lanes.{zip2, mask_l, top}
use Rattle.binfarce_text.specs.machine.Strides.{is_other}

zip2-map : (h : ℕ → ℕ → ℕ) (f g : ℕ → ℕ) (xs : List ℕ) → zip2 h (map f xs) (map g xs) ≡ map (λ x. h (f x) (g x)) xs
zip2-map h f g [] = refl
zip2-map h f g (x ∷ xs) = ap (λ r. h (f x) (g x) ∷ r) (zip2-map h f g xs)

-- an operation on two vectors that were computed lane by lane from v
pub joined : (h : ℕ → ℕ → ℕ) (f g : ℕ → ℕ) (v : List ℕ) {a b : List ℕ} → a ≡ map f v → b ≡ map g v → zip2 h a b ≡ map (λ x. h (f x) (g x)) v
joined h f g v p q = ap₂ (zip2 h) p q ∙ zip2-map h f g v

-- a vector of one byte, and the bytes themselves
pub each_is : (v : List ℕ) (n y : ℕ) → length v ≡ n → replicate n y ≡ map (λ _. y) v
each_is [] n y e = ap (λ k. replicate k y) (sym e)
each_is (x ∷ xs) n y e = ap (λ k. replicate k y) (sym e) ∙ ap (λ r. y ∷ r) (each_is xs (length xs) y refl)

itself : (v : List ℕ) → v ≡ map (λ x. x) v
itself [] = refl
itself (x ∷ xs) = ap (λ r. x ∷ r) (itself xs)

pub loaded : (v : List ℕ) (n : ℕ) → length v ≡ n → take n v ≡ map (λ x. x) v
loaded v n e = ap (λ k. take k v) (sym e) ∙ take-length v ∙ itself v

-- a mask has a bit for each byte that passes p
mask_is : (f : ℕ → ℕ) (p : ℕ → Bool) (v z : List ℕ) → length v ≡ 16 → z ≡ map f v → map (top 7) (map f v) ≡ map p v → mask_l (map (top 7) z) % 2 ^ 64 ≡ mask_l (map p v)
mask_is f p v z long e each =
    ap (λ l. mask_l l % 2 ^ 64) (ap (map (top 7)) e ∙ each) ∙ mask_l-mod (map p v) 64 (omega (arith, length-map v p, long))

each_byte : (f : ℕ → ℕ) (p : ℕ → Bool) → agree_below (λ x. top 7 (f x)) p 256 ≡ true → (v : List ℕ) → ((k : ℕ) → Fits w8 (get_or v k 0)) → map (top 7) (map f v) ≡ map p v
each_byte f p all [] fits = refl
each_byte f p all (x ∷ xs) fits =
    ap₂ (λ a b. a ∷ b) (agree_below_at (λ y. top 7 (f y)) p 256 x all (fits 0).fits) (each_byte f p all xs (λ k. fits (suc k)))

pub masked : (f : ℕ → ℕ) (p : ℕ → Bool) (v z : List ℕ) → length v ≡ 16 → ((k : ℕ) → Fits w8 (get_or v k 0)) → z ≡ map f v → agree_below (λ x. top 7 (f x)) p 256 ≡ true
    → mask_l (map (top 7) z) % 2 ^ 64 ≡ mask_l (map p v)
masked f p v z long fits e all = mask_is f p v z long e (each_byte f p all v fits)

-- what a comparison with a byte makes of a lane
abbrev hit : ℕ → ℕ → ℕ
hit a b = cond (eqb a b) 255 0

-- a lane that is one of three bytes
found : (r s t : Bool) → top 7 (bit_or (bit_or (cond r 255 0) (cond s 255 0)) (cond t 255 0)) ≡ not (not (r || (s || t)))
found true true true = refl
found true true false = refl
found true false true = refl
found true false false = refl
found false true true = refl
found false true false = refl
found false false true = refl
found false false false = refl

each_found : (a b c : ℕ) (v : List ℕ) → map (top 7) (map (λ x. bit_or (bit_or (hit x a) (hit x b)) (hit x c)) v) ≡ map (λ x. not (is_other a b c x)) v
each_found a b c [] = refl
each_found a b c (x ∷ xs) = ap₂ (λ y ys. y ∷ ys) (found (eqb x a) (eqb x b) (eqb x c)) (each_found a b c xs)

hits : (v : List ℕ) (y : ℕ) → length v ≡ 16 → zip2 hit (take 16 v) (replicate 16 y) ≡ map (λ x. hit x y) v
hits v y long = joined hit _ _ v (loaded v 16 long) (each_is v 16 y long)

pub other_mask : (a b c : ℕ) (v : List ℕ) → length v ≡ 16
    → mask_l (map (top 7) (zip2 bit_or (zip2 bit_or (zip2 hit (take 16 v) (replicate 16 a)) (zip2 hit (take 16 v) (replicate 16 b))) (zip2 hit (take 16 v) (replicate 16 c)))) % 2 ^ 64
    ≡ mask_l (map (λ x. not (is_other a b c x)) v)
other_mask a b c v long =
    mask_is _ (λ x. not (is_other a b c x)) v _ long (joined bit_or _ _ v (joined bit_or _ _ v (hits v a long) (hits v b long)) (hits v c long)) (each_found a b c v)

-- runs of bytes that pass the same tests are as long
pub same_run : (p q : ℕ → Bool) (xs : List ℕ) → ((x : ℕ) → p x ≡ q x) → prefix_len p xs ≡ prefix_len q xs
same_run p q [] each = refl
same_run p q (x ∷ xs) each = ap₂ (λ b n. cond b (1 + n) 0) (each x) (same_run p q xs each)

twice : (b : Bool) → not (not b) ≡ b
twice true = refl
twice false = refl

-- the run of bytes that pass q, from the mask of those that don't
pub run_of_all : (q : ℕ → Bool) (v : List ℕ) (n m : ℕ) → length v ≡ n → m ≡ mask_l (map (λ x. not (q x)) v) → m ≡ 0 → n ≡ prefix_len q v
run_of_all q v n m long is none =
    sym long ∙ sym (leading_from_mask_l (λ x. not (q x)) v (sym is ∙ none)) ∙ same_run _ q v (λ x. twice (q x))

pub run_to_first : (q : ℕ → Bool) (v : List ℕ) (n m : ℕ) → length v ≡ n → n ≤ 64 → m ≡ mask_l (map (λ x. not (q x)) v) → 0 < m → count_trailing_zeros 64 m ≡ prefix_len q v
run_to_first q v n m long short is some =
    ap (count_trailing_zeros 64) is ∙ trailing_mask_l (λ x. not (q x)) 64 v (omega arith) (omega arith) ∙ same_run _ q v (λ x. twice (q x))

-- the run in the first n bytes
pub run_of_front : (p : ℕ → Bool) (n : ℕ) (xs : List ℕ) → prefix_len p (take n xs) ≡ min n (prefix_len p xs)
run_of_front p zero xs = omega arith
run_of_front p (suc n) [] = omega arith
run_of_front p (suc n) (x ∷ xs) = elim (cases_Bool (p x)) [
  | inl pass ↦ omega (
    arith,
    cond-true (p x) (1 + prefix_len p (take n xs)) 0 pass,
    cond-true (p x) (1 + prefix_len p xs) 0 pass,
    run_of_front p n xs,
  )
  | inr stop ↦ omega (arith, cond-false (p x) (1 + prefix_len p (take n xs)) 0 stop, cond-false (p x) (1 + prefix_len p xs) 0 stop)
]

-- some bytes at a time: a run that ends in the next n bytes
pub run_ends : (p : ℕ → Bool) (wide : List ℕ) (at n k : ℕ) → k ≡ n → prefix_len p (take k (drop at wide)) < n
    → prefix_len p (drop at wide) ≡ prefix_len p (take k (drop at wide))
run_ends p wide at n k is short = omega (arith, is, short, run_of_front p k (drop at wide))
