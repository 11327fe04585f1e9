-- The position of the first `.llvm.` of a text, and the text before it.
use Rattle.std.proofs.Common.{◌≡◌, ℕ, zero, suc, ◌+◌, ◌-◌, ◌<◌, ◌≤◌, ◌⊎◌, inl, inr, Bool, true, false, cond, List, [], ◌∷◌, length, get_or, drop, take, nat_eq, refl, ap, sym, ◌∙◌, arith, codes, length-drop}
use Rattle.std.proofs.lemmas.Bool.{both_ways, false≢true, cases_Bool, cases_eq, cases_lt, cond-true, cond-false}
use Rattle.std.proofs.lemmas.List.{get_or-drop}
use Rattle.std.specs.List.{starts_with, list_all}
use Rattle.binfarce_text.specs.Suffixes.{is_llvm_digit, without_llvm}
use Rattle.binfarce_text.specs.machine.Suffixes.{EndsInDigits}
use Rattle.binfarce_text.proofs.TextLemmas.{begins-length, begins-at, list_all-each, list_all-from}

-- a `.llvm.` is at k
abbrev pub llvm_at : List ℕ → ℕ → Bool
llvm_at t k = starts_with nat_eq (drop k t) (codes ".llvm.")

-- none begins below n
abbrev pub NoneBelow : List ℕ → ℕ → Type 0
NoneBelow t n = (k : ℕ) → k < n → llvm_at t k ≡ false

-- with none in it, a text stays as it is
pub without_llvm-none : (t : List ℕ) → NoneBelow t (length t) → without_llvm t ≡ t
unfolding without_llvm
without_llvm-none [] h = refl
without_llvm-none (b ∷ t) h =
    cond-false (starts_with nat_eq (b ∷ t) (codes ".llvm.")) _ _ (h 0 (omega arith))
    ∙ ap (λ (x : List ℕ). b ∷ x) (without_llvm-none t (λ k l. h (suc k) (omega arith)))

cond-cons : (d : Bool) (b : ℕ) (xs ys : List ℕ) → b ∷ cond d xs ys ≡ cond d (b ∷ xs) (b ∷ ys)
cond-cons true b xs ys = refl
cond-cons false b xs ys = refl

-- the first one is left out where what is after it is its number
pub without_llvm-first : (t : List ℕ) (i : ℕ) → NoneBelow t i → llvm_at t i ≡ true
    → without_llvm t ≡ cond (list_all is_llvm_digit (drop 6 (drop i t))) (take i t) t
unfolding without_llvm
without_llvm-first [] zero none here = absurd (false≢true here)
without_llvm-first [] (suc i) none here = absurd (false≢true here)
without_llvm-first (b ∷ t) zero none here =
    cond-true (starts_with nat_eq (b ∷ t) (codes ".llvm.")) _ _ here
without_llvm-first (b ∷ t) (suc i) none here =
    cond-false (starts_with nat_eq (b ∷ t) (codes ".llvm.")) _ _ (none 0 (omega arith))
    ∙ ap (λ (x : List ℕ). b ∷ x) (without_llvm-first t i (λ k l. none (suc k) (omega arith)) here)
    ∙ cond-cons (list_all is_llvm_digit (drop 6 (drop i t))) b (take i t) t

-- below n there is a first one, or none
pub first_llvm : (t : List ℕ) (n : ℕ) → ((i : ℕ) × (i < n) × (llvm_at t i ≡ true) × NoneBelow t i) ⊎ NoneBelow t n
first_llvm t zero = inr (λ k l. absurd (omega arith))
first_llvm t (suc n) = elim (first_llvm t n) [
  | inl w ↦ inl (w.0, omega (arith, w.1), w.2, w.3)
  | inr none ↦ elim (cases_Bool (llvm_at t n)) [
    | inl here ↦ inl (n, omega arith, here, none)
    | inr lacks ↦ inr (λ k l. elim (cases_eq k n) [
      | inl e ↦ ap (llvm_at t) e ∙ lacks
      | inr ne ↦ none k (omega (arith, l, ne))
    ])
  ]
]

-- such a `.llvm.` is six bytes, the last of them `.`
llvm_at-fits : (t : List ℕ) (i : ℕ) → llvm_at t i ≡ true → i + 6 ≤ length t
llvm_at-fits t i h = omega (arith, begins-length (drop i t) (codes ".llvm.") h, length-drop i t)

llvm_at-dot : (t : List ℕ) (i : ℕ) → llvm_at t i ≡ true → get_or t (i + 5) 0 ≡ 46
llvm_at-dot t i h = sym (get_or-drop i t 5 0) ∙ begins-at (drop i t) (codes ".llvm.") 5 h (omega arith)

-- a `.` is no digit of the number
dot-not : (x : ℕ) → x ≡ 46 → is_llvm_digit x ≡ true → ⊥
dot-not x e h = false≢true (sym (ap is_llvm_digit e) ∙ h)

-- where the digits after the first `.llvm.` reach the end, it is right before them
at_digits : (t : List ℕ) (n i : ℕ) → EndsInDigits t n → llvm_at t i ≡ true
    → list_all is_llvm_digit (drop 6 (drop i t)) ≡ true → n ≡ i + 6
at_digits t n i ends here all =
    let fits : i + 6 ≤ length t = llvm_at-fits t i here in
    let past : i + 5 < n = elim (cases_lt (i + 5) n) [
      | inl l ↦ l
      | inr l ↦ absurd (dot-not _ (llvm_at-dot t i here) (ends.digits (i + 5) l (omega arith)))
    ] in
    elim (cases_lt (i + 6) n) [
      | inl l ↦
          let len : n - 1 - (i + 6) < length (drop 6 (drop i t)) = omega (arith, length-drop 6 (drop i t), length-drop i t, ends.within) in
          let digit = list_all-each is_llvm_digit (drop 6 (drop i t)) (n - 1 - (i + 6)) all len in
          let same : get_or (drop 6 (drop i t)) (n - 1 - (i + 6)) 0 ≡ get_or t (n - 1) 0 =
          get_or-drop 6 (drop i t) (n - 1 - (i + 6)) 0 ∙ get_or-drop i t (6 + (n - 1 - (i + 6))) 0 ∙ ap (λ k. get_or t k 0) (omega arith) in
          absurd (both_ways (is_llvm_digit (get_or t (n - 1) 0)) (ends.longest (omega arith)) (sym (ap is_llvm_digit same) ∙ digit))
      | inr l ↦ omega arith
    ]

-- a text is unchanged where no `.llvm.` is before its last digits, or if there is an earlier one
pub without_llvm-kept : (t : List ℕ) (n : ℕ) → EndsInDigits t n
    → ((i : ℕ) → n ≡ i + 6 → llvm_at t i ≡ true → NoneBelow t i → ⊥) → without_llvm t ≡ t
without_llvm-kept t n ends lacks = elim (first_llvm t (length t)) [
  | inl w ↦ elim (cases_Bool (list_all is_llvm_digit (drop 6 (drop w.0 t)))) [
    | inl all ↦ absurd (lacks w.0 (at_digits t n w.0 ends w.2 all) w.2 w.3)
    | inr some ↦ without_llvm-first t w.0 w.3 w.2 ∙ cond-false _ _ _ some
  ]
  | inr none ↦ without_llvm-none t none
]

-- it is left out where the first one is right before its last digits
pub without_llvm-left_out : (t : List ℕ) (n i : ℕ) → EndsInDigits t n → n ≡ i + 6
    → llvm_at t i ≡ true → NoneBelow t i → without_llvm t ≡ take i t
without_llvm-left_out t n i ends e here none =
    without_llvm-first t i none here
    ∙ cond-true _ _ _ (list_all-from is_llvm_digit (drop 6 (drop i t)) (λ k l.
    ap is_llvm_digit (get_or-drop 6 (drop i t) k 0 ∙ get_or-drop i t (6 + k) 0)
    ∙ ends.digits (i + (6 + k)) (omega arith) (omega (arith, l, length-drop 6 (drop i t), length-drop i t))))
