-- Runs of bytes that pass a test: in a part of a list, and some bytes at a time.
use Rattle.std.proofs.Common.{◌≡◌, ℕ, zero, suc, ◌+◌, ◌-◌, ◌<◌, ◌≤◌, inl, inr, Bool, false, List, [], ◌∷◌, length, get_or, drop, take, min, ap, sym, ◌∙◌, arith}
use Rattle.std.proofs.lemmas.Bool.{cases_Bool, cases_lt, cond-true, cond-false}
use Rattle.std.proofs.lemmas.List.{drop-drop, drop-take, get_or-drop, length-drop}
use Rattle.std.proofs.lemmas.List.Sums.{prefix_len-le-length, prefix_len_stops}
use Rattle.std.specs.List.{prefix_len}
use Rattle.binfarce_text.proofs.Lanes.{run_of_front, run_ends}

-- the run after a part of it
run_after : (p : ℕ → Bool) (k : ℕ) (xs : List ℕ) → k ≤ prefix_len p xs → prefix_len p xs ≡ k + prefix_len p (drop k xs)
run_after p zero xs h = omega arith
run_after p (suc k) [] h = absurd (omega (arith, h))
run_after p (suc k) (x ∷ xs) h = elim (cases_Bool (p x)) [
  | inl pass ↦
      let here = cond-true (p x) (1 + prefix_len p xs) 0 pass in
      omega (arith, here, run_after p k xs (omega (arith, here, h)))
  | inr stop ↦ absurd (omega (arith, h, cond-false (p x) (1 + prefix_len p xs) 0 stop))
]

-- the run in a name is that of what begins with the name, up to the name's end
pub run_in_name : (p : ℕ → Bool) (name wide : List ℕ) (at : ℕ) → name ≡ take (length name) wide → at ≤ length name
    → at + prefix_len p (drop at name) ≡ min (length name) (at + prefix_len p (drop at wide))
run_in_name p name wide at is within =
    let n = length name in
    let left : take n wide ≡ take (at + (n - at)) wide = ap (λ k. take k wide) (omega arith) in
    let same : drop at name ≡ take (n - at) (drop at wide) = ap (drop at) (is ∙ left) ∙ drop-take at (n - at) wide in
    omega (arith, ap (prefix_len p) same, run_of_front p (n - at) (drop at wide), within)

-- some bytes at a time: a run that goes on after the next n bytes
pub run_goes_on : (p : ℕ → Bool) (wide : List ℕ) (at n k : ℕ) → k ≡ n → n ≤ prefix_len p (take k (drop at wide))
    → prefix_len p (drop at wide) ≡ n + prefix_len p (drop (at + n) wide)
run_goes_on p wide at n k is all =
    run_after p n (drop at wide) (omega (arith, is, all, run_of_front p k (drop at wide)))
    ∙ ap (λ (xs : List ℕ). n + prefix_len p xs) (drop-drop n at wide)

-- where a run ends that was seen to go on up to `end`: in the 16 bytes from there on, or before the name's end
pub ends_here : (p : ℕ → Bool) (name wide : List ℕ) (at end run k r : ℕ) → name ≡ take (length name) wide → at ≤ length name
    → at + prefix_len p (drop at wide) ≡ end + prefix_len p (drop end wide)
    → k ≡ 16 → run ≡ prefix_len p (take k (drop end wide)) → run < 16 → r ≡ min (end + run) (length name)
    → r ≡ at + prefix_len p (drop at name)
ends_here p name wide at end run k r is within seen stride found short least =
    omega (arith, seen, found, least, run_ends p wide end 16 k stride (omega (arith, found, short)), run_in_name p name wide at is within)

pub ends_later : (p : ℕ → Bool) (name wide : List ℕ) (at end m r : ℕ) → name ≡ take (length name) wide → at ≤ length name
    → at + prefix_len p (drop at wide) ≡ end + prefix_len p (drop end wide)
    → m ≡ min end (length name) → r ≡ m + prefix_len p (drop m name)
    → r ≡ at + prefix_len p (drop at name)
ends_later p name wide at end m r is within seen least found = elim (cases_lt end (length name)) [
  | inl inside ↦
      let e : m ≡ end = omega (arith, least, inside) in
      omega (
        arith,
        seen,
        found ∙ ap (λ k. k + prefix_len p (drop k name)) e,
        run_in_name p name wide end is (omega (arith, inside)),
        run_in_name p name wide at is within,
      )
  | inr past ↦
      omega (
        arith,
        seen,
        found,
        least,
        past,
        prefix_len-le-length p (drop m name),
        length-drop m name,
        run_in_name p name wide at is within,
      )
]

-- the end of a run lies in the list, and the item there isn't of the run
pub end_within : (p : ℕ → Bool) (name : List ℕ) (at r : ℕ) → at ≤ length name → r ≡ at + prefix_len p (drop at name) → (at ≤ r) × (r ≤ length name)
end_within p name at r within is =
    (omega (arith, is), omega (arith, is, within, prefix_len-le-length p (drop at name), length-drop at name))

pub end_stops : (p : ℕ → Bool) (name : List ℕ) (at r : ℕ) → r ≡ at + prefix_len p (drop at name) → r < length name → p (get_or name r 0) ≡ false
end_stops p name at r is inside =
    ap (λ k. p (get_or name k 0)) is ∙ ap p (sym (get_or-drop at name (prefix_len p (drop at name)) 0))
    ∙ prefix_len_stops p (drop at name) 0 (omega (arith, is, inside, length-drop at name))
