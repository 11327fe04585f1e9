-- Texts of which only the first bytes are counted.
use Rattle.std.proofs.Common.{◌≡◌, ℕ, ◌+◌, ◌-◌, ◌≤◌, inl, inr, true, false, List, [], ◌++◌, Option, Some, None, length, take, refl, ap, sym, ◌∙◌, append_assoc, append-nil, length-append, length-take, nat_lt, if◌then◌else◌, arith}
use Rattle.std.proofs.Math.Seq.{take-nil, take-append-add}
use Rattle.std.proofs.lemmas.Bool.{cases_lt}
use Rattle.std.proofs.lemmas.Bool.Decides.{nat_tests}
use Rattle.std.proofs.lemmas.List.{take_all, take-append-le}
use Rattle.binfarce_v0_state.specs.machine.Counted.{counted, grown, is_whole}

take_both : (j : ℕ) (a b : List ℕ) → take j (a ++ b) ≡ take j a ++ take (j - length a) b
take_both j a b = elim (cases_lt j (length a)) [
  | inl within ↦
      take-append-le j a b (omega (arith, within)) ∙ sym (append-nil (take j a))
      ∙ ap (λ (k : ℕ). take j a ++ take k b) (let none : 0 ≡ j - length a = omega (arith, within) in none)
  | inr past ↦
      let split : j ≡ length a + (j - length a) = omega (arith, past) in
      ap (λ k. take k (a ++ b)) split ∙ take-append-add a b (j - length a)
      ∙ ap (λ (xs : List ℕ). xs ++ take (j - length a) b) (sym (take_all j a (omega (arith, past))))
]

-- nothing is written
pub grown_none : (most : Option ℕ) (text : List ℕ) → grown most text [] ≡ text
grown_none None text = append-nil text
grown_none (Some n) text = ap (λ (xs : List ℕ). text ++ xs) (take-nil (n - length text)) ∙ append-nil text

-- one text after another
pub grown_twice : (most : Option ℕ) (text a b : List ℕ) → grown most (grown most text a) b ≡ grown most text (a ++ b)
grown_twice None text a b = append_assoc text a b
grown_twice (Some n) text a b =
    let j = n - length text in
    let left : n - length (text ++ take j a) ≡ j - length a = omega (arith, length-append text (take j a), length-take j a) in
    append_assoc text (take j a) (take (n - length (text ++ take j a)) b)
    ∙ ap (λ (xs : List ℕ). text ++ xs) (ap (λ k. take j a ++ take k b) left ∙ sym (take_both j a b))

-- a whole text has all that was written
pub grown_whole : (most : Option ℕ) (text more : List ℕ) → is_whole most (grown most text more) ≡ true → grown most text more ≡ text ++ more
grown_whole None text more whole = refl
grown_whole (Some n) text more whole =
    let j = n - length text in
    let short : length (text ++ take j more) + 1 ≤ n = grind (arith, nat_tests) in
    ap (λ (xs : List ℕ). text ++ xs) (take_all j more (omega (arith, short, length-append text (take j more), length-take j more)))

pub grown_first : (most : Option ℕ) (text : List ℕ) → grown most [] text ≡ counted most text
grown_first None text = refl
grown_first (Some n) text = ap (λ (k : ℕ). take k text) (let all : n - 0 ≡ n = omega arith in all)

-- what is counted of a text that more is written to
pub counted_grown : (most : Option ℕ) (text more : List ℕ) → counted most (text ++ more) ≡ grown most (counted most text) more
counted_grown None text more = refl
counted_grown (Some n) text more =
    let left : n - length text ≡ n - length (take n text) = omega (arith, length-take n text) in
    take_both n text more ∙ ap (λ k. take n text ++ take k more) left

pub counted_whole : (most : Option ℕ) (text : List ℕ) → is_whole most (counted most text) ≡ true → counted most text ≡ text
counted_whole None text whole = refl
counted_whole (Some n) text whole =
    let short : length (take n text) + 1 ≤ n = grind (arith, nat_tests) in
    take_all n text (omega (arith, short, length-take n text))

-- a text is shown whole or another in its place, by what is counted of it
pub whole_or : (most : Option ℕ) (text other : List ℕ)
    → (if is_whole most (counted most text) then counted most text else other) ≡ (if is_whole most text then text else other)
whole_or None text other = refl
whole_or (Some n) text other = elim (cases_lt (length text) n) [
  | inl short ↦ ap (λ (xs : List ℕ). if nat_lt (length xs) n then xs else other) (take_all n text (omega (arith, short)))
  | inr long ↦
      let counted_long : nat_lt (length (take n text)) n ≡ false = grind (arith, nat_tests, long, length-take n text) in
      let is_long : nat_lt (length text) n ≡ false = grind (arith, nat_tests, long) in
      rw (counted_long, is_long) refl
]

-- the same where the text is two parts, and more is written to the second
pub counted_more : (most : Option ℕ) (front back new more : List ℕ) → new ≡ back ++ more → counted most (front ++ new) ≡ grown most (counted most (front ++ back)) more
counted_more most front back new more e =
    ap (λ (xs : List ℕ). counted most (front ++ xs)) e ∙ ap (counted most) (sym (append_assoc front back more)) ∙ counted_grown most (front ++ back) more

-- the same where all of it is moved to the front, with more behind it or without
pub counted_apart : (most : Option ℕ) (front back new_front new_back more : List ℕ) → new_front ≡ (front ++ back) ++ more → new_back ≡ [] → counted most (new_front ++ new_back) ≡ grown most (counted most (front ++ back)) more
counted_apart most front back new_front new_back more e none =
    ap (λ (xs : List ℕ). counted most (new_front ++ xs)) none ∙ ap (counted most) (append-nil new_front ∙ e) ∙ counted_grown most (front ++ back) more

pub counted_moved : (most : Option ℕ) (front back new_front new_back : List ℕ) → new_front ≡ front ++ back → new_back ≡ [] → counted most (new_front ++ new_back) ≡ counted most (front ++ back)
counted_moved most front back new_front new_back e none =
    ap (λ (xs : List ℕ). counted most (new_front ++ xs)) none ∙ ap (counted most) (append-nil new_front ∙ e)
