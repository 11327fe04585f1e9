-- Numbers that spans leave out, and spans that grow.
use Rattle.std.proofs.Common.{◌≡◌, ℕ, zero, suc, ◌+◌, ◌-◌, ◌<◌, ◌≤◌, Bool, true, false, not, ◌&&◌, ◌||◌, List, [], ◌∷◌, max, nat_le, nat_lt, refl, sym, ap, subst, ◌∙◌, arith}
use Rattle.std.specs.Prelude.{if◌then◌else◌}
use Rattle.std.proofs.lemmas.Bool.Decides.{nat_tests}
use Rattle.binfarce_figures.specs.Claims.{count}
use Rattle.binfarce_figures.specs.declared.claims.Span.{Span}
use Rattle.binfarce_figures.specs.machine.Spans.{Ascend, covers, gaps}

-- how many of a range of numbers pass a test that answers the same for each
count_same : (test : ℕ → Bool) (v : Bool) (low high : ℕ) → low ≤ high → ((n : ℕ) → low ≤ n → n < high → test n ≡ v) → count test high ≡ count test low + (if v then high - low else 0)
count_same test v low zero le is =
    let none : low ≡ 0 = omega (arith, le) in subst (λ (n : ℕ). 0 ≡ count test n + (if v then 0 - n else 0)) (sym none) (nothing v)
  where
    nothing : (v : Bool) → ◌≡◌ {A = ℕ} 0 (0 + (if v then 0 - 0 else 0))
    nothing true = omega arith
    nothing false = omega arith
count_same test v low (suc high) le is = by (nat_le low high) refl (λ below. count_same test v low high below (λ n a b. is n a (omega (arith, b))))
  where
    more : (v : Bool) → low ≤ high → (count test low + (if v then high - low else 0)) + (if v then 1 else 0) ≡ count test low + (if v then suc high - low else 0)
    more true below = omega (arith, below)
    more false below = omega (arith, below)

    none : (v : Bool) → count test (suc high) ≡ count test (suc high) + (if v then suc high - suc high else 0)
    none true = omega arith
    none false = omega arith

    by : (b : Bool) → nat_le low high ≡ b → (low ≤ high → count test high ≡ count test low + (if v then high - low else 0)) → count test (suc high) ≡ count test low + (if v then suc high - low else 0)
    by true e before =
        let below : low ≤ high = grind (arith, nat_tests) in
        rw (is high below (omega arith), before below) (more v below)
    by false e before = let over : high < low = grind (arith, nat_tests) in
        let whole : low ≡ suc high = omega (arith, over, le) in subst (λ (n : ℕ). count test (suc high) ≡ count test n + (if v then suc high - n else 0)) (sym whole) (none v)

-- spans that follow each other from a place on do so from a lower one on
pub lower : (low high : ℕ) (spans : List Span) → low ≤ high → Ascend high spans → Ascend low spans
lower low high [] le up = tt
lower low high (span ∷ others) le up = (omega (arith, le, up.0), up.1, up.2)

-- they cover no place before it
uncovered : (at : ℕ) (spans : List Span) → Ascend (at + 1) spans → covers spans at ≡ false
uncovered at [] up = refl
uncovered at (span ∷ others) up =
    let after : nat_le span.start at ≡ false = grind (arith, nat_tests, up.0) in
    rw after (uncovered at others (lower (at + 1) span.end others (omega (arith, up.0, up.1)) up.2))

-- and leave none out before it
no_gaps : (spans : List Span) (from end : ℕ) → end ≤ from → Ascend from spans → gaps spans from end ≡ 0
no_gaps [] from end le up = omega (arith, le)
no_gaps (span ∷ others) from end le up = let after : nat_lt span.start end ≡ false = grind (arith, nat_tests, up.0, le) in rw after (omega (arith, le))

-- nor more than there is
pub gaps_le : (spans : List Span) (from end : ℕ) → Ascend from spans → gaps spans from end ≤ end - from
gaps_le [] from end up = omega arith
gaps_le (span ∷ others) from end up = by (nat_lt span.start end) refl (gaps_le others span.end end up.2)
  where
    by : (b : Bool) → nat_lt span.start end ≡ b → gaps others span.end end ≤ end - span.end → gaps (span ∷ others) from end ≤ end - from
    by false e rest = rw e (omega arith)
    by true e rest = let before : span.start < end = grind (arith, nat_tests) in rw e (omega (arith, rest, up.0, up.1, before))

-- what they leave out are the numbers that pass a test for what they don't cover
pub gaps_are : (test : ℕ → Bool) (place low high : ℕ) (spans : List Span) → low ≤ high → Ascend (place + low) spans → ((n : ℕ) → low ≤ n → test n ≡ not (covers spans (place + n)))
    → count test high ≡ count test low + gaps spans (place + low) (place + high)
gaps_are test place low high [] le up is = count_same test true low high le (λ n a b. is n a) ∙ omega arith
gaps_are test place low high (span ∷ others) le up is = by (nat_lt span.start (place + high)) refl (λ from le up is. gaps_are test place from high others le up is)
  where
    before : (n : ℕ) → low ≤ n → place + n < span.start → test n ≡ true
    before n a b = is n a ∙ ap not (uncovered (place + n) (span ∷ others) (omega (arith, b), up.1, up.2))

    within : (n : ℕ) → low ≤ n → span.start ≤ place + n → place + n < span.end → test n ≡ false
    within n a b c =
        let from : nat_le span.start (place + n) ≡ true = grind (arith, nat_tests, b) in
        let to : nat_lt (place + n) span.end ≡ true = grind (arith, nat_tests, c) in
        is n a ∙ rw (from, to) refl

    past : (n : ℕ) → low ≤ n → span.end ≤ place + n → test n ≡ not (covers others (place + n))
    past n a b =
        let from : nat_le span.start (place + n) ≡ true = grind (arith, nat_tests, b, up.1) in
        let to : nat_lt (place + n) span.end ≡ false = grind (arith, nat_tests, b) in
        is n a ∙ rw (from, to) refl

    After : Type 0
    After = (from : ℕ) → from ≤ high → Ascend (place + from) others → ((n : ℕ) → from ≤ n → test n ≡ not (covers others (place + n))) → count test high ≡ count test from + gaps others (place + from) (place + high)

    by : (b : Bool) → nat_lt span.start (place + high) ≡ b → After → count test high ≡ count test low + gaps (span ∷ others) (place + low) (place + high)
    by false e after =
        let over : place + high ≤ span.start = grind (arith, nat_tests) in
        rw e (count_same test true low high le (λ n a b. before n a (omega (arith, b, over))) ∙ omega arith)
    by true e after =
        let under : span.start < place + high = grind (arith, nat_tests) in
        let a = span.start - place in
        let b = span.end - place in
        let first = count_same test true low a (omega (arith, up.0)) (λ n l h. before n l (omega (arith, h, up.0))) in
        rw e (by_end (nat_le b high) refl first under)
      where
        by_end : (s : Bool) → nat_le (span.end - place) high ≡ s → count test (span.start - place) ≡ count test low + ((span.start - place) - low) → span.start < place + high
            → count test high ≡ count test low + ((span.start - (place + low)) + gaps others span.end (place + high))
        by_end true f first under =
            let short : span.end - place ≤ high = grind (arith, nat_tests) in
            let end_is : place + (span.end - place) ≡ span.end = omega (arith, up.0, up.1) in
            let second = count_same test false (span.start - place) (span.end - place) (omega (arith, up.1)) (λ n l h. within n (omega (arith, l, up.0)) (omega (arith, l)) (omega (arith, h))) in
            let rest = after (span.end - place) short (subst (λ (p : ℕ). Ascend p others) (sym end_is) up.2) (λ n l. past n (omega (arith, l, up.0, up.1)) (omega (arith, l))) in
            let same : gaps others (place + (span.end - place)) (place + high) ≡ gaps others span.end (place + high) = ap (λ (p : ℕ). gaps others p (place + high)) end_is in
            omega (arith, first, second, rest, same, up.0)
        by_end false f first under =
            let long : high < span.end - place = grind (arith, nat_tests) in
            let second = count_same test false (span.start - place) high (omega (arith, under)) (λ n l h. within n (omega (arith, l, up.0)) (omega (arith, l)) (omega (arith, h, long))) in
            let none = no_gaps others span.end (place + high) (omega (arith, long)) up.2 in
            omega (arith, first, second, none, up.0)

-- while spans are taken off that begin before an end, those that are left and one up to the greatest end cover the same
pub taken : (place from end start stop at : ℕ) (rest : Bool) → place ≤ from → from ≤ start → start < end → start ≤ stop
    → ((nat_le place at && nat_lt at (max end from)) || ((nat_le start at && nat_lt at stop) || rest)) ≡ ((nat_le place at && nat_lt at (max end stop)) || rest)
taken place from end start stop at true a b c d = grind (arith, nat_tests)
taken place from end start stop at false a b c d = grind (arith, nat_tests)
