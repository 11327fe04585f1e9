-- Rows, one after the other.
use Rattle.std.proofs.Common.{◌≡◌, ℕ, ◌+◌, ◌-◌, ◌*◌, ◌<◌, Bool, cond, max, Option, List, [], ◌∷◌, ◌++◌, length, map, drop, take, reverse, get_or, is_lt, nat_cmp, nat_le, true, false, refl, sym, ap, ◌∙◌, arith, append_assoc, append-nil}
use Rattle.std.specs.List.{filter}
use Rattle.std.specs.List.Sorted.{IsNonDecreasingBy, IsStableByKey, ties}
use Rattle.std.proofs.lemmas.List.{drop_more, get_or-map, get_or-reverse, length-map, length-reverse, reverse-append, reverse-reverse, take-append-drop}
use Rattle.std.proofs.lemmas.List.Elements.{filter-append}
use Rattle.std.proofs.lemmas.List.Sums.{sum_by-append, sum_by-cons}
use Rattle.std.proofs.lemmas.Bool.Decides.{nat_tests}
use Rattle.binfarce_chart.specs.declared.bars.Bar.{Bar}
use Rattle.binfarce_chart.specs.Chart.{Row, Falls, KeepsOrder, bar_length, largest, others, total, width, with_others}
use Rattle.binfarce_chart.specs.Svg.{foot, head, height, note, picture, row, rows}
use Rattle.binfarce_chart.specs.Views.{bar_view}

-- the sum over what is left, with the first of it
pub left_sum : (bars : List Bar) (i : ℕ) (d : Bar) → i < length bars → total (map bar_view (drop i bars)) ≡ (get_or bars i d).size + total (map bar_view (drop (i + 1) bars))
left_sum bars i d low =
    ap (λ (xs : List Bar). total (map bar_view xs)) (drop_more bars i d low) ∙ sum_by-cons (λ (r : Row). r.size) (bar_view (get_or bars i d)) (map bar_view (drop (i + 1) bars))

-- the row of the first that is left was written
pub one_row : (bars : List Bar) (i : ℕ) (d : Bar) (sum most before top : ℕ) (old new all : List ℕ) → i < length bars
    → new ≡ old ++ row top (bar_view (get_or bars i d)) (bar_length sum before (get_or bars i d).size) (width most (get_or bars i d).size)
    → old ++ rows sum most before top (map bar_view (drop i bars)) ≡ all
    → new ++ rows sum most (before + (get_or bars i d).size) (top + 24) (map bar_view (drop (i + 1) bars)) ≡ all
one_row bars i d sum most before top old new all low grown is =
    let b = get_or bars i d in
    let line = row top (bar_view b) (bar_length sum before b.size) (width most b.size) in
    let others = rows sum most (before + b.size) (top + 24) (map bar_view (drop (i + 1) bars)) in
    ap (λ (x : List ℕ). x ++ others) grown ∙ append_assoc old line others
    ∙ sym (ap (λ (xs : List Bar). old ++ rows sum most before top (map bar_view xs)) (drop_more bars i d low)) ∙ is

-- the largest of what is left, with the first of it
pub left_largest : (bars : List Bar) (i : ℕ) (d : Bar) → i < length bars
    → largest (map bar_view (drop i bars)) ≡ max (get_or bars i d).size (largest (map bar_view (drop (i + 1) bars)))
left_largest bars i d low = ap (λ (xs : List Bar). largest (map bar_view xs)) (drop_more bars i d low)

-- sizes that don't fall, turned round
pub falls : (bars : List Bar) → IsNonDecreasingBy (λ (b : Bar). b.size) bars → Falls (map bar_view (reverse bars))
falls bars up i j d le low =
    let inside : j < length bars = omega (arith, length-map (reverse bars) bar_view, length-reverse bars) in
    let bar : Bar = record { name = record { ref_ptr = (0, 0); now = d.name }; size = d.size } in
    rw (get_or-map bar_view (reverse bars) j bar d (omega (arith, length-reverse bars)), get_or-map bar_view (reverse bars) i bar d (omega (arith, length-reverse bars)), get_or-reverse bars j bar inside, get_or-reverse bars i bar (omega arith))
    (up (length bars - 1 - j) (length bars - 1 - i) bar (omega arith) (omega arith))

-- a test of a list turned round
filter-reverse : {X : Type 0} (p : X → Bool) (xs : List X) → filter p (reverse xs) ≡ reverse (filter p xs)
filter-reverse p [] = refl
filter-reverse p (x ∷ xs) =
    ap (filter p) (reverse-append (x ∷ []) xs) ∙ filter-append p (reverse xs) (x ∷ []) ∙ ap (λ ys. ys ++ filter p (x ∷ [])) (filter-reverse p xs) ∙ put_last (p x)
  where
    put_last : (b : Bool) → reverse (filter p xs) ++ cond b (x ∷ []) [] ≡ reverse (cond b (x ∷ filter p xs) (filter p xs))
    put_last true = sym (reverse-append (x ∷ []) (filter p xs))
    put_last false = append-nil (reverse (filter p xs))

-- and of what a view makes of a list
filter-map : {X Y : Type 0} (p : Y → Bool) (view : X → Y) (xs : List X) → filter p (map view xs) ≡ map view (filter (λ x. p (view x)) xs)
filter-map p view [] = refl
filter-map p view (x ∷ xs) = ap (λ ys. cond (p (view x)) (view x ∷ ys) ys) (filter-map p view xs) ∙ put_first (p (view x))
  where
    put_first : (b : Bool) → cond b (view x ∷ map view (filter (λ x. p (view x)) xs)) (map view (filter (λ x. p (view x)) xs)) ≡ map view (cond b (x ∷ filter (λ x. p (view x)) xs) (filter (λ x. p (view x)) xs))
    put_first true = refl
    put_first false = refl

-- a stable sort between two turns keeps the order of what ties
pub keeps : (bars sorted : List Bar) → IsStableByKey (λ (b : Bar). b.size) nat_cmp (reverse bars) sorted → KeepsOrder (map bar_view bars) (map bar_view (reverse sorted))
keeps bars sorted stable r =
    let bar : Bar = record { name = record { ref_ptr = (0, 0); now = r.name }; size = r.size } in
    let row_ties : Row → Bool = ties (λ x y. is_lt (nat_cmp x.size y.size)) r in
    let bar_ties : Bar → Bool = ties (λ x y. is_lt (nat_cmp x.size y.size)) bar in
    filter-map row_ties bar_view (reverse sorted)
    ∙ ap (map bar_view) (filter-reverse bar_ties sorted ∙ ap reverse (stable bar ∙ filter-reverse bar_ties bars) ∙ reverse-reverse (filter bar_ties bars))
    ∙ sym (filter-map row_ties bar_view bars)

-- the sum over both parts
pub both_parts : (bars : List Row) (n : ℕ) → total (take n bars) + total (drop n bars) ≡ total bars
both_parts bars n = sym (sum_by-append (λ (r : Row). r.size) (take n bars) (drop n bars)) ∙ ap total (take-append-drop n bars)

pub many : (count : ℕ) (bars : List Row) → count < length bars → with_others count bars ≡ take count bars ++ others (drop count bars) ∷ []
many count bars lt = let test : nat_le (length bars) count ≡ false = grind (arith, nat_tests) in rw test refl

-- the rows that are shown have the sum of all
pub shown_sum : (count : ℕ) (bars : List Row) → total (with_others count bars) ≡ total bars
shown_sum count bars = by_test (nat_le (length bars) count)
  where
    by_test : (b : Bool) → total (cond b bars (take count bars ++ others (drop count bars) ∷ [])) ≡ total bars
    by_test true = refl
    by_test false = omega (
      arith,
      sum_by-append (λ (r : Row). r.size) (take count bars) (others (drop count bars) ∷ []),
      sum_by-cons (λ (r : Row). r.size) (others (drop count bars)) [],
      both_parts bars count,
    )

-- a picture, written in parts
pub picture_is : (title : List ℕ) (bars : List Row) (n sum most y : ℕ) (size : Option ℕ) (line : Option (List ℕ)) (none start more all : List ℕ) → none ≡ [] → n ≡ height bars → sum ≡ total bars → most ≡ largest bars → line ≡ note bars
    → y ≡ 24 * length bars + 82 → start ≡ none ++ head title n sum size → more ≡ start ++ rows sum most 0 64 bars → all ≡ more ++ foot y line → all ≡ picture title bars size
picture_is title bars n sum most y size line none start more all empty count whole widest noted low first second third =
    third ∙ ap (λ (t : List ℕ). t ++ foot y line) (second ∙ ap (λ (t : List ℕ). t ++ rows sum most 0 64 bars) (first ∙ ap (λ (t : List ℕ). t ++ head title n sum size) empty))
    ∙ append_assoc (head title n sum size) (rows sum most 0 64 bars) (foot y line)
    ∙ ap (λ (k : ℕ). head title n sum size ++ (rows sum most 0 64 bars ++ foot k line)) low
    ∙ ap (λ (o : Option (List ℕ)). head title n sum size ++ (rows sum most 0 64 bars ++ foot (24 * length bars + 82) o)) noted
    ∙ ap (λ (k : ℕ). head title k sum size ++ (rows sum most 0 64 bars ++ foot (24 * length bars + 82) (note bars))) count
    ∙ ap (λ (k : ℕ). head title (height bars) k size ++ (rows k most 0 64 bars ++ foot (24 * length bars + 82) (note bars))) whole
    ∙ ap (λ (k : ℕ). head title (height bars) (total bars) size ++ (rows (total bars) k 0 64 bars ++ foot (24 * length bars + 82) (note bars))) widest
