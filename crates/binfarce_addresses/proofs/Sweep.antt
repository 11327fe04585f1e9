-- The steps of a sweep.
use Rattle.std.proofs.Common.{◌≡◌, ℕ, ◌+◌, ◌-◌, ◌^◌, ◌<◌, ◌≤◌, inl, inr, List, [], ◌∷◌, ◌++◌, length, take, Option, Some, None, MatchOption, sym, ap, subst, ◌∙◌, arith, length-append, length-take}
use Rattle.std.specs.Prelude.{IsSomeAnd}
use Rattle.std.proofs.Math.ListN.{get_or-append}
use Rattle.std.proofs.Math.Seq.{get_or-append_seam}
use Rattle.std.proofs.lemmas.Bool.{cases_lt}
use Rattle.std.proofs.lemmas.List.{get_or-take}
use Rattle.binfarce_addresses.specs.declared.ranges.Row.{Row}
use Rattle.binfarce_addresses.specs.declared.ranges.Span.{Span}
use Rattle.binfarce_addresses.specs.Range.{AreSpans, no_span, span_at}
use Rattle.binfarce_addresses.specs.machine.Sweep.{AreInOrder, AreSwept, DoReach, IsInnermost, IsInnermostRow, IsLastAt, IsSweep, end_at, here, row_at, stack_at}

-- one span more
pub record IsGrown (spans : List Span) (span : Span) (more : List Span) : Type 0 where
  pub count : length more ≡ length spans + 1
  pub old : (k : ℕ) → k < length spans → span_at more k ≡ span_at spans k
  pub new : span_at more (length spans) ≡ span

pub grown : (spans more : List Span) (span : Span) → more ≡ spans ++ span ∷ [] → IsGrown spans span more
grown spans more span is = record {
  count = omega (arith, ap (length {A = Span}) is, length-append spans (span ∷ []));
  old = λ k lt. ap (λ (xs : List Span). span_at xs k) is ∙ get_or-append spans (span ∷ []) no_span k lt;
  new = ap (λ (xs : List Span). span_at xs (length spans)) is ∙ get_or-append_seam spans span [] no_span;
}

-- a row that begins behind the address changes nothing
not_yet : (rows : List Row) (n address : ℕ) (place : Option ℕ) → address < (row_at rows n).address → IsLastAt rows n address place → IsLastAt rows (n + 1) address place
not_yet rows n address None lt none = λ j within holds. elim (cases_lt j n) [
  | inl old ↦ none j old holds
  | inr ge ↦ let is : j ≡ n = omega arith in omega (arith, ap (λ (i : ℕ). (row_at rows i).address) is, holds.0)
]
not_yet rows n address (Some p) lt last = (
  last.0,
  omega (arith, last.1),
  last.2,
  (λ i low within holds. elim (cases_lt i n) [
    | inl old ↦ last.3 i low old holds
    | inr ge ↦ let is : i ≡ n = omega arith in omega (arith, ap (λ (i : ℕ). (row_at rows i).address) is, holds.0)
  ]),
  last.4,
)

module _ (rows : List Row) (n : ℕ) (spans : List Span) (stack : List ℕ) (sweep : IsSweep rows n spans stack) where
  -- from the last span on, up to where the last open row ends, that span is right
  right : (place : Option ℕ) → IsInnermost rows stack place → (address : ℕ) → here spans ≤ address → DoReach rows stack address → IsLastAt rows n address place
  right None none address low reach = λ j within holds.
      let open_too = sweep.cover j address within low holds in omega (arith, open_too.1, none)
  right (Some p) inner address low reach =
      let top = length stack - 1 in
      let lt : top < length stack = omega (arith, inner.0) in (
        stack_at stack top,
        sweep.known top lt,
        (omega (arith, sweep.begun top lt), reach top lt),
        λ i high within holds.
            let open_too = sweep.cover i address within low holds in
            elim (cases_lt open_too.0 top) [
              | inl below ↦ omega (arith, sweep.later open_too.0 top below lt, open_too.2)
              | inr ge ↦ let is : open_too.0 ≡ top = omega (arith, open_too.1) in omega (arith, ap (stack_at stack) is, open_too.2)
            ],
        inner.1,
      )

  pub right_here : (address : ℕ) → here spans ≤ address → DoReach rows stack address → IsLastAt rows n address (span_at spans (length spans - 1)).place
  right_here = right (span_at spans (length spans - 1)).place sweep.inner

  -- spans that go on behind the last one
  go_on : (span : Span) (more : List Span) → IsGrown spans span more → here spans ≤ span.start → AreSpans more
  go_on span more grows low = record {
    some = omega (arith, grows.count);
    first = ap (λ (s : Span). s.start) (grows.old 0 sweep.are.some) ∙ sweep.are.first;
    rise = λ i j le lt. elim (cases_lt j (length spans)) [
      | inl old ↦ omega (arith, sweep.are.rise i j le old, ap (λ (s : Span). s.start) (grows.old i (omega arith)), ap (λ (s : Span). s.start) (grows.old j old))
      | inr ge ↦
          let is : j ≡ length spans = omega (arith, grows.count) in
          let at_j : (span_at more j).start ≡ span.start = ap (λ (k : ℕ). (span_at more k).start) is ∙ ap (λ (s : Span). s.start) grows.new in
          elim (cases_lt i (length spans)) [
            | inl old ↦ omega (arith, at_j, low, sweep.are.rise i (length spans - 1) (omega arith) (omega (arith, sweep.are.some)), ap (λ (s : Span). s.start) (grows.old i old))
            | inr same ↦ let same_place : i ≡ j = omega arith in omega (arith, ap (λ (k : ℕ). (span_at more k).start) same_place)
          ]
    ];
  }

  -- the new last span
  pub newest : (span : Span) (more : List Span) → IsGrown spans span more → span_at more (length more - 1) ≡ span
  newest span more grows = let is : length more - 1 ≡ length spans = omega (arith, grows.count) in ap (span_at more) is ∙ grows.new

  -- up to the new last span, all are right
  pub still : (span : Span) (more : List Span) → IsGrown spans span more → ((address : ℕ) → here spans ≤ address → address < span.start → DoReach rows stack address)
      → (k address : ℕ) → k + 1 < length more → (span_at more k).start ≤ address → address < (span_at more (k + 1)).start → IsLastAt rows n address (span_at more k).place
  still span more grows reach k address lt low high =
      let at_k : span_at more k ≡ span_at spans k = grows.old k (omega (arith, grows.count)) in
      let start_k = ap (λ (s : Span). s.start) at_k in
      let P : Span → Type 0 = λ s. IsLastAt rows n address s.place in
      subst P (sym at_k) (elim (cases_lt (k + 1) (length spans)) [
        | inl old ↦ sweep.final k address old (omega (arith, start_k)) (omega (arith, ap (λ (s : Span). s.start) (grows.old (k + 1) old)))
        | inr ge ↦
            let is : k ≡ length spans - 1 = omega (arith, grows.count) in
            let next : k + 1 ≡ length spans = omega (arith, grows.count) in
            let ends : (span_at more (k + 1)).start ≡ span.start = ap (λ (i : ℕ). (span_at more i).start) next ∙ ap (λ (s : Span). s.start) grows.new in
            let from : here spans ≤ address = omega (arith, start_k, ap (λ (i : ℕ). (span_at spans i).start) is) in
            let Q : ℕ → Type 0 = λ i. IsLastAt rows n address (span_at spans i).place in
            subst Q (sym is) (right_here address from (reach address from (omega (arith, ends))))
      ])

-- the last open row ends: the others stay
pub closed : (rows : List Row) (n : ℕ) (spans more : List Span) (stack short : List ℕ) (span : Span) → IsSweep rows n spans stack → 0 < length stack → short ≡ take (length stack - 1) stack → IsGrown spans span more
    → span.start ≡ end_at rows stack (length stack - 1) + 1 → IsInnermost rows short span.place → IsSweep rows n more short
closed rows n spans more stack short span sweep some is grows begins inner =
    let top = length stack - 1 in
    let lt : top < length stack = omega arith in
    let count : length short ≡ top = omega (arith, ap (length {A = ℕ}) is, length-take top stack) in
    let same : (m : ℕ) → m < top → stack_at short m ≡ stack_at stack m = λ m below. ap (λ (xs : List ℕ). stack_at xs m) is ∙ get_or-take top stack m 0 below in
    let end_same : (m : ℕ) → m < top → end_at rows short m ≡ end_at rows stack m = λ m below. ap (λ (j : ℕ). (row_at rows j).last) (same m below) in
    let start : here more ≡ span.start = ap (λ (s : Span). s.start) (newest rows n spans stack sweep span more grows) in
    let low : here spans ≤ span.start = omega (arith, begins, sweep.reach top lt) in
    record {
      are = go_on rows n spans stack sweep span more grows low;
      final = still rows n spans stack sweep span more grows (λ address from below m within. elim (cases_lt m top) [
        | inl less ↦ omega (arith, begins, sweep.nested m top less lt)
        | inr ge ↦ let here_is : m ≡ top = omega arith in omega (arith, begins, ap (end_at rows stack) here_is)
      ]);
      inner = let P : Span → Type 0 = λ s. IsInnermost rows short s.place in subst P (sym (newest rows n spans stack sweep span more grows)) inner;
      known = λ m within. omega (arith, same m (omega (arith, count)), sweep.known m (omega (arith, count)));
      begun = λ m within. omega (arith, start, low, ap (λ (j : ℕ). (row_at rows j).address) (same m (omega (arith, count))), sweep.begun m (omega (arith, count)));
      reach = λ m within. omega (arith, start, begins, end_same m (omega (arith, count)), sweep.nested m top (omega (arith, count)) lt);
      later = λ l m less within. omega (arith, same l (omega (arith, count)), same m (omega (arith, count)), sweep.later l m less (omega (arith, count)));
      nested = λ l m less within. omega (arith, end_same l (omega (arith, count)), end_same m (omega (arith, count)), sweep.nested l m less (omega (arith, count)));
      cover = λ j address within from holds.
          let old = sweep.cover j address within (omega (arith, start, low)) holds in
          elim (cases_lt old.0 top) [
            | inl less ↦ (old.0, omega (arith, count), omega (arith, same old.0 less, old.2), omega (arith, end_same old.0 less, old.3))
            | inr ge ↦ let is_top : old.0 ≡ top = omega (arith, old.1) in absurd (omega (arith, start, begins, ap (end_at rows stack) is_top, old.3))
          ];
    }

-- the next row opens: of the open rows those stay that reach further
pub opened : (rows : List Row) (n : ℕ) (spans more : List Span) (stack next : List ℕ) (q : ℕ) (span : Span) → AreInOrder rows → n < length rows → IsSweep rows n spans stack → here spans ≤ (row_at rows n).address → DoReach rows stack (row_at rows n).address
    → q ≤ length stack → ((m : ℕ) → m < q → (row_at rows n).last < end_at rows stack m) → ((m : ℕ) → q ≤ m → m < length stack → end_at rows stack m ≤ (row_at rows n).last) → next ≡ take q stack ++ n ∷ [] → IsGrown spans span more
    → span.start ≡ (row_at rows n).address → IsInnermost rows next span.place → IsSweep rows (n + 1) more next
opened rows n spans more stack next q span order lt sweep low reach within further outlived is grows begins inner =
    let row = row_at rows n in
    let kept : length (take q stack) ≡ q = omega (arith, length-take q stack) in
    let count : length next ≡ q + 1 = omega (arith, kept, ap (length {A = ℕ}) is, length-append (take q stack) (n ∷ [])) in
    let same : (m : ℕ) → m < q → stack_at next m ≡ stack_at stack m = λ m below. ap (λ (xs : List ℕ). stack_at xs m) is ∙ get_or-append (take q stack) (n ∷ []) 0 m (omega (arith, kept)) ∙ get_or-take q stack m 0 below in
    let end_same : (m : ℕ) → m < q → end_at rows next m ≡ end_at rows stack m = λ m below. ap (λ (j : ℕ). (row_at rows j).last) (same m below) in
    let top : stack_at next q ≡ n = ap (λ (xs : List ℕ). stack_at xs q) is ∙ ap (stack_at (take q stack ++ n ∷ [])) (sym kept) ∙ get_or-append_seam (take q stack) n [] 0 in
    let top_at : (m : ℕ) → q ≤ m → m < length next → stack_at next m ≡ n = λ m high below. let here_is : m ≡ q = omega (arith, count) in ap (stack_at next) here_is ∙ top in
    let end_top : (m : ℕ) → q ≤ m → m < length next → end_at rows next m ≡ row.last = λ m high below. ap (λ (j : ℕ). (row_at rows j).last) (top_at m high below) in
    let start : here more ≡ row.address = ap (λ (s : Span). s.start) (newest rows n spans stack sweep span more grows) ∙ begins in
    record {
      are = go_on rows n spans stack sweep span more grows (omega (arith, begins));
      final = λ k address inside from below.
          not_yet rows n address (span_at more k).place (before k address inside below)
          (still rows n spans stack sweep span more grows (λ a from_here less m open_too. omega (arith, begins, reach m open_too)) k address inside from below);
      inner = let P : Span → Type 0 = λ s. IsInnermost rows next s.place in subst P (sym (newest rows n spans stack sweep span more grows)) inner;
      known = λ m inside. elim (cases_lt m q) [
        | inl old ↦ omega (arith, same m old, sweep.known m (omega arith))
        | inr ge ↦ omega (arith, top_at m ge inside)
      ];
      begun = λ m inside. elim (cases_lt m q) [
        | inl old ↦ omega (arith, start, low, ap (λ (j : ℕ). (row_at rows j).address) (same m old), sweep.begun m (omega arith))
        | inr ge ↦ omega (arith, start, ap (λ (j : ℕ). (row_at rows j).address) (top_at m ge inside))
      ];
      reach = λ m inside. elim (cases_lt m q) [
        | inl old ↦ omega (arith, start, end_same m old, reach m (omega arith))
        | inr ge ↦ omega (arith, start, end_top m ge inside, order.hold n lt)
      ];
      later = λ l m less inside. elim (cases_lt m q) [
        | inl old ↦ omega (arith, same l (omega arith), same m old, sweep.later l m less (omega arith))
        | inr ge ↦ omega (arith, same l (omega (arith, count)), top_at m ge inside, sweep.known l (omega (arith, count)))
      ];
      nested = λ l m less inside. elim (cases_lt m q) [
        | inl old ↦ omega (arith, end_same l (omega arith), end_same m old, sweep.nested l m less (omega arith))
        | inr ge ↦ omega (arith, end_same l (omega (arith, count)), end_top m ge inside, further l (omega (arith, count)))
      ];
      cover = λ j address inside from holds. elim (cases_lt j n) [
        | inl old ↦
            let was = sweep.cover j address old (omega (arith, start, low)) holds in
            elim (cases_lt was.0 q) [
              | inl less ↦ (was.0, omega (arith, count), omega (arith, same was.0 less, was.2), omega (arith, end_same was.0 less, was.3))
              | inr ge ↦ (q, omega (arith, count), omega (arith, top), omega (arith, end_top q (omega arith) (omega (arith, count)), outlived was.0 ge was.1, was.3))
            ]
        | inr ge ↦
            let is_n : j ≡ n = omega arith in
            (q, omega (arith, count), omega (arith, top), omega (arith, end_top q (omega arith) (omega (arith, count)), ap (λ (i : ℕ). (row_at rows i).last) is_n, holds.1))
      ];
    }
  where
    before : (k address : ℕ) → k + 1 < length more → address < (span_at more (k + 1)).start → address < (row_at rows n).address
    before k address inside below =
        let spans_are = go_on rows n spans stack sweep span more grows (omega (arith, begins)) in
        let start : here more ≡ (row_at rows n).address = ap (λ (s : Span). s.start) (newest rows n spans stack sweep span more grows) ∙ begins in
        omega (arith, start, spans_are.rise (k + 1) (length more - 1) (omega arith) (omega arith))

-- all rows were swept, and those that are open reach the last address
pub swept : (rows : List Row) (spans : List Span) (stack : List ℕ) → IsSweep rows (length rows) spans stack → DoReach rows stack (2 ^ 64 - 1) → AreSwept rows spans
swept rows spans stack sweep reach = record {
  are = sweep.are;
  each = λ k address fits at. elim (cases_lt (k + 1) (length spans)) [
    | inl inner ↦ sweep.final k address inner at.1 (at.2 inner)
    | inr ge ↦
        let is : k ≡ length spans - 1 = omega (arith, at.0) in
        let Q : ℕ → Type 0 = λ i. IsLastAt rows (length rows) address (span_at spans i).place in
        subst Q (sym is) (right_here rows (length rows) spans stack sweep address (omega (arith, at.1, ap (λ (i : ℕ). (span_at spans i).start) is)) (λ m lt. omega (arith, reach m lt)))
  ];
}

-- the open rows that are left reach further where the last of them does
pub do_reach : (rows : List Row) (n : ℕ) (spans : List Span) (stack kept : List ℕ) (address : ℕ) → IsSweep rows n spans stack → length kept ≤ length stack → kept ≡ take (length kept) stack → (0 < length kept → address ≤ end_at rows kept (length kept - 1))
    → (m : ℕ) → m < length kept → address ≤ end_at rows stack m
do_reach rows n spans stack kept address sweep within are last m lt =
    let top = length kept - 1 in
    let same : end_at rows kept top ≡ end_at rows stack top = ap (λ (j : ℕ). (row_at rows j).last) (ap (λ (xs : List ℕ). stack_at xs top) are ∙ get_or-take (length kept) stack top 0 (omega arith)) in
    elim (cases_lt m top) [
      | inl less ↦ omega (arith, same, last (omega arith), sweep.nested m top less (omega arith))
      | inr ge ↦ let is : m ≡ top = omega arith in omega (arith, same, last (omega arith), ap (end_at rows stack) is)
    ]

-- the place of the last open row
pub placed : (rows : List Row) (stack : List ℕ) (row : Option Row) (place : Option ℕ) → IsInnermostRow rows stack row → MatchOption row (place ≡ None) (λ r. IsSomeAnd place (λ p. p ≡ r.place.0)) → IsInnermost rows stack place
placed rows stack None place none is = let P : Option ℕ → Type 0 = λ o. IsInnermost rows stack o in subst P (sym is) none
placed rows stack (Some r) None inner is = absurd is
placed rows stack (Some r) (Some p) inner is = (inner.0, is ∙ ap (λ (row : Row). row.place.0) inner.1)

pub still_known : (limit : ℕ) (stack short : List ℕ) → short ≡ take (length stack - 1) stack → ((m : ℕ) → m < length stack → stack_at stack m < limit) → (m : ℕ) → m < length short → stack_at short m < limit
still_known limit stack short is known m lt =
    let below : m < length stack - 1 = omega (arith, lt, ap (length {A = ℕ}) is, length-take (length stack - 1) stack) in
    omega (arith, ap (λ (xs : List ℕ). stack_at xs m) is ∙ get_or-take (length stack - 1) stack m 0 below, known m (omega arith))
