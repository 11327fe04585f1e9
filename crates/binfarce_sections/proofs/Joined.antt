-- Changes that rise by name, whose neighbours of one name are made one: a row for each name, with the sums over all changes of it.
use Rattle.std.proofs.Common.{◌≡◌, ◌<◌, ℕ, suc, ◌+◌, Bool, true, false, ◌||◌, cond, List, [], ◌∷◌, ◌++◌, filter, get_or, length, map, nat_cmp, refl, sym, ap, subst, ◌∙◌, arith}
use Rattle.std.proofs.lemmas.List.Folds.{list_any-append}
use Rattle.std.proofs.lemmas.List.Sorted.{list_any-IsPermutation, sum_by-IsPermutation}
use Rattle.std.proofs.lemmas.List.Sums.{sum_by-cons}
use Rattle.std.proofs.lemmas.Map.Text.{is_eq-slice_cmp}
use Rattle.std.specs.Cmp.{alike_right}
use Rattle.std.specs.Cmp.Lexicographic.{bytes_decides, nat_list_cmp_total, nat_list_eq_equiv, slice_cmp}
use Rattle.std.specs.List.{AllByRecursion, list_any, sum_by}
use Rattle.std.specs.List.Sorted.{IsSortedByKey, IsStrictlySortedBy}
use Rattle.std.specs.Ordering.{is_eq, is_lt, ordering_reverse}
use Rattle.std.specs.Prelude.{IsPermutation, if◌then◌else◌}
use Rattle.std.specs.Str.{bytes_eq}
use Rattle.std.specs.declared.cmp.Ordering.{Ordering}
use Rattle.std.specs.declared.cmp.Ordering.TheVariants.{Less, Equal, Greater}
use Rattle.binfarce_sections.specs.declared.changes.Change.{Change}
use Rattle.binfarce_sections.specs.Changes.{AreNamesOf, Part, Row, new_row, old_row, row_of, row_view, sum_named}
use Rattle.binfarce_sections.specs.Sums.{IsByKey}
use Rattle.binfarce_sections.specs.machine.Changed.{added, joined, joined_to}
use Rattle.binfarce_sections.proofs.ChangeSums.{given_sum}

abbrev pub name_of : Change → List ℕ
name_of c = c.name.now

abbrev order : List ℕ → List ℕ → Ordering
order a b = slice_cmp nat_cmp a b

-- a name that comes before another isn't equal to it
reversed_is : (a b : List ℕ) → order a b ≡ Less → bytes_eq b a ≡ false
reversed_is a b less = sym (is_eq-slice_cmp b a) ∙ ap is_eq (nat_list_cmp_total.antisymm b a ∙ ap ordering_reverse less)

unequal : (a b : List ℕ) → order a b ≡ Less → bytes_eq a b ≡ false
unequal a b less = sym (is_eq-slice_cmp a b) ∙ ap is_eq less

-- what comes before a name comes before those that aren't less than it
onward_by : (a b c : List ℕ) (r : Ordering) → order b c ≡ r → order a b ≡ Less → is_lt (order c b) ≡ false → order a c ≡ Less
onward_by a b c Less is less up = nat_list_cmp_total.trans a b c less is
onward_by a b c Equal is less up = sym (alike_right nat_list_cmp_total b c a is) ∙ less
onward_by a b c Greater is less up = let turned : order c b ≡ Less = nat_list_cmp_total.antisymm c b ∙ ap ordering_reverse is in let no : true ≡ false = sym (ap is_lt turned) ∙ up in absurd cc

onward : (a b c : List ℕ) → order a b ≡ Less → is_lt (order c b) ≡ false → order a c ≡ Less
onward a b c less up = onward_by a b c (order b c) refl less up

-- of two names of which the second isn't less, and that differ, the first comes before
before_by : (a b : List ℕ) (r : Ordering) → order a b ≡ r → is_lt (order b a) ≡ false → bytes_eq a b ≡ false → order a b ≡ Less
before_by a b Less is up differ = is
before_by a b Equal is up differ = let no : true ≡ false = sym (ap is_eq is) ∙ is_eq-slice_cmp a b ∙ differ in absurd cc
before_by a b Greater is up differ = let turned : order b a ≡ Less = nat_list_cmp_total.antisymm b a ∙ ap ordering_reverse is in let no : true ≡ false = sym (ap is_lt turned) ∙ up in absurd cc

-- each name isn't less than the one before it
abbrev Rises : Change → List Change → Type 0
Rises c [] = Unit {0}
Rises c (next ∷ others) = (is_lt (order (name_of next) (name_of c)) ≡ false) × Rises next others

abbrev Steps : List Change → Type 0
Steps changes = (k : ℕ) (d : Change) → suc k < length changes → is_lt (order (name_of (get_or changes (suc k) d)) (name_of (get_or changes k d))) ≡ false

steps : (changes : List Change) → IsSortedByKey name_of (slice_cmp nat_cmp) changes → Steps changes
steps changes sorted = λ k d lt.
    let next : k + 1 ≡ suc k = omega arith in
    subst (λ (n : ℕ). is_lt (order (name_of (get_or changes n d)) (name_of (get_or changes k d))) ≡ false) next (sorted k d (omega arith) (omega (arith, lt)))

rises_by : (c : Change) (others : List Change) → Steps (c ∷ others) → Rises c others
rises_by c [] up = tt
rises_by c (next ∷ others) up = (up 0 c (omega arith), rises_by next others (λ k d lt. up (suc k) d (omega (arith, lt))))

renamed : (c d : Change) (others : List Change) → name_of c ≡ name_of d → Rises c others → Rises d others
renamed c d [] is rises = tt
renamed c d (next ∷ others) is rises = (subst (λ (n : List ℕ). is_lt (order (name_of next) n) ≡ false) is rises.0, rises.1)

-- a number of the changes of a name
abbrev pub named_sum : (w : Change → ℕ) → (name : List ℕ) → List Change → ℕ
named_sum w name changes = sum_by (λ c. if bytes_eq (name_of c) name then w c else 0) changes

abbrev pub row_at : List Change → (name : List ℕ) → Row
row_at changes name = record {
  name = name;
  old = named_sum (λ c. c.old) name changes;
  new = named_sum (λ c. c.new) name changes;
  old_memory = named_sum (λ c. c.old_memory) name changes;
  new_memory = named_sum (λ c. c.new_memory) name changes;
}

-- none is of a name before the first one's
no_sum : (w : Change → ℕ) (name : List ℕ) (c : Change) (others : List Change) → order name (name_of c) ≡ Less → Rises c others → named_sum w name (c ∷ others) ≡ 0
no_sum w name c [] less rises = omega (arith, sum_by-cons (λ (x : Change). if bytes_eq (name_of x) name then w x else 0) c [], ap (λ (b : Bool). if b then w c else 0) (reversed_is name (name_of c) less))
no_sum w name c (next ∷ others) less rises = omega (
  arith,
  sum_by-cons (λ (x : Change). if bytes_eq (name_of x) name then w x else 0) c (next ∷ others),
  ap (λ (b : Bool). if b then w c else 0) (reversed_is name (name_of c) less),
  no_sum w name next others (onward name (name_of c) (name_of next) less rises.0) rises.1,
)

abbrev pub names : List Change → List (List ℕ)
names changes = map name_of changes

-- of two neighbours: they are made one, or the first is left
by_test : (P : List Change → Type 0) (c next : Change) (others : List Change) (b : Bool) → (b ≡ true → P (joined_to (added c next) others)) → (b ≡ false → P (c ∷ joined_to next others))
    → P (if b then joined_to (added c next) others else c ∷ joined_to next others)
by_test P c next others true same differ = same refl
by_test P c next others false same differ = differ refl

-- a name before the first one's comes before all
above : (name : List ℕ) (c : Change) (others : List Change) → order name (name_of c) ≡ Less → Rises c others → AllByRecursion (λ (n : List ℕ). order name n ≡ Less) (names (joined_to c others))
above name c [] less rises = (less, tt)
above name c (next ∷ others) less rises =
    by_test (λ rows. AllByRecursion (λ (n : List ℕ). order name n ≡ Less) (names rows)) c next others (bytes_eq (name_of c) (name_of next))
    (λ equal. above name (added c next) others less (renamed next (added c next) others (sym ((bytes_decides (name_of c) (name_of next)).0 equal)) rises.1))
    (λ differ. (less, above name next others (onward name (name_of c) (name_of next) less rises.0) rises.1))

-- numbers of one name with those of others
same_number : (c next : ℕ) (others : ℕ) (b : Bool) → (if b then c + next else 0) + others ≡ (if b then c else 0) + ((if b then next else 0) + others)
same_number c next others true = omega arith
same_number c next others false = omega arith

module _ (c next : Change) (others : List Change) (is : name_of c ≡ name_of next) where
  same_sum : (w : Change → ℕ) → w (added c next) ≡ w c + w next → (name : List ℕ) → named_sum w name (added c next ∷ others) ≡ named_sum w name (c ∷ next ∷ others)
  same_sum w adds name = omega (
    arith,
    sum_by-cons (λ (x : Change). if bytes_eq (name_of x) name then w x else 0) (added c next) others,
    sum_by-cons (λ (x : Change). if bytes_eq (name_of x) name then w x else 0) c (next ∷ others),
    sum_by-cons (λ (x : Change). if bytes_eq (name_of x) name then w x else 0) next others,
    ap (λ (n : ℕ). if bytes_eq (name_of c) name then n else 0) adds,
    ap (λ (n : List ℕ). if bytes_eq n name then w next else 0) is,
    same_number (w c) (w next) (named_sum w name others) (bytes_eq (name_of c) name),
  )

  same_row : (name : List ℕ) → row_at (added c next ∷ others) name ≡ row_at (c ∷ next ∷ others) name
  same_row name = λ i. record {
    name = name;
    old = same_sum (λ x. x.old) refl name i;
    new = same_sum (λ x. x.new) refl name i;
    old_memory = same_sum (λ x. x.old_memory) refl name i;
    new_memory = same_sum (λ x. x.new_memory) refl name i;
  }

  same_any : (name : List ℕ) → (bytes_eq name (name_of c) || list_any (λ x. bytes_eq name (name_of x)) others) ≡ list_any (λ x. bytes_eq name (name_of x)) (c ∷ next ∷ others)
  same_any name = twice (bytes_eq name (name_of c)) (list_any (λ x. bytes_eq name (name_of x)) others) ∙ ap (λ (n : List ℕ). bytes_eq name (name_of c) || (bytes_eq name n || list_any (λ x. bytes_eq name (name_of x)) others)) is
    where
      twice : (a b : Bool) → (a || b) ≡ (a || (a || b))
      twice true b = refl
      twice false b = refl

same_map : {X Y : Type 0} (f g : X → Y) → ((x : X) → f x ≡ g x) → (xs : List X) → map f xs ≡ map g xs
same_map f g same [] = refl
same_map f g same (x ∷ xs) = λ i. same x i ∷ same_map f g same xs i

map_where : {X Y : Type 0} (P : X → Type 0) (f g : X → Y) → ((x : X) → P x → f x ≡ g x) → (xs : List X) → AllByRecursion P xs → map f xs ≡ map g xs
map_where P f g same [] all = refl
map_where P f g same (x ∷ xs) all = λ i. same x all.0 i ∷ map_where P f g same xs all.1 i

-- a change of another name adds nothing
module _ (c : Change) (others : List Change) where
  past_sum : (w : Change → ℕ) (name : List ℕ) → bytes_eq (name_of c) name ≡ false → named_sum w name others ≡ named_sum w name (c ∷ others)
  past_sum w name differ = omega (arith, sum_by-cons (λ (x : Change). if bytes_eq (name_of x) name then w x else 0) c others, ap (λ (b : Bool). if b then w c else 0) differ)

  past_row : (name : List ℕ) → order (name_of c) name ≡ Less → row_at others name ≡ row_at (c ∷ others) name
  past_row name less = let differ = unequal (name_of c) name less in λ i. record {
    name = name;
    old = past_sum (λ x. x.old) name differ i;
    new = past_sum (λ x. x.new) name differ i;
    old_memory = past_sum (λ x. x.old_memory) name differ i;
    new_memory = past_sum (λ x. x.new_memory) name differ i;
  }

  own_sum : (w : Change → ℕ) → named_sum w (name_of c) others ≡ 0 → w c ≡ named_sum w (name_of c) (c ∷ others)
  own_sum w none = omega (arith, sum_by-cons (λ (x : Change). if bytes_eq (name_of x) (name_of c) then w x else 0) c others, ap (λ (b : Bool). if b then w c else 0) (nat_list_eq_equiv.refl (name_of c)), none)

  own_row : ((w : Change → ℕ) → named_sum w (name_of c) others ≡ 0) → row_view c ≡ row_at (c ∷ others) (name_of c)
  own_row none = λ i. record {
    name = name_of c;
    old = own_sum (λ x. x.old) (none (λ x. x.old)) i;
    new = own_sum (λ x. x.new) (none (λ x. x.new)) i;
    old_memory = own_sum (λ x. x.old_memory) (none (λ x. x.old_memory)) i;
    new_memory = own_sum (λ x. x.new_memory) (none (λ x. x.new_memory)) i;
  }

-- rows are those of the names of changes, each with its sums
pub record AreRows (changes rows : List Change) : Type 0 where
  pub rises : IsStrictlySortedBy (slice_cmp nat_cmp) (names rows)
  pub same : (name : List ℕ) → list_any (bytes_eq name) (names rows) ≡ list_any (λ c. bytes_eq name (name_of c)) changes
  pub rows_are : map row_view rows ≡ map (row_at changes) (names rows)

none_are : AreRows [] []
unfolding IsStrictlySortedBy
none_are = record { rises = tt; same = λ name. refl; rows_are = refl }

one_is : (c : Change) → AreRows (c ∷ []) (c ∷ [])
unfolding IsStrictlySortedBy
one_is c = record { rises = (tt, tt); same = λ name. refl; rows_are = λ i. own_row c [] (λ w. refl) i ∷ [] }

-- with a change before them whose name is the first one's, or comes before theirs
together : (c next : Change) (others : List Change) → name_of c ≡ name_of next → AreRows (added c next ∷ others) (joined_to (added c next) others) → AreRows (c ∷ next ∷ others) (joined_to (added c next) others)
together c next others is joins = record {
  rises = joins.rises;
  same = λ name. joins.same name ∙ same_any c next others is name;
  rows_are = joins.rows_are ∙ same_map (row_at (added c next ∷ others)) (row_at (c ∷ next ∷ others)) (same_row c next others is) (names (joined_to (added c next) others));
}

apart : (c next : Change) (others : List Change) → order (name_of c) (name_of next) ≡ Less → Rises c (next ∷ others) → AreRows (next ∷ others) (joined_to next others) → AreRows (c ∷ next ∷ others) (c ∷ joined_to next others)
unfolding IsStrictlySortedBy
apart c next others less rises joins =
    let all = above (name_of c) next others less rises.1 in
    record {
      rises = (all, joins.rises);
      same = λ name. ap (λ (b : Bool). bytes_eq name (name_of c) || b) (joins.same name);
      rows_are = λ i. own_row c (next ∷ others) (λ w. no_sum w (name_of c) next others less rises.1) i
          ∷ (joins.rows_are ∙ map_where (λ n. order (name_of c) n ≡ Less) (row_at (next ∷ others)) (row_at (c ∷ next ∷ others)) (past_row c (next ∷ others)) (names (joined_to next others)) all) i;
    }

joined_to_is : (c : Change) (others : List Change) → Rises c others → AreRows (c ∷ others) (joined_to c others)
joined_to_is c [] rises = one_is c
joined_to_is c (next ∷ others) rises =
    by_test (λ rows. AreRows (c ∷ next ∷ others) rows) c next others (bytes_eq (name_of c) (name_of next))
    (λ equal. together c next others ((bytes_decides (name_of c) (name_of next)).0 equal) (joined_to_is (added c next) others (renamed next (added c next) others (sym ((bytes_decides (name_of c) (name_of next)).0 equal)) rises.1)))
    (λ differ. apart c next others (before_by (name_of c) (name_of next) (order (name_of c) (name_of next)) refl rises.0 differ) rises (joined_to_is next others rises.1))

pub joined_is : (sorted : List Change) → IsSortedByKey name_of (slice_cmp nat_cmp) sorted → AreRows sorted (joined sorted)
joined_is [] rises = none_are
joined_is (c ∷ others) rises = joined_to_is c others (rises_by c others (steps (c ∷ others) rises))

-- the same in another order of the changes
moved_row : (given sorted : List Change) → IsPermutation given sorted → (name : List ℕ) → row_at sorted name ≡ row_at given name
moved_row given sorted same name =
    let moved = λ (w : Change → ℕ). sum_by-IsPermutation (λ (c : Change). if bytes_eq (name_of c) name then w c else 0) given sorted same in
    λ i. record { name = name; old = moved (λ c. c.old) i; new = moved (λ c. c.new) i; old_memory = moved (λ c. c.old_memory) i; new_memory = moved (λ c. c.new_memory) i }

-- the sum over those that pass a test
kept_by : {X : Type 0} (w : X → ℕ) (x : X) (kept : List X) (b : Bool) → (if b then w x else 0) + sum_by w kept ≡ sum_by w (cond b (x ∷ kept) kept)
kept_by w x kept true = sym (sum_by-cons w x kept)
kept_by w x kept false = omega arith

kept_sum : {X : Type 0} (w : X → ℕ) (test : X → Bool) (xs : List X) → sum_by (λ x. if test x then w x else 0) xs ≡ sum_by w (filter test xs)
kept_sum w test [] = refl
kept_sum w test (x ∷ xs) = omega (arith, sum_by-cons (λ y. if test y then w y else 0) x xs, kept_sum w test xs, kept_by w x (filter test xs) (test x))

no_number : (b : Bool) → Path ℕ (if b then 0 else 0) 0
no_number true = refl
no_number false = refl

nothing : (test : Part → Bool) (parts : List Part) → sum_by (λ p. if test p then 0 else 0) parts ≡ 0
nothing test [] = refl
nothing test (p ∷ parts) = omega (arith, sum_by-cons (λ q. if test q then 0 else 0) p parts, no_number (test p), nothing test parts)

any_map : {X Y : Type 0} (test : Y → Bool) (f : X → Y) (xs : List X) → list_any test (map f xs) ≡ list_any (λ x. test (f x)) xs
any_map test f [] = refl
any_map test f (x ∷ xs) = ap (λ (b : Bool). test (f x) || b) (any_map test f xs)

module _ (given : List Change) (old new : List Part) (is : map row_view given ≡ map old_row old ++ map new_row new) where
  module _ (name : List ℕ) where
    abbrev test : Part → Bool
    test p = bytes_eq p.name name

    seen : (w : Row → ℕ) → named_sum (λ c. w (row_view c)) name given
        ≡ sum_by (λ p. if test p then w (old_row p) else 0) old + sum_by (λ p. if test p then w (new_row p) else 0) new
    seen w = given_sum given old new is (λ r. if bytes_eq r.name name then w r else 0)

    as_sizes : (w size : Part → ℕ) → ((p : Part) → w p ≡ size p) → (parts : List Part) → sum_by (λ p. if test p then w p else 0) parts ≡ sum_by (λ p. if test p then size p else 0) parts
    as_sizes w size are parts = λ i. sum_by (λ p. if test p then are p i else 0) parts

    old_is : (w : Row → ℕ) (size : Part → ℕ) → ((p : Part) → w (old_row p) ≡ size p) → ((p : Part) → w (new_row p) ≡ 0) → named_sum (λ c. w (row_view c)) name given ≡ sum_named size name old
    old_is w size sizes none = omega (
      arith,
      seen w,
      as_sizes (λ p. w (old_row p)) size sizes old,
      as_sizes (λ p. w (new_row p)) (λ p. 0) none new,
      kept_sum size test old,
      nothing test new,
    )

    new_is : (w : Row → ℕ) (size : Part → ℕ) → ((p : Part) → w (old_row p) ≡ 0) → ((p : Part) → w (new_row p) ≡ size p) → named_sum (λ c. w (row_view c)) name given ≡ sum_named size name new
    new_is w size none sizes = omega (
      arith,
      seen w,
      as_sizes (λ p. w (old_row p)) (λ p. 0) none old,
      as_sizes (λ p. w (new_row p)) size sizes new,
      kept_sum size test new,
      nothing test old,
    )

    -- the sums of changes that parts make alone
    pub given_row : row_at given name ≡ row_of old new name
    given_row = λ i. record {
      name = name;
      old = old_is (λ r. r.old) (λ p. p.bytes) (λ p. refl) (λ p. refl) i;
      new = new_is (λ r. r.new) (λ p. p.bytes) (λ p. refl) (λ p. refl) i;
      old_memory = old_is (λ r. r.old_memory) (λ p. p.memory) (λ p. refl) (λ p. refl) i;
      new_memory = new_is (λ r. r.new_memory) (λ p. p.memory) (λ p. refl) (λ p. refl) i;
    }

    pub given_any : list_any (λ c. bytes_eq name (name_of c)) given ≡ list_any (λ p. bytes_eq name p.name) (old ++ new)
    given_any =
        let has = λ (r : Row). bytes_eq name r.name in
        let is_named = λ (p : Part). bytes_eq name p.name in
        sym (any_map has row_view given)
        ∙ ap (list_any has) is
        ∙ list_any-append has (map old_row old) (map new_row new)
        ∙ (λ i. any_map has old_row old i || any_map has new_row new i)
        ∙ sym (list_any-append is_named old new)

  -- with neighbours of one name made one
  pub rows_between : (sorted : List Change) → IsByKey name_of (slice_cmp nat_cmp) given sorted
      → AreNamesOf (old ++ new) (names (joined sorted)) × (map row_view (joined sorted) ≡ map (row_of old new) (names (joined sorted)))
  rows_between sorted by_name =
      let rows = joined_is sorted by_name.rises in (
        record { rises = rows.rises; same = λ name. rows.same name ∙ sym (list_any-IsPermutation (λ c. bytes_eq name (name_of c)) given sorted by_name.same) ∙ given_any name },
        rows.rows_are ∙ same_map (row_at sorted) (row_of old new) (λ name. moved_row given sorted by_name.same name ∙ given_row name) (names (joined sorted)),
      )
