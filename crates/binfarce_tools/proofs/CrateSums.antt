-- Sums by crate, added one share after the other.
use Rattle.std.proofs.Common.{◌≡◌, ℕ, ◌+◌, ◌<◌, ◌≤◌, ◌^◌, Bool, true, false, cond, List, [], ◌∷◌, ◌||◌, Option, Some, String, BTreeMap, refl, sym, ◌∙◌, ap, subst, arith, unwrap_or}
use Rattle.std.specs.BTreeMap.{get_by_text}
use Rattle.std.specs.Cmp.Lexicographic.{bytes_decides}
use Rattle.std.specs.List.{AllZip, filter, sum_by}
use Rattle.std.specs.Option.{is_some, SomeIff}
use Rattle.std.specs.Prelude.{if◌then◌else◌}
use Rattle.std.specs.Str.{bytes_eq}
use Rattle.std.proofs.lemmas.List.Sums.{sum_by-cons}
use Rattle.binfarce.specs.Symbol.{Entry}
use Rattle.binfarce_tools.specs.Report.{Share, IsShareOf, total, sum_of}
use Rattle.binfarce_tools.specs.Sums.{sum_at, occurs, Adds}

pub total-cons : (s : Share) (others : List Share) → total (s ∷ others) ≡ s.size + total others
total-cons s others = sum_by-cons (λ (s : Share). s.size) s others

-- the sum of all sizes of shares is that of their entries
pub total_is : (entries : List Entry) (shares : List Share) → AllZip IsShareOf entries shares → total shares ≡ sum_by (λ (e : Entry). e.size) entries
total_is [] [] are = refl
total_is [] (s ∷ shares) are = absurd are
total_is (e ∷ entries) [] are = absurd are
total_is (e ∷ entries) (s ∷ shares) are =
    total-cons s shares
    ∙ ap (λ (s : Share). s.size + total shares) are.0.2
    ∙ ap (λ (n : ℕ). e.size + n) (total_is entries shares are.1)
    ∙ sym (sum_by-cons (λ (e : Entry). e.size) e entries)

-- a sum that was found
pub checked : (sum total : ℕ) (found : Option ℕ) → SomeIff found (sum < 2 ^ 64) sum → found ≡ Some total → (sum < 2 ^ 64) × (total ≡ sum)
checked sum total found is e = let P : Option ℕ → Type 0 = λ o. SomeIff o (sum < 2 ^ 64) sum in subst P e is

-- one more size in the sum of those so far
pub one_size : (before left : List Entry) (entry : Entry) (sum more all : ℕ) → before ≡ entry ∷ left → more ≡ sum + entry.size → sum + sum_by (λ (e : Entry). e.size) before ≡ all → more + sum_by (λ (e : Entry). e.size) left ≡ all
one_size before left entry sum more all first grown is =
    omega (arith, ap (λ (es : List Entry). sum_by (λ (e : Entry). e.size) es) first, sum_by-cons (λ (e : Entry). e.size) entry left, grown, is)

-- no size is left
pub all_sizes : (left : List Entry) (sum all : ℕ) → left ≡ [] → sum + sum_by (λ (e : Entry). e.size) left ≡ all → all ≡ sum
all_sizes left sum all none is = let P : List Entry → Type 0 = λ es. sum + sum_by (λ (e : Entry). e.size) es ≡ all in
    let done : sum + 0 ≡ all = subst P none is in omega (arith, done)

-- what a share adds to the sum of a crate
abbrev pub added : Share → List ℕ → ℕ
added s name = if bytes_eq s.name name then s.size else 0

kept : (b : Bool) (s : Share) (others : List Share) → total (if b then s ∷ others else others) ≡ (if b then s.size else 0) + total others
kept true s others = total-cons s others
kept false s others = let none : total others ≡ 0 + total others = omega arith in none

pub sum_of-cons : (s : Share) (others : List Share) (name : List ℕ) → sum_of (s ∷ others) name ≡ added s name + sum_of others name
sum_of-cons s others name = kept (bytes_eq s.name name) s (filter (λ (s : Share). bytes_eq s.name name) others)

swapped : (a b c : Bool) → (a || (b || c)) ≡ ((b || a) || c)
swapped true true c = refl
swapped true false c = refl
swapped false true c = refl
swapped false false c = refl

at_most : (s : Share) (name : List ℕ) → added s name ≤ s.size
at_most s name = by_test (bytes_eq s.name name)
  where
    by_test : (b : Bool) → (if b then s.size else 0) ≤ s.size
    by_test true = omega arith
    by_test false = omega arith

no_more : (b : Bool) → (b || false) ≡ b
no_more true = refl
no_more false = refl

module _ {Y : Type 0} where
  -- shares of which some were added, and the others are still to come
  pub record Sums (shares others : List Share) (crates : BTreeMap (String Y) ℕ) : Type 0 where
    pub sums_are : (name : List ℕ) → sum_of shares name ≡ sum_at crates name + sum_of others name
    pub crates_are : (name : List ℕ) → occurs shares name ≡ (is_some (get_by_text crates name) || occurs others name)

  -- with the shares of the entries that are left, those of all are summed
  abbrev pub Completes : List Entry → List Entry → BTreeMap (String Y) ℕ → Type 0
  Completes all left crates = (others : List Share) → AllZip IsShareOf left others → (shares : List Share) × AllZip IsShareOf all shares × Sums shares others crates

  -- the sum of a crate, and whether there is one, after a share was added
  sum_added : (old new : BTreeMap (String Y) ℕ) (s : Share) (name : List ℕ) → Adds old s new → sum_at new name ≡ sum_at old name + added s name
  sum_added old new s name adds = ap (λ (o : Option ℕ). unwrap_or o 0) (adds name) ∙ by_test (bytes_eq s.name name) refl
    where
      by_test : (b : Bool) → bytes_eq s.name name ≡ b → unwrap_or (cond b (Some (sum_at old s.name + s.size)) (get_by_text old name)) 0 ≡ sum_at old name + (if b then s.size else 0)
      by_test true e = ap (λ (n : List ℕ). sum_at old n + s.size) ((bytes_decides s.name name).0 e)
      by_test false e = let none : sum_at old name ≡ sum_at old name + 0 = omega arith in none

  crate_added : (old new : BTreeMap (String Y) ℕ) (s : Share) (name : List ℕ) → Adds old s new → is_some (get_by_text new name) ≡ (bytes_eq s.name name || is_some (get_by_text old name))
  crate_added old new s name adds = ap (λ (o : Option ℕ). is_some o) (adds name) ∙ by_test (bytes_eq s.name name)
    where
      by_test : (b : Bool) → is_some (cond b (Some (sum_at old s.name + s.size)) (get_by_text old name)) ≡ (b || is_some (get_by_text old name))
      by_test true = refl
      by_test false = refl

  -- the first of the others was added
  pub one_added : (shares others : List Share) (s : Share) (old new : BTreeMap (String Y) ℕ) → Adds old s new → Sums shares (s ∷ others) old → Sums shares others new
  one_added shares others s old new adds w = record {
    sums_are = λ name. omega (arith, w.sums_are name, sum_of-cons s others name, sum_added old new s name adds);
    crates_are = λ name. w.crates_are name ∙ swapped (is_some (get_by_text old name)) (bytes_eq s.name name) (occurs others name)
        ∙ ap (λ (b : Bool). b || occurs others name) (sym (crate_added old new s name adds));
  }

  -- the share of the first entry that was left was added
  pub one_share : (all before left : List Entry) (entry : Entry) (s : Share) (old new : BTreeMap (String Y) ℕ) → before ≡ entry ∷ left → IsShareOf entry s → Adds old s new → Completes all before old → Completes all left new
  one_share all before left entry s old new first is adds w others are =
      let P : List Entry → Type 0 = λ x. Completes all x old in
      let c = subst P first w (s ∷ others) (is, are) in (c.0, c.1, one_added c.0 others s old new adds c.2)

  -- no sum is greater than that of all
  abbrev pub Fit : BTreeMap (String Y) ℕ → ℕ → Type 0
  Fit crates total = (name : List ℕ) → sum_at crates name ≤ total

  pub fit_more : (old new : BTreeMap (String Y) ℕ) (s : Share) (total more : ℕ) → Adds old s new → Fit old total → more ≡ total + s.size → Fit new more
  fit_more old new s total more adds fit is name = omega (arith, is, fit name, sum_added old new s name adds, at_most s name)

  -- no share is left
  pub all_added : (all left : List Entry) (crates : BTreeMap (String Y) ℕ) → left ≡ [] → Completes all left crates
      → (shares : List Share) × AllZip IsShareOf all shares × ((name : List ℕ) → sum_of shares name ≡ sum_at crates name) × ((name : List ℕ) → occurs shares name ≡ is_some (get_by_text crates name))
  all_added all left crates none w =
      let P : List Entry → Type 0 = λ x. Completes all x crates in
      let c = subst P none w [] tt in
      (c.0, c.1, λ name. omega (arith, c.2.sums_are name), λ name. c.2.crates_are name ∙ no_more (is_some (get_by_text crates name)))
