-- The least end above an address, by the keys of the ends.
use Rattle.std.proofs.Common.{◌≡◌, ℕ, suc, zero, ◌+◌, ◌-◌, ◌*◌, ◌^◌, ◌<◌, ◌≤◌, Bool, true, false, cond, inl, inr, List, [], ◌∷◌, All, Contains, filter, get_or, length, map, Option, Some, None, nat_lt, eqb, leb, refl, sym, ap, subst, ◌∙◌, arith}
use Rattle.std.specs.List.Sorted.{IsNonDecreasingBy, IsPartitionPoint}
use Rattle.std.proofs.lemmas.Bool.{ltb-true, ltb-false, lt-ltb, le-ltb, eqb-true, cases_lt}
use Rattle.std.proofs.lemmas.Bool.Decides.{nat_tests}
use Rattle.std.proofs.lemmas.List.Elements.{All-nil, All-cons, All-head, All-tail, All-from_get_or, Contains-get_or}
use Rattle.std.proofs.lemmas.List.Sorted.{All-permutation, Contains-permutation, IsPermutation-sym}
use Rattle.binfarce_bytes.specs.Sizes.{least_above}
use Rattle.binfarce_bytes.proofs.Above.{LeastAbove, above_is, least_above_is}
use Rattle.binfarce_elf_memory.specs.ElfEnds.{End, addresses_in}
use Rattle.binfarce_elf_memory.specs.machine.RawSelection.{key_of, AreKeysOf}

-- the address of a key, where it is one of the section of this index
abbrev address_among : ℕ → Option ℕ → Option ℕ
address_among section None = None
address_among section (Some key) = cond (nat_lt (key - section * 2 ^ 64) (2 ^ 64)) (Some (key - section * 2 ^ 64)) None

-- where the search ends, the key there is the least above
module _ (keys : List ℕ) (key place : ℕ) (rises : IsNonDecreasingBy (λ k. k) keys) (bound : place ≤ length keys) (among : IsPartitionPoint (λ k. leb k key ≡ true) (λ k. leb k key ≡ false) keys place) where
  before : (k : ℕ) → k < place → get_or keys k 0 ≤ key
  before k lt = is (get_or keys k 0) key (among.0 k 0 (omega arith) lt)
    where
      is : (a b : ℕ) → leb a b ≡ true → a ≤ b
      is a b e = grind (arith, nat_tests)

  pub behind : (k : ℕ) → place ≤ k → k < length keys → key < get_or keys k 0
  behind k le lt = is (get_or keys k 0) key (among.1 k 0 le lt)
    where
      is : (a b : ℕ) → leb a b ≡ false → b < a
      is a b e = grind (arith, nat_tests)

  pub there : place < length keys → Some (get_or keys place 0) ≡ least_above keys key
  there inside = above_is keys key (Some (get_or keys place 0)) (record {
    member = Contains-get_or keys place 0 inside;
    above = behind place (omega arith) inside;
    least = All-from_get_or (λ c. key < c → get_or keys place 0 ≤ c) keys 0 (λ j lt above. elim (cases_lt j place) [
      | inl front ↦ let le = before j front in absurd (omega arith)
      | inr back ↦ rises place j 0 back lt
    ]);
  })

  pub none_there : length keys ≤ place → None ≡ least_above keys key
  none_there past = above_is keys key None (All-from_get_or (λ c. c ≤ key) keys 0 (λ j lt. before j (omega arith)))

-- what holds of each key of a section holds of its addresses
all_in : (P Q : ℕ → Type 0) (ends : List End) (section : ℕ) → ((e : End) → e.section ≡ section → e.address < 2 ^ 64 → Q (key_of e) → P e.address)
    → All (λ e. e.address < 2 ^ 64) ends → All Q (map key_of ends) → All P (addresses_in ends section)
all_in P Q [] section each small all = All-nil P
all_in P Q (e ∷ es) section each small all = by_test (eqb e.section section) refl (all_in P Q es section each (All-tail (λ e. e.address < 2 ^ 64) e es small) (All-tail Q (key_of e) (map key_of es) all))
  where
    by_test : (b : Bool) → eqb e.section section ≡ b → All P (addresses_in es section) → All P (map (λ e. e.address) (cond b (e ∷ filter (λ e. eqb e.section section) es) (filter (λ e. eqb e.section section) es)))
    by_test true is rest = All-cons P e.address (addresses_in es section) (each e (eqb-true e.section section is) (All-head (λ e. e.address < 2 ^ 64) e es small) (All-head Q (key_of e) (map key_of es) all)) rest
    by_test false is rest = rest

own_section : (section other address key : ℕ) → other * 2 ^ 64 + address ≡ key → address < 2 ^ 64 → section * 2 ^ 64 ≤ key → key - section * 2 ^ 64 < 2 ^ 64 → other ≡ section
own_section section other address key is small from to = omega arith

-- a key of a section is that of one of its addresses
contains_in : (ends : List End) (section key : ℕ) → All (λ e. e.address < 2 ^ 64) ends → Contains (map key_of ends) key → section * 2 ^ 64 ≤ key → key - section * 2 ^ 64 < 2 ^ 64
    → Contains (addresses_in ends section) (key - section * 2 ^ 64)
contains_in [] section key small (k, lt, is) from to = absurd (omega arith)
contains_in (e ∷ es) section key small (zero, lt, is) from to =
    let head = All-head (λ e. e.address < 2 ^ 64) e es small in
    let own : e.section ≡ section = own_section section e.section e.address key is head from to in
    by_test (eqb e.section section) (same_test e.section section own)
  where
    same_test : (a b : ℕ) → a ≡ b → eqb a b ≡ true
    same_test a b e = grind (arith, nat_tests)

    here : e.section ≡ section → e.address ≡ key - section * 2 ^ 64
    here own = omega (arith, is, own)

    by_test : (b : Bool) → b ≡ true → Contains (map (λ e. e.address) (cond b (e ∷ filter (λ e. eqb e.section section) es) (filter (λ e. eqb e.section section) es))) (key - section * 2 ^ 64)
    by_test true t = (0, omega arith, here (own_section section e.section e.address key is (All-head (λ e. e.address < 2 ^ 64) e es small) from to))
    by_test false t = absurd cc
contains_in (e ∷ es) section key small (suc k, lt, is) from to =
    by_test (eqb e.section section) (contains_in es section key (All-tail (λ e. e.address < 2 ^ 64) e es small) (k, omega arith, is) from to)
  where
    by_test : (b : Bool) → Contains (addresses_in es section) (key - section * 2 ^ 64) → Contains (map (λ e. e.address) (cond b (e ∷ filter (λ e. eqb e.section section) es) (filter (λ e. eqb e.section section) es))) (key - section * 2 ^ 64)
    by_test true (j, below, at) = (suc j, omega arith, at)
    by_test false found = found

module _ (ends : List End) (keys : List ℕ) (section address : ℕ) (are : AreKeysOf ends keys) (fits : address < 2 ^ 64) where
  abbrev own_key : ℕ
  own_key = section * 2 ^ 64 + address

  each : (P Q : ℕ → Type 0) → ((e : End) → e.section ≡ section → e.address < 2 ^ 64 → Q (key_of e) → P e.address) → All Q keys → All P (addresses_in ends section)
  each P Q from all = all_in P Q ends section from are.small (All-permutation Q keys (map key_of ends) (IsPermutation-sym (map key_of ends) keys are.same) all)

  among_is : (o : Option ℕ) → LeastAbove keys own_key o → LeastAbove (addresses_in ends section) address (address_among section o)
  among_is None none = each (λ a. a ≤ address) (λ c. c ≤ own_key) (λ e own small le. omega (arith, own, le)) none
  among_is (Some key) is = by_test (nat_lt (key - section * 2 ^ 64) (2 ^ 64)) refl
    where
      by_test : (b : Bool) → nat_lt (key - section * 2 ^ 64) (2 ^ 64) ≡ b → LeastAbove (addresses_in ends section) address (cond b (Some (key - section * 2 ^ 64)) None)
      by_test true t = record {
        member = contains_in ends section key are.small (Contains-permutation keys (map key_of ends) key (IsPermutation-sym (map key_of ends) keys are.same) is.member) (omega (arith, is.above)) (ltb-true (key - section * 2 ^ 64) (2 ^ 64) t);
        above = omega (arith, is.above);
        least = each (λ a. address < a → key - section * 2 ^ 64 ≤ a) (λ c. own_key < c → key ≤ c) (λ e own small h gt. let le : key ≤ key_of e = h (omega (arith, own, gt)) in omega (arith, own, le)) is.least;
      }
      by_test false t = each (λ a. a ≤ address) (λ c. own_key < c → key ≤ c) (λ e own small h. elim (cases_lt address e.address) [
        | inl gt ↦ let le : key ≤ key_of e = h (omega (arith, own, gt)) in absurd (omega (arith, own, le, small, ltb-false (key - section * 2 ^ 64) (2 ^ 64) t))
        | inr le ↦ le
      ]) is.least

  -- the least end above, by the least key above
  end_is : (o : Option ℕ) → o ≡ least_above keys own_key → address_among section o ≡ least_above (addresses_in ends section) address
  end_is o is = above_is (addresses_in ends section) address (address_among section o) (among_is o (subst (λ (p : Option ℕ). LeastAbove keys own_key p) (sym is) (least_above_is keys own_key)))

  module _ (key : ℕ) (at : key ≡ own_key) where
    by_key : (o : Option ℕ) → o ≡ least_above keys key → address_among section o ≡ least_above (addresses_in ends section) address
    by_key o is = end_is o (is ∙ ap (least_above keys) at)

    pub no_key : (o : Option ℕ) → o ≡ None → None ≡ least_above keys key → o ≡ least_above (addresses_in ends section) address
    no_key o none is = none ∙ by_key None is

    module _ (next base : ℕ) (is : Some next ≡ least_above keys key) (from : base ≡ section * 2 ^ 64) where
      pub end_there : next - base < 2 ^ 64 → Some (next - base) ≡ least_above (addresses_in ends section) address
      end_there lt =
          let inside : next - section * 2 ^ 64 < 2 ^ 64 = omega (arith, lt, from) in
          ap (λ (n : ℕ). Some (next - n)) from ∙ sym (ap (λ (b : Bool). cond b (Some (next - section * 2 ^ 64)) None) (lt-ltb (next - section * 2 ^ 64) (2 ^ 64) inside)) ∙ by_key (Some next) is

      pub no_end : 2 ^ 64 ≤ next - base → None ≡ least_above (addresses_in ends section) address
      no_end past =
          let outside : 2 ^ 64 ≤ next - section * 2 ^ 64 = omega (arith, past, from) in
          sym (ap (λ (b : Bool). cond b (Some (next - section * 2 ^ 64)) None) (le-ltb (next - section * 2 ^ 64) (2 ^ 64) outside)) ∙ by_key (Some next) is
