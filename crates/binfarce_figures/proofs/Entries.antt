-- The entries of a map of numbers are the keys of shares, each with its numbers.
use Rattle.std.proofs.Common.{◌≡◌, ◌∙◌, ℕ, Bool, true, false, cond, List, [], ◌∷◌, ◌||◌, Option, Some, String, BTreeMap, string_bytes, map, refl, sym, ap, unwrap_or}
use Rattle.std.specs.Global.{Global}
use Rattle.std.specs.BTreeMap.{IsOrdered, is_at}
use Rattle.std.proofs.lemmas.Cmp.{eq_by_cmp_equiv}
use Rattle.std.specs.Cmp.Lexicographic.{slice_cmp, bytes_decides, nat_list_eq_equiv}
use Rattle.std.specs.List.{AllByRecursion, Contains, list_any}
use Rattle.std.specs.List.Sorted.{IsStrictlySortedBy}
use Rattle.std.specs.Map.{keys_of, lookup}
use Rattle.std.specs.Option.{is_some}
use Rattle.std.specs.Ordering.{nat_cmp}
use Rattle.std.specs.declared.cmp.Ordering.TheVariants.{Less}
use Rattle.std.specs.Str.{bytes_eq}
use Rattle.std.specs.String.{string_cmp, string_cmp_total}
use Rattle.std.proofs.lemmas.List.Elements.{All-contains_itself, All-weaker, recursion_from_All}
use Rattle.std.proofs.lemmas.Map.Keys.{IsDistinct-from_sorted}
use Rattle.std.proofs.lemmas.Map.Text.{is_eq-slice_cmp}
use Rattle.std.proofs.lemmas.Map.Views.{Contains-from_any, list_any-from_Contains, lookup-from_Contains}
use Rattle.binfarce_tools.specs.Report.{Share, AreCratesOf, sum_of}
use Rattle.binfarce_tools.specs.Sums.{occurs}
use Rattle.binfarce_figures.specs.declared.sums.Numbers.{Numbers}
use Rattle.binfarce_figures.specs.machine.Counts.{AreNumbersOf}

abbrev Entry : Type 0
Entry = String Global × Numbers

-- the keys of entries, as their bytes
abbrev pub texts_of : List Entry → List (List ℕ)
texts_of entries = map (λ (e : Entry). string_bytes e.0) entries

abbrev names_of : List Share → List (List ℕ)
names_of shares = map (λ (s : Share). s.name) shares

occurs_is : (shares : List Share) (name : List ℕ) → occurs shares name ≡ list_any (bytes_eq name) (names_of shares)
occurs_is [] name = refl
occurs_is (s ∷ others) name = rw (nat_list_eq_equiv.symm s.name name, occurs_is others name) refl

found_test : (b : Bool) (v : Numbers) (others : List Entry) (name : List ℕ) → is_some (lookup (is_at (λ (k : String Global). slice_cmp nat_cmp name (string_bytes k))) others) ≡ list_any (bytes_eq name) (texts_of others)
    → is_some (cond b (Some v) (lookup (is_at (λ (k : String Global). slice_cmp nat_cmp name (string_bytes k))) others)) ≡ (b || list_any (bytes_eq name) (texts_of others))
found_test true v others name is = refl
found_test false v others name is = is

found_is : (entries : List Entry) (name : List ℕ) → is_some (lookup (is_at (λ (k : String Global). slice_cmp nat_cmp name (string_bytes k))) entries) ≡ list_any (bytes_eq name) (texts_of entries)
found_is [] name = refl
found_is (e ∷ others) name = rw (is_eq-slice_cmp name (string_bytes e.0)) (found_test (bytes_eq name (string_bytes e.0)) e.1 others name (found_is others name))

all_above : (k : String Global) (entries : List Entry) → AllByRecursion (λ (y : String Global). string_cmp k y ≡ Less) (keys_of entries)
    → AllByRecursion (λ (m : List ℕ). slice_cmp nat_cmp (string_bytes k) m ≡ Less) (texts_of entries)
all_above k [] all = tt
all_above k (e ∷ others) all = (all.0, all_above k others all.1)

texts_rise : (entries : List Entry) → IsStrictlySortedBy string_cmp (keys_of entries) → IsStrictlySortedBy (slice_cmp nat_cmp) (texts_of entries)
unfolding IsStrictlySortedBy
texts_rise [] rises = tt
texts_rise (e ∷ others) rises = (all_above e.0 others rises.0, texts_rise others rises.1)

-- each entry has the sums of its key
abbrev pub HaveNumbers : (first second : List Share) → List Entry → Type 0
HaveNumbers first second entries = AllByRecursion (λ (e : Entry). (sum_of first (string_bytes e.0) ≡ e.1.sum) × (sum_of second (string_bytes e.0) ≡ e.1.other)) entries

module _ (first second : List Share) (numbers : BTreeMap (String Global) Numbers) (are : AreNumbersOf first second numbers) (ordered : IsOrdered string_cmp numbers) where
  same : (name : List ℕ) → list_any (bytes_eq name) (names_of first) ≡ list_any (bytes_eq name) (texts_of numbers.entries)
  same name = sym (occurs_is first name) ∙ are.names_are name ∙ found_is numbers.entries name

  pub are_crates : AreCratesOf first (texts_of numbers.entries)
  are_crates =
      let names = texts_of numbers.entries in
      let exact : (x y : List ℕ) → bytes_eq x y ≡ true → x ≡ y = λ x y. (bytes_decides x y).0 in
      record {
        rises = texts_rise numbers.entries ordered;
        every = All-weaker (Contains (names_of first)) (Contains names) (λ n h. Contains-from_any exact n names (sym (same n) ∙ list_any-from_Contains nat_list_eq_equiv n (names_of first) h)) (names_of first) (All-contains_itself (names_of first));
        occurs = All-weaker (Contains names) (Contains (names_of first)) (λ n h. Contains-from_any exact n (names_of first) (same n ∙ list_any-from_Contains nat_list_eq_equiv n names h)) names (All-contains_itself names);
      }

  pub have_numbers : HaveNumbers first second numbers.entries
  have_numbers =
      let entries = numbers.entries in
      let laws = eq_by_cmp_equiv string_cmp_total in
      let Has : Entry → Type 0 = λ e. (sum_of first (string_bytes e.0) ≡ e.1.sum) × (sum_of second (string_bytes e.0) ≡ e.1.other) in
      let found = λ (e : Entry) (h : Contains entries e). lookup-from_Contains laws e.0 e.1 entries (IsDistinct-from_sorted string_cmp (keys_of entries) ordered) h in
      let none : Numbers = record { sum = 0; other = 0 } in
      let has : (e : Entry) → Contains entries e → Has e = λ e h. (
        are.sums_are (string_bytes e.0) ∙ ap (λ (o : Option Numbers). (unwrap_or o none).sum) (found e h),
        are.others_are (string_bytes e.0) ∙ ap (λ (o : Option Numbers). (unwrap_or o none).other) (found e h),
      ) in
      recursion_from_All Has entries (All-weaker (Contains entries) Has has entries (All-contains_itself entries))
