-- The two numbers of each key, one share after the other.
use Rattle.std.proofs.Common.{◌≡◌, ◌∙◌, ℕ, ◌+◌, ◌<◌, ◌≤◌, ◌^◌, Bool, true, false, cond, not, List, [], ◌∷◌, ◌++◌, ◌||◌, Option, Some, String, BTreeMap, filter, refl, sym, ap, subst, arith, append-nil, append_assoc, string_bytes, unwrap_or}
use Rattle.std.specs.BTreeMap.{get_by_text, is_at}
use Rattle.std.specs.Cmp.Lexicographic.{bytes_decides, slice_cmp}
use Rattle.std.specs.Global.{Global}
use Rattle.std.specs.Map.{lookup}
use Rattle.std.specs.Option.{is_some}
use Rattle.std.specs.Ordering.{nat_cmp}
use Rattle.std.specs.Prelude.{if◌then◌else◌}
use Rattle.std.specs.Str.{bytes_eq}
use Rattle.std.proofs.lemmas.List.{map-append}
use Rattle.std.proofs.lemmas.List.Elements.{filter-append}
use Rattle.std.proofs.lemmas.List.Filters.{sum_by-filter_both}
use Rattle.std.proofs.lemmas.List.Folds.{list_any-append}
use Rattle.std.proofs.lemmas.List.Sums.{sum_by-append}
use Rattle.binfarce_tools.specs.Report.{Share, sum_of, total}
use Rattle.binfarce_tools.specs.Sums.{occurs}
use Rattle.binfarce_tools.proofs.CrateSums.{added, sum_of-cons, total-cons}
use Rattle.binfarce_figures.specs.declared.sums.Counting.{Counting}
use Rattle.binfarce_figures.specs.declared.sums.Numbers.{Numbers}
use Rattle.binfarce_figures.specs.machine.Counts.{AddsNumbers, AddsShares, AreNumbersOf, counts, firsts, numbers_at, seconds}

abbrev Map : Type 0
Map = BTreeMap (String Global) Numbers

pub total-append : (xs ys : List Share) → total (xs ++ ys) ≡ total xs + total ys
total-append xs ys = sum_by-append (λ (s : Share). s.size) xs ys

pub sum_of-append : (xs ys : List Share) (name : List ℕ) → sum_of (xs ++ ys) name ≡ sum_of xs name + sum_of ys name
sum_of-append xs ys name =
    let test = λ (s : Share). bytes_eq s.name name in ap total (filter-append test xs ys) ∙ total-append (filter test xs) (filter test ys)

sum_of_le : (shares : List Share) (name : List ℕ) → sum_of shares name ≤ total shares
sum_of_le shares name = omega (arith, sum_by-filter_both (λ (s : Share). bytes_eq s.name name) (λ (s : Share). not (bytes_eq s.name name)) (λ _. refl) (λ (s : Share). s.size) shares)

-- there is room for one share more
room : (shares : List Share) (s : Share) (at : ℕ) → sum_of shares s.name ≡ at → total (shares ++ s ∷ []) < 2 ^ 64 → at + s.size < 2 ^ 64
room shares s at is fits = omega (arith, is, sum_of_le shares s.name, total-append shares (s ∷ []), total-cons s [], fits)

-- the sum of a name with one share more
one_sum : (shares : List Share) (s : Share) (name : List ℕ) (old new : ℕ) → sum_of shares name ≡ old → new ≡ old + added s name → sum_of (shares ++ s ∷ []) name ≡ new
one_sum shares s name old new is more = omega (arith, sum_of-append shares (s ∷ []) name, sum_of-cons s [] name, is, more)

abbrev plus : Numbers → Numbers → Numbers
plus a b = record { sum = a.sum + b.sum; other = a.other + b.other }

-- numbers after so much was added at a name
module _ (old new : Map) (name : List ℕ) (more : Numbers) (adds : AddsNumbers old name more new) where
  at_name : (other : List ℕ) → numbers_at new other ≡ (if bytes_eq name other then plus (numbers_at old other) more else numbers_at old other)
  at_name other = ap (λ (o : Option Numbers). unwrap_or o (record { sum = 0; other = 0 })) (adds other) ∙ by_test (bytes_eq name other) refl
    where
      by_test : (b : Bool) → bytes_eq name other ≡ b → unwrap_or (cond b (Some (plus (numbers_at old name) more)) (get_by_text old other)) (record { sum = 0; other = 0 }) ≡ (if b then plus (numbers_at old other) more else numbers_at old other)
      by_test true e = ap (λ (n : List ℕ). plus (numbers_at old n) more) ((bytes_decides name other).0 e)
      by_test false e = refl

  first_at : (other : List ℕ) → (numbers_at new other).sum ≡ (numbers_at old other).sum + added (record { name = name; size = more.sum }) other
  first_at other = ap (λ (n : Numbers). n.sum) (at_name other) ∙ by_test (bytes_eq name other)
    where
      by_test : (b : Bool) → (if b then plus (numbers_at old other) more else numbers_at old other).sum ≡ (numbers_at old other).sum + (if b then more.sum else 0)
      by_test true = refl
      by_test false = omega arith

  second_at : (other : List ℕ) → (numbers_at new other).other ≡ (numbers_at old other).other + added (record { name = name; size = more.other }) other
  second_at other = ap (λ (n : Numbers). n.other) (at_name other) ∙ by_test (bytes_eq name other)
    where
      by_test : (b : Bool) → (if b then plus (numbers_at old other) more else numbers_at old other).other ≡ (numbers_at old other).other + (if b then more.other else 0)
      by_test true = refl
      by_test false = omega arith

  found_at : (other : List ℕ) → is_some (get_by_text new other) ≡ (is_some (get_by_text old other) || (bytes_eq name other || false))
  found_at other = ap (λ (o : Option Numbers). is_some o) (adds other) ∙ by_test (bytes_eq name other) (is_some (get_by_text old other)) refl
    where
      by_test : (b before : Bool) → is_some (get_by_text old other) ≡ before → is_some (cond b (Some (plus (numbers_at old name) more)) (get_by_text old other)) ≡ (before || (b || false))
      by_test true true e = refl
      by_test true false e = refl
      by_test false true e = e
      by_test false false e = e

-- no share was added yet
pub none_yet : (m : Map) → m.entries ≡ [] → AreNumbersOf [] [] m
none_yet m empty =
    let found = λ (name : List ℕ) (es : List (String Global × Numbers)). lookup (is_at (λ (k : String Global). slice_cmp nat_cmp name (string_bytes k))) es in
    let at = λ (name : List ℕ) (es : List (String Global × Numbers)). unwrap_or (found name es) (record { sum = 0; other = 0 }) in
    record {
      sums_are = λ name. ap (λ (es : List (String Global × Numbers)). (at name es).sum) (sym empty);
      others_are = λ name. ap (λ (es : List (String Global × Numbers)). (at name es).other) (sym empty);
      names_are = λ name. ap (λ (es : List (String Global × Numbers)). is_some (found name es)) (sym empty);
      same_names = refl;
      sums_fit = omega arith;
      others_fit = omega arith;
    }

pub begun : (counting : Counting) (m : Map) → AddsShares counting [] m m
begun counting m first second fit_first fit_second are =
    subst (λ (xs : List Share). AreNumbersOf xs (second ++ []) m) (sym (append-nil first)) (subst (λ (xs : List Share). AreNumbersOf first xs m) (sym (append-nil second)) are)

-- another share was added, if its numbers fit
pub one_more : (counting : Counting) (shares : List Share) (s : Share) (old mid new : Map) → AddsShares counting shares old mid
    → ((numbers_at mid s.name).sum + (counts counting s.size).sum < 2 ^ 64 → (numbers_at mid s.name).other + (counts counting s.size).other < 2 ^ 64 → AddsNumbers mid s.name (counts counting s.size) new)
    → AddsShares counting (shares ++ s ∷ []) old new
one_more counting shares s old mid new w adding first second fit_first fit_second are =
    let more = counts counting s.size in
    let one : Share = record { name = s.name; size = more.sum } in
    let other : Share = record { name = s.name; size = more.other } in
    let firsts_before = first ++ firsts counting shares in
    let seconds_before = second ++ seconds counting shares in
    let first_is : first ++ firsts counting (shares ++ s ∷ []) ≡ firsts_before ++ one ∷ [] = ap (λ (xs : List Share). first ++ xs) (map-append _ shares (s ∷ [])) ∙ sym (append_assoc first (firsts counting shares) (one ∷ [])) in
    let second_is : second ++ seconds counting (shares ++ s ∷ []) ≡ seconds_before ++ other ∷ [] = ap (λ (xs : List Share). second ++ xs) (map-append _ shares (s ∷ [])) ∙ sym (append_assoc second (seconds counting shares) (other ∷ [])) in
    let first_fits : total (firsts_before ++ one ∷ []) < 2 ^ 64 = subst (λ (xs : List Share). total xs < 2 ^ 64) first_is fit_first in
    let second_fits : total (seconds_before ++ other ∷ []) < 2 ^ 64 = subst (λ (xs : List Share). total xs < 2 ^ 64) second_is fit_second in
    let so_far = w first second (omega (arith, total-append firsts_before (one ∷ []), first_fits)) (omega (arith, total-append seconds_before (other ∷ []), second_fits)) are in
    let adds = adding (room firsts_before one (numbers_at mid s.name).sum (so_far.sums_are s.name) first_fits) (room seconds_before other (numbers_at mid s.name).other (so_far.others_are s.name) second_fits) in
    let name = λ (x : Share). x.name in
    let all : AreNumbersOf (firsts_before ++ one ∷ []) (seconds_before ++ other ∷ []) new = record {
      sums_are = λ n. one_sum firsts_before one n (numbers_at mid n).sum (numbers_at new n).sum (so_far.sums_are n) (first_at mid new s.name more adds n);
      others_are = λ n. one_sum seconds_before other n (numbers_at mid n).other (numbers_at new n).other (so_far.others_are n) (second_at mid new s.name more adds n);
      names_are = λ n. list_any-append (λ (x : Share). bytes_eq x.name n) firsts_before (one ∷ []) ∙ ap (λ (b : Bool). b || occurs (one ∷ []) n) (so_far.names_are n) ∙ sym (found_at mid new s.name more adds n);
      same_names = map-append name seconds_before (other ∷ []) ∙ ap (λ (ns : List (List ℕ)). ns ++ s.name ∷ []) so_far.same_names ∙ sym (map-append name firsts_before (one ∷ []));
      sums_fit = first_fits;
      others_fit = second_fits;
    } in
    subst (λ (xs : List Share). AreNumbersOf xs (second ++ seconds counting (shares ++ s ∷ [])) new) (sym first_is) (subst (λ (xs : List Share). AreNumbersOf (firsts_before ++ one ∷ []) xs new) (sym second_is) all)
