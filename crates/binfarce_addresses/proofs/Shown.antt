-- The range that is found at an address is that of the entry that the address symbolizes to.
use Rattle.std.proofs.Common.{◌≡◌, ℕ, zero, suc, ◌-◌, ◌^◌, ◌<◌, ◌≤◌, ◌⊎◌, inl, inr, Bool, true, false, cond, List, [], ◌∷◌, map, filter, length, get_or, Option, Some, None, MatchOption, is_some, refl, sym, ap, subst, ◌∙◌, arith}
use Rattle.std.proofs.lemmas.Bool.Decides.{nat_tests}
use Rattle.std.specs.Option.{option_map, option_or}
use Rattle.std.proofs.lemmas.List.{get_or_default, get_or-map, length-map}
use Rattle.std.proofs.lemmas.List.Elements.{All-head, All-tail}
use Rattle.binfarce.specs.Symbol.{Entry}
use Rattle.binfarce.specs.SymbolViews.{function_view}
use Rattle.binfarce.specs.declared.FunctionSymbol.{FunctionSymbol}
use Rattle.binfarce_addresses.specs.declared.ranges.AddressRange.{AddressRange}
use Rattle.binfarce_addresses.specs.Range.{AreSpansOf, Holds, IsSpanAt, NoneHolds, IsFoundAt, span_at}
use Rattle.binfarce.specs.Found.{holds, higher_of, highest, entry_at}
use Rattle.binfarce_addresses.specs.Lookup.{entry_for, found_in}
use Rattle.binfarce_addresses.specs.declared.ranges.Span.{Span}
use Rattle.binfarce_addresses.specs.Counts.{reply_to}
use Rattle.binfarce_addresses.specs.declared.counts.Reply.TheVariants.{Held}
use Rattle.binfarce_addresses.specs.declared.lookup.Lookup.{Lookup}
use Rattle.binfarce_addresses.specs.machine.Answers.{reply_by}
use Rattle.binfarce_addresses.specs.Places.{IsAtPlace, IsFoundIn}
use Rattle.binfarce_addresses.specs.machine.Places.{range_of, ranges_of, IsFoundFor, IsPlaceFor}

-- the test says whether the range holds the address
held : (address : ℕ) (entry : Entry) → Holds (range_of entry) address → holds address entry ≡ true
held address entry h = grind (arith, nat_tests)

held_means : (address : ℕ) (entry : Entry) → holds address entry ≡ true → Holds (range_of entry) address
held_means address entry e = grind (arith, nat_tests)

-- there is none, or its address isn't above the bound
abbrev NotAbove : ℕ → Option Entry → Type 0
NotAbove bound None = Unit {0}
NotAbove bound (Some entry) = entry.address ≤ bound

abbrev AllNotAbove : ℕ → List Entry → Type 0
AllNotAbove bound [] = Unit {0}
AllNotAbove bound (entry ∷ others) = (entry.address ≤ bound) × AllNotAbove bound others

higher_not_above : (bound : ℕ) (entry : Entry) (other : Option Entry) → entry.address ≤ bound → NotAbove bound other → (higher_of entry other).address ≤ bound
higher_not_above bound entry None low lows = low
higher_not_above bound entry (Some other) low lows = grind (arith, nat_tests)

highest_not_above : (bound : ℕ) (entries : List Entry) → AllNotAbove bound entries → NotAbove bound (highest entries)
unfolding highest
highest_not_above bound [] low = tt
highest_not_above bound (entry ∷ others) low = higher_not_above bound entry (highest others) low.0 (highest_not_above bound others low.1)

-- no other is above it
stays : (entry : Entry) (other : Option Entry) → NotAbove entry.address other → higher_of entry other ≡ entry
stays entry None low = refl
stays entry (Some other) low = grind (arith, nat_tests)

-- another is above it
gives_way : (entry other : Entry) → entry.address < other.address → higher_of entry (Some other) ≡ other
gives_way entry other lt = grind (arith, nat_tests)

kept_not_above : (bound : ℕ) (b : Bool) (entry : Entry) (others : List Entry) → (b ≡ true → entry.address ≤ bound) → AllNotAbove bound others → AllNotAbove bound (cond b (entry ∷ others) others)
kept_not_above bound true entry others low lows = (low refl, lows)
kept_not_above bound false entry others low lows = lows

-- those of a list that hold the address
all_not_above : (bound address : ℕ) (entries : List Entry) (d : AddressRange) → ((k : ℕ) → k < length entries → Holds (get_or (map range_of entries) k d) address → (get_or (map range_of entries) k d).address ≤ bound)
    → AllNotAbove bound (filter (holds address) entries)
all_not_above bound address [] d low = tt
all_not_above bound address (entry ∷ others) d low =
    kept_not_above bound (holds address entry) entry (filter (holds address) others) (λ e. low 0 (omega arith) (held_means address entry e))
    (all_not_above bound address others d (λ k lt h. low (suc k) (omega arith) h))

-- what is found among the others is found among all, where it is above the first or the first doesn't hold the address
found_behind : (b : Bool) (entry shown : Entry) (others : List Entry) → highest others ≡ Some shown → (b ≡ true → entry.address < shown.address) → highest (cond b (entry ∷ others) others) ≡ Some shown
unfolding highest
found_behind true entry shown others is above = ap Some (ap (higher_of entry) is ∙ gives_way entry shown (above refl))
found_behind false entry shown others is above = is

length_ranges : (entries : List Entry) → length (map range_of entries) ≡ length entries
length_ranges entries = length-map entries range_of

-- the entry at the place that is found
pub shown : (entries : List Entry) (address place : ℕ) (d : Entry) → IsFoundAt (map range_of entries) address place → entry_at entries address ≡ Some (get_or entries place d)
unfolding entry_at highest
shown [] address place d found = absurd (omega (arith, found.within))
shown (entry ∷ others) address zero d found =
    let here : holds address entry ≡ true = held address entry (found.holds (range_of entry)) in
    let low = all_not_above entry.address address others (range_of entry) (λ k lt h. not_above (found.first (suc k) (range_of entry) (omega (arith, length_ranges others)) h)) in
    ap (λ (b : Bool). highest (cond b (entry ∷ filter (holds address) others) (filter (holds address) others))) here
    ∙ ap Some (stays entry (highest (filter (holds address) others)) (highest_not_above entry.address (filter (holds address) others) low))
  where
    not_above : {a b p q : ℕ} → (a < b) ⊎ ((a ≡ b) × (p ≤ q)) → a ≤ b
    not_above (inl lt) = omega arith
    not_above (inr is) = omega (arith, is.0)
shown (entry ∷ others) address (suc place) d found =
    let behind : highest (filter (holds address) others) ≡ Some (get_or others place d) = shown others address place d (record {
      within = omega (arith, found.within);
      holds = found.holds;
      first = λ other e lt h. lower (found.first (suc other) e (omega arith) h);
    }) in
    found_behind (holds address entry) entry (get_or others place d) (filter (holds address) others) behind
    (λ e. above (found.first 0 (range_of d) (omega arith) (held_means address entry e)))
  where
    lower : {a b p q : ℕ} → (a < b) ⊎ ((a ≡ b) × (suc p ≤ suc q)) → (a < b) ⊎ ((a ≡ b) × (p ≤ q))
    lower (inl lt) = inl lt
    lower (inr is) = inr (is.0, omega (arith, is.1))

    above : (entry.address < (get_or (map range_of others) place (range_of d)).address) ⊎ ((entry.address ≡ (get_or (map range_of others) place (range_of d)).address) × (suc place ≤ 0)) → entry.address < (get_or others place d).address
    above (inl lt) = omega (arith, ap (λ (r : AddressRange). r.address) (get_or-map range_of others place d (range_of d) (omega (arith, found.within, length_ranges others))))
    above (inr is) = absurd (omega (arith, is.1))

none_kept : (b : Bool) (entry : Entry) (others : List Entry) → b ≡ false → highest others ≡ None → highest (cond b (entry ∷ others) others) ≡ None
none_kept true entry others e none = absurd cc
none_kept false entry others e none = none

not_held : (address : ℕ) (entry : Entry) → ¬ (Holds (range_of entry) address) → holds address entry ≡ false
not_held address entry h = by_test (holds address entry) (λ e. h (held_means address entry e))
  where
    by_test : (b : Bool) → ¬ (b ≡ true) → b ≡ false
    by_test true h = absurd (h refl)
    by_test false h = refl

-- where no range holds the address, it has no entry
pub not_shown : (entries : List Entry) (address : ℕ) → NoneHolds (map range_of entries) address → entry_at entries address ≡ None
unfolding entry_at highest
not_shown [] address none = refl
not_shown (entry ∷ others) address none =
    none_kept (holds address entry) entry (filter (holds address) others)
    (not_held address entry (All-head (λ range. ¬ (Holds range address)) (range_of entry) (map range_of others) none))
    (not_shown others address (All-tail (λ range. ¬ (Holds range address)) (range_of entry) (map range_of others) none))

-- the ranges of function symbols are those of their entries
pub ranges_view : (functions : List FunctionSymbol) → ranges_of functions ≡ map range_of (map function_view functions)
ranges_view [] = refl
ranges_view (f ∷ functions) = ap (λ (rs : List AddressRange). range_of (function_view f) ∷ rs) (ranges_view functions)

-- what is found among the spans of function symbols is what an address in the file symbolizes to
module _ (functions : List FunctionSymbol) (spans : List Span) (entries : List Entry) (are : AreSpansOf (ranges_of functions) spans) (seen : map function_view functions ≡ entries) (address : ℕ) (fits : address < 2 ^ 64) (place : Option ℕ) (at : (k : ℕ) × IsSpanAt spans address k × (place ≡ (span_at spans k).place)) where
  found : MatchOption place (NoneHolds (map range_of entries) address) (IsFoundAt (map range_of entries) address)
  found =
      let P : List AddressRange → Option ℕ → Type 0 = λ rs o. MatchOption o (NoneHolds rs address) (IsFoundAt rs address) in
      subst (λ rs. P rs place) (ranges_view functions ∙ ap (map range_of) seen) (subst (P (ranges_of functions)) (sym at.2) (are at.0 address fits at.1))

  -- by what is found
  placed : (o : Option ℕ) → MatchOption o (NoneHolds (map range_of entries) address) (IsFoundAt (map range_of entries) address) → IsPlaceFor entries (entry_at entries address) o
  placed None none = not_shown entries address none
  placed (Some p) found =
      let d : Entry = record { name = []; address = 0; size = 0 } in
      let entry = get_or entries p d in
      let within : p < length entries = omega (arith, found.within, length_ranges entries) in
      (entry, shown entries address p d found, (within, get_or_default entries p entry d within))

  pub place_is : IsPlaceFor entries (entry_at entries address) place
  place_is = placed place found

-- whether something is found, is whether a function symbol holds the address
pub found_held : (entries : List Entry) (lookup : Lookup) (address : Option ℕ) (found : Option (ℕ × ℕ)) → IsFoundFor entries lookup address found → reply_by address found ≡ reply_to entries lookup address
found_held entries lookup None here is = refl
found_held entries lookup (Some a) None is = ap (λ (x : Option (Entry × ℕ)). Held (is_some x)) (sym is)
found_held entries lookup (Some a) (Some f) (entry, is, at) = ap (λ (x : Option (Entry × ℕ)). Held (is_some x)) (sym is)

-- a place has one entry
pub same_entry : (entries : List Entry) (place : ℕ) (entry other : Entry) → IsAtPlace entries place entry → IsAtPlace entries place other → entry ≡ other
same_entry entries place entry other at also = sym at.1 ∙ get_or_default entries place entry other at.0 ∙ also.1

-- no entry has a place
pub no_place : (is_return : Bool) (entries : List Entry) (address : ℕ) → entry_for is_return entries address ≡ None → Path (Option (Entry × ℕ)) (found_in entries is_return (Some address)) None
no_place is_return entries address none = ap (option_map (λ (entry : Entry). (entry, address - entry.address))) none

-- the entry at the place, and the offset into it
pub some_place : (is_return : Bool) (entries : List Entry) (address place : ℕ) (entry : Entry) → IsPlaceFor entries (entry_for is_return entries address) (Some place) → IsAtPlace entries place entry → IsFoundIn entries is_return (Some address) (Some (place, address - entry.address))
some_place is_return entries address place entry (e, is, at) also =
    let same : e ≡ entry = same_entry entries place e entry at also in
    (entry, ap (option_map (λ (x : Entry). (x, address - x.address))) (is ∙ ap Some same), also)

-- the place of one entry, or else that of another
pub place_or : (entries : List Entry) (one other : Option Entry) (first second : Option ℕ) → IsPlaceFor entries one first → IsPlaceFor entries other second → IsPlaceFor entries (option_or one other) (option_or first second)
place_or entries one other None second none is = subst (λ (o : Option Entry). IsPlaceFor entries (option_or o other) second) (sym none) is
place_or entries one other (Some place) second (e, is, at) also = (e, ap (λ (o : Option Entry). option_or o other) is, at)

-- a place is within
pub place_within : (entries : List Entry) (entry : Option Entry) (place : ℕ) → IsPlaceFor entries entry (Some place) → place < length entries
place_within entries entry place (e, is, at) = at.0
