-- The sweep over rows whose addresses don't fall: the least address above each.
use Rattle.std.proofs.Common.{◌≡◌, ℕ, ◌+◌, ◌<◌, ◌≤◌, inl, inr, List, [], ◌∷◌, length, get_or, map, All, Contains, Option, Some, None, refl, sym, ap, ◌∙◌, subst, arith}
use Rattle.std.specs.List.Sorted.{IsNonDecreasingBy}
use Rattle.std.proofs.lemmas.Bool.{cases_lt}
use Rattle.std.proofs.lemmas.List.{get_or-map, get_or_default, length-map, same_lists}
use Rattle.std.proofs.lemmas.List.Elements.{All-map, All-from_get_or, Contains-get_or}
use Rattle.binfarce_bytes.specs.declared.sizes.RowAddress.{RowAddress}
use Rattle.binfarce_bytes.specs.Sizes
use Rattle.binfarce_bytes.specs.Sizes.{addresses_of, least_above}
use Rattle.binfarce_bytes.specs.RowViews.{rows_view}
use Rattle.binfarce_bytes.proofs.Above.{above_is, arranged_above}

abbrev pub addresses : List RowAddress → List ℕ
addresses rows = map (λ r. r.address) rows

pub addresses_view : (rows : List RowAddress) → addresses_of (rows_view rows) ≡ addresses rows
addresses_view [] = refl
addresses_view (r ∷ rows) = ap (λ (xs : List ℕ). r.address ∷ xs) (addresses_view rows)

-- what is read past the end
abbrev pub past : RowAddress
past = record { address = 0; index = 0 }

-- a list is known by what it has at each place
pub filled_whole : (rows : List RowAddress) (f : RowAddress → Option ℕ) (xs : List (Option ℕ)) → length xs ≡ length rows
    → ((k : ℕ) → k < length rows → get_or xs k None ≡ f (get_or rows k past)) → xs ≡ map f rows
filled_whole rows f xs long here =
    same_lists xs (map f rows) (long ∙ sym (length-map rows f))
    (λ k d lt. get_or_default xs k d None lt ∙ here k (omega arith) ∙ sym (get_or-map f rows k past d (omega arith)))

module _ (rows : List RowAddress) (rise : IsNonDecreasingBy (λ r. r.address) rows) where
  -- what holds of each row's address holds of each address
  each : (P : ℕ → Type 0) (d : RowAddress) → ((j : ℕ) → j < length rows → P (get_or rows j d).address) → All P (addresses rows)
  each P d here = All-map P (λ r. r.address) rows (All-from_get_or (λ r. P r.address) rows d here)

  holds_at : (k : ℕ) (d : RowAddress) → k < length rows → Contains (addresses rows) (get_or rows k d).address
  holds_at k d lt =
      let found : Contains (addresses rows) (get_or (addresses rows) k 0) = Contains-get_or (addresses rows) k 0 (omega (arith, length-map rows (λ r. r.address))) in
      subst (λ (n : ℕ). Contains (addresses rows) n) (get_or-map (λ r. r.address) rows k d 0 lt) found

  -- the last place has none above
  pub last_above : (k : ℕ) (d : RowAddress) → k + 1 ≡ length rows → None ≡ least_above (addresses rows) (get_or rows k d).address
  last_above k d e =
      above_is (addresses rows) (get_or rows k d).address None (each (λ c. c ≤ (get_or rows k d).address) d (λ j lt. rise j k d (omega arith) (omega arith)))

  -- where the next address is greater, it is the least
  pub next_above : (k : ℕ) (d : RowAddress) → k + 1 < length rows → (get_or rows k d).address < (get_or rows (k + 1) d).address → Some ((get_or rows (k + 1) d).address) ≡ least_above (addresses rows) (get_or rows k d).address
  next_above k d lt up =
      above_is (addresses rows) (get_or rows k d).address (Some ((get_or rows (k + 1) d).address)) (record {
        member = holds_at (k + 1) d lt;
        above = up;
        least = each (λ c. (get_or rows k d).address < c → (get_or rows (k + 1) d).address ≤ c) d (λ j lt' gt. elim (cases_lt j (k + 1)) [
          | inl before ↦ let le = rise j k d (omega arith) (omega arith) in absurd (omega arith)
          | inr behind ↦ rise (k + 1) j d behind lt'
        ]);
      })

  -- where it isn't, the two have the same above
  pub same_above : (k : ℕ) (d : RowAddress) → k + 1 < length rows → (get_or rows (k + 1) d).address ≤ (get_or rows k d).address → least_above (addresses rows) (get_or rows (k + 1) d).address ≡ least_above (addresses rows) (get_or rows k d).address
  same_above k d lt same = ap (least_above (addresses rows)) (let le = rise k (k + 1) d (omega arith) lt in omega arith)

map_same : {X Y : Type 0} (f g : X → Y) (xs : List X) → ((x : X) → f x ≡ g x) → map f xs ≡ map g xs
map_same f g [] same = refl
map_same f g (x ∷ xs) same = rw (same x, map_same f g xs same) refl

-- what one walk over the arranged rows finds is what is above in the table
pub swept_is : (rows : List Sizes.RowAddress) (in_order : List RowAddress) (found : List (Option ℕ)) → rows_view in_order ≡ Sizes.arranged rows
    → found ≡ map (λ r. least_above (addresses_of (rows_view in_order)) r.address) in_order
    → found ≡ map (λ r. least_above (addresses_of rows) r.address) in_order
swept_is rows in_order found is swept =
    swept ∙ map_same (λ r. least_above (addresses_of (rows_view in_order)) r.address) (λ r. least_above (addresses_of rows) r.address) in_order
    (λ r. ap (λ (xs : List Sizes.RowAddress). least_above (addresses_of xs) r.address) is ∙ arranged_above rows r.address)
