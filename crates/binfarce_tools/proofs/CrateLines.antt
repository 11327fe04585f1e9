-- The lines of sums by crate are those of the report.
use Rattle.std.proofs.Common.{◌≡◌, ℕ, Bool, true, false, cond, List, [], ◌∷◌, ◌++◌, ◌||◌, Some, String, string_bytes, refl, sym, ◌∙◌, ap, map, append_assoc, unwrap_or}
use Rattle.std.specs.Global.{Global}
use Rattle.std.specs.BTreeMap.{IsOrdered, is_at}
use Rattle.std.proofs.lemmas.Cmp.{eq_by_cmp_equiv}
use Rattle.std.specs.Cmp.Lexicographic.{slice_cmp, bytes_decides, nat_list_eq_equiv}
use Rattle.std.specs.List.{AllByRecursion, Contains, flat_map, list_any}
use Rattle.std.specs.List.Sorted.{IsStrictlySortedBy}
use Rattle.std.specs.Map.{keys_of, lookup}
use Rattle.std.specs.Option.{is_some}
use Rattle.std.specs.Ordering.{nat_cmp}
use Rattle.std.specs.declared.cmp.Ordering.TheVariants.{Less}
use Rattle.std.specs.Str.{bytes_eq}
use Rattle.std.specs.String.{string_cmp, string_cmp_total}
use Rattle.std.proofs.lemmas.List.Elements.{All-contains_itself, All-weaker, recursion_from_All}
use Rattle.std.proofs.lemmas.Map.Keys.{IsDistinct-from_sorted}
use Rattle.std.proofs.lemmas.Map.Text.{is_eq-slice_cmp}
use Rattle.std.proofs.lemmas.Map.Views.{Contains-from_any, list_any-from_Contains, lookup-from_Contains}
use Rattle.binfarce_tools.specs.Report.{Share, AreCratesOf, IsReportOfShares, crate_line, crate_lines, sum_of, total, total_line}
use Rattle.binfarce_tools.specs.declared.report.CrateSums.{CrateSums}
use Rattle.binfarce_tools.specs.Sums.{AreSumsOf, occurs}

abbrev names_of : List Share → List (List ℕ)
names_of shares = map (λ (s : Share). s.name) shares

occurs_is : (shares : List Share) (name : List ℕ) → occurs shares name ≡ list_any (bytes_eq name) (names_of shares)
occurs_is [] name = refl
occurs_is (s ∷ others) name = rw (nat_list_eq_equiv.symm s.name name, occurs_is others name) refl

module _ {Y : Type 0} where
  -- the keys of a map, as their bytes
  abbrev pub texts_of : List (String Y × ℕ) → List (List ℕ)
  texts_of entries = map (λ (e : String Y × ℕ). string_bytes e.0) entries

  -- the lines of a map's entries
  abbrev pub entry_lines : List (String Y × ℕ) → List ℕ
  entry_lines entries = flat_map (λ (e : String Y × ℕ). crate_line (string_bytes e.0) e.1) entries

  found_test : (b : Bool) (v : ℕ) (others : List (String Y × ℕ)) (name : List ℕ)
      → is_some (lookup (is_at (λ (k : String Y). slice_cmp nat_cmp name (string_bytes k))) others) ≡ list_any (bytes_eq name) (texts_of others)
      → is_some (cond b (Some v) (lookup (is_at (λ (k : String Y). slice_cmp nat_cmp name (string_bytes k))) others)) ≡ (b || list_any (bytes_eq name) (texts_of others))
  found_test true v others name is = refl
  found_test false v others name is = is

  found_is : (entries : List (String Y × ℕ)) (name : List ℕ) → is_some (lookup (is_at (λ (k : String Y). slice_cmp nat_cmp name (string_bytes k))) entries) ≡ list_any (bytes_eq name) (texts_of entries)
  found_is [] name = refl
  found_is (e ∷ others) name =
      rw (is_eq-slice_cmp name (string_bytes e.0)) (found_test (bytes_eq name (string_bytes e.0)) e.1 others name (found_is others name))

  all_above : (k : String Y) (entries : List (String Y × ℕ)) → AllByRecursion (λ (y : String Y). string_cmp k y ≡ Less) (keys_of entries)
      → AllByRecursion (λ (m : List ℕ). slice_cmp nat_cmp (string_bytes k) m ≡ Less) (texts_of entries)
  all_above k [] all = tt
  all_above k (e ∷ others) all = (all.0, all_above k others all.1)

  texts_rise : (entries : List (String Y × ℕ)) → IsStrictlySortedBy string_cmp (keys_of entries) → IsStrictlySortedBy (slice_cmp nat_cmp) (texts_of entries)
  unfolding IsStrictlySortedBy
  texts_rise [] rises = tt
  texts_rise (e ∷ others) rises = (all_above e.0 others rises.0, texts_rise others rises.1)

  -- each entry of a map has the sum of its crate
  abbrev pub HaveSums : List Share → List (String Y × ℕ) → Type 0
  HaveSums shares entries = AllByRecursion (λ (e : String Y × ℕ). sum_of shares (string_bytes e.0) ≡ e.1) entries

  lines_are : (shares : List Share) (entries : List (String Y × ℕ)) → HaveSums shares entries → crate_lines shares (texts_of entries) ≡ entry_lines entries
  lines_are shares [] all = refl
  lines_are shares (e ∷ others) all =
      ap (λ (n : ℕ). crate_line (string_bytes e.0) n ++ crate_lines shares (texts_of others)) all.0
      ∙ ap (λ (text : List ℕ). crate_line (string_bytes e.0) e.1 ++ text) (lines_are shares others all.1)

module _ (shares : List Share) (sums : CrateSums) (are : AreSumsOf shares sums) (ordered : IsOrdered string_cmp sums.crates) where
  same : (name : List ℕ) → list_any (bytes_eq name) (names_of shares) ≡ list_any (bytes_eq name) (texts_of sums.crates.entries)
  same name = sym (occurs_is shares name) ∙ are.crates_are name ∙ found_is sums.crates.entries name

  -- the entries' names are those of the crates
  pub are_crates : AreCratesOf shares (texts_of sums.crates.entries)
  are_crates =
      let names = texts_of sums.crates.entries in
      let exact : (x y : List ℕ) → bytes_eq x y ≡ true → x ≡ y = λ x y. (bytes_decides x y).0 in
      record {
        rises = texts_rise sums.crates.entries ordered;
        every = All-weaker (Contains (names_of shares)) (Contains names) (λ n h. Contains-from_any exact n names (sym (same n) ∙ list_any-from_Contains nat_list_eq_equiv n (names_of shares) h)) (names_of shares) (All-contains_itself (names_of shares));
        occurs = All-weaker (Contains names) (Contains (names_of shares)) (λ n h. Contains-from_any exact n (names_of shares) (same n ∙ list_any-from_Contains nat_list_eq_equiv n names h)) names (All-contains_itself names);
      }

  -- and each has its crate's sum
  pub have_sums : HaveSums shares sums.crates.entries
  have_sums =
      let entries = sums.crates.entries in
      let laws = eq_by_cmp_equiv string_cmp_total in
      let sum_is : (e : String Global × ℕ) → Contains entries e → sum_of shares (string_bytes e.0) ≡ e.1 = λ e h.
      are.sums_are (string_bytes e.0) ∙ ap (λ o. unwrap_or o 0) (lookup-from_Contains laws e.0 e.1 entries (IsDistinct-from_sorted string_cmp (keys_of entries) ordered) h) in
      recursion_from_All (λ (e : String Global × ℕ). sum_of shares (string_bytes e.0) ≡ e.1) entries
      (All-weaker (Contains entries) (λ (e : String Global × ℕ). sum_of shares (string_bytes e.0) ≡ e.1) sum_is entries (All-contains_itself entries))

  -- the report of shares is their lines, that of the sum of all, and the last line
  pub is_report : (last mid text : List ℕ) → mid ≡ entry_lines sums.crates.entries ++ total_line sums.total → text ≡ mid ++ last → IsReportOfShares shares last text
  is_report last mid text lines is =
      let names = texts_of sums.crates.entries in (
        names,
        are_crates,
        is ∙ ap (λ (x : List ℕ). x ++ last) (lines ∙ ap (λ (x : List ℕ). x ++ total_line sums.total) (sym (lines_are shares sums.crates.entries have_sums))
            ∙ ap (λ (n : ℕ). crate_lines shares names ++ total_line n) (sym are.total_is))
            ∙ append_assoc (crate_lines shares names) (total_line (total shares)) last,
      )
