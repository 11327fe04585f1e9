-- The text of sums, from shares and from a file's answer.
use Rattle.std.proofs.Common.{◌≡◌, ℕ, ◌<◌, ◌≤◌, ◌^◌, true, BTreeMap, List, [], ◌∷◌, ◌++◌, String, length, map, take, Option, None, Some, filter, unwrap_or, refl, sym, ap, subst, ◌∙◌, arith}
use Rattle.std.specs.Global.{Global}
use Rattle.std.specs.List.{AllZip}
use denote.Ref.{Bor}
use Rattle.std.proofs.lemmas.List.{take_all}
use Rattle.std.proofs.lemmas.List.Sums.{sum_by-cons}
use Rattle.std.proofs.lemmas.Slice.Zip.{AllZip-long}
use Rattle.binfarce.specs.SectionEntries.{SectionEntry, SelectedSymbols}
use Rattle.binfarce.specs.SymbolViews.{section_function_view}
use Rattle.binfarce_bytes.specs.declared.functions.SectionFunction.{SectionFunction}
use Rattle.binfarce_tools.specs.Report.{Share, sum_of, total, unknown_crate}
use Rattle.binfarce_figures.specs.declared.key.Grouping.{Grouping}
use Rattle.binfarce_figures.specs.declared.figures.Columns.TheVariants.{Sums}
use Rattle.binfarce_figures.specs.declared.sums.Counting.TheVariants.{Symbols}
use Rattle.binfarce_figures.specs.declared.sums.Figures.{Figures}
use Rattle.binfarce_figures.specs.declared.sums.Numbers.{Numbers}
use Rattle.binfarce_figures.specs.Claimed.{AreClaimsFor, Claimed}
use Rattle.binfarce_figures.specs.Claims.{sum_of_sizes}
use Rattle.binfarce_figures.specs.Figures.{AreRowsOf, AreSharesIn, AreSumsBy, IsShareOf, IsTextOfShares, copies_of, numbers_of, sum_row, whole_text}
use Rattle.binfarce_figures.specs.Keys.{section_keys}
use Rattle.binfarce_rows.specs.Json.{style_of}
use Rattle.binfarce_tools.specs.Tables.{section_names}
use Rattle.binfarce_rows.specs.declared.json.Form.{Form}
use Rattle.binfarce_tools.specs.declared.tables.Tables.{Tables}
use Rattle.binfarce_figures.specs.machine.Columns.{AreRowsFor}
use Rattle.binfarce_figures.specs.machine.Counts.{AddsShares, AreNumbersFor, AreNumbersOf, numbers_at}
use Rattle.binfarce_figures.specs.machine.Shares.{AreFew, AreSharesWith}
use Rattle.binfarce_figures.proofs.Counted.{counts_are, of_symbols, ones}
use Rattle.binfarce_figures.proofs.Got.{sum_in}

all_kept : {X : Type 0} (xs : List X) → filter (λ x. true) xs ≡ xs
all_kept [] = refl
all_kept (x ∷ xs) = ap (λ (ys : List _). x ∷ ys) (all_kept xs)

-- the text of the rows of sums and counts, with that of the whole
pub of_shares : (alloc : Global) (figures : Bor Figures) (form : Form) (size : Option ℕ) (shares : List Share) (sum whole : ℕ) (rows text : List ℕ) → total shares ≡ sum → whole ≡ unwrap_or size sum
    → AreRowsFor (record { alloc = alloc; figures = figures; form = form; columns = Sums whole }) shares (ones shares) rows → text ≡ rows ++ whole_text (style_of form) size sum → IsTextOfShares figures.now (style_of form) size shares text
of_shares alloc figures form size shares sum whole rows text summed whole_is (names, crates, are) is =
    let style = style_of form in
    let counts : numbers_of (sum_of shares) (sum_of (ones shares)) names ≡ numbers_of (sum_of shares) (copies_of shares) names = ap (λ (f : List ℕ → ℕ). numbers_of (sum_of shares) f names) (λ i name. counts_are shares name i) in
    let kept = all_kept (numbers_of (sum_of shares) (sum_of (ones shares)) names) in
    let P : ℕ → List (List ℕ × (ℕ × ℕ)) → Type 0 = λ n numbers. AreRowsOf (sum_row figures.now style n) figures.now.first (λ size copies. size) numbers rows in
    let given = subst (λ (n : ℕ). P n (numbers_of (sum_of shares) (copies_of shares) names)) (whole_is ∙ ap (unwrap_or size) (sym summed)) (subst (P whole) (kept ∙ counts) are) in
    (names, rows, crates, given, is ∙ ap (λ (n : ℕ). rows ++ whole_text style size n) (sym summed))

-- shares of the first function symbols, which are all, are those of claims
pub of_all : (grouping : Grouping) (tables : Tables) (size : Option ℕ) (functions items : List SectionFunction) (i : ℕ) (claims : Claimed) (shares : List Share) → items ≡ functions → length items ≤ i
    → Path Claimed (record { tables = tables; size = size; entries = map section_function_view functions }) claims
    → AllZip (IsShareOf grouping (section_keys (section_names tables) size)) (map section_function_view (take i items)) shares → AreSharesWith grouping claims shares
of_all grouping tables size functions items i claims shares same end view_is are =
    let P : List SectionFunction → Type 0 = λ fs. AllZip (IsShareOf grouping (section_keys (section_names tables) size)) (map section_function_view fs) shares in
    subst (λ (v : Claimed). AreSharesWith grouping v shares) view_is (subst P (take_all i items end ∙ same) are)

-- the sum of shares is that of the claims
total_is : (grouping : Grouping) (sections : ℕ → List ℕ) (claims : List SectionEntry) (shares : List Share) → AllZip (IsShareOf grouping sections) claims shares → total shares ≡ sum_of_sizes claims
total_is grouping sections [] [] are = refl
total_is grouping sections [] (s ∷ shares) are = absurd are
total_is grouping sections (e ∷ claims) [] are = absurd are
total_is grouping sections (e ∷ claims) (s ∷ shares) are =
    omega (arith, sum_by-cons (λ (s : Share). s.size) s shares, sum_by-cons (λ (e : SectionEntry). e.entry.size) e claims, are.0.size_is, total_is grouping sections claims shares are.1)

pub total_of : (grouping : Grouping) (claims : Claimed) (shares : List Share) → AreSharesWith grouping claims shares → total shares ≡ sum_of_sizes claims.entries
total_of grouping claims shares are = total_is grouping (section_keys (section_names claims.tables) claims.size) claims.entries shares are

-- the numbers of the keys of claims, of a map that had no entries
pub of_claims : (grouping : Grouping) (claims : Claimed) (shares : List Share) (old new : BTreeMap (String Global) Numbers) → AreFew claims → old.entries ≡ [] → AreSharesWith grouping claims shares → AddsShares Symbols shares old new → AreNumbersOf shares (ones shares) new
of_claims grouping claims shares old new few empty are adds =
    let sections = section_keys (section_names claims.tables) claims.size in
    let fits : total shares < 2 ^ 64 = omega (arith, total_of grouping claims shares are, few.fits) in
    let count : length shares < 2 ^ 64 = omega (arith, AllZip-long (IsShareOf grouping sections) claims.entries shares are, few.few) in
    of_symbols shares old new empty adds fits count

keys_are : (size : Option ℕ) (names other : ℕ → Option (List ℕ)) → (size ≡ None → names ≡ other) → section_keys names size ≡ section_keys other size
keys_are None names other same = ap (λ (ns : ℕ → Option (List ℕ)). section_keys ns None) (same refl)
keys_are (Some n) names other same = refl

-- shares of claims are those of the answer
pub shares_in : (grouping : Grouping) (selected : SelectedSymbols) (claims : Claimed) (shares : List Share) → AreClaimsFor selected claims → AreSharesWith grouping claims shares → AreSharesIn grouping selected shares
shares_in grouping selected claims shares for are = (
  claims.entries,
  for.added,
  subst (λ (sections : ℕ → List ℕ). AllZip (IsShareOf grouping sections) claims.entries shares)
      (ap (section_keys (section_names claims.tables)) for.size_is ∙ keys_are selected.section_size (section_names claims.tables) selected.section_name for.names_are) are,
)

-- so are their sum, and that of `[unknown]`
pub sums_in : (grouping : Grouping) (selected : SelectedSymbols) (claims : Claimed) (numbers : BTreeMap (String Global) Numbers) (sum unknown : ℕ) → AreClaimsFor selected claims → sum ≡ sum_of_sizes claims.entries → AreNumbersFor grouping claims numbers
    → unknown ≡ (numbers_at numbers unknown_crate).sum → AreSumsBy grouping selected (record { total = sum; unknown = unknown })
sums_in grouping selected claims numbers sum unknown for summed (shares, with, are) is = record {
  total_is = summed ∙ sum_in selected claims for;
  shares = shares;
  are = shares_in grouping selected claims shares for with;
  unknown_is = is ∙ sym (are.sums_are unknown_crate);
}
