-- The listing of a selection.
use Rattle.std.proofs.Common.{◌≡◌, ◌∙◌, ℕ, ◌+◌, ◌<◌, ◌≤◌, List, [], ◌∷◌, ◌++◌, Option, Some, None, Result, Ok, true, false, ap, append-nil, get_or, length, map, nat_cmp, refl, subst, sym, take}
use Rattle.std.proofs.lemmas.List.{length-map, take-map, take_all}
use Rattle.std.proofs.lemmas.List.Folds.{concat-append}
use Rattle.std.specs.Cmp.Lexicographic.{slice_cmp}
use Rattle.std.specs.List.{concat}
use Rattle.binfarce.specs.SectionEntries.{SectionEntry, SelectedSymbols}
use Rattle.binfarce.specs.declared.SymbolTable.{SymbolTable}
use Rattle.binfarce_tools.specs.Answer.{MemoryIn, selected_answer}
use Rattle.binfarce_tools.specs.Entries.{GetsIn, HoldsLeft}
use Rattle.binfarce_rows.specs.Json.{Style, lines, objects, style_of}
use Rattle.binfarce_tools.specs.Tables.{AreTablesOf, section_names, version_names_of}
use Rattle.binfarce_tools.specs.ListWords.{Writes, outcome_of}
use Rattle.binfarce_tools.specs.Writing.{Takes}
use Rattle.binfarce_tools.specs.declared.list.ListError.{ListError}
use Rattle.binfarce_tools.specs.declared.functions.Selected.{Selected}
use Rattle.binfarce_tools.specs.declared.tables.Tables.{Tables}
use Rattle.binfarce_tools.proofs.Lines.{AreLines, takes}
use Rattle.binfarce_tools.proofs.TablesGive.{as_answered}
use Rattle.binfarce_rows.specs.Columns.{count_of}
use Rattle.binfarce_figures.specs.declared.order.Order.{Order}
use Rattle.binfarce_figures.specs.declared.order.Order.TheVariants.{Address, Size, Name}
use Rattle.binfarce_figures.specs.declared.rows.Listing.{Listing}
use Rattle.binfarce_figures.specs.declared.rows.Naming.{Naming}
use Rattle.binfarce_figures.specs.declared.rows.Shown.{Shown}
use Rattle.binfarce_figures.specs.Order.{AreNamed, IsByKey, IsInOrder, Named}
use Rattle.binfarce_figures.specs.RowListing.{AreFirstRows, IsListingBy, IsListingOf, IsRowOf}
use Rattle.binfarce_figures.specs.machine.Listings.{IsPlaced, is_by_name}
use Rattle.binfarce_figures.proofs.Got.{IsListOf}
use Rattle.binfarce_figures.proofs.Growing.{zip_more}

-- the listing of what is left of a selection is that of the file's answer
pub listing_of : (shown : Shown) (style : Style) (which : SymbolTable) (file : List ℕ) (section : Option (List ℕ)) (tables : Tables) (selected : Selected) (seen : SelectedSymbols) (entries : List SectionEntry) (size : Option ℕ) (text : List ℕ)
    → AreTablesOf which file section tables → selected_answer which section file ≡ Some (Ok seen) → HoldsLeft seen selected → IsListOf selected entries size
    → IsListingOf shown style (section_names tables) (version_names_of tables) size entries text → IsListingBy shown style seen text
listing_of shown style which file section tables selected seen entries size text are answer held list is =
    as_answered which file section (λ s. IsListingBy shown style s text) tables selected seen are answer held (λ entries size names other shares versions. unnamed shown style entries size names other versions text)
    (subst (λ (es : List SectionEntry). IsListingOf shown style (section_names tables) (version_names_of tables) selected.size es text) list.0 (subst (λ (n : Option ℕ). IsListingOf shown style (section_names tables) (version_names_of tables) n entries text) list.1 is))
  where
    unnamed : (shown : Shown) (style : Style) (entries : List SectionEntry) (size : ℕ) (names other versions : ℕ → Option (List ℕ)) (text : List ℕ) → IsListingOf shown style names versions (Some size) entries text → IsListingOf shown style other versions (Some size) entries text
    unnamed shown lines entries size names other versions text is = is
    unnamed shown (objects file name) entries size names other versions text is = is

-- that listing was written, or a beginning of it
pub listing_taken : (shown : Shown) (style : Style) (which : SymbolTable) (file : List ℕ) (section : Option (List ℕ)) (tables : Tables) (selected : Selected) (entries : List SectionEntry) (size : Option ℕ) (text bytes : List ℕ)
    (old new : Option (List ℕ)) (result : Result (Unit {0}) ListError) → AreTablesOf which file section tables → GetsIn which file section (Ok selected) → IsListOf selected entries size
    → IsListingOf shown style (section_names tables) (version_names_of tables) size entries text → bytes ≡ text → Writes old new bytes result → Takes (IsListingBy shown style) (selected_answer which section file) old new (outcome_of result)
listing_taken shown style which file section tables selected entries size text bytes old new result are gets list is same wrote =
    takes (IsListingBy shown style) HoldsLeft (MemoryIn file section) (selected_answer which section file) selected bytes old new result gets
    (λ seen answer held. listing_of shown style which file section tables selected seen entries size bytes are answer held list (subst (IsListingOf shown style (section_names tables) (version_names_of tables) size entries) (sym same) is)) wrote

-- a row of a listing
abbrev pub IsRow : Listing → SectionEntry → List ℕ → Type 0
IsRow l e row = IsRowOf l.shown.now.naming (style_of l.form) (section_names l.tables.now) (version_names_of l.tables.now) l.size e row

-- one line more
pub lines_more : {X A : Type 0} (IsLine : X → List ℕ → Type 0) (f : A → X) (es : List A) (i : ℕ) (d : A) (line text new : List ℕ) → i < length es → new ≡ text ++ line → IsLine (f (get_or es i d)) line
    → AreLines IsLine (map f (take i es)) text → AreLines IsLine (map f (take (i + 1) es)) new
lines_more IsLine f es i d line text new lt grown is (before, are, all) = (
  before ++ line ∷ [],
  zip_more IsLine f es i d before (before ++ line ∷ []) line lt refl are is,
  grown ∙ ap (λ (t : List ℕ). t ++ line) all ∙ sym (concat-append before (line ∷ []) ∙ ap (λ (t : List ℕ). concat before ++ t) (append-nil line)),
)

-- the rows of the first are complete
pub rows_are : {A : Type 0} (shown : Shown) (style : Style) (names versions : ℕ → Option (List ℕ)) (size : Option ℕ) (f : A → SectionEntry) (all : List A) (i count : ℕ) (text : List ℕ) → count ≡ count_of shown.first (length all) → length (take count all) ≤ i
    → AreLines (IsRowOf shown.naming style names versions size) (map f (take i (take count all))) text → AreFirstRows shown style names versions size (map f all) text
rows_are shown style names versions size f all i count text is le are =
    let of_all : count ≡ count_of shown.first (length (map f all)) = is ∙ ap (count_of shown.first) (sym (length-map all f)) in
    let first : map f (take i (take count all)) ≡ take (count_of shown.first (length (map f all))) (map f all) =
    ap (map f) (take_all i (take count all) le) ∙ sym (take-map f count all) ∙ ap (λ (n : ℕ). take n (map f all)) of_all in
    subst (λ (es : List SectionEntry). AreLines (IsRowOf shown.naming style names versions size) es text) first are

-- entries that are sorted without names are in any other order than that of names
pub placed : (naming : Naming) (order : Option Order) (entries sorted : List SectionEntry) → is_by_name order ≡ false → IsPlaced order entries sorted → IsInOrder naming order entries sorted
placed naming None entries sorted isnt is = is
placed naming (Some Address) entries sorted isnt is = is
placed naming (Some Size) entries sorted isnt is = is
placed naming (Some Name) entries sorted isnt is = absurd cc

-- and those by address are sorted by names
pub placed_by_name : (naming : Naming) (order : Option Order) (entries rising : List SectionEntry) (named ordered : List Named) (sorted : List SectionEntry) → is_by_name order ≡ true → IsPlaced order entries rising → AreNamed naming rising named
    → IsByKey (λ (n : Named). n.1) (slice_cmp nat_cmp) named ordered → AreNamed naming sorted ordered → IsInOrder naming order entries sorted
placed_by_name naming None entries rising named ordered sorted by is are by_key all = absurd cc
placed_by_name naming (Some Address) entries rising named ordered sorted by is are by_key all = absurd cc
placed_by_name naming (Some Size) entries rising named ordered sorted by is are by_key all = absurd cc
placed_by_name naming (Some Name) entries rising named ordered sorted by is are by_key all = (rising, is, named, ordered, are, by_key, all)
