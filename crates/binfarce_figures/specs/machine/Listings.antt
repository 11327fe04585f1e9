-- How a listing is shown, row after row.
use Rattle.std.specs.Prelude.{◌≡◌, ◌⊎◌, ℕ, ◌<◌, Bool, true, false, List, length, slice_index_or, String, Option, Some, None}
use Rattle.std.specs.Global.{Global}
use Rattle.std.specs.BTreeMap.{BTreeMap, get_by_text}
use Rattle.std.specs.String.{string_bytes}
use Rattle.binfarce.specs.SectionEntries.{SectionEntry}
use Rattle.binfarce.specs.SymbolViews.{section_function_view}
use Rattle.binfarce_rows.specs.Json.{style_of}
use Rattle.binfarce_tools.specs.Tables.{section_names, version_names_of}
use Rattle.binfarce_bytes.specs.declared.functions.SectionFunction.{SectionFunction}
use Rattle.binfarce_figures.specs.declared.order.Order.{Order}
use Rattle.binfarce_figures.specs.declared.order.Order.TheVariants.{Address, Size, Name}
use Rattle.binfarce_figures.specs.declared.order.Row.{Row}
use Rattle.binfarce_figures.specs.declared.rows.Listing.{Listing}
use Rattle.binfarce_figures.specs.declared.rows.Naming.{Naming}
use Rattle.binfarce_figures.specs.declared.rows.Texts.{Texts}
use Rattle.binfarce_figures.specs.Order.{IsByAddress, IsBySize}
use Rattle.binfarce_figures.specs.RowListing.{AreFirstRows, IsListingOf, IsRowWith}
use Rattle.binfarce_figures.specs.Rows.{IsNameText}

abbrev pub is_by_name : Option Order → Bool
is_by_name (Some Name) = true
is_by_name order = false

-- sorted is entries in an order that compares no names: by name they are in the order of their addresses
abbrev pub IsPlaced : Option Order → (entries sorted : List SectionEntry) → Type 0
IsPlaced None entries sorted = sorted ≡ entries
IsPlaced (Some Address) entries sorted = IsByAddress entries sorted
IsPlaced (Some Size) entries sorted = IsBySize entries sorted
IsPlaced (Some Name) entries sorted = IsByAddress entries sorted

-- the entry of a row
abbrev pub entry_of : Row → SectionEntry
entry_of row = section_function_view row.function

-- a row has what is shown of its name
abbrev pub HasName : Naming → Row → Type 0
HasName naming row = IsNameText naming row.function.function.name.now row.name.now

-- the stored name of a function symbol
abbrev pub name_of : SectionFunction → List ℕ
name_of f = f.function.name.now

-- the text at an index is what is shown of a stored name
pub record IsTextAt (naming : Naming) (texts : List (String Global)) (stored : List ℕ) (index : ℕ) : Type 0 where
  pub below : index < length texts
  pub is : (d : String Global) → IsNameText naming stored (string_bytes (slice_index_or texts index d))

-- what is shown of a stored name is the text at an index, or the stored name itself
abbrev pub IsShownBy : (naming : Naming) (texts : List (String Global)) (stored : List ℕ) → Option ℕ → Type 0
IsShownBy naming texts stored (Some index) = IsTextAt naming texts stored index
IsShownBy naming texts stored None = IsNameText naming stored stored

-- each long name that was found has the index of its text
abbrev pub AreTexts : Naming → Texts → Type 0
AreTexts naming t = (stored : List ℕ) (index : ℕ) → get_by_text t.long stored ≡ Some index → IsTextAt naming t.texts.items stored index

-- what is found by a name after it was noted: its index, or what was found before
abbrev pub Notes : (old : BTreeMap (String Global) ℕ) → (name : List ℕ) → (index : ℕ) → (new : BTreeMap (String Global) ℕ) → Type 0
Notes old name index new = (stored : List ℕ) (i : ℕ) → get_by_text new stored ≡ Some i → ((stored ≡ name) × (i ≡ index)) ⊎ (get_by_text old stored ≡ Some i)

abbrev pub IsRowNamed : Listing → SectionEntry → (name row : List ℕ) → Type 0
IsRowNamed l e name row = IsRowWith (style_of l.form) (section_names l.tables.now) (version_names_of l.tables.now) l.size e name row

abbrev pub AreRows : Listing → List SectionEntry → List ℕ → Type 0
AreRows l sorted text = AreFirstRows l.shown.now (style_of l.form) (section_names l.tables.now) (version_names_of l.tables.now) l.size sorted text

-- text is the listing of entries
abbrev pub IsTextFor : Listing → List SectionEntry → List ℕ → Type 0
IsTextFor l entries text = IsListingOf l.shown.now (style_of l.form) (section_names l.tables.now) (version_names_of l.tables.now) l.size entries text
