-- The text of a listing in an order.
use Rattle.std.specs.Prelude.{◌≡◌, ℕ, ◌/◌, ◌%◌, Bool, true, List, [], ◌∷◌, ◌++◌, codes, length, nat_eq, take, Option, Some, None, if◌then◌else◌}
use Rattle.std.specs.List.{AllZip, concat}
use Rattle.std.specs.Option.{option_and_then}
use Rattle.binfarce.specs.SectionEntries.{SectionEntry, SelectedSymbols}
use Rattle.binfarce_rows.specs.Json.{Style, lines, objects, address_member, number_member, object_start, text_member}
use Rattle.binfarce_rows.specs.Columns.{count_of, line_head}
use Rattle.binfarce_tools.specs.Listing.{size_line}
use Rattle.binfarce_tools.specs.SelectedTexts.{section_part}
use Rattle.binfarce_figures.specs.declared.rows.Shown.{Shown}
use Rattle.binfarce_figures.specs.declared.rows.Naming.{Naming}
use Rattle.binfarce_figures.specs.Keys.{IsCrateOf}
use Rattle.binfarce_figures.specs.Rows.{IsNameText}
use Rattle.binfarce_figures.specs.Order.{IsInOrder}

-- `{address:016x} {size:>10} {name}`, with the section before the name where all sections are listed
abbrev pub row_line : (ℕ → Option (List ℕ)) → Option ℕ → SectionEntry → (name : List ℕ) → List ℕ
row_line names size e name = line_head e.entry.address e.entry.size ++ (section_part names size e.section ++ (name ++ 10 ∷ []))

-- the section that an object has: the selected one, which has a size, or of all sections that of its number, or null if it has no name
abbrev pub section_value : (names : ℕ → Option (List ℕ)) → (selected : List ℕ) → (size : Option ℕ) → (number : ℕ) → Option (List ℕ)
section_value names selected (Some size) number = Some selected
section_value names selected None number = names number

-- the type of a function symbol, the low four bits of its info: STT_FUNC (2) or STT_GNU_IFUNC (10) (System V gABI, "Symbol Table"; GNU extensions). A
-- file that isn't ELF states none
abbrev pub kind_word : (info : ℕ) → Option (List ℕ)
kind_word info = if nat_eq (info % 16) 2 then Some (codes "function") else (if nat_eq (info % 16) 10 then Some (codes "indirect") else None)

-- a binding: STB_LOCAL (0), STB_GLOBAL (1), STB_WEAK (2) or STB_GNU_UNIQUE (10)
abbrev pub word_of : (binding : ℕ) → Option (List ℕ)
word_of binding =
    if nat_eq binding 0 then Some (codes "local")
    else (if nat_eq binding 1 then Some (codes "global")
    else (if nat_eq binding 2 then Some (codes "weak")
    else (if nat_eq binding 10 then Some (codes "unique") else None)))

-- the binding of a function symbol, the high four bits of its info, where that states a type
abbrev pub binding_word : (info : ℕ) → Option (List ℕ)
binding_word info = option_and_then (λ kind. word_of (info / 16)) (kind_word info)

-- the members of a symbol's binding, type and version, null if there is no word or name
abbrev pub symbol_members : (versions : ℕ → Option (List ℕ)) → SectionEntry → List ℕ
symbol_members versions e = concat (
    text_member (codes "binding") (binding_word e.info) ∷ text_member (codes "kind") (kind_word e.info)
    ∷ text_member (codes "version") (versions e.version) ∷ []
    )

-- an entry as an object: its file, its section, its address, its size, its name, its stored name, its crate, its binding, its type and its version
abbrev pub row_object : (file selected : List ℕ) → (names versions : ℕ → Option (List ℕ)) → Option ℕ → SectionEntry → (name crate_name : List ℕ) → List ℕ
row_object file selected names versions size e name crate_name = concat (
    object_start file ∷ text_member (codes "section") (section_value names selected size e.section) ∷ address_member e.entry.address
    ∷ number_member (codes "size") e.entry.size ∷ text_member (codes "name") (Some name) ∷ text_member (codes "raw") (Some e.entry.name)
    ∷ text_member (codes "crate") (Some crate_name) ∷ symbol_members versions e ∷ codes "}\n" ∷ []
    )

-- row is the text of an entry with this name
abbrev pub IsRowWith : Style → (names versions : ℕ → Option (List ℕ)) → Option ℕ → SectionEntry → (name row : List ℕ) → Type 0
IsRowWith lines names versions size e name row = row ≡ row_line names size e name
IsRowWith (objects file selected) names versions size e name row = (crate_name : List ℕ) × IsCrateOf e.entry.name crate_name × (row ≡ row_object file selected names versions size e name crate_name)

-- row is the text of an entry with what is shown of its name
abbrev pub IsRowOf : Naming → Style → (names versions : ℕ → Option (List ℕ)) → Option ℕ → SectionEntry → (row : List ℕ) → Type 0
IsRowOf naming style names versions size e row = (name : List ℕ) × IsNameText naming e.entry.name name × IsRowWith style names versions size e name row

-- the last line: that of the section's size, if it is wanted; none of objects
abbrev pub last_line : Style → (has_total : Bool) → (size : Option ℕ) → List ℕ
last_line lines true (Some size) = size_line size
last_line style has_total size = []

-- text is the rows of the first of these entries
abbrev pub AreFirstRows : Shown → Style → (names versions : ℕ → Option (List ℕ)) → (size : Option ℕ) → List SectionEntry → List ℕ → Type 0
AreFirstRows shown style names versions size sorted text =
    (rows : List (List ℕ)) × AllZip (IsRowOf shown.naming style names versions size) (take (count_of shown.first (length sorted)) sorted) rows × (text ≡ concat rows)

-- text is the listing of entries: the rows of the first ones in the order, and the last line
abbrev pub IsListingOf : Shown → Style → (names versions : ℕ → Option (List ℕ)) → (size : Option ℕ) → List SectionEntry → List ℕ → Type 0
IsListingOf shown style names versions size entries text =
    (sorted : List SectionEntry) × IsInOrder shown.naming shown.order entries sorted
    × (rows : List ℕ) × AreFirstRows shown style names versions size sorted rows × (text ≡ rows ++ last_line style shown.has_total size)

-- text is the listing of a file's answer
abbrev pub IsListingBy : Shown → Style → SelectedSymbols → List ℕ → Type 0
IsListingBy shown style selected text = IsListingOf shown style selected.section_name selected.version_name selected.section_size selected.entries text
