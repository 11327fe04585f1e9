-- The text of sums by a key.
use Rattle.std.specs.Prelude.{◌≡◌, ℕ, ◌/◌, ◌%◌, Bool, true, false, List, [], ◌∷◌, ◌++◌, length, map, take, drop, filter, Option, Some, None, Result, Ok, Err, unwrap_or, codes, nat_eq, nat_lt, if◌then◌else◌}
use Rattle.std.specs.Fmt.{decimal}
use Rattle.std.specs.List.{AllZip, flat_map, sum_by}
use Rattle.std.specs.Str.{bytes_eq}
use Rattle.binfarce.specs.SectionEntries.{SectionEntry, SelectedSymbols}
use Rattle.binfarce_chart.specs.Chart.{others_label}
use Rattle.binfarce_rows.specs.Json.{Style, lines, objects, number_member, object_start, text_member}
use Rattle.binfarce_rows.specs.Columns.{count_of, hundredths, pad_left, percent_member, size_column}
use Rattle.binfarce_figures.specs.Picture.{IsPictureOfShares}
use Rattle.binfarce_tools.specs.Report.{Share, AreCratesOf, sum_of, total, total_line, unknown_crate}
use Rattle.binfarce_figures.specs.declared.key.Grouping.{Grouping}
use Rattle.binfarce_figures.specs.declared.key.Key.{Key}
use Rattle.binfarce_figures.specs.declared.key.Key.TheVariants.{Generic, Stack}
use Rattle.binfarce_figures.specs.declared.figures.Figure.{Figure}
use Rattle.binfarce_figures.specs.declared.sums.Figures.{Figures}
use Rattle.binfarce_figures.specs.declared.sums.Sums.{Sums}
use Rattle.binfarce_figures.specs.Claims.{AreClaimsOf, IsSumOf}
use Rattle.binfarce_figures.specs.RowListing.{last_line}
use Rattle.binfarce_figures.specs.Keys.{IsKeyOf, section_keys}
use Rattle.binfarce_figures.specs.Order.{IsByKey, falling}

-- share is that of a claim: its key, and the bytes that it adds
pub record IsShareOf (grouping : Grouping) (sections : ℕ → List ℕ) (claim : SectionEntry) (share : Share) : Type 0 where
  pub name_is : IsKeyOf grouping sections claim share.name
  pub size_is : share.size ≡ claim.entry.size

-- how many shares have a key
abbrev pub copies_of : List Share → List ℕ → ℕ
copies_of shares name = length (filter (λ s. bytes_eq s.name name) shares)

-- what a figure has: its key, and the key's two numbers
abbrev pub figure_view : Figure → List ℕ × (ℕ × ℕ)
figure_view f = (f.name.now, (f.sum, f.other))

-- keys with the two numbers of each
abbrev pub numbers_of : (sum other : List ℕ → ℕ) → (names : List (List ℕ)) → List (List ℕ × (ℕ × ℕ))
numbers_of sum other names = map (λ name. (name, (sum name, other name))) names

-- figures have these, the one of the greatest rank first, and those of one rank in the order that is given
abbrev pub AreFiguresOf : (rank : ℕ → ℕ → ℕ) → (numbers : List (List ℕ × (ℕ × ℕ))) → List Figure → Type 0
AreFiguresOf rank numbers figures = (rising : List Figure) × (map figure_view rising ≡ numbers) × IsByKey (λ f. rank f.sum f.other) falling rising figures

-- `{:>3}.{:02}% `, of hundredths
abbrev pub percent_text : ℕ → List ℕ
percent_text n = pad_left 32 3 (decimal (n / 100)) ++ (codes "." ++ (decimal (n / 10 % 10) ++ (decimal (n % 10) ++ codes "% ")))

-- the share of a size, if it is wanted
abbrev pub percent_part : (has_percent : Bool) → (size whole : ℕ) → List ℕ
percent_part true size whole = percent_text (hundredths size whole)
percent_part false size whole = []

-- the count of copies, where generic functions are summed
abbrev pub copies_part : Key → (copies : ℕ) → List ℕ
copies_part Generic copies = pad_left 32 6 (decimal copies) ++ codes " "
copies_part key copies = []

-- a row as a line: its columns, its key, and a line feed; as an object: its file, its key, and its members
abbrev pub row_of : Style → (columns members name : List ℕ) → List ℕ
row_of lines columns members name = columns ++ (name ++ 10 ∷ [])
row_of (objects file section) columns members name = object_start file ++ (text_member (codes "name") (Some name) ++ (members ++ codes "}\n"))

-- `{size:>10} {percent:>6}% {copies:>6} `
abbrev pub sum_columns : Figures → (whole : ℕ) → (size copies : ℕ) → List ℕ
sum_columns shown whole size copies = size_column size ++ (percent_part shown.has_percent size whole ++ copies_part shown.grouping.key copies)

-- the member of the share of a size, if it is wanted
abbrev pub share_member : (has_percent : Bool) → (size whole : ℕ) → List ℕ
share_member true size whole = percent_member [] (hundredths size whole)
share_member false size whole = []

abbrev pub sum_members : Figures → (whole : ℕ) → (size copies : ℕ) → List ℕ
sum_members shown whole size copies = number_member (codes "size") size ++ (number_member (codes "copies") copies ++ share_member shown.has_percent size whole)

-- the row of a sum: its key, its size and its number of function symbols
abbrev pub sum_row : Figures → Style → (whole : ℕ) → (name : List ℕ) → (size copies : ℕ) → List ℕ
sum_row shown style whole name size copies = row_of style (sum_columns shown whole size copies) (sum_members shown whole size copies) name

-- the row of a figure, by how a key's two numbers are shown
abbrev pub figure_row : (row : List ℕ → ℕ → ℕ → List ℕ) → Figure → List ℕ
figure_row row figure = row figure.name.now figure.sum figure.other

-- the row that sums up figures
abbrev pub others_row : (row : List ℕ → ℕ → ℕ → List ℕ) → List Figure → List ℕ
others_row row others = row (others_label (length others)) (sum_by (λ f. f.sum) others) (sum_by (λ f. f.other) others)

-- the rows of the first figures, and that of all others where there are any
abbrev pub figure_rows : (row : List ℕ → ℕ → ℕ → List ℕ) → (first : Option ℕ) → List Figure → List ℕ
figure_rows row first figures = let n = count_of first (length figures) in
    flat_map (figure_row row) (take n figures) ++ (if nat_lt n (length figures) then others_row row (drop n figures) else [])

-- text has the rows of these keys: of the first of them, and that of all others
abbrev pub AreRowsOf : (row : List ℕ → ℕ → ℕ → List ℕ) → (first : Option ℕ) → (rank : ℕ → ℕ → ℕ) → (numbers : List (List ℕ × (ℕ × ℕ))) → (text : List ℕ) → Type 0
AreRowsOf row first rank numbers text = (figures : List Figure) × AreFiguresOf rank numbers figures × (text ≡ figure_rows row first figures)

-- the section's size as a member, if there is one
abbrev pub section_member : (size : Option ℕ) → List ℕ
section_member (Some size) = number_member (codes "text") size
section_member None = []

-- the lines of the sum of all sizes and of the section's size; one object of both
abbrev pub whole_text : Style → (size : Option ℕ) → (total : ℕ) → List ℕ
whole_text lines size total = total_line total ++ last_line lines true size
whole_text (objects file section) size total = object_start file ++ (number_member (codes "sum") total ++ (section_member size ++ codes "}\n"))

-- text is that of the sums of shares: a row for each key, the greatest first, with its share of the whole, which is the section, or of all sections the sum of all
abbrev pub IsTextOfShares : Figures → Style → (size : Option ℕ) → List Share → List ℕ → Type 0
IsTextOfShares shown style size shares text =
    (names : List (List ℕ)) × (rows : List ℕ) × AreCratesOf shares names
    × AreRowsOf (sum_row shown style (unwrap_or size (total shares))) shown.first (λ size copies. size) (numbers_of (sum_of shares) (copies_of shares) names) rows
    × (text ≡ rows ++ whole_text style size (total shares))

-- shares are those of the claims of entries
abbrev pub AreSharesOf : Grouping → (ℕ → List ℕ) → List SectionEntry → List Share → Type 0
AreSharesOf grouping sections entries shares = (claims : List SectionEntry) × AreClaimsOf entries claims × AllZip (IsShareOf grouping sections) claims shares

-- so of a file's answer
abbrev pub AreSharesIn : Grouping → SelectedSymbols → List Share → Type 0
AreSharesIn grouping selected shares = AreSharesOf grouping (section_keys selected.section_name selected.section_size) selected.entries shares

-- text shows what the function symbols of a file's answer add
abbrev pub IsShownBy : Grouping → (Shows : (size : Option ℕ) → List Share → List ℕ → Type 0) → SelectedSymbols → List ℕ → Type 0
IsShownBy grouping Shows selected text = (shares : List Share) × AreSharesIn grouping selected shares × Shows selected.section_size shares text

-- text is that of the sums of a file's answer
abbrev pub AreFiguresBy : Figures → Style → SelectedSymbols → List ℕ → Type 0
AreFiguresBy shown style = IsShownBy shown.grouping (IsTextOfShares shown style)

-- text is the picture of these sums with this title, of the first ones if so many are asked for
abbrev pub IsPictureBy : (title : List ℕ) → Grouping → (first : Option ℕ) → SelectedSymbols → List ℕ → Type 0
IsPictureBy title grouping first = IsShownBy grouping (λ size shares text. IsPictureOfShares title shares size first text)

-- `{key} {size}`, and a line feed, of those that add bytes
abbrev pub claim_line : Share → List ℕ
claim_line share = if nat_eq share.size 0 then [] else share.name ++ (codes " " ++ (decimal share.size ++ 10 ∷ []))

-- text has the stacks of a file's answer: a line for each function symbol that adds bytes
abbrev pub AreStacksIn : (joins_std : Bool) → SelectedSymbols → List ℕ → Type 0
AreStacksIn joins_std = IsShownBy (record { key = Stack; joins_std = joins_std }) (λ size shares text. text ≡ flat_map claim_line shares)

-- sums are those of a file's answer: of all its bytes, and of those that count for `[unknown]`
pub record AreSumsBy (grouping : Grouping) (selected : SelectedSymbols) (sums : Sums) : Type 0 where
  pub total_is : IsSumOf selected sums.total
  pub shares : List Share
  pub are : AreSharesIn grouping selected shares
  pub unknown_is : sums.unknown ≡ sum_of shares unknown_crate

-- a result without its value
abbrev pub ended : {A E : Type 0} → Result A E → Result (Unit {0}) E
ended (Ok value) = Ok tt
ended (Err e) = Err e
