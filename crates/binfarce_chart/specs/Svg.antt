-- The text of a picture, as SVG.
use Rattle.std.specs.Prelude.{◌≡◌, ◌≢◌, ℕ, ◌+◌, ◌*◌, ◌/◌, ◌%◌, ◌≤◌, false, ◌&&◌, List, [], ◌∷◌, ◌++◌, length, take, codes, nat_eq, nat_le, Bool, Option, Some, None, is_some, if◌then◌else◌, IsPermutation}
use Rattle.std.specs.Fmt.{decimal, digit_glyph}
use Rattle.std.specs.List.{flat_map, list_any}
use Rattle.std.specs.Str.{byte, bytes_eq}
use Rattle.binfarce_chart.specs.Chart.{Row, Falls, KeepsOrder, amount, bar_length, largest, percents, shown, total, width}

-- `\x` and two hexadecimal digits
abbrev pub hex_byte : ℕ → List ℕ
hex_byte b = codes "\\x" ++ (digit_glyph false (b / 16 % 16) ∷ digit_glyph false (b % 16) ∷ [])

-- a byte of a name: as an entity if it is special in XML, unchanged if it is other printable ASCII, and otherwise hex-escaped
unfoldable pub escaped_byte : ℕ → List ℕ
escaped_byte b =
    if nat_eq b (byte "<") then codes "&lt;"
    else if nat_eq b (byte ">") then codes "&gt;"
    else if nat_eq b (byte "&") then codes "&amp;"
    else if nat_eq b (byte "\"") then codes "&quot;"
    else if nat_le (byte " ") b && nat_le b (byte "~") then b ∷ []
    else hex_byte b

unfoldable pub escaped : List ℕ → List ℕ
escaped name = flat_map escaped_byte name

-- printable ASCII, and neither `<` nor `>` nor `"`
abbrev pub IsPlain : ℕ → Type 0
IsPlain b = (byte " " ≤ b) × (b ≤ byte "~") × (b ≢ byte "<") × (b ≢ byte ">") × (b ≢ byte "\"")

-- the beginning of a row, so far from the top; its name ends where the bars begin
unfoldable pub row_start : ℕ → List ℕ
row_start top = codes "<svg y=\"" ++ (decimal top ++ codes "\" height=\"24\"><svg width=\"248\"><text x=\"8\" y=\"18\">")

-- a bar of this width, over the whole width
unfoldable pub bar : ℕ → List ℕ
bar n = codes "</text></svg><svg x=\"252\" width=\"324\"><rect y=\"3\" width=\"100%\" height=\"18\" fill=\"#e6e6e6\"/><rect y=\"3\" width=\"" ++ (percents n ++ codes "%\" height=\"18\" fill=\"#245\"/></svg>")

-- the share, and the size at the end of the row
unfoldable pub share_text : ℕ → List ℕ
share_text share = codes "<text x=\"664\" y=\"18\" text-anchor=\"end\">" ++ (percents share ++ codes "%</text>")

unfoldable pub size_text : ℕ → List ℕ
size_text size = codes "<text x=\"792\" y=\"18\" text-anchor=\"end\">" ++ (amount size ++ codes "</text></svg>\n")

-- a name of at most so many bytes; of a longer one the whole as a title, its beginning, and an ellipsis
unfoldable pub label : (most : ℕ) → List ℕ → List ℕ
label most name = if nat_le (length name) most then escaped name else (codes "<title>" ++ (escaped name ++ (codes "</title>" ++ (escaped (take most name) ++ codes "&#8230;"))))

-- a row so far from the top: its name, its bar, its share and its size
unfoldable pub row : (top : ℕ) → Row → (share width : ℕ) → List ℕ
row top r share width = row_start top ++ (label 26 r.name ++ (bar width ++ (share_text share ++ size_text r.size)))

-- the rows below each other, with so much of the sum before the first; most is the size that has the whole width
abbrev pub rows : (sum most before top : ℕ) → List Row → List ℕ
rows sum most before top [] = []
rows sum most before top (r ∷ others) = row top r (bar_length sum before r.size) (width most r.size) ++ rows sum most (before + r.size) (top + 24) others

-- a document of this height
unfoldable pub opening : ℕ → List ℕ
opening height = codes "<svg xmlns=\"http://www.w3.org/2000/svg\" width=\"800\" height=\"" ++ (decimal height ++ (codes "\" viewBox=\"0 0 800 " ++ (decimal height ++ codes "\" font-family=\"sans-serif\" font-size=\"16\">\n")))

-- the document's title, and a white background
unfoldable pub document_title : List ℕ → List ℕ
document_title title = codes "<title>Size by crate: " ++ (escaped title ++ codes "</title>\n<rect width=\"800\" height=\"100%\" fill=\"#fff\"/>\n")

-- the title as the first line
unfoldable pub heading : List ℕ → List ℕ
heading title = codes "<text x=\"8\" y=\"25\" font-weight=\"bold\">" ++ (label 80 title ++ codes "</text>\n")

-- the section's size, if one is selected
abbrev pub section_part : Option ℕ → List ℕ
section_part None = []
section_part (Some size) = codes ", text " ++ amount size

-- a line with the sum and the section's size
unfoldable pub caption : (sum : ℕ) → (size : Option ℕ) → List ℕ
caption sum size = codes "<text x=\"8\" y=\"49\">sum " ++ (amount sum ++ (section_part size ++ codes ": share of the sum and size by crate</text>\n"))

-- the text before the rows of a document of this height
unfoldable pub head : List ℕ → (height sum : ℕ) → (size : Option ℕ) → List ℕ
head title height sum size = opening height ++ (document_title title ++ (heading title ++ caption sum size))

-- the row is that of names without a crate
abbrev pub is_unknown : Row → Bool
is_unknown r = bytes_eq r.name (codes "[unknown]")

-- the line below rows of which one is that
abbrev pub unknown_note : List ℕ
unknown_note = codes "[unknown]: names in which no crate is named, such as those of C, C++ and assembly"

-- the line below the rows, if any: that there are none, or what `[unknown]` is
abbrev pub note : List Row → Option (List ℕ)
note rows =
    if nat_eq (length rows) 0 then Some (codes "no function symbols")
    else if list_any is_unknown rows then Some unknown_note
    else None

-- that line, so far from the top, and the end of the document
unfoldable pub foot : (y : ℕ) → Option (List ℕ) → List ℕ
foot y None = codes "</svg>\n"
foot y (Some line) = codes "<text x=\"8\" y=\"" ++ (decimal y ++ (codes "\" fill=\"#444\">" ++ (line ++ codes "</text>\n</svg>\n")))

-- the height of the picture of rows, with their note, if any
abbrev pub height : List Row → ℕ
height rows = 24 * length rows + (if is_some (note rows) then 96 else 72)

-- the picture that shows these rows
abbrev pub picture : List ℕ → List Row → (size : Option ℕ) → List ℕ
picture title bars size = head title (height bars) (total bars) size ++ (rows (total bars) (largest bars) 0 64 bars ++ foot (24 * length bars + 82) (note bars))

-- text is the picture of the section's size, if one is selected, and of the first rows, if so many are asked for: the largest first, rows of one size in their given order
abbrev pub IsChartOf : List ℕ → List Row → (size first : Option ℕ) → List ℕ → Type 0
IsChartOf title all size first text = (falling : List Row) × IsPermutation all falling × Falls falling × KeepsOrder all falling × (text ≡ picture title (shown first falling) size)
