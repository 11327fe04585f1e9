-- The listing and the report of a selection: those of a section have a last line with its size; in a listing of all sections each line names its section, and there is no last line.
use Rattle.std.specs.Prelude.{◌≡◌, ℕ, List, [], ◌∷◌, ◌++◌, codes, Option, Some, None}
use Rattle.std.specs.Fmt.{decimal}
use Rattle.std.specs.List.{AllZip, concat}
use Rattle.binfarce_names.specs.Name.{Name}
use Rattle.binfarce_names.specs.Named.{IsNamed}
use Rattle.binfarce.specs.SectionEntries.{SectionEntry, SelectedSymbols, as_listed}
use Rattle.binfarce_tools.specs.Answer.{entries_of}
use Rattle.binfarce_rows.specs.Columns.{line_head}
use Rattle.binfarce_tools.specs.Listing.{size_line}
use Rattle.binfarce_tools.specs.Report.{Share, IsShareOf, IsReportOfShares}
use Rattle.binfarce_tools.specs.SectionAnswer.{ReportFits}

-- a section in a line: its name as it is stored, or if it has none its number in brackets
abbrev pub section_text : Option (List ℕ) → ℕ → List ℕ
section_text (Some name) number = name
section_text None number = codes "[" ++ (decimal number ++ codes "]")

-- the section and a blank where all sections are selected, which have no size
abbrev pub section_part : (names : ℕ → Option (List ℕ)) → (size : Option ℕ) → (number : ℕ) → List ℕ
section_part names (Some size) number = []
section_part names None number = section_text (names number) number ++ codes " "

-- `{address:016x} {size:>10} {trimmed}`, with the section before the name where all sections are selected, and a line feed
abbrev pub entry_line : (names : ℕ → Option (List ℕ)) → (size : Option ℕ) → SectionEntry → Name → List ℕ
entry_line names size e name = line_head e.entry.address e.entry.size ++ (section_part names size e.section ++ (name.trimmed ++ 10 ∷ []))

-- line is that of the entry, with the answer of its name, if these are the sections' names and the selected one's size
abbrev pub IsLineOfSelected : (names : ℕ → Option (List ℕ)) → (size : Option ℕ) → SectionEntry → List ℕ → Type 0
IsLineOfSelected names size e line = (name : Name) × IsNamed e.entry.name name × (line ≡ entry_line names size e name)

-- the last line: that of the selected section's size; none where all sections are selected
abbrev pub last_line : (size : Option ℕ) → List ℕ
last_line (Some size) = size_line size
last_line None = []

-- text is the listing of a selection: a line for each entry, in order, and then the last line
abbrev pub IsListingOfSelected : SelectedSymbols → List ℕ → Type 0
IsListingOfSelected selected text =
    (lines : List (List ℕ)) × AllZip (IsLineOfSelected selected.section_name selected.section_size) selected.entries lines
    × (text ≡ concat lines ++ last_line selected.section_size)

-- text is the report of a selection: each entry adds its share
abbrev pub IsReportOfSelected : SelectedSymbols → List ℕ → Type 0
IsReportOfSelected selected text =
    (shares : List Share) × AllZip IsShareOf (entries_of selected) shares × IsReportOfShares shares (last_line selected.section_size) text

-- a report of a selection can be made where one of its entries, as one list, can
abbrev pub SelectedReportFits : SelectedSymbols → Type 0
SelectedReportFits selected = ReportFits (as_listed selected)
