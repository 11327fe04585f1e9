-- How function symbols are shown.
use Rattle.std.specs.Prelude.{◌≡◌, ℕ, Bool, true, false, not, ◌&&◌, List, [], ◌∷◌, codes, length, map, nat_eq, nat_lt, Option, Some, None, is_some, Result, Ok, Err, if◌then◌else◌}
use Rattle.std.specs.Option.{option_map}
use Rattle.std.specs.Str.{bytes_eq}
use Rattle.binfarce.specs.Format.{format_of}
use Rattle.binfarce.specs.declared.Format.{Format}
use Rattle.binfarce.specs.declared.Format.TheVariants as formats
use Rattle.binfarce.specs.Refusal.{Refusal, section_is_missing, symbols_section_is_missing}
use Rattle.binfarce.specs.SectionEntries.{SelectedSymbols}
use Rattle.binfarce_figures.specs.Claims.{SumFits}
use Rattle.binfarce_figures.specs.Figures.{AreFiguresBy, AreSharesIn, AreStacksIn, AreSumsBy, IsPictureBy}
use Rattle.binfarce_figures.specs.Changes.{sizes_at}
use Rattle.binfarce_figures.specs.RowListing.{IsListingBy}
use Rattle.binfarce_figures.specs.declared.sums.Sums.{Sums}
use Rattle.binfarce_figures.specs.declared.key.Grouping.{Grouping}
use Rattle.binfarce_limits.specs.Rows.{Found, NameLimit, finding_view, findings, limit_view}
use Rattle.binfarce_limits.specs.declared.excess.Counted.{Counted}
use Rattle.binfarce_limits.specs.declared.excess.Counted.TheVariants.{Size}
use Rattle.binfarce_rows.specs.Json.{Style, lines, objects}
use Rattle.binfarce_tools.specs.Listing.{ListingFits}
use Rattle.binfarce_tools.specs.SelectedTexts.{IsListingOfSelected}
use Rattle.binfarce_bytes.specs.Selection.{section_of}
use Rattle.binfarce_tools.specs.Answer.{selected_answer, MemoryIn}
use Rattle.binfarce_tools.specs.Report.{Share}
use Rattle.binfarce_tools.specs.Tables.{AreTablesOf}
use Rattle.binfarce_tools.specs.Writing.{Outcome, IsDue, ProgramEndsAs, Takes}
use Rattle.binfarce_tables.specs.PeReading.{file_has_symbols}
use Rattle.binfarce_tools.specs.declared.SymbolTable.{SymbolTable}
use Rattle.binfarce_tools.specs.declared.SymbolTable.TheVariants.{Dynsym, Symtab}
use Rattle.binfarce_tools.specs.declared.tables.Tables.{Tables}
use Rattle.binfarce_jobs.specs.Code.{has_code}
use Rattle.binfarce_jobs.specs.declared.hint.Hint.{Hint}
use Rattle.binfarce_jobs.specs.declared.show.Request.{Request}
use Rattle.binfarce_jobs.specs.declared.show.Kind.{Kind}
use Rattle.binfarce_jobs.specs.declared.show.Kind.TheVariants.{Listing, Rows, Figures, Picture, Stacks}
use Rattle.binfarce_jobs.specs.declared.show.Seen.{Seen}
use Rattle.binfarce_jobs.specs.declared.show.Symbols.{Symbols}
use Rattle.binfarce_jobs.specs.Limit.{above}
use Rattle.binfarce_words.specs.declared.takes.Limit.{Limit}

-- text shows the answer of the file at a path for a section, or for all sections
abbrev pub IsTextOf : Kind → (path : List ℕ) → Style → SelectedSymbols → List ℕ → Type 0
IsTextOf Listing path style = IsListingOfSelected
IsTextOf (Rows shown) path style = IsListingBy shown style
IsTextOf (Figures figures) path style = AreFiguresBy figures style
IsTextOf (Picture grouping first) path style = IsPictureBy path grouping first
IsTextOf (Stacks joins_std) path style = AreStacksIn joins_std

-- the sums of a file's answer, where sums are shown
abbrev pub HasSums : Kind → SelectedSymbols → Option Sums → Type 0
HasSums (Figures figures) selected seen = (sums : Sums) × (seen ≡ Some sums) × AreSumsBy figures.grouping selected sums
HasSums kind selected seen = seen ≡ None

-- what is counted for the row of a name, if there is one, where these shares are summed
abbrev pub counted_in : List Share → (name : List ℕ) → Option Counted
counted_in shares name = option_map (λ n. Size n.1) (sizes_at [] shares name)

-- this is said of limits on the rows of the sums of a file's answer; nothing, without limits
abbrev pub AreRowsIn : List NameLimit → Grouping → SelectedSymbols → List Found → Type 0
AreRowsIn [] grouping selected found = found ≡ []
AreRowsIn (limit ∷ others) grouping selected found = (shares : List Share) × AreSharesIn grouping selected shares × (found ≡ findings (counted_in shares) (limit ∷ others))

-- so where sums are shown
abbrev pub HasRows : List NameLimit → Kind → SelectedSymbols → List Found → Type 0
HasRows limits (Figures figures) selected found = AreRowsIn limits figures.grouping selected found
HasRows limits kind selected found = found ≡ []

-- what was found is that of a file's answer: whether it has no function symbol, and where sums are shown these, and what is said of limits on their rows
pub record IsSeenOf (kind : Kind) (limits : List NameLimit) (selected : SelectedSymbols) (seen : Seen) : Type 0 where
  pub empty_is : seen.is_empty ≡ nat_eq (length selected.entries) 0
  pub sums_are : HasSums kind selected seen.sums
  pub rows_are : HasRows limits kind selected (map finding_view seen.rows.items)

-- the name of the section that is selected; empty for all sections
abbrev pub selected_name : Option (List ℕ) → List ℕ
selected_name (Some name) = name
selected_name None = []

-- how rows are written: as objects with the path of the file and the name of the section, if that is asked for
abbrev pub style_for : Request → (path : List ℕ) → Style
style_for asked path = if asked.is_json then objects path (selected_name (section_of asked.symbols.selection)) else lines

-- such a text can be made
abbrev pub Fits : Kind → SelectedSymbols → Type 0
Fits Listing = ListingFits
Fits (Rows shown) = ListingFits
Fits (Figures figures) = SumFits
Fits (Picture grouping first) = SumFits
Fits (Stacks joins_std) = SumFits

-- the section can be selected in a file of this format: in a Mach-O or PE file `.text` is the code section, and there is no other name
abbrev pub is_taken : (section : Option (List ℕ)) → Format → Bool
is_taken (Some name) formats.Macho = bytes_eq name (codes ".text")
is_taken (Some name) formats.PE = bytes_eq name (codes ".text")
is_taken section format = true

-- whether a file of this format has this symbol table: a PE file may have none, or no header. That of another file is found when it is read
abbrev pub has_table : SymbolTable → Format → (file : List ℕ) → Result Bool Refusal
has_table Symtab formats.PE file = file_has_symbols file
has_table which format file = Ok true

-- the answer of a file, if it has the symbol table: else that is missing, as in a stripped ELF file
abbrev pub answer_with : (has : Result Bool Refusal) → Option (Result SelectedSymbols Refusal) → Option (Result SelectedSymbols Refusal)
answer_with (Err refusal) answer = Some (Err refusal)
answer_with (Ok true) answer = answer
answer_with (Ok false) answer = Some (Err (section_is_missing (codes ".symtab")))

-- the answer has a function symbol
abbrev pub has_functions : Option (Result SelectedSymbols Refusal) → Bool
has_functions (Some (Ok selected)) = nat_lt 0 (length selected.entries)
has_functions answer = false

-- a file has code, but no function symbol by this symbol table: neither what is selected, nor any section
abbrev pub is_bare : SymbolTable → (file : List ℕ) → (section : Option (List ℕ)) → Bool
is_bare which file section = not (has_functions (selected_answer which section file)) && (not (has_functions (selected_answer which None file)) && has_code file)

-- the refusal of such a file: its function symbols are missing
abbrev pub functions_name : SymbolTable → List ℕ
functions_name Symtab = codes "function symbols"
functions_name Dynsym = codes "function symbols in .dynsym"

abbrev pub no_functions : SymbolTable → Refusal
no_functions which = section_is_missing (functions_name which)

-- an answer, unless it is that of such a file
abbrev pub answer_unless : (bare : Bool) → SymbolTable → Option (Result SelectedSymbols Refusal) → Option (Result SelectedSymbols Refusal)
answer_unless false which answer = answer
answer_unless true which (Some (Ok selected)) = Some (Err (no_functions which))
answer_unless true which answer = answer

-- what a file answers for a selection: a section that can't be selected is missing, and so may the symbol table be, and the function symbols of a file with code
abbrev pub answer_taken : SymbolTable → (file : List ℕ) → (section : Option (List ℕ)) → Option (Result SelectedSymbols Refusal)
answer_taken which file section =
    if is_taken section (format_of file) then answer_with (has_table which (format_of file) file) (answer_unless (is_bare which file section) which (selected_answer which section file))
    else Some (Err symbols_section_is_missing)

-- so for the function symbols that are taken
abbrev pub answer_for : Symbols → (file : List ℕ) → Option (Result SelectedSymbols Refusal)
answer_for symbols file = answer_taken symbols.which file (section_of symbols.selection)

-- the tables are those of the file for these function symbols
abbrev pub AreTablesFor : Symbols → (file : List ℕ) → Tables → Type 0
AreTablesFor symbols file tables = AreTablesOf symbols.which file (section_of symbols.selection) tables × (answer_for symbols file ≡ selected_answer symbols.which (section_of symbols.selection) file)

-- the answers that need memory
abbrev pub MemoryFor : Symbols → (file : List ℕ) → Result SelectedSymbols Refusal → Type 0
MemoryFor symbols file = MemoryIn file (section_of symbols.selection)

-- text shows what is asked for of an answer
abbrev pub IsAskedText : Request → (path : List ℕ) → SelectedSymbols → List ℕ → Type 0
IsAskedText asked path = IsTextOf asked.kind path (style_for asked path)

-- what was taken of the text that is asked for of a file
abbrev pub TakesText : Request → (path file : List ℕ) → (old new : Option (List ℕ)) → Outcome → Type 0
TakesText asked path file old new outcome = Takes (IsAskedText asked path) (answer_for asked.symbols file) old new outcome

-- text is what is asked for of a file
abbrev pub IsShownText : Request → (path file text : List ℕ) → Type 0
IsShownText asked path file text = IsDue (IsAskedText asked path) (answer_for asked.symbols file) text

-- the showing of a file may end so; that the file can't be read is reported only if MayFail says so, and that an allocation failed of any file
abbrev pub MayEnd : (MayFail : Type 0) → Request → (file : List ℕ) → Outcome → Type 0
MayEnd MayFail asked file outcome = ProgramEndsAs MayFail (Fits asked.kind) (MemoryFor asked.symbols file) (answer_for asked.symbols file) outcome

-- the hint that the sum of all sizes exceeds the limit, where sums are shown
abbrev pub excess_of : Option Limit → Option Sums → Option Hint
excess_of limit (Some sums) = above sums.total limit
excess_of limit None = None

abbrev pub exceeds : Option Limit → Option Sums → Bool
exceeds limit sums = is_some (excess_of limit sums)

-- the limits on rows that are asked for
abbrev pub limits_of : Request → List NameLimit
limits_of asked = map limit_view asked.limits.now

-- the sums are those of a file's answer
abbrev pub HasSumsOf : Request → (file : List ℕ) → Option Sums → Type 0
HasSumsOf asked file sums = (selected : SelectedSymbols) × (answer_for asked.symbols file ≡ Some (Ok selected)) × HasSums asked.kind selected sums

-- and this is said of the rows of such an answer
abbrev pub HasRowsOf : Request → (file : List ℕ) → List Found → Type 0
HasRowsOf asked file found = (selected : SelectedSymbols) × (answer_for asked.symbols file ≡ Some (Ok selected)) × HasRows (limits_of asked) asked.kind selected found
