-- Views of the values that `macho` reads, for private clauses.
use Rattle.std.specs.Prelude.{◌≡◌, ℕ, ◌+◌, ◌-◌, ◌/◌, ◌<◌, ◌≤◌, ◌++◌, List, [], length, map, get_or, slice_get, min, nat_le, Option, Some, None, Result, Ok, Err, if◌then◌else◌}
use Rattle.std.specs.Borrow.{Bor}
use Rattle.std.specs.Global.{Vec}
use Rattle.std.specs.Option.{option_map}
use Rattle.std.specs.List.{range_with_len, filter_map}
use Rattle.binfarce_macho.specs.declared.commands.Command.{Command}
use Rattle.binfarce_macho.specs.declared.commands.Damage.{Damage}
use Rattle.binfarce_macho.specs.declared.commands.Damage.TheVariants.{Malformed, Truncated}
use Rattle.binfarce_macho.specs.declared.commands.MachoCommandsIterator.{MachoCommandsIterator}
use Rattle.binfarce_macho.specs.declared.sections.Segment.{Segment}
use Rattle.binfarce_macho.specs.declared.sections.Left.{Left}
use Rattle.binfarce_macho.specs.declared.symbols.SymbolRow.{SymbolRow}
use Rattle.binfarce_macho.specs.declared.functions.TextRows.{TextRows}
use Rattle.binfarce_bytes.specs.declared.functions.SectionFunction.{SectionFunction}
use Rattle.binfarce_bytes.specs.declared.sizes.RowAddress as code
use Rattle.binfarce_bytes.specs.Entries.{Listed}
use Rattle.binfarce_bytes.specs.Refusal.{◌>>=◌, Refusal, malformed_input, unexpected_eof}
use Rattle.binfarce_bytes.specs.RowViews.{rows_view}
use Rattle.binfarce_bytes.specs.SectionEntries.{SectionEntry, in_section}
use Rattle.binfarce_bytes.specs.Sizes.{RowAddress, addresses_of}
use Rattle.binfarce_bytes.specs.SymbolViews.{section_function_view}
use Rattle.binfarce_bytes.specs.Walk.{Walk, ended, and_then, YieldsNext}
use Rattle.binfarce_macho.specs.declared.numbered.CodeSection as code_section
use Rattle.binfarce_macho.specs.declared.numbered.NumberedSection as code_numbered
use Rattle.binfarce_macho.specs.Macho as macho
use Rattle.binfarce_macho.specs.MachoSelection.{SelectedSections, code_view, numbered_view}
use Rattle.binfarce_macho.specs.MachoSections.{NumberedSection, function_name, size_in}
use Rattle.binfarce_macho.specs.MachoSymbols as symbols
use Rattle.binfarce_macho.specs.MachoSymbols.{Extent, Symbols, Located, symbol_length, entry_of, kept}

abbrev pub command_view : Command → macho.Command
command_view c = record { offset = c.offset; kind = c.kind; size = c.size }

abbrev pub damage_refusal : Damage → Refusal
damage_refusal Malformed = malformed_input
damage_refusal Truncated = unexpected_eof

-- the commands that an iterator has left
abbrev pub commands_left : MachoCommandsIterator → Walk macho.Command
commands_left it = macho.commands_from it.bytes.now it.left it.offset

-- what the command iterator gives of a walk, and the rest after that
abbrev pub Takes : Walk macho.Command → Option (Result Command Damage) → Walk macho.Command → Type 0
Takes = YieldsNext damage_refusal command_view

-- how many sections a segment has that are whole
abbrev pub section_count : List ℕ → Segment → ℕ
section_count file segment = min segment.count (macho.whole_headers file segment.body)

-- the walk over the sections that a segment has left
abbrev pub segment_from : List ℕ → Segment → Walk macho.Section
segment_from file segment = record {
  items = filter_map (λ i. macho.section_at file (macho.section_offset segment.body i)) (range_with_len segment.next (section_count file segment - segment.next));
  refusal = if nat_le segment.count (macho.whole_headers file segment.body) then None else Some unexpected_eof;
}

-- the sections of a segment, and after them those of the commands that are left
abbrev pub sections_from : List ℕ → Segment → Walk macho.Command → Walk macho.Section
sections_from file segment commands =
    and_then (segment_from file segment).items (segment_from file segment).refusal (macho.sections_of file commands.items commands.refusal)

-- the result of the search for the next segment command, and the commands that are left then
abbrev pub StepsSegment : List ℕ → Walk macho.Command → Option (Result Segment Damage) → Walk macho.Command → Type 0
StepsSegment file commands None left = (macho.sections_of file commands.items commands.refusal ≡ ended None) × (left ≡ ended None)
StepsSegment file commands (Some (Ok segment)) left =
    (segment.body ≤ length file) × (segment.next ≡ 0) × (macho.sections_of file commands.items commands.refusal ≡ sections_from file segment left)
StepsSegment file commands (Some (Err damage)) left = macho.sections_of file commands.items commands.refusal ≡ ended (Some (damage_refusal damage))

-- what an iterator over sections has left
abbrev pub sections_left : Left → Walk macho.Section
sections_left left = sections_from left.commands.bytes.now left.segment (commands_left left.commands)

-- its segment's body begins in the file, and its structures so far were whole
abbrev pub IsWithin : Left → Type 0
IsWithin left = (left.segment.body ≤ length left.commands.bytes.now) × (left.segment.next ≤ section_count left.commands.bytes.now left.segment)

abbrev pub symbol_view : SymbolRow → symbols.SymbolRow ℕ
symbol_view s = record { name = s.name; kind = s.kind; section = s.section; value = s.value }

-- the symbols of a text; no entry depends on its size
abbrev pub located_view : TextRows → Located
located_view text = record { text_end = text.end; text_size = 0; strings = text.symbols.strings.now; rows = text.symbols.rows.now }

-- the entries with those of these rows of a text
abbrev pub text_added : List SectionEntry → TextRows → List RowAddress → Result (List SectionEntry) Refusal
text_added before text rows = kept (λ at. entry_of (located_view text) at) rows >>= λ entries. Ok (before ++ in_section 1 entries)

-- sections, of which all are selected or the code section alone
abbrev pub selected_view : List code_numbered.NumberedSection → Option code_section.CodeSection → SelectedSections
selected_view sections code = record { sections = map numbered_view sections; code = option_map code_view code }

-- the answer of a text with these symbols
abbrev pub text_answer : Extent → Symbols → Result Listed Refusal
text_answer text table = symbols.located_by text (Some table) >>= symbols.answer_of

-- the value has these entries, with section number 1
abbrev pub HoldsInFirst : Listed → Vec SectionFunction → Type 0
HoldsInFirst listed functions = map section_function_view functions.items ≡ in_section 1 listed.entries

-- the name of a row that is kept of the section of this number, if there is such a section and it holds instructions
abbrev pub named_in : List ℕ → ℕ → Option NumberedSection → symbols.SymbolRow ℕ → Option (List ℕ)
named_in strings number None row = None
named_in strings number (Some section) row = if section.has_instructions then function_name strings section.extent number row else None

-- that of row k, of the section of this index
abbrev pub name_in : List NumberedSection → Symbols → ℕ → ℕ → Option (List ℕ)
name_in sections table i k = named_in table.strings (i + 1) (slice_get sections i) (symbols.symbol_of table.rows k)

-- the address and the number of such a row
abbrev pub row_in : List NumberedSection → Symbols → ℕ → ℕ → Option RowAddress
row_in sections table i k = option_map (λ _. record { address = (symbols.symbol_of table.rows k).value; row = k }) (name_in sections table i k)

-- the rows that are held of the section of this index; none past the end
abbrev pub rows_at : List (Vec code.RowAddress) → ℕ → List RowAddress
rows_at held i = get_or (map (λ v. rows_view v.items) held) i []

-- of the rows below n those are held that are kept of each section from this index on, with the name of each
pub record HoldsKept (sections : List NumberedSection) (table : Symbols) (n from : ℕ) (held : List (Vec code.RowAddress)) (names : List (Bor (List ℕ))) : Type 0 where
  pub long : length held ≡ length sections
  pub each : (i : ℕ) → from ≤ i → i < length sections → rows_at held i ≡ filter_map (row_in sections table i) (range_with_len 0 n)
  pub many : length names ≡ length table.rows / symbol_length
  pub named : (i k : ℕ) (name : List ℕ) → k < n → name_in sections table i k ≡ Some name → get_or (map (λ t. t.now) names) k [] ≡ name

-- the row lies in the section, and its number is that of a name
abbrev pub IsInside : Extent → ℕ → code.RowAddress → Type 0
IsInside section names r = (r.index < names) × (section.address ≤ r.address) × (r.address < section.address + section.size)

-- the entry of a row whose name has its number, in a section with this number and these kept rows
abbrev pub function_in : Extent → ℕ → List (List ℕ) → List RowAddress → RowAddress → SectionEntry
function_in section number names kept_rows r =
    record { section = number; info = 0; version = 0; entry = record { name = get_or names r.row []; address = r.address; size = size_in section (addresses_of kept_rows) r.address } }
