-- No file's answer is that an allocation failed.
use Rattle.std.proofs.Common.{◌≡◌, ℕ, zero, suc, ◌*◌, ◌-◌, [], ◌∷◌, Bool, true, false, ◌&&◌, List, Option, Some, None, Result, Ok, Err, refl, ltb, leb, length}
use Rattle.std.specs.Prelude.{if◌then◌else◌, find, nat_eq, codes, ◌+◌, ◌%◌, ◌^◌, drop, take}
use Rattle.binfarce.specs.declared.ByteOrder.{ByteOrder}
use Rattle.binfarce.specs.Refusal.{Refusal, ◌>>=◌, required, symbols_section_is_missing, section_is_missing, unexpected_section_type, malformed_input, unexpected_eof, out_of_memory, bytes_in_file}
use Rattle.binfarce.specs.Walk.{Walk, found_or_end, first, ended, ahead_of, and_then}
use Rattle.binfarce.specs.Elf.{ElfClass, SectionTable, Section, walk, name_of, section_table, whole_headers}
use Rattle.binfarce.specs.ElfSymbols.{sought, is_named, section_data, elf_answer, elf_file_answer}
use Rattle.std.specs.Str.{bytes_eq}
use Rattle.binfarce.specs.Number.{bytes_at}
use Rattle.binfarce.specs.Sizes.{arranged, least_above}
use Rattle.binfarce.specs.Pe as pe_file
use Rattle.binfarce.specs.Pe.{least_length, walk as pe_walk}
use Rattle.binfarce.specs.PeSymbols as pe
use Rattle.binfarce.specs.PeSymbols.{pe_answer, pe_file_answer}
use Rattle.binfarce.specs.Macho as macho_file
use Rattle.binfarce.specs.Macho.{Command, command_at, commands_from, commands, body_of, header_of, segment, is_segment, sections_of, walk as macho_walk}
use Rattle.binfarce.specs.MachoSections.{NumberedSection, numbered_sections, section_starts, starts_among}
use Rattle.binfarce.specs.MachoSelection as selection
use Rattle.binfarce.specs.PeSelection as pe_selection
use Rattle.binfarce.specs.SectionEntries.{unless}
use Rattle.binfarce_pe.specs.PeParts as pe_parts
use Rattle.binfarce_pe.specs.PeParts.{section_table as section_table_of, table_walk}
use Rattle.binfarce.specs.MachoSymbols as macho
use Rattle.binfarce.specs.MachoSymbols.{size_up_to, macho_size, whole_table, slice_at, text_end_of, symbol_table_at, some_size, symbol_command, named_table, row_addresses, kept, answer_of, macho_answer, macho_file_answer}

-- a refusal that isn't that an allocation failed
abbrev pub is_reported : Refusal → Bool
is_reported symbols_section_is_missing = true
is_reported (section_is_missing name) = true
is_reported (unexpected_section_type expected actual) = true
is_reported malformed_input = true
is_reported unexpected_eof = true
is_reported out_of_memory = false

abbrev pub Reported : {A : Type 0} → Result A Refusal → Type 0
Reported (Ok x) = Unit {0}
Reported (Err refusal) = is_reported refusal ≡ true

reported_step : {A B : Type 0} (r : Result A Refusal) (f : A → Result B Refusal) → Reported r → ((x : A) → Reported (f x)) → Reported (r >>= f)
reported_step (Ok x) f r g = g x
reported_step (Err e) f r g = r

reported_if : {A : Type 0} (b : Bool) (x y : Result A Refusal) → Reported x → Reported y → Reported (if b then x else y)
reported_if true x y a b = a
reported_if false x y a b = b

reported_required : {A : Type 0} (refusal : Refusal) (o : Option A) → is_reported refusal ≡ true → Reported (required refusal o)
reported_required refusal None is = is
reported_required refusal (Some x) is = tt

reported_end : {S : Type 0} (found : Option S) (b : Bool) → Reported (found_or_end found (if b then None else Some unexpected_eof))
reported_end None true = tt
reported_end None false = refl
reported_end (Some x) b = tt

reported_first : (class : ElfClass) (table : SectionTable) (accepts : Section → Bool) → Reported (first accepts (walk class table))
unfolding walk
reported_first class table accepts = reported_end (find accepts (walk class table).items) (ltb table.shoff (length table.file) && leb table.shnum (whole_headers class table))

reported_sought : (class : ElfClass) (table : SectionTable) (refusal : Refusal) (accepts : Section → Bool) → is_reported refusal ≡ true → Reported (sought refusal accepts (walk class table))
reported_sought class table refusal accepts is = reported_step (first accepts (walk class table)) (required refusal) (reported_first class table accepts) (λ o. reported_required refusal o is)

reported_section_data : (file : List ℕ) (section : Section) → Reported (section_data file section)
unfolding section_data bytes_in_file
reported_section_data file section = reported_if (leb (2 ^ 64) (section.offset + section.size)) _ _ refl (reported_if (ltb (length file) (section.offset + section.size)) _ _ refl tt)

pub reported_elf : (class : ElfClass) (order : ByteOrder) (file section : List ℕ) → Reported (elf_file_answer class order file section)
unfolding elf_answer
reported_elf class order file section =
    let table = section_table class (record { order = order; bytes = file }) in
    reported_if (ltb (length file) class.header_length) (Err unexpected_eof) _ refl
    (reported_step _ _ (reported_sought class table symbols_section_is_missing (λ s. is_named section (name_of class table s)) refl) (λ found.
    reported_step _ _ (reported_sought class table (section_is_missing (codes ".symtab")) (λ s. nat_eq s.kind 2) refl) (λ symbols.
    reported_step _ _ (reported_sought class table (section_is_missing (codes ".strtab")) (λ s. nat_eq s.index symbols.link) refl) (λ linked.
    reported_step _ _ (reported_if (nat_eq linked.kind 3) (Ok linked) (Err (unexpected_section_type 3 linked.kind)) tt refl) (λ names.
    reported_step _ _ (reported_section_data table.file names) (λ strings.
    reported_step _ _ (reported_section_data table.file symbols) (λ bytes.
    reported_step _ _ (reported_if (nat_eq (length bytes % class.symbol_length) 0) (Ok bytes) (Err unexpected_eof) tt refl) (λ rows. tt))))))))

-- a walk doesn't end with a failed allocation
abbrev ReportedEnd : Option Refusal → Type 0
ReportedEnd None = Unit {0}
ReportedEnd (Some refusal) = is_reported refusal ≡ true

reported_end_if : (b : Bool) (x y : Option Refusal) → ReportedEnd x → ReportedEnd y → ReportedEnd (if b then x else y)
reported_end_if true x y a c = a
reported_end_if false x y a c = c

reported_walk_if : {S : Type 0} (b : Bool) (x y : Walk S) → ReportedEnd x.refusal → ReportedEnd y.refusal → ReportedEnd (if b then x else y).refusal
reported_walk_if true x y a c = a
reported_walk_if false x y a c = c

reported_found : {S : Type 0} (found : Option S) (end : Option Refusal) → ReportedEnd end → Reported (found_or_end found end)
reported_found (Some x) end t = tt
reported_found None None t = tt
reported_found None (Some refusal) t = t

-- PE
reported_symbol_table : (file : List ℕ) → Reported (pe.symbol_table file)
unfolding pe.symbol_table
reported_symbol_table file =
    let end = pe.table_offset file + pe.table_size file in
    let whole : Result pe.CoffTable Refusal = Ok (record { rows = bytes_at file (pe.table_offset file) (pe.table_size file); strings = drop end file }) in
    reported_if (leb (length file) (pe.table_offset file)) (Err unexpected_eof) _ refl (reported_if (ltb (length file) end) (Err unexpected_eof) whole refl tt)

pub reported_pe : (file : List ℕ) → Reported (pe_file_answer file)
unfolding pe_answer pe_walk
reported_pe file =
    let accepts : pe_file.Section → Bool = λ section. bytes_eq section.name (codes ".text") in
    reported_if (ltb (length file) (least_length file)) (Err unexpected_eof) _ refl
    (reported_step (pe.text_section file) _
    (reported_step (first accepts (pe_walk file)) (required symbols_section_is_missing)
    (reported_found (find accepts (pe_walk file).items) (pe_walk file).refusal (reported_end_if _ None (Some unexpected_eof) tt refl))
    (λ o. reported_required symbols_section_is_missing o refl))
    (λ text. reported_step (pe.symbol_table file) _ (reported_symbol_table file) (λ table. tt)))

-- Mach-O
reported_commands : (file : List ℕ) (n place : ℕ) → ReportedEnd (commands_from file n place).refusal
unfolding commands_from
reported_commands file zero place = tt
reported_commands file (suc n) place =
    reported_walk_if (ltb (length file) (place + 8)) (ended None) _ tt
    (reported_walk_if (ltb (command_at file place).size 8) (ended (Some malformed_input)) (ahead_of (command_at file place) (commands_from file n (place + (command_at file place).size))) refl
    (reported_commands file n (place + (command_at file place).size)))

reported_segment : (file : List ℕ) (body : ℕ) → ReportedEnd (segment file body).refusal
unfolding segment
reported_segment file body = reported_walk_if (ltb (length file) (body + 60)) (ended (Some unexpected_eof)) _ refl (reported_end_if _ None (Some unexpected_eof) tt refl)

reported_and_then : {S : Type 0} (sections : List S) (end : Option Refusal) (behind : Walk S) → ReportedEnd end → ReportedEnd behind.refusal → ReportedEnd (and_then sections end behind).refusal
reported_and_then sections None behind a b = b
reported_and_then sections (Some refusal) behind a b = a

reported_sections : (file : List ℕ) (commands : List Command) (end : Option Refusal) → ReportedEnd end → ReportedEnd (sections_of file commands end).refusal
unfolding sections_of
reported_sections file [] end t = t
reported_sections file (command ∷ others) end t =
    reported_walk_if (is_segment command) (and_then (segment file (body_of command)).items (segment file (body_of command)).refusal (sections_of file others end)) (sections_of file others end)
    (reported_and_then (segment file (body_of command)).items (segment file (body_of command)).refusal (sections_of file others end) (reported_segment file (body_of command)) (reported_sections file others end t))
    (reported_sections file others end t)

reported_macho_walk : (file : List ℕ) → ReportedEnd (macho_walk file).refusal
unfolding macho_walk
reported_macho_walk file = reported_sections file (commands file).items (commands file).refusal (reported_commands file (header_of file).ncmds 32)

reported_whole_table : (file : List ℕ) (command : Command) → Reported (whole_table file command)
reported_whole_table file command = reported_if _ (Ok (symbol_table_at file (body_of command))) (Err unexpected_eof) tt refl

reported_slice_at : (file : List ℕ) (offset size : ℕ) → Reported (slice_at file offset size)
reported_slice_at file offset size = reported_if _ (Ok (bytes_at file offset size)) (Err unexpected_eof) tt refl

reported_text_end : (text : macho.Extent) → Reported (text_end_of text)
reported_text_end text = reported_if _ (Ok (text.address + text.size)) (Err malformed_input) tt refl

reported_text_extent : (file : List ℕ) → Reported (macho.text_extent file)
reported_text_extent file =
    let accepts : macho_file.Section → Bool = λ section. macho_file.is_named (codes "__TEXT") (codes "__text") section in
    reported_step (macho.text_section file) _
    (reported_step (first accepts (macho_walk file)) (required symbols_section_is_missing)
    (reported_found (find accepts (macho_walk file).items) (macho_walk file).refusal (reported_macho_walk file))
    (λ o. reported_required symbols_section_is_missing o refl))
    (λ found. reported_step (some_size found) _ (reported_if (nat_eq found.size 0) (Err malformed_input) (Ok found) refl tt) (λ text. tt))

reported_named_table : (file : List ℕ) (command : Option Command) → Reported (named_table file command)
reported_named_table file None = tt
reported_named_table file (Some command) = reported_step (whole_table file command) _ (reported_whole_table file command) (λ table. tt)

reported_table_of : (file : List ℕ) → Reported (macho.table_of file)
reported_table_of file =
    reported_step (symbol_command file) _
    (reported_found (find (λ command. nat_eq command.kind 2) (commands file).items) (commands file).refusal (reported_commands file (header_of file).ncmds 32))
    (reported_named_table file)

reported_symbols_by : (file : List ℕ) (table : Option (macho.SymtabCommand ℕ)) → Reported (macho.symbols_by file table)
reported_symbols_by file None = tt
reported_symbols_by file (Some table) =
    reported_step (slice_at file table.strings_offset table.strings_size) _ (reported_slice_at file table.strings_offset table.strings_size) (λ strings.
    reported_step (slice_at file table.symbol_offset (16 * table.row_count)) _ (reported_slice_at file table.symbol_offset (16 * table.row_count)) (λ rows. tt))

reported_located_by : (text : macho.Extent) (symbols : Option macho.Symbols) → Reported (macho.located_by text symbols)
unfolding macho.located_at
reported_located_by text None = tt
reported_located_by text (Some symbols) =
    reported_step (macho.located_at text symbols) _ (reported_step (text_end_of text) _ (reported_text_end text) (λ text_end. tt)) (λ found. tt)

reported_macho_located : (file : List ℕ) → Reported (macho.located file)
unfolding macho.located
reported_macho_located file =
    reported_step (macho.text_extent file) _ (reported_text_extent file) (λ text.
    reported_step (macho.table_of file) _ (reported_table_of file) (λ table.
    reported_step (macho.symbols_by file table) _ (reported_symbols_by file table) (λ symbols. reported_located_by text symbols)))

reported_size : (members : List ℕ) (text_end address : ℕ) → Reported (macho_size members text_end address)
unfolding macho_size
reported_size members text_end address = by_above (least_above members address)
  where
    by_above : (o : Option ℕ) → Reported (size_up_to o text_end address)
    by_above (Some above) = tt
    by_above None = reported_if (ltb address text_end) (Ok (Some (text_end - address))) _ tt (reported_if (nat_eq address text_end) (Ok None) (Err malformed_input) tt refl)

reported_kept : {X Y : Type 0} (f : X → Result (Option Y) Refusal) (xs : List X) → ((x : X) → Reported (f x)) → Reported (kept f xs)
unfolding kept
reported_kept f [] t = tt
reported_kept f (x ∷ xs) t = reported_step (f x) _ (t x) (λ y. reported_step (kept f xs) _ (reported_kept f xs t) (λ ys. tt))

reported_answer_of : (found : Option macho.Located) → Reported (answer_of found)
unfolding answer_of macho.entry_of
reported_answer_of None = tt
reported_answer_of (Some found) = reported_step (kept (macho.entry_of found) (arranged (row_addresses found.rows))) _ (reported_kept (macho.entry_of found) (arranged (row_addresses found.rows)) (λ at. reported_if _ _ (Ok None) (reported_step _ _ (reported_size _ found.text_end at.address) (λ size. tt)) tt)) (λ entries. tt)

pub reported_macho : (file : List ℕ) → Reported (macho_file_answer file)
unfolding macho_answer
reported_macho file = reported_if (ltb (length file) 28) (Err unexpected_eof) _ refl (reported_step (macho.located file) answer_of (reported_macho_located file) reported_answer_of)

-- what is selected of a Mach-O file
reported_unless : {A : Type 0} (end : Option Refusal) (x : A) → ReportedEnd end → Reported (unless end x)
reported_unless None x t = tt
reported_unless (Some refusal) x t = t

reported_numbered : (file : List ℕ) → Reported (numbered_sections file)
unfolding numbered_sections section_starts
reported_numbered file =
    reported_step (section_starts file) _ (reported_unless (macho_walk file).refusal (take 255 (starts_among file (commands file).items)) (reported_macho_walk file)) (λ starts. tt)

reported_code : (section : Option (List ℕ)) (sections : List NumberedSection) → Reported (selection.code_of section sections)
reported_code None sections = tt
reported_code (Some name) sections =
    reported_step (required symbols_section_is_missing (selection.code_among 0 sections)) _ (reported_required symbols_section_is_missing (selection.code_among 0 sections) refl) (λ code. tt)

pub reported_macho_selected : (section : Option (List ℕ)) (file : List ℕ) → Reported (selection.selected_file_answer section file)
unfolding selection.selected_tables selection.sections_in
reported_macho_selected section file =
    reported_step (selection.selected_file_tables section file) _
    (reported_if (ltb (length file) 28) (Err unexpected_eof) (selection.selected_tables section file) refl
    (reported_step (selection.sections_in section file) _
    (reported_step (numbered_sections file) _ (reported_numbered file) (λ sections. reported_step (selection.code_of section sections) _ (reported_code section sections) (λ code. tt)))
    (λ sections. reported_step (macho.table_of file) _ (reported_table_of file) (λ table.
    reported_step (macho.symbols_by file table) _ (reported_symbols_by file table) (λ symbols. tt)))))
    (λ tables. tt)

-- and of a PE file
reported_pe_code : (section : Option (List ℕ)) (sections : pe_parts.SectionTable) → Reported (pe_selection.code_of section sections)
reported_pe_code None sections = tt
reported_pe_code (Some name) sections =
    reported_step (required symbols_section_is_missing (pe_selection.code_section sections)) _ (reported_required symbols_section_is_missing (pe_selection.code_section sections) refl) (λ code. tt)

reported_table_walk : (sections : pe_parts.SectionTable) → ReportedEnd (table_walk sections).refusal
unfolding table_walk
reported_table_walk sections = reported_end_if _ None (Some unexpected_eof) tt refl

pub reported_pe_selected : (section : Option (List ℕ)) (file : List ℕ) → Reported (pe_selection.selected_file_answer section file)
unfolding pe_selection.selected_answer
reported_pe_selected section file =
    reported_if (ltb (length file) (least_length file)) (Err unexpected_eof) _ refl
    (reported_step (pe_selection.sections_in section file) _
    (reported_step (pe_selection.whole_sections (section_table_of file)) _ (reported_unless (table_walk (section_table_of file)).refusal (section_table_of file) (reported_table_walk (section_table_of file)))
    (λ sections. reported_step (pe_selection.code_of section sections) _ (reported_pe_code section sections) (λ code. tt)))
    (λ chosen. reported_step (pe.symbol_table file) _ (reported_symbol_table file) (λ symbols. tt)))

-- an answer whose list doesn't report a failed allocation doesn't either
pub reported_list : {A B : Type 0} (answer : Result A Refusal) (f : A → B) → Reported (answer >>= λ x. Ok (f x)) → Reported answer
reported_list (Ok x) f is = tt
reported_list (Err refusal) f is = is
