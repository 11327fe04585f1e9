-- Hints on files.
use Rattle.std.specs.Prelude.{◌≡◌, ◌⊎◌, ℕ, zero, suc, ◌*◌, Bool, true, false, ◌&&◌, ◌||◌, List, [], ◌∷◌, ◌++◌, drop, length, map, codes, nat_eq, nat_le, nat_lt, Option, Some, None, Result, Ok, Err, if◌then◌else◌}
use Rattle.std.specs.Char.{is_ascii_graphic}
use Rattle.std.specs.Fmt.{decimal}
use Rattle.std.specs.List.{flat_map, list_all}
use Rattle.std.specs.Option.{option_map}
use Rattle.std.specs.String.{string_bytes}
use Rattle.std.specs.Str.{bytes_eq}
use Rattle.binfarce.specs.Refusal.{Refusal, refusal_of, section_is_missing}
use Rattle.binfarce.specs.SectionEntries.{SelectedSymbols}
use Rattle.binfarce.specs.declared.SymbolTable.{SymbolTable}
use Rattle.binfarce.specs.declared.SymbolTable.TheVariants.{Symtab, Dynsym}
use Rattle.binfarce_bytes.specs.Format.{format_of}
use Rattle.binfarce_bytes.specs.Text.{up_to_nul}
use Rattle.binfarce_bytes.specs.declared.format.Format.{Format}
use Rattle.binfarce_bytes.specs.declared.format.Format.TheVariants as formats
use Rattle.binfarce_figures.specs.declared.key.Key.{Key}
use Rattle.binfarce_figures.specs.declared.key.Key.TheVariants.{Crate, Module}
use Rattle.binfarce_figures.specs.declared.sums.Sums.{Sums}
use Rattle.binfarce_sections.specs.Named.{Lack, bytes_named, no_bytes}
use Rattle.binfarce_sections.specs.Section.{sections_of}
use Rattle.binfarce_sections.specs.declared.error.SectionError.TheVariants as sections
use Rattle.binfarce_limits.specs.Excess.{excess_words}
use Rattle.binfarce_limits.specs.Rows.{Found, finding_words, found_words}
use Rattle.binfarce_words.specs.WordViews.{limit_words}
use Rattle.binfarce_jobs.specs.Show.{answer_for, answer_taken, excess_of, functions_name}
use Rattle.binfarce_io.specs.MessageLine.{byte_text}
use Rattle.binfarce_io.specs.declared.fault.Fault.{Fault}
use Rattle.binfarce_io.specs.declared.fault.Fault.TheVariants.{Section}
use Rattle.binfarce_jobs.specs.declared.show.Kind.{Kind}
use Rattle.binfarce_jobs.specs.declared.show.Kind.TheVariants.{Figures}
use Rattle.binfarce_jobs.specs.declared.show.Request.{Request}
use Rattle.binfarce_jobs.specs.declared.show.Symbols.{Symbols}
use Rattle.binfarce_jobs.specs.declared.hint.Hint.{Hint}
use Rattle.binfarce_jobs.specs.declared.hint.Hint.TheVariants as hints
use Rattle.binfarce_jobs.specs.declared.hint.Hints.{Hints}
use Rattle.binfarce_jobs.specs.declared.hint.Loaded.{Loaded}
use Rattle.binfarce_jobs.specs.declared.hint.Loaded.TheVariants as loads

-- what would help where no address was found, by what is known of where the file is loaded
abbrev pub loaded_words : Loaded → List ℕ
loaded_words loads.Unknown = codes "--base or --maps is needed for addresses in memory"
loaded_words loads.Base = codes "is --base right?"
loaded_words loads.Maps = codes "are --maps and the addresses of one process?"
loaded_words loads.Behind = codes "--return looks each up as a return address, behind a call"
loaded_words loads.Offsets = codes "are they offsets in the file?"

-- the printed words
abbrev pub hint_words : Hint → List ℕ
hint_words hints.None = codes "no function symbols"
hint_words hints.NoneDynamic = codes "no function symbols in .dynsym"
hint_words hints.NoneNeeded = codes "no undefined symbols"
hint_words (hints.Others count) = codes "no function symbols in the section; --all takes " ++ decimal count
hint_words (hints.Dynamic count) = codes "--dynamic --all takes " ++ (decimal count ++ codes " function symbols")
hint_words hints.Instead = codes "no symbol table (.symtab): names are those of .dynsym"
hint_words (hints.Stripped places) = codes "its debug symbols may be in " ++ string_bytes places
hint_words hints.Descriptors = codes "its function descriptors (.opd) are in the program itself"
hint_words (hints.Missed count loaded) = codes "0 of " ++ (decimal count ++ (codes " addresses are in a function symbol; " ++ loaded_words loaded))
hint_words (hints.Unknown bytes sum) = decimal bytes ++ (codes " of " ++ (decimal sum ++ codes " bytes have no crate, as those of C, C++ and assembly; --by=function shows whose they are"))
hint_words (hints.Excess more limit) = excess_words more ++ (codes ", and --fail-above allows " ++ limit_words limit)
hint_words hints.Nothing = codes "nothing is counted, so --fail-above can't be held"
hint_words (hints.Row finding) = finding_words finding
hint_words (hints.NoAddress true) = codes "no address in the text"
hint_words (hints.NoAddress false) = codes "no address in the text; --bare takes those without 0x, too"
hint_words (hints.Offsets count) = codes "offsets (" ++ (decimal count ++ codes ") behind other names than the file's; if the file has one of them, --as=NAME says so")
hint_words (hints.Unclear count) = codes "offsets (" ++ (decimal count ++ codes ") behind a name that several files have; --as=PATH tells them apart")

-- the hint on sums where at least half of the bytes have no crate
abbrev pub unknown_of : Sums → Option Hint
unknown_of sums = if nat_lt 0 sums.unknown && nat_le sums.total (2 * sums.unknown) then Some (hints.Unknown sums.unknown sums.total) else None

-- so by crate or by module
abbrev pub unknown_in : Key → Sums → Option Hint
unknown_in Crate sums = unknown_of sums
unknown_in Module sums = unknown_of sums
unknown_in key sums = None

-- the hint on the sums that are shown, if sums are
abbrev pub unknown_for : Kind → Option Sums → Option Hint
unknown_for (Figures figures) (Some sums) = unknown_in figures.grouping.key sums
unknown_for kind sums = None

-- how many function symbols an answer has; without an answer there are none
abbrev pub count_of : Option (Result SelectedSymbols Refusal) → ℕ
count_of (Some (Ok selected)) = length selected.entries
count_of (Some (Err refusal)) = 0
count_of None = 0

-- a file has none of the function symbols that are taken
abbrev pub has_none : Symbols → (file : List ℕ) → Bool
has_none symbols file = nat_eq (count_of (answer_for symbols file)) 0

-- why there is none of the function symbols that are taken, by how many all sections have: a file without any has no code
abbrev pub lack_by : SymbolTable → (all : ℕ) → Hint
lack_by Dynsym zero = hints.NoneDynamic
lack_by Symtab zero = hints.None
lack_by which (suc n) = hints.Others (suc n)

-- the hint where a file has none of the function symbols that are taken
abbrev pub lack_in : Symbols → (file : List ℕ) → Option Hint
lack_in symbols file = if has_none symbols file then Some (lack_by symbols.which (count_of (answer_taken symbols.which file None))) else None

-- the hint where a file has dynamic function symbols
abbrev pub dynamic_by : (count : ℕ) → Option Hint
dynamic_by zero = None
dynamic_by (suc n) = Some (hints.Dynamic (suc n))

abbrev pub dynamic_in : (file : List ℕ) → Option Hint
dynamic_in file = dynamic_by (count_of (answer_taken Dynsym file None))

-- the bytes of the first section of this name, if the file has them
abbrev pub bytes_had : Result (List ℕ) Lack → Option (List ℕ)
bytes_had (Ok bytes) = Some bytes
bytes_had (Err lack) = None

abbrev pub section_in : (file name : List ℕ) → Option (List ℕ)
section_in file name = bytes_had (bytes_named (sections_of (format_of file) file) file name)

-- where the debug file of a build ID is (GDB, "Debugging Information in Separate Files"): the ID's first byte names a folder, and the others the file
abbrev pub debug_path : (id : List ℕ) → Option (List ℕ)
debug_path [] = None
debug_path (first ∷ others) = Some (codes "/usr/lib/debug/.build-id/" ++ (byte_text first ++ (codes "/" ++ (flat_map byte_text others ++ codes ".debug"))))

-- the name in a debug link, which a NUL ends, if all of it is printable ASCII without blanks
abbrev pub link_text : (link : List ℕ) → List ℕ
link_text link = if list_all is_ascii_graphic (up_to_nul link) then codes ", or in a file " ++ up_to_nul link else []

abbrev pub link_part : (link : Option (List ℕ)) → List ℕ
link_part (Some link) = link_text link
link_part None = []

-- where the debug symbols of a file may be: by its build ID, which follows the 16 bytes of its note's head, and by its debug link
abbrev pub debug_by : (note link : Option (List ℕ)) → Option (List ℕ)
debug_by (Some note) link = option_map (λ path. path ++ link_part link) (debug_path (drop 16 note))
debug_by None link = None

abbrev pub debug_in : (file : List ℕ) → Option (List ℕ)
debug_in file = debug_by (section_in file (codes ".note.gnu.build-id")) (section_in file (codes ".gnu_debuglink"))

-- so of an ELF file; a Mach-O program has them in a bundle beside it, and a PE program of MSVC in a file of its own
abbrev pub debug_as : Format → (file : List ℕ) → Option (List ℕ)
debug_as (formats.Elf32 order) file = debug_in file
debug_as (formats.Elf64 order) file = debug_in file
debug_as formats.Macho file = Some (codes "its .dSYM bundle")
debug_as format file = Some (codes "a .pdb file, if it is an MSVC program")

abbrev pub debug_of : (file : List ℕ) → Option (List ℕ)
debug_of file = debug_as (format_of file) file

-- the words of a hint, if there is one
abbrev pub words_of : Option Hint → List (List ℕ)
words_of (Some hint) = hint_words hint ∷ []
words_of None = []

abbrev pub stripped_words : (places : Option (List ℕ)) → List (List ℕ)
stripped_words (Some places) = (codes "its debug symbols may be in " ++ places) ∷ []
stripped_words None = []

-- the section of the function descriptors has no bytes, as in a debug file of 64-bit PowerPC: they are in the program
abbrev pub has_no_bytes : Result (List ℕ) Lack → Bool
has_no_bytes (Err no_bytes) = true
has_no_bytes answer = false

abbrev pub lacks_descriptors : (file : List ℕ) → Bool
lacks_descriptors file = has_no_bytes (bytes_named (sections_of (format_of file) file) file (codes ".opd"))

-- where the function descriptors are of a bare file, which has a symbol table without function symbols; else where its debug symbols may be
abbrev pub stripped_in : (bare : Bool) → (file : List ℕ) → List (List ℕ)
stripped_in bare file = if bare && lacks_descriptors file then hint_words hints.Descriptors ∷ [] else stripped_words (debug_of file)

-- a file is refused since it has no such thing
abbrev pub is_missing : Refusal → (thing : List ℕ) → Bool
is_missing (section_is_missing name) thing = bytes_eq name thing
is_missing refusal thing = false

abbrev pub lacks : Fault → (thing : List ℕ) → Bool
lacks (Section (sections.Parse e)) thing = is_missing (refusal_of e) thing
lacks fault thing = false

-- it has no function symbols in its symbol table, or no such table
abbrev pub is_bare_fault : Fault → Bool
is_bare_fault fault = lacks fault (functions_name Symtab)

abbrev pub is_stripped : Fault → Bool
is_stripped fault = is_bare_fault fault || lacks fault (codes ".symtab")

-- the hints on a file that is refused: on one without these
abbrev pub dynamic_for : Fault → (file : List ℕ) → Option Hint
dynamic_for fault file = if is_stripped fault then dynamic_in file else None

abbrev pub stripped_for : Fault → (file : List ℕ) → List (List ℕ)
stripped_for fault file = if is_stripped fault then stripped_in (is_bare_fault fault) file else []

-- this is said; or nothing, where the file can't be read for it, or an allocation failed
abbrev pub IsOrNone : (due said : List (List ℕ)) → Type 0
IsOrNone due said = (said ≡ due) ⊎ (said ≡ [])

-- the words of all hints, in their order
abbrev pub all_words : Hints → List (List ℕ)
all_words all = words_of all.first ++ (words_of all.second ++ (words_of all.excess ++ map finding_words all.rows.items))

-- what is said of a file that is shown with these sums, and with this of its rows: what it lacks, on the bytes that have no crate, that the sum exceeds the limit, and on its rows
abbrev pub IsSaidOfShown : Request → (file : List ℕ) → Option Sums → (rows : List Found) → (said : List (List ℕ)) → Type 0
IsSaidOfShown asked file sums rows said =
    (first : List (List ℕ)) × IsOrNone (words_of (lack_in asked.symbols file)) first
    × (said ≡ first ++ (words_of (unknown_for asked.kind sums) ++ (words_of (excess_of asked.limit sums) ++ map found_words rows)))

-- what is said of a file that is refused: how many dynamic function symbols it has, and where its debug symbols may be
abbrev pub IsSaidOfRefused : Fault → (file : List ℕ) → (said : List (List ℕ)) → Type 0
IsSaidOfRefused fault file said =
    (first second : List (List ℕ)) × IsOrNone (words_of (dynamic_for fault file)) first × IsOrNone (stripped_for fault file) second × (said ≡ first ++ second)
