-- The words of a fault.
use Rattle.std.specs.Prelude.{◌≡◌, ◌&&◌, ◌||◌, ℕ, Bool, true, false, List, [], ◌∷◌, ◌++◌, codes, nat_eq, Option, Some, None, if◌then◌else◌}
use Rattle.std.specs.Fmt.{decimal}
use Rattle.std.specs.List.{concat}
use Rattle.std.specs.Str.{bytes_eq}
use Rattle.std.specs.String.{string_bytes}
use Rattle.binfarce_bytes.specs.Refusal.{Refusal, refusal_of, section_is_missing, symbols_section_is_missing, words}
use Rattle.binfarce_sections.specs.Results.{section_words}
use Rattle.binfarce_sections.specs.declared.error.SectionError.TheVariants as sections
use Rattle.binfarce_text.specs.Streams.{stream_words}
use Rattle.binfarce_rows.specs.Json.{object_start, text_member}
use Rattle.binfarce_tools.specs.ReportWords.{report_words}
use Rattle.binfarce_tools.specs.declared.report.ReportError.TheVariants as sums
use Rattle.binfarce_foreign.specs.Foreign.{foreign_words}
use Rattle.binfarce_io.specs.declared.fault.Fault.{Fault}
use Rattle.binfarce_io.specs.declared.fault.Fault.TheVariants.{Report, Section, Stream, Unsupported, NotUtf8, SharedAddresses, Unplaced, Missing}
use Rattle.binfarce_io.specs.Faults.{is_write, no_memory_fault}
use Rattle.binfarce_io.specs.declared.message.Message.{Message}
use Rattle.binfarce_io.specs.declared.message.Message.TheVariants as messages
use Rattle.binfarce_io.specs.declared.message.Unplaced as message
use Rattle.binfarce_io.specs.declared.message.Unplaced.TheVariants.{NotMapped, NoCode, Several, NoBytes}

-- of a refusal: an ELF file without a symbol table may have a dynamic one
abbrev pub refused_words : Refusal → List ℕ
refused_words (section_is_missing name) =
    if bytes_eq name (codes ".symtab") then codes "no symbol table (.symtab): it is stripped"
    else if bytes_eq name (codes ".dynsym") then codes "no dynamic symbol table (.dynsym)"
    else if bytes_eq name (codes "function symbols") then codes "no function symbols"
    else if bytes_eq name (codes "function symbols in .dynsym") then codes "no function symbols in .dynsym"
    else words (section_is_missing name)
refused_words symbols_section_is_missing = codes "no such section; binfarce section lists those of an ELF file; in others .text is the code"
refused_words refusal = words refusal

-- of so many lines without an address
abbrev pub missing_words : ℕ → List ℕ
missing_words count = if nat_eq count 1 then codes "1 line without an address" else decimal count ++ codes " lines without an address"

-- the printed text; but for refusals that of the error in it
abbrev pub fault_words : Fault → List ℕ
fault_words (Report (sums.Parse e)) = refused_words (refusal_of e)
fault_words (Report e) = report_words e
fault_words (Section (sections.Parse e)) = refused_words (refusal_of e)
fault_words (Section e) = section_words e
fault_words (Stream e) = stream_words e
fault_words (Unsupported kind) = foreign_words kind
fault_words NotUtf8 = codes "not UTF-8"
fault_words SharedAddresses = codes "its sections share addresses; --section=NAME takes one of them"
fault_words (Unplaced words) = string_bytes words
fault_words (Missing count) = missing_words count

-- of a message: a fault, or these words
abbrev pub message_words : Message → List ℕ
message_words (messages.Fault fault) = fault_words fault
message_words (messages.Words words) = string_bytes words

-- the system has a reason for a fault: a failed write, or a file that can't be read
abbrev pub is_unreadable : Fault → Bool
is_unreadable (Section sections.Unreadable) = true
is_unreadable fault = false

abbrev pub has_reason : Fault → Bool
has_reason fault = is_write fault || is_unreadable fault

-- what a message says of a fault: the system's reason where it is given, or that there is no memory for it; and else the fault
abbrev pub IsMessageOf : Fault → (is_given : Bool) → Message → Type 0
IsMessageOf fault true (messages.Words words) = Unit {0}
IsMessageOf fault true (messages.Fault f) = f ≡ no_memory_fault
IsMessageOf fault false (messages.Words words) = ⊥
IsMessageOf fault false (messages.Fault f) = f ≡ fault

-- what follows the name of a section that a file lacks for this fault: of one whose function symbols are asked for, where its sections are listed
abbrev pub lacked_in : Refusal → Option (List ℕ)
lacked_in symbols_section_is_missing = Some (codes "; binfarce section lists those of an ELF file; in others .text is the code")
lacked_in refusal = None

abbrev pub lacked : Fault → Option (List ℕ)
lacked (Section sections.NoSection) = Some []
lacked (Section (sections.Parse e)) = lacked_in (refusal_of e)
lacked (Report (sums.Parse e)) = lacked_in (refusal_of e)
lacked fault = None

-- a message says that there is no section of a name, if a section is asked for and the file lacks it, or that there is no memory for these words; and else what is said of the fault
abbrev pub IsMessageBy : Fault → (section rest : Option (List ℕ)) → (given : Bool) → Message → Type 0
IsMessageBy fault (Some name) (Some rest) given (messages.Words words) = string_bytes words ≡ codes "no section " ++ (name ++ rest)
IsMessageBy fault (Some name) (Some rest) given (messages.Fault f) = f ≡ no_memory_fault
IsMessageBy fault section rest given message = IsMessageOf fault (given && has_reason fault) message

abbrev pub IsMessageFor : Fault → (section : Option (List ℕ)) → (given : Bool) → Message → Type 0
IsMessageFor fault section given message = IsMessageBy fault section (lacked fault) given message

-- of a file that isn't placed
abbrev pub unplaced_words : message.Unplaced → List ℕ
unplaced_words (NotMapped path None) = codes "the maps have no file " ++ (path.now ++ codes "; --as=NAME takes another name")
unplaced_words (NotMapped path (Some name)) = codes "the maps have no file " ++ (path.now ++ (codes " or " ++ (name.now ++ codes "; --as=NAME takes another name")))
unplaced_words (NoCode path) = codes "the maps don't say where the code of " ++ (path.now ++ codes " is; give --base, or more of the maps")
unplaced_words (Several path) = path.now ++ codes " is at several addresses in the maps; give --base in place of --maps, or --as=PATH for one of several paths"
unplaced_words NoBytes = codes "no code segment with bytes; --offsets takes ELF programs and shared objects, and not their debug files"

-- the fault of a file that isn't placed has these words, or there is no memory for them
abbrev pub IsUnplaced : (words : List ℕ) → Fault → Type 0
IsUnplaced words (Unplaced text) = string_bytes text ≡ words
IsUnplaced words fault = fault ≡ no_memory_fault

-- the refusal of a file as a JSON object: its file, and the printed text
abbrev pub refusal_object : (file message : List ℕ) → List ℕ
refusal_object file message = concat (object_start file ∷ text_member (codes "error") (Some message) ∷ codes "}\n" ∷ [])
