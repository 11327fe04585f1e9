-- The requested addresses, and the answers to those of standard input.
use Rattle.std.specs.Prelude.{◌≡◌, ◌⊎◌, ◌&&◌, ℕ, Bool, true, false, List, [], ◌∷◌, codes, length, Option, Some, None, is_some, unwrap_or, Result, Ok, Err, if◌then◌else◌}
use Rattle.std.specs.Io.KnownBytes.{Appends, Consumes}
use Rattle.binfarce.specs.Format.{format_of}
use Rattle.std.specs.Str.{bytes_eq}
use Rattle.binfarce.specs.Refusal.{◌>>=◌, Refusal, section_is_missing}
use Rattle.binfarce.specs.SectionEntries.{SelectedSymbols}
use Rattle.binfarce.specs.Symbol.{Entry}
use Rattle.binfarce_rows.specs.Address.{address_of}
use Rattle.binfarce_addresses.specs.Lookup.{found_at, places_in}
use Rattle.binfarce_addresses.specs.PlacesViews.{IsMadeOf}
use Rattle.binfarce_addresses.specs.Stream.{Streams}
use Rattle.binfarce_addresses.specs.declared.counts.Counts.{Counts}
use Rattle.binfarce_addresses.specs.declared.lookup.Lookup.{Lookup}
use Rattle.binfarce_addresses.specs.declared.stream.StreamError.{StreamError}
use Rattle.binfarce_elf_memory.specs.declared.segments.LoadAddress.{LoadAddress}
use Rattle.binfarce_tables.specs.Loading.{load_address}
use Rattle.binfarce_tools.specs.ListWords as list
use Rattle.binfarce_tools.specs.SectionAnswer.{is_elf}
use Rattle.binfarce_tools.specs.declared.list.ListError.{ListError}
use Rattle.binfarce_tools.specs.Writing.{no_memory}
use Rattle.binfarce_io.specs.Faults.{failure, list_fault}
use Rattle.binfarce_tools.specs.declared.SymbolTable.{SymbolTable}
use Rattle.binfarce_tools.specs.declared.SymbolTable.TheVariants.{Dynsym}
use Rattle.binfarce_tools.specs.declared.tables.Tables.{Tables}
use Rattle.binfarce_jobs.specs.Show.{AreTablesFor, answer_for, has_functions}
use Rattle.binfarce_jobs.specs.declared.at.Answered.{Answered}
use Rattle.binfarce_jobs.specs.declared.show.Symbols.{Symbols}
use Rattle.binfarce_words.specs.Words.{Wrong, no_address}
use Rattle.binfarce_io.specs.declared.fault.Fault.{Fault}
use Rattle.binfarce_io.specs.declared.fault.Fault.TheVariants.{SharedAddresses, Stream}

-- an address, and those of other words
abbrev pub and_others : ℕ → Result (List ℕ) Wrong → Result (List ℕ) Wrong
and_others address (Err wrong) = Err wrong
and_others address (Ok addresses) = Ok (address ∷ addresses)

abbrev pub first_and_others : (word : List ℕ) → Option ℕ → Result (List ℕ) Wrong → Result (List ℕ) Wrong
first_and_others word None others = Err (no_address word)
first_and_others word (Some address) others = and_others address others

-- the addresses in words; the first word without one is wrong
unfoldable pub addresses_of : List (List ℕ) → Result (List ℕ) Wrong
addresses_of [] = Ok []
addresses_of (word ∷ others) = first_and_others word (address_of word) (addresses_of others)

-- the answer is that the file has no `.symtab`: it is stripped
abbrev pub is_no_symtab : Refusal → Bool
is_no_symtab (section_is_missing name) = bytes_eq name (codes ".symtab")
is_no_symtab refusal = false

abbrev pub lacks_symtab : Option (Result SelectedSymbols Refusal) → Bool
lacks_symtab (Some (Err refusal)) = is_no_symtab refusal
lacks_symtab answer = false

-- these function symbols by the dynamic symbol table
abbrev pub dynamic : Symbols → Symbols
dynamic symbols = record { which = Dynsym; selection = symbols.selection }

-- the function symbols in which addresses of a file are looked up: these; but by `.dynsym` of an ELF file that has some there, and no `.symtab`
abbrev pub symbols_at : Symbols → (file : List ℕ) → Symbols
symbols_at symbols file =
    if is_elf (format_of file) && lacks_symtab (answer_for symbols file) && has_functions (answer_for (dynamic symbols) file) then dynamic symbols else symbols

-- what a file answers for them
abbrev pub answer_at : Symbols → (file : List ℕ) → Option (Result SelectedSymbols Refusal)
answer_at symbols file = answer_for (symbols_at symbols file) file

-- the tables are those of a file for them, by this symbol table
abbrev pub AreTablesAt : Symbols → (file : List ℕ) → Tables × SymbolTable → Type 0
AreTablesAt symbols file read =
    let taken = symbols_at symbols file in (read.1 ≡ taken.which) × AreTablesFor taken file read.0

-- where a file is loaded that doesn't say it
abbrev pub unstated : LoadAddress
unstated = record { address = 0; code = None }

-- where a file says that it is loaded, by the format that its first bytes name; and the address in it that an offset of 0 after its name means: of ELF 0,
-- since glibc and sanitizers take off what the loader added, and of others where it is loaded
abbrev pub loaded_and_origin : (file : List ℕ) → Result (LoadAddress × ℕ) Refusal
loaded_and_origin file =
    load_address (format_of file) file >>= λ stated. let loaded = unwrap_or stated unstated in Ok (loaded, if is_elf (format_of file) then 0 else loaded.address)

-- this lookup, of return addresses
abbrev pub returning : Lookup → Lookup
returning lookup = record { base = lookup.base; linked = lookup.linked; size = lookup.size; origin = lookup.origin; is_return = true; form = lookup.form; path = lookup.path }

-- an address is found as a return address
abbrev pub is_behind : List Entry → Lookup → (address : ℕ) → Bool
is_behind entries lookup address = is_some (found_at entries (returning lookup) address)

-- nothing of the lines was read, and nothing was written
abbrev pub IsUntouched : Option (List ℕ) → Option (List ℕ) → Option (List ℕ) → Option (List ℕ) → Type 0
IsUntouched given left old new = Consumes given left [] × Appends old new []

-- the result of answering lines by so many function symbols
abbrev pub lines_end : (symbols : ℕ) → Result Counts StreamError → Result Answered Fault
lines_end symbols (Ok counts) = Ok (record { counts = counts; symbols = symbols; is_behind = false })
lines_end symbols (Err e) = Err (Stream e)

-- function symbols that share addresses aren't looked up: that is reported, unless an allocation failed
abbrev pub IsShared : {T : Type 0} → Result T Fault → Type 0
IsShared (Ok value) = ⊥
IsShared (Err e) = (e ≡ SharedAddresses) ⊎ (failure e ≡ no_memory)

-- what is made of a file whose answer is this: places of its entries, unless they share addresses
abbrev pub HasPlaces : (share : Bool) → (Result SelectedSymbols Refusal → Type 0) → Option (Result SelectedSymbols Refusal) → Result (List Entry) Fault → Type 0
HasPlaces share NeedsMemory answer (Ok entries) = (share ≡ false) × IsMadeOf NeedsMemory answer (Ok entries)
HasPlaces share NeedsMemory answer (Err e) = ((share ≡ true) × (e ≡ SharedAddresses)) ⊎ ((error : ListError) × IsMadeOf NeedsMemory answer (Err error) × (e ≡ list_fault error))

-- a fault before anything of standard input is read, for a file whose answer is this: its function symbols share addresses; or the file is refused, or an allocation failed
abbrev pub IsWhyNot : (share : Bool) → (Result SelectedSymbols Refusal → Type 0) → Option (Result SelectedSymbols Refusal) → Fault → Type 0
IsWhyNot share NeedsMemory answer fault =
    ((share ≡ true) × (fault ≡ SharedAddresses))
    ⊎ ((e : ListError) × IsMadeOf NeedsMemory answer (Err e) × (failure fault ≡ list.outcome_of (Err e)))

-- how standard input is answered of a file whose answer is this: not at all for such a fault; or its places answer the lines
abbrev pub AnswersInput : (share : Bool) → (Result SelectedSymbols Refusal → Type 0) → Option (Result SelectedSymbols Refusal) → Lookup → Option (List ℕ) → Option (List ℕ) → Option (List ℕ) → Option (List ℕ) → Result Answered Fault → Type 0
AnswersInput share NeedsMemory answer lookup given left old new result =
    ((fault : Fault) × (result ≡ Err fault) × IsWhyNot share NeedsMemory answer fault × IsUntouched given left old new)
    ⊎ ((share ≡ false) × (selected : SelectedSymbols) × (ended : Result Counts StreamError) × (answer ≡ Some (Ok selected)) × Streams (places_in selected) lookup given left old new ended × (result ≡ lines_end (length (places_in selected)) ended))
