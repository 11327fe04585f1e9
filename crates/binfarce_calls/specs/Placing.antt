-- Where the files of `at` are loaded, and how addresses are looked up in them.
use Rattle.std.specs.Prelude.{◌≡◌, ◌==◌, ◌-◌, ◌&&◌, ◌||◌, ◌++◌, ℕ, Bool, true, false, not, List, [], ◌∷◌, Option, Some, None, Result, Ok, Err, length, map, nat_eq, nat_le, nat_lt, take, unwrap_or, if◌then◌else◌}
use Rattle.std.specs.List.{flat_map, range_with_len, slice_get}
use Rattle.std.specs.Option.{option_map}
use Rattle.std.specs.Str.{NoCharPasses}
use Rattle.binfarce_logs.specs.Maps.{base_of}
use Rattle.binfarce_logs.specs.declared.maps.NoBase.{NoBase}
use Rattle.binfarce_logs.specs.declared.maps.NoBase.TheVariants as reasons
use Rattle.binfarce_tables.specs.declared.loading.LoadAddress.{LoadAddress}
use Rattle.binfarce_tables.specs.declared.loading.CodeSegment.{CodeSegment}
use Rattle.binfarce_words.specs.Words.{Argument, Arguments, number_in, operand_at, value_given, values_given}
use Rattle.binfarce_words.specs.declared.flag.Flag.{Flag}
use Rattle.binfarce_words.specs.declared.flag.Flag.TheVariants as flags
use Rattle.binfarce_addresses.specs.declared.counts.Counts.{Counts}
use Rattle.binfarce_jobs.specs.declared.hint.Hint.{Hint}
use Rattle.binfarce_jobs.specs.declared.hint.Hint.TheVariants.{Instead, Missed, Unclear, Offsets, NoAddress}
use Rattle.binfarce_jobs.specs.declared.hint.Loaded.{Loaded}
use Rattle.binfarce_jobs.specs.declared.hint.Loaded.TheVariants as loading
use Rattle.binfarce_tools.specs.declared.SymbolTable.{SymbolTable}
use Rattle.binfarce_tools.specs.declared.SymbolTable.TheVariants as tables
use Rattle.binfarce_jobs.specs.Files.{Hinted, Refused, Reports}
use Rattle.binfarce_jobs.specs.Hints.{hint_words}
use Rattle.binfarce_io.specs.FaultWords.{IsUnplaced, unplaced_words}
use Rattle.binfarce_io.specs.declared.fault.Fault.{Fault}
use Rattle.binfarce_io.specs.declared.message.Unplaced.{Unplaced}
use Rattle.binfarce_io.specs.declared.message.Unplaced.TheVariants.{NotMapped, NoCode, Several, NoBytes}
use Rattle.binfarce_calls.specs.Asked.{has}
use Rattle.binfarce_calls.specs.Compared.{refusal}
use Rattle.binfarce_calls.specs.declared.at.Place.{Place}
use Rattle.binfarce_calls.specs.declared.at.ReadFile.{ReadFile}
use Rattle.binfarce_calls.specs.declared.at.ReadFile.TheVariants as readings
use Rattle.binfarce_calls.specs.declared.at.Place.TheVariants as places

-- the files: all operands where a text is annotated, else the first one
abbrev pub files_asked : Arguments → List Argument
files_asked given = if has flags.Annotate given then given.operands else take 1 given.operands

-- the value of an option for the file at a place: of one file the one that is given last, of several the one at this place
abbrev pub value_for : Flag → Arguments → (place : ℕ) → Option (List ℕ)
value_for flag given place = if nat_lt (length (files_asked given)) 2 then value_given flag given else slice_get (values_given flag given) place

-- the path of the file at a place
abbrev pub file_at : Arguments → (place : ℕ) → List ℕ
file_at given place = unwrap_or (operand_at place given) []

-- its path in maps and in a text: its own, or the one that is given for it
abbrev pub path_for : Arguments → (place : ℕ) → List ℕ
path_for given place = unwrap_or (value_for flags.As given place) (file_at given place)

-- the base that is given for it
abbrev pub base_given : Arguments → (place : ℕ) → Option ℕ
base_given given place = number_in (value_for flags.Base given place)

abbrev pub known : Result ℕ NoBase → Result (Option ℕ) NoBase
known (Ok base) = Ok (Some base)
known (Err why) = Err why

-- where it is loaded, if that is known: by the maps, if these are read, or at the base that is given for it
abbrev pub base_for : Arguments → (maps : Option (List ℕ)) → (place : ℕ) → LoadAddress → Result (Option ℕ) NoBase
base_for given None place loaded = Ok (base_given given place)
base_for given (Some maps) place loaded = known (base_of maps (path_for given place) loaded)

-- a code segment has bytes in the file
abbrev pub has_bytes : Option CodeSegment → Bool
has_bytes None = false
has_bytes (Some segment) = nat_lt 0 segment.size

-- addresses are offsets in the file, and it has no code with bytes
abbrev pub lacks_bytes : Arguments → LoadAddress → Bool
lacks_bytes given loaded = has flags.Offsets given && not (has_bytes loaded.code)

-- what is looked up, from where on, the file's address for that, and how many bytes: addresses from the base on, if that is known; or offsets in the file, of
-- the bytes of its first code segment (p_offset, p_vaddr, p_filesz)
abbrev pub span_in : (base : Option ℕ) → LoadAddress → Option CodeSegment → Option ℕ × ℕ × Option ℕ
span_in base loaded None = (base, loaded.address, None)
span_in base loaded (Some segment) = (Some segment.offset, segment.address, Some segment.size)

abbrev pub span_for : (are_offsets : Bool) (base : Option ℕ) → LoadAddress → Option ℕ × ℕ × Option ℕ
span_for false base loaded = (base, loaded.address, None)
span_for true base loaded = span_in base loaded loaded.code

-- what is known of where files are loaded, or that one of the addresses is behind a function symbol
abbrev pub loaded_asked : (is_behind : Bool) → Arguments → Loaded
loaded_asked is_behind given = if is_behind then loading.Behind
    else if has flags.Maps given then loading.Maps
    else if has flags.Base given then loading.Base
    else if has flags.Offsets given then loading.Offsets
    else loading.Unknown

-- the name that a path ends with, behind its last `/` (47), if it has one
abbrev pub IsNameIn : (path : List ℕ) → Option (List ℕ) → Type 0
IsNameIn path None = NoCharPasses (λ c. c == 47) path
IsNameIn path (Some name) = (front : List ℕ) × (path ≡ front ++ 47 ∷ name) × NoCharPasses (λ c. c == 47) name

-- why maps don't place the file of a path, which they don't have by its name either: nothing is said where they have no mapping
abbrev pub IsWhy : (path : List ℕ) → NoBase → Option Unplaced → Type 0
IsWhy path reasons.NotMaps why = why ≡ None
IsWhy path reasons.NotMapped (Some (NotMapped given name)) = (given.now ≡ path) × IsNameIn path (option_map (λ n. n.now) name)
IsWhy path reasons.NoCode (Some (NoCode given)) = given.now ≡ path
IsWhy path reasons.Several (Some (Several given)) = given.now ≡ path
IsWhy path reason why = ⊥

-- so its fault says
abbrev pub IsFaultOf : (path : List ℕ) → NoBase → Fault → Type 0
IsFaultOf path reason fault = (why : Unplaced) × IsWhy path reason (Some why) × IsUnplaced (unplaced_words why) fault

-- where the file at a place is loaded, by what is known of it; a file that the maps don't place is reported by its path, unless they have no mapping
abbrev pub IsPlacedBy : Arguments → (place : ℕ) → Result (Option ℕ) NoBase → (before after : Option (List Refused)) → Place → Type 0
IsPlacedBy given place (Ok base) before after result = (result ≡ places.At base) × (after ≡ before)
IsPlacedBy given place (Err reasons.NotMaps) before after result = (result ≡ places.NoMaps) × (after ≡ before)
IsPlacedBy given place (Err reason) before after result =
    (result ≡ places.Refused) × ((fault : Fault) × IsFaultOf (path_for given place) reason fault × Reports before after ((file_at given place, fault) ∷ []))

-- where a file is loaded that may lack the bytes that offsets are of: it is refused then, which is reported
abbrev pub IsPlacedUnless : (lacks : Bool) → Arguments → (place : ℕ) → Result (Option ℕ) NoBase → (before after : Option (List Refused)) → Place → Type 0
IsPlacedUnless false given place known before after result = IsPlacedBy given place known before after result
IsPlacedUnless true given place known before after result =
    (result ≡ places.Refused) × ((fault : Fault) × IsUnplaced (unplaced_words NoBytes) fault × Reports before after ((file_at given place, fault) ∷ []))

abbrev pub IsPlaced : Arguments → (maps : Option (List ℕ)) → (place : ℕ) → LoadAddress → (before after : Option (List Refused)) → Place → Type 0
IsPlaced given maps place loaded before after result = IsPlacedUnless (lacks_bytes given loaded) given place (base_for given maps place loaded) before after result

-- the file at a path is opened; or it is refused, which is reported by its path
abbrev pub Opens : {T : Type 0} → (path : List ℕ) → (before after : Option (List Refused)) → Option T → Type 0
Opens path before after (Some file) = Reports before after []
Opens path before after None = (fault : Fault) × Reports before after ((path, fault) ∷ [])

-- the file at a place is read, and it is loaded where the options and the maps for it say so, by what it says itself; or it is refused, which is reported by
-- its path; or the maps have no mapping
abbrev pub IsReadFile : {F : Type 0} → Arguments → (maps : Option (List ℕ)) → (place : ℕ) → (before after : Option (List Refused)) → ReadFile F → Type 0
IsReadFile given maps place before after (readings.Placed file) =
    (file.place ≡ place) × Reports before after [] × (lacks_bytes given file.loaded ≡ false) × (base_for given maps place file.loaded ≡ Ok file.base)
IsReadFile given maps place before after readings.Refused = (fault : Fault) × Reports before after ((file_at given place, fault) ∷ [])
IsReadFile given maps place before after readings.NoMaps = Reports before after []

-- the hint on the file at a path whose function symbols are those of `.dynsym` in place of `.symtab`
abbrev pub instead : (path : List ℕ) → (asked read : SymbolTable) → List Hinted
instead path tables.Symtab tables.Dynsym = (path, hint_words Instead) ∷ []
instead path asked read = []

-- what is left of a file at a place, which is refused for a fault or not
abbrev pub left_of : ℕ × Option Fault → List ℕ
left_of (place, Some fault) = []
left_of (place, None) = place ∷ []

-- files at these places are taken one after the other: each that is refused is reported by its path, and the others are left
abbrev pub TakesFiles : Arguments → (places left : List ℕ) → (before after : Option (List Refused)) → Type 0
TakesFiles given places left before after =
    (fates : List (ℕ × Option Fault)) × (map (λ f. f.0) fates ≡ places) × (left ≡ flat_map left_of fates) × Reports before after (flat_map (λ f. refusal (file_at given f.0) f.1) fates)

-- all files are taken so, or those before one that finds no mapping in the maps
abbrev pub TakesAll : Arguments → (left : Option (List ℕ)) → (before after : Option (List Refused)) → Type 0
TakesAll given (Some left) before after = TakesFiles given (range_with_len 0 (length given.operands)) left before after
TakesAll given None before after = (count : ℕ) × (left : List ℕ) × TakesFiles given (range_with_len 0 count) left before after

-- the hint on files in which none of the addresses was found that are in one of them alone, if there are any
abbrev pub missed_hint : Counts → Loaded → Option Hint
missed_hint counts loaded = if nat_lt 0 counts.found || nat_le counts.asked counts.unclear then None else Some (Missed (counts.asked - counts.unclear) loaded)

-- the hint on addresses that may be in several files
abbrev pub unclear_hint : Counts → Option Hint
unclear_hint counts = if nat_eq counts.unclear 0 then None else Some (Unclear counts.unclear)

-- the hint on a text in which nothing was found: offsets behind names of other files, or no address
abbrev pub unfound_hint : Counts → (is_bare : Bool) → Option Hint
unfound_hint counts is_bare =
    if nat_lt 0 counts.found then None
    else if nat_lt 0 counts.missing then Some (Offsets counts.missing)
    else if nat_eq counts.asked 0 then Some (NoAddress is_bare)
    else None
