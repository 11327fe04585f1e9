-- The views of the input of a command that clauses use.
use Rattle.std.specs.Prelude.{◌≡◌, ◌≢◌, ◌⊎◌, ◌≤◌, ℕ, Bool, true, false, ◌&&◌, nat_eq, List, [], ◌++◌, length, Option, Some, None, IfSome, option_and_then, Result, Ok, Err, if◌then◌else◌}
use Rattle.std.specs.Global.{Vec}
use Rattle.std.specs.Io.{appended_bytes}
use Rattle.std.specs.Io.KnownBytes.{Consumes, IsAtEnd}
use Rattle.binfarce_bytes.specs.Format.{begins, format_of}
use Rattle.binfarce_bytes.specs.declared.format.Format.TheVariants.{Unknown}
use Rattle.binfarce_tools.specs.Writing.{no_memory, unreadable}
use Rattle.binfarce_io.specs.Faults.{failure}
use Rattle.binfarce_foreign.specs.Foreign.{first_bytes, foreign_in}
use Rattle.binfarce_io.specs.declared.fault.Fault.{Fault}
use Rattle.binfarce_io.specs.declared.fault.Fault.TheVariants.{Unsupported}
use Rattle.binfarce_foreign.specs.declared.Foreign.{Foreign}
use Rattle.binfarce_io.specs.declared.input.FileOrStdin.{FileOrStdin}
use Rattle.binfarce_io.specs.declared.input.FileOrStdin.TheVariants.{File, Standard}
use Rattle.binfarce_io.specs.declared.input.Held.{Held}
use Rattle.binfarce_io.specs.declared.input.OpenFile.{OpenFile}

-- what holds of the file, or of standard input
abbrev pub of_either : {F R X : Type 0} → (F → X) → (R → X) → FileOrStdin F R → X
of_either of_file of_standard (File file) = of_file file
of_either of_file of_standard (Standard input) = of_standard input

-- all bytes of the file are in memory
abbrev pub is_whole : Held → Bool
is_whole held = nat_eq (length held.bytes.items) held.file_length

-- a file begins with the bytes in memory, and has as many as are stated
abbrev pub is_beginning_of : Held → (file : List ℕ) → Bool
is_beginning_of held file = nat_eq held.file_length (length file) && begins file held.bytes.items

-- the bytes of a file of which some are in memory: these, where they are all; else the file's, where they are known and begin with these
abbrev pub bytes_or : (known : Option (List ℕ)) → Option Held → Option (List ℕ)
bytes_or known None = known
bytes_or known (Some held) =
    if is_whole held then Some held.bytes.items
    else option_and_then (λ file. if is_beginning_of held file then Some file else None) known

-- a read of it may fail, unless all are in memory
abbrev pub may_or : (may_fail : Bool) → Option Held → Bool
may_or may_fail None = may_fail
may_or may_fail (Some held) = if is_whole held then false else may_fail

-- the file of an input, and its bytes in memory
abbrev pub file_of : {F : Type 0} → OpenFile F → F
file_of input = input.file

abbrev pub held_of : {F : Type 0} → OpenFile F → Option Held
held_of input = input.held

-- the bytes of an input, and whether a read of it may fail
abbrev pub bytes_of : {F : Type 0} → (F → Option (List ℕ)) → OpenFile F → Option (List ℕ)
bytes_of bytes input = bytes_or (bytes (file_of input)) (held_of input)

abbrev pub may_fail_of : {F : Type 0} → (F → Bool) → OpenFile F → Bool
may_fail_of may_fail input = may_or (may_fail (file_of input)) (held_of input)

-- the first 512 bytes of a file are in memory, and its length is known; or a read of it failed
abbrev pub HoldsFirst : (may_fail : Bool) → (file : List ℕ) → Option Held → Type 0
HoldsFirst may_fail file None = may_fail ≡ true
HoldsFirst may_fail file (Some held) = (held.bytes.items ≡ first_bytes file) × (held.file_length ≡ length file)

-- the bytes that are read of a file: all, or only the first ones where these name no format
abbrev pub IsReadOf : List ℕ → List ℕ → Type 0
IsReadOf file bytes = (bytes ≡ file) ⊎ ((format_of file ≡ Unknown) × (bytes ≡ first_bytes file))

-- a file that no reader reads is refused for what it is, and no other file
abbrev pub Judges : Option Foreign → Result (Unit {0}) Fault → Type 0
Judges kind (Ok x) = kind ≡ None
Judges None (Err fault) = ⊥
Judges (Some kind) (Err fault) = fault ≡ Unsupported kind

-- a file is refused for what it is
abbrev pub IsForeign : (file : List ℕ) → Fault → Type 0
IsForeign file fault = Judges (foreign_in file) (Err fault)

-- a file that may fail to be read, or not, and that holds these bytes, can't be read: it has no byte, or a read of it failed, or an allocation
abbrev pub IsUnreadable : (may_fail : Bool) → (file : List ℕ) → Fault → Type 0
IsUnreadable may_fail file fault = (failure fault ≡ no_memory) ⊎ ((failure fault ≡ unreadable) × ((may_fail ≡ true) ⊎ (file ≡ [])))

-- the bytes of a loaded file are those that are read of it, and a read may fail only if the file may; or the file is refused for what it is; or it can't be read
abbrev pub Loads : (may_fail : Bool) → (file : List ℕ) → (new : Option (List ℕ)) → (may_fail_now : Bool) → Result (Unit {0}) Fault → Type 0
Loads may_fail file new may_fail_now (Ok x) = (bytes : List ℕ) × (new ≡ Some bytes) × IsReadOf file bytes × (may_fail_now ≡ true → may_fail ≡ true) × (foreign_in file ≡ None)
Loads may_fail file new may_fail_now (Err e) = IsForeign file e ⊎ IsUnreadable may_fail file e

-- a reader can't be read for one of these reasons
abbrev pub IsUnread : Fault → Type 0
IsUnread fault = (failure fault ≡ unreadable) ⊎ (failure fault ≡ no_memory)

-- the bytes that are read of a file in order: all if the first ones name a format, and else these alone
abbrev pub IsJudged : (file bytes : List ℕ) → Type 0
IsJudged file bytes = ((format_of file ≢ Unknown) × (bytes ≡ file)) ⊎ ((format_of file ≡ Unknown) × (bytes ≡ first_bytes file))

-- a reader is read to its end, or only its first bytes are, which alone are read of one that is refused for what it is
abbrev pub ReadsJudged : Option (List ℕ) → Option (List ℕ) → Result (Vec ℕ) Fault → Type 0
ReadsJudged old new (Ok v) = IfSome old (λ file. IsJudged file v.items × (foreign_in file ≡ None)) × Consumes old new v.items
ReadsJudged old new (Err e) = IfSome old (λ file. (IsForeign file e × Consumes old new (first_bytes file)) ⊎ IsUnread e)

-- at most the first 512 bytes of a reader are read
abbrev pub ReadsFew : (old new : Option (List ℕ)) → Type 0
ReadsFew old new = (few : List ℕ) × (length few ≤ 512) × Consumes old new few

-- no more are read where these name no format, or what no reader reads; also if a read fails
abbrev pub ReadsNoMore : (old new : Option (List ℕ)) → Type 0
ReadsNoMore old new = IfSome old (λ file. (format_of file ≡ Unknown) ⊎ (foreign_in file ≢ None) → ReadsFew old new)

-- the first bytes of a reader are read
abbrev pub ReadsFirst : Option (List ℕ) → Option (List ℕ) → List ℕ → Result (Unit {0}) Fault → Type 0
ReadsFirst old new bytes (Ok x) = IfSome old (λ file. bytes ≡ first_bytes file) × Consumes old new bytes
ReadsFirst old new bytes (Err e) = IsUnread e × ReadsFew old new

-- the rest of a reader is read after these bytes
abbrev pub ReadsRest : Option (List ℕ) → Option (List ℕ) → List ℕ → Result (Vec ℕ) Fault → Type 0
ReadsRest old new bytes (Ok v) = IfSome old (λ rest. v.items ≡ bytes ++ rest) × Consumes old new (appended_bytes bytes v.items) × IsAtEnd new
ReadsRest old new bytes (Err e) = IsUnread e
