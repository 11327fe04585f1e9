-- The load commands of a Mach-O file, one after the other.
use Rattle.std.proofs.Common.{◌≡◌, ℕ, zero, suc, ◌+◌, ◌-◌, ◌<◌, ◌≤◌, Bool, true, false, List, [], ◌∷◌, length, Option, Some, None, Result, Ok, Err, IsErrAnd, refl, sym, ap, ◌∙◌, arith, cond, ltb}
use Rattle.std.proofs.lemmas.Bool.{lt-ltb, le-ltb, ltb-false}
use Rattle.binfarce_bytes.specs.Refusal.{Refusal, Gives, malformed_input}
use Rattle.binfarce_bytes.specs.Walk.{Walk, YieldsNext, first, ended, ahead_of}
use Rattle.binfarce_macho.specs.Macho.{Command, header_of, header_fields, command_at, commands_from}
use Rattle.binfarce_macho.specs.machine.RawMacho.{Takes, command_view, damage_refusal}
use Rattle.binfarce_macho.specs.declared.commands.Damage.{Damage}
use Rattle.binfarce_macho.specs.declared.commands.Command as raw
use Rattle.binfarce_bytes.specs.declared.ByteOrder.TheVariants.{LittleEndian}
use Rattle.binfarce_bytes.specs.Number.{number, bytes_at}

-- the header from its fields, each the number at its offset
pub header_is : (file : List ℕ) (cputype cpusubtype filetype ncmds sizeofcmds flags : ℕ)
    → cputype ≡ number LittleEndian (bytes_at file 4 4)
    → cpusubtype ≡ number LittleEndian (bytes_at file 8 4)
    → filetype ≡ number LittleEndian (bytes_at file 12 4)
    → ncmds ≡ number LittleEndian (bytes_at file 16 4)
    → sizeofcmds ≡ number LittleEndian (bytes_at file 20 4)
    → flags ≡ number LittleEndian (bytes_at file 24 4)
    → (record { cputype = cputype; cpusubtype = cpusubtype; filetype = filetype; ncmds = ncmds; sizeofcmds = sizeofcmds; flags = flags }) ≡ header_of file
unfolding header_of header_fields
header_is file cputype cpusubtype filetype ncmds sizeofcmds flags is_cputype is_cpusubtype is_filetype is_ncmds is_sizeofcmds is_flags = cc

-- no more are allowed
pub none_left : (file : List ℕ) (n offset : ℕ) → n ≡ 0 → commands_from file n offset ≡ ended None
unfolding commands_from
none_left file zero offset e = refl
none_left file (suc n) offset e = absurd (omega arith)

-- no head fits
pub truncated : (file : List ℕ) (n offset : ℕ) → length file < offset + 8 → commands_from file n offset ≡ ended None
unfolding commands_from
truncated file zero offset lt = refl
truncated file (suc n) offset lt = rw (lt-ltb (length file) (offset + 8) lt) refl

-- the size leaves no room for the head
pub bad : (file : List ℕ) (n offset : ℕ) → 0 < n → offset + 8 ≤ length file → (command_at file offset).size < 8 → commands_from file n offset ≡ ended (Some malformed_input)
unfolding commands_from
bad file zero offset some whole lt = absurd (omega arith)
bad file (suc n) offset some whole lt = rw (le-ltb (length file) (offset + 8) whole, lt-ltb (command_at file offset).size 8 lt) refl

-- one command, and those after it
pub given : (file : List ℕ) (n offset : ℕ) → 0 < n → offset + 8 ≤ length file → 8 ≤ (command_at file offset).size
    → commands_from file n offset ≡ ahead_of (command_at file offset) (commands_from file (n - 1) (offset + (command_at file offset).size))
unfolding commands_from
given file zero offset some whole le = absurd (omega arith)
given file (suc n) offset some whole le = rw (le-ltb (length file) (offset + 8) whole, le-ltb (command_at file offset).size 8 le, less n) refl
  where
    less : (n : ℕ) → suc n - 1 ≡ n
    less n = omega arith

offset_of : List Command → ℕ
offset_of [] = 0
offset_of (command ∷ others) = command.offset

-- a command that is given has its head in the file
pub inside : (file : List ℕ) (n offset : ℕ) (command : Command) (left : Walk Command) → commands_from file n offset ≡ ahead_of command left → command.offset + 8 ≤ length file
unfolding commands_from offset_of
inside file zero offset command left e = let none : [] ≡ command ∷ left.items = ap (λ (w : Walk Command). w.items) e in absurd cc
inside file (suc n) offset command left e = by_head (ltb (length file) (offset + 8)) refl e
  where
    nothing : {r : Option Refusal} → ended r ≡ ahead_of command left → command.offset + 8 ≤ length file
    nothing e = let none : [] ≡ command ∷ left.items = ap (λ (w : Walk Command). w.items) e in absurd cc

    by_size : (b : Bool) → offset + 8 ≤ length file
        → cond b (ended (Some malformed_input)) (ahead_of (command_at file offset) (commands_from file n (offset + (command_at file offset).size))) ≡ ahead_of command left
        → command.offset + 8 ≤ length file
    by_size true whole e = nothing e
    by_size false whole e =
        let same : command_at file offset ∷ (commands_from file n (offset + (command_at file offset).size)).items ≡ command ∷ left.items = ap (λ (w : Walk Command). w.items) e in
        let here : offset ≡ command.offset = ap (λ (cs : List Command). offset_of cs) same in
        omega arith

    by_head : (b : Bool) → ltb (length file) (offset + 8) ≡ b
        → cond b (ended None) (cond (ltb (command_at file offset).size 8) (ended (Some malformed_input)) (ahead_of (command_at file offset) (commands_from file n (offset + (command_at file offset).size)))) ≡ ahead_of command left
        → command.offset + 8 ≤ length file
    by_head true is e = nothing e
    by_head false is e = by_size (ltb (command_at file offset).size 8) (ltb-false (length file) (offset + 8) is) e

-- what an item shows of a walk
pub yields_ok : {T S E : Type 0} (why : E → Refusal) (seen : T → S) (walk left : Walk S) (item : Result T E) (value : T) → item ≡ Ok value → YieldsNext why seen walk (Some item) left → walk ≡ ahead_of (seen value) left
yields_ok why seen walk left item value is yields = rw is at yields

pub yields_err : {T S E : Type 0} (why : E → Refusal) (seen : T → S) (walk left : Walk S) (item : Result T E) (error : E) → item ≡ Err error → YieldsNext why seen walk (Some item) left → walk ≡ ended (Some (why error))
yields_err why seen walk left item error is yields = let at = rw is at yields in at.0

pub takes_ok : (walk left : Walk Command) (item : Result raw.Command Damage) (command : raw.Command) → item ≡ Ok command → Takes walk (Some item) left → walk ≡ ahead_of (command_view command) left
takes_ok = yields_ok damage_refusal command_view

pub takes_err : (walk left : Walk Command) (item : Result raw.Command Damage) (damage : Damage) → item ≡ Err damage → Takes walk (Some item) left → walk ≡ ended (Some (damage_refusal damage))
takes_err = yields_err damage_refusal command_view

-- a search among commands, as a loop goes over them
pub first_found : (test : Command → Bool) (command : Command) (left : Walk Command) → test command ≡ true → first test (ahead_of command left) ≡ Ok (Some command)
first_found test command left e = rw e refl

pub first_after : (test : Command → Bool) (command : Command) (left : Walk Command) → test command ≡ false → first test (ahead_of command left) ≡ first test left
first_after test command left e = rw e refl

-- a refusal that a `?` passes on
pub gives_refusal : {X Y E : Type 0} (why : E → Refusal) (view : X → Y) (answer : Result Y Refusal) (refusal : Refusal) (result : Result X E) → answer ≡ Err refusal → IsErrAnd result (λ e. why e ≡ refusal) → Gives why view answer result
gives_refusal why view answer refusal (Ok x) at is = absurd is
gives_refusal why view answer refusal (Err e) at is = at ∙ ap Err (sym is)
