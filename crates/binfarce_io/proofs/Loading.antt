-- How a file is loaded.
use Rattle.std.proofs.Common.{◌≡◌, ◌⊎◌, ◌∙◌, inl, inr, ℕ, Bool, true, false, List, [], length, Option, Some, None, Result, Ok, Err, IsErrAnd, refl, sym, ap, subst}
use Rattle.std.specs.Global.{Vec}
use Rattle.std.specs.Io.KnownBytes.{Consumes}
use Rattle.std.specs.declared.io.ErrorKind.{ErrorKind}
use Rattle.std.specs.declared.io.ErrorKind.TheVariants.{OutOfMemory}
use Rattle.binfarce_io.specs.Faults.{failure, io_fault}
use Rattle.binfarce_foreign.specs.Foreign.{first_bytes, foreign_in, named_by}
use Rattle.binfarce_io.specs.Input.{IsJudged, IsReadOf, Judges, Loads, ReadsJudged, bytes_or, may_or}
use Rattle.binfarce_io.specs.declared.fault.Fault.{Fault}
use Rattle.binfarce_io.specs.declared.input.Held.{Held}
use Rattle.binfarce_io.proofs.Holding.{whole_bytes, whole_may}

-- what is read in order of a file is what is read of it
pub judged_is_read : (file bytes : List ℕ) → IsJudged file bytes → IsReadOf file bytes
judged_is_read file bytes (inl (known, is)) = inl is
judged_is_read file bytes (inr first) = inr first

-- a file that is read at offsets is judged by its first bytes
pub judged : (may_fail may_fail_now : Bool) (file first : List ℕ) (new : Option (List ℕ)) (result : Result (Unit {0}) Fault) → new ≡ Some file
    → first ≡ first_bytes file → (may_fail_now ≡ true → may_fail ≡ true) → Judges (named_by first) result → Loads may_fail file new may_fail_now result
judged may_fail may_fail_now file first new (Ok x) known is more judges = (file, known, inl refl, more, ap named_by (sym is) ∙ judges)
judged may_fail may_fail_now file first new (Err e) known is more judges = inl (subst (λ (bs : List ℕ). Judges (named_by bs) (Err e)) is judges)

-- an allocation failed, before a byte was read in order
pub no_memory_loads : (may_fail may_fail_now : Bool) (file : List ℕ) (new : Option (List ℕ)) (kind : ErrorKind) (result : Result (Unit {0}) Fault)
    → kind ≡ OutOfMemory → IsErrAnd result (λ f. f ≡ io_fault kind) → Loads may_fail file new may_fail_now result
no_memory_loads may_fail may_fail_now file new kind (Ok x) is err = absurd err
no_memory_loads may_fail may_fail_now file new kind (Err f) is err = inr (inl (ap failure err ∙ ap (λ (k : ErrorKind). failure (io_fault k)) is))

-- a reader that isn't read at offsets, and can't be read
pub unread_loads : (may_fail may_fail_now : Bool) (file : List ℕ) (old mid new : Option (List ℕ)) (e : Fault) (result : Result (Unit {0}) Fault)
    → (may_fail ≡ true) ⊎ (file ≡ []) → old ≡ Some file → ReadsJudged old mid (Err e) → IsErrAnd result (λ f. f ≡ e) → Loads may_fail file new may_fail_now result
unread_loads may_fail may_fail_now file old mid new e (Ok x) why is reads err = absurd err
unread_loads may_fail may_fail_now file old mid new e (Err f) why is reads err =
    subst (λ (f : Fault). Loads may_fail file new may_fail_now (Err f)) (sym err)
    (elim (subst (λ (o : Option (List ℕ)). ReadsJudged o mid (Err e)) is reads) [
      | inl foreign ↦ inl foreign.0
      | inr (inl unread) ↦ inr (inr (unread, why))
      | inr (inr out) ↦ inr (inl out)
    ])

never : (b : Bool) → b ≡ false → b ≡ true → ⊥
never b is other = cc

-- all that is read of a reader in order is in memory
pub read_loads : (may_fail left_may_fail : Bool) (file : List ℕ) (known old mid : Option (List ℕ)) (v : Vec ℕ) (count : ℕ) → old ≡ Some file
    → ReadsJudged old mid (Ok v) → count ≡ length v.items → let held : Option Held = Some (record { bytes = v; file_length = count }) in
    Loads may_fail file (bytes_or known held) (may_or left_may_fail held) (Ok tt)
read_loads may_fail left_may_fail file known old mid v count is reads all =
    let held : Held = record { bytes = v; file_length = count } in
    let told : (IsJudged file v.items × (foreign_in file ≡ None)) × Consumes (Some file) mid v.items =
    subst (λ (o : Option (List ℕ)). ReadsJudged o mid (Ok v)) is reads in
    let more : may_or left_may_fail (Some held) ≡ true → may_fail ≡ true =
    λ may. absurd (never (may_or left_may_fail (Some held)) (whole_may left_may_fail held all) may) in
    (v.items, whole_bytes known held all, judged_is_read file v.items told.0.0, more, told.0.1)
