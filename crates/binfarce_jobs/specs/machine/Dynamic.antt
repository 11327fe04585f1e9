-- What a reading of a file comes to, of which addresses are looked up by `.dynsym` where it has no `.symtab`.
use Rattle.std.specs.Prelude.{◌≡◌, ℕ, Bool, true, false, List, Option, Some, None, Result, Ok, Err}
use Rattle.binfarce.specs.Refusal.{refusal_of}
use Rattle.binfarce_tables.specs.declared.error.ReadError.{ReadError}
use Rattle.binfarce_tables.specs.declared.error.ReadError.TheVariants.{Refused, Unreadable, OutOfMemory}
use Rattle.binfarce_tools.specs.declared.tables.Tables.{Tables}
use Rattle.binfarce_jobs.specs.At.{dynamic, is_no_symtab}
use Rattle.binfarce_jobs.specs.Show.{AreTablesFor, answer_for, has_functions}
use Rattle.binfarce_jobs.specs.declared.show.Symbols.{Symbols}

-- it is refused since it has no `.symtab`
abbrev pub is_refused_so : ReadError → Bool
is_refused_so (Refused e) = is_no_symtab (refusal_of e)
is_refused_so e = false

-- the tables by `.dynsym` were read, and have function symbols; or these are none; or it can't be read for them, which is reported only if MayFail says so,
-- or an allocation failed
abbrev pub IsDynamic : Symbols → (file : List ℕ) → (MayFail : Type 0) → Result (Option Tables) ReadError → Type 0
IsDynamic symbols file MayFail (Ok (Some tables)) = AreTablesFor (dynamic symbols) file tables × (has_functions (answer_for (dynamic symbols) file) ≡ true)
IsDynamic symbols file MayFail (Ok None) = has_functions (answer_for (dynamic symbols) file) ≡ false
IsDynamic symbols file MayFail (Err (Refused e)) = ⊥
IsDynamic symbols file MayFail (Err Unreadable) = MayFail
IsDynamic symbols file MayFail (Err OutOfMemory) = Unit {0}
