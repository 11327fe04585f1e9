-- What was read of a file is what the file answers.
use Rattle.std.proofs.Common.{◌≡◌, Bool, true, List, ℕ, Option, Some, Result, Err, sym, ap, ◌∙◌}
use Rattle.std.specs.Prelude.{codes}
use Rattle.std.specs.Result.{IsErr, IsErrAnd}
use Rattle.binfarce.specs.declared.Format.{Format}
use Rattle.binfarce.specs.declared.ParseError.{ParseError}
use Rattle.binfarce.specs.declared.SymbolTable.{SymbolTable}
use Rattle.binfarce.specs.declared.SymbolTable.TheVariants.{Symtab, Dynsym}
use Rattle.binfarce.specs.Format.{format_of}
use Rattle.binfarce.specs.Refusal.{◌>>=◌, Refusal, refusal_of, section_is_missing}
use Rattle.binfarce.specs.SectionEntries.{SelectedSymbols}
use Rattle.binfarce_tables.specs.Reading.{Reads}
use Rattle.binfarce_tables.specs.declared.error.ReadError.{ReadError}
use Rattle.binfarce_tables.specs.declared.error.ReadError.TheVariants.{Refused, Unreadable, OutOfMemory}
use Rattle.binfarce_tools.specs.declared.tables.Tables.{Tables}
use Rattle.binfarce_tools.specs.Answer.{by_symbol_table, selected_symbols, selected_answer}
use Rattle.binfarce_tools.specs.Tables.{ReadsTables}
use Rattle.binfarce_tables.proofs.Readings.{err_is}

-- the answer of a file is that of its format
pub of_format : (which : SymbolTable) (section : Option (List ℕ)) (file : List ℕ) (format : Format) → format_of file ≡ format → selected_answer which section file ≡ selected_symbols which section format file
of_format which section file format is = ap (λ (f : Format). selected_symbols which section f file) is

-- a Mach-O or PE file has a symbol table alone
pub with_table : {A : Type 0} (which : SymbolTable) (answer : Result A Refusal) → which ≡ Symtab → Some (by_symbol_table which answer) ≡ Some answer
with_table which answer is = ap (λ (w : SymbolTable). Some (by_symbol_table w answer)) is

pub without_table : {A : Type 0} (which : SymbolTable) (answer : Result A Refusal) (p : ParseError) → (which ≡ Dynsym) × (refusal_of p ≡ section_is_missing (codes ".dynsym")) → Some (by_symbol_table which answer) ≡ Some (Err (refusal_of p))
without_table which answer p is = ap (λ (w : SymbolTable). Some (by_symbol_table w answer)) is.0 ∙ ap (λ (r : Refusal). Some (Err r)) (sym is.1)

-- why a file's parts weren't read is why its tables weren't
module _ (may_fail : Bool) (which : SymbolTable) (section : Option (List ℕ)) (file : List ℕ) where
  not_read : {X : Type 0} (view : X → SelectedSymbols) (given : Result SelectedSymbols Refusal) (e : ReadError)
      → selected_answer which section file ≡ Some given → Reads may_fail view given (Err e) → ReadsTables (may_fail ≡ true) which file section (Err e)
  not_read view given (Refused p) is reads = is ∙ ap Some reads
  not_read view given Unreadable is reads = reads
  not_read view given OutOfMemory is reads = tt

  -- and as `?` passes it on
  pub unread : {X : Type 0} (view : X → SelectedSymbols) (given : Result SelectedSymbols Refusal) (e : ReadError) (r : Result Tables ReadError)
      → selected_answer which section file ≡ Some given → Reads may_fail view given (Err e) → (IsErr r × IsErrAnd r (λ x. x ≡ e)) → ReadsTables (may_fail ≡ true) which file section r
  unread view given e r is reads err = err_is (ReadsTables (may_fail ≡ true) which file section) r e err (not_read view given e is reads)

-- so for a file of which is read what its answer is made of
pub of_answer : {X Y L : Type 0} (may_fail : Bool) (view : X → Y) (found : Result Y Refusal) (f : Y → Result L Refusal) (e : ReadError) → Reads may_fail view found (Err e) → Reads may_fail (λ (l : L). l) (found >>= f) (Err e)
of_answer may_fail view found f (Refused p) reads = ap (λ r. r >>= f) reads
of_answer may_fail view found f Unreadable reads = reads
of_answer may_fail view found f OutOfMemory reads = tt
