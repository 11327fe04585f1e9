-- By which symbol table addresses of a file are looked up, by what a reading of it came to.
use Rattle.std.proofs.Common.{◌≡◌, ◌∙◌, ◌&&◌, ℕ, Bool, true, false, cond, List, Some, Ok, Err, refl, sym, ap, subst}
use Rattle.binfarce.specs.Format.{format_of}
use Rattle.binfarce.specs.Refusal.{Refusal, refusal_of}
use Rattle.binfarce_tables.specs.declared.error.ReadError.{ReadError}
use Rattle.binfarce_tables.specs.declared.error.ReadError.TheVariants.{Refused, Unreadable, OutOfMemory}
use Rattle.binfarce_tools.specs.Tables.{AreTablesOf, ReadsAs, is_whole}
use Rattle.binfarce_tools.specs.declared.SymbolTable.{SymbolTable}
use Rattle.binfarce_tools.specs.declared.SymbolTable.TheVariants.{Dynsym}
use Rattle.binfarce_tools.specs.declared.tables.Tables.{Tables}
use Rattle.binfarce_tools.specs.declared.tables.Tables.TheVariants as variants
use Rattle.binfarce_tools.specs.SectionAnswer.{is_elf}
use Rattle.binfarce_jobs.specs.At.{AreTablesAt, dynamic, is_no_symtab, lacks_symtab, symbols_at}
use Rattle.binfarce_jobs.specs.Show.{AreTablesFor, answer_for, has_functions}
use Rattle.binfarce_jobs.specs.machine.Dynamic.{IsDynamic, is_refused_so}
use Rattle.binfarce_jobs.specs.declared.show.Symbols.{Symbols}

-- one of three isn't so, or all are
first_off : (a b c : Bool) → a ≡ false → (a && b && c) ≡ false
first_off true b c is = absurd cc
first_off false b c is = refl

second_off : (a b c : Bool) → b ≡ false → (a && b && c) ≡ false
second_off true true c is = absurd cc
second_off true false c is = refl
second_off false b c is = refl

all_on : (a b c : Bool) → a ≡ true → b ≡ true → c ≡ true → (a && b && c) ≡ true
all_on true true true one two three = refl
all_on true true false one two three = absurd cc
all_on true false c one two three = absurd cc
all_on false b c one two three = absurd cc

module _ (symbols : Symbols) (file : List ℕ) where
  abbrev chosen : Bool → Symbols
  chosen b = cond b (dynamic symbols) symbols

  -- tables that were read are those of an answer, or of a file that isn't one of ELF
  pub accepted : (tables : Tables) → AreTablesFor symbols file tables → is_whole tables ≡ false → symbols_at symbols file ≡ symbols
  unfolding AreTablesOf
  accepted (variants.Elf parts) are whole = ap chosen (second_off _ _ _ (ap lacks_symtab (are.1 ∙ are.0)))
  accepted (variants.Macho parts) are whole = ap chosen (first_off _ _ _ (ap is_elf are.0.0))
  accepted (variants.Pe parts) are whole = ap chosen (first_off _ _ _ (ap is_elf are.0.0))
  accepted variants.Unknown are whole = ap chosen (first_off _ _ _ (ap is_elf are.0))
  accepted (variants.Whole bytes named) are whole = absurd cc
  accepted (variants.Made functions size versions) are whole = ap chosen (second_off _ _ _ (ap lacks_symtab (are.1 ∙ are.0.1)))

  -- the tables are those that are asked for
  pub tables_still : (tables : Tables) (which : SymbolTable) → symbols_at symbols file ≡ symbols → which ≡ symbols.which → AreTablesFor symbols file tables → AreTablesAt symbols file (tables, which)
  tables_still tables which still is are =
      subst (λ (taken : Symbols). (which ≡ taken.which) × AreTablesFor taken file tables) (sym still) (is, are)

  -- those by `.dynsym`
  pub dynamic_read : (tables : Tables) (which : SymbolTable) (why : Refusal) → which ≡ (dynamic symbols).which → AreTablesFor (dynamic symbols) file tables
      → is_elf (format_of file) ≡ true → answer_for symbols file ≡ Some (Err why) → is_no_symtab why ≡ true → has_functions (answer_for (dynamic symbols) file) ≡ true → AreTablesAt symbols file (tables, which)
  dynamic_read tables which why is are elf answer none some =
      subst (λ (taken : Symbols). (which ≡ taken.which) × AreTablesFor taken file tables) (sym (ap chosen (all_on _ _ _ elf (ap lacks_symtab answer ∙ none) some))) (is, are)

pub by_dynsym : (symbols : Symbols) (file : List ℕ) (MayFail : Type 0) (e : ReadError) (tables : Tables) → ReadsAs (AreTablesFor symbols file) MayFail (answer_for symbols file) (Err e)
    → is_refused_so e ≡ true → is_elf (format_of file) ≡ true → IsDynamic symbols file MayFail (Ok (Some tables)) → AreTablesAt symbols file (tables, Dynsym)
by_dynsym symbols file MayFail (Refused p) tables reads none elf read =
    dynamic_read symbols file tables Dynsym (refusal_of p) refl read.0 elf reads none read.1
by_dynsym symbols file MayFail Unreadable tables reads none elf read = absurd cc
by_dynsym symbols file MayFail OutOfMemory tables reads none elf read = absurd cc
