-- The function symbols that were found, as the answer of a file.
use Rattle.std.proofs.Common.{◌≡◌, inl, inr, ℕ, true≢false, List, [], ◌∷◌, length, map, Some, Result, Ok, Err, refl, sym, ap, subst, ◌∙◌}
use Rattle.std.specs.Global.{Vec}
use Rattle.std.specs.Result.{IsOk}
use Rattle.binfarce.specs.declared.ParseError.{ParseError}
use Rattle.binfarce.specs.declared.SectionFunction.{SectionFunction}
use Rattle.binfarce.specs.ElfSelection.{Selected}
use Rattle.binfarce.specs.Refusal.{◌>>=◌, Refusal}
use Rattle.binfarce.specs.SectionEntries.{AnswersAll, SectionEntry}
use Rattle.binfarce.specs.SelectionViews.{HoldsAllFunctions}
use Rattle.binfarce.specs.Symbol.{Answers, Entry, Listed}
use Rattle.binfarce.specs.SymbolViews.{HoldsSectionFunctions, function_view, section_function_view}
use Rattle.binfarce_c.specs.declared.functions.Function.{Function}
use Rattle.binfarce_c.specs.declared.functions.Functions.{Functions}
use Rattle.binfarce_c.specs.Functions.{AreFunctionsOf, GivesAnswer, HoldsRefusal, as_one}
use Rattle.binfarce_c.specs.Status.{ok}
use Rattle.binfarce_c.specs.machine.Found.{Collects, Ends, HoldsFound, ListsOr}

-- the entries of function symbols without their sections
entries_of : (functions : List SectionFunction) → map (λ (e : SectionEntry). e.entry) (map section_function_view functions) ≡ map (λ (f : SectionFunction). function_view f.function) functions
entries_of [] = refl
entries_of (f ∷ functions) = ap (λ (entries : List Entry). function_view f.function ∷ entries) (entries_of functions)

are_entries : (entries : List SectionEntry) (functions : List SectionFunction) (all : List Function) → map section_function_view functions ≡ entries
    → AreFunctionsOf (map (λ (f : SectionFunction). function_view f.function) functions) all → AreFunctionsOf (map (λ (e : SectionEntry). e.entry) entries) all
are_entries entries functions all holds are =
    subst (λ (es : List Entry). AreFunctionsOf es all) (sym (entries_of functions) ∙ ap (map (λ (e : SectionEntry). e.entry)) holds) are

-- those of all sections of an ELF file
pub elf_found : (answer : Result Selected Refusal) (listed : Result (Vec SectionFunction) ParseError) (found : Result (Vec Function × ℕ) ParseError)
    → Answers HoldsAllFunctions IsOk answer listed → Collects listed found → Answers HoldsFound (ListsOr ⊥) (answer >>= λ selected. Ok (as_one selected.entries)) found
elf_found (Ok selected) (Ok functions) (Ok found) holds is = (are_entries selected.entries functions.items found.0.items holds is.0, is.1)
elf_found (Ok selected) (Ok functions) (Err e) holds is = (is, tt)
elf_found (Ok selected) (Err refusal) (Ok found) holds is = absurd is
elf_found (Ok selected) (Err refusal) (Err e) holds is = (is ∙ holds.0, tt)
elf_found (Err r) (Ok functions) found holds is = absurd holds
elf_found (Err r) (Err refusal) (Ok found) holds is = absurd is
elf_found (Err r) (Err refusal) (Err e) (inl same) is = inl (is ∙ same)
elf_found (Err r) (Err refusal) (Err e) (inr more) is = absurd (true≢false (sym more.1))

-- those of a Mach-O or PE file
pub all_found : (Needs : Type 0) (answer : Result (List SectionEntry) Refusal) (listed : Result (Vec SectionFunction) ParseError) (found : Result (Vec Function × ℕ) ParseError)
    → AnswersAll HoldsSectionFunctions Needs answer listed → Collects listed found → Answers HoldsFound (ListsOr Needs) (answer >>= λ entries. Ok (as_one entries)) found
all_found Needs (Ok entries) (Ok functions) (Ok found) holds is = (are_entries entries functions.items found.0.items holds is.0, is.1)
all_found Needs (Ok entries) (Ok functions) (Err e) holds is = (is, tt)
all_found Needs (Ok entries) (Err refusal) (Ok found) holds is = absurd is
all_found Needs (Ok entries) (Err refusal) (Err e) holds is = (is ∙ holds.0, tt)
all_found Needs (Err r) (Ok functions) found holds is = absurd holds
all_found Needs (Err r) (Err refusal) (Ok found) holds is = absurd is
all_found Needs (Err r) (Err refusal) (Err e) (inl same) is = inl (is ∙ same)
all_found Needs (Err r) (Err refusal) (Err e) (inr more) is = inr (is ∙ more.0, more.1)

-- what was found is in the array
pub given : (Needs : Type 0) (Allows : Refusal → Type 0) (answer : Result Listed Refusal) (found : Result (Vec Function × ℕ) ParseError) (old new : List Function) (result : Functions)
    → ((refusal : Refusal) → Needs → Allows refusal) → Answers HoldsFound (ListsOr Needs) answer found → Ends found old new result → GivesAnswer Allows (Some answer) old new result
given Needs Allows (Ok listed) (Ok found) old new result needs holds ends = inl (record {
  functions = found.0.items;
  are = holds.0;
  given_is = ends.0 ∙ ap (λ (size : ℕ). record { status = ok; detail = 0; count = length found.0.items; section_size = size }) holds.1;
  new_is = ends.1;
})
given Needs Allows (Ok listed) (Err e) old new result needs holds ends = inr (subst (λ (r : Refusal). HoldsRefusal r old new result) holds.0 ends)
given Needs Allows (Err r) (Ok found) old new result needs holds ends = absurd holds
given Needs Allows (Err r) (Err e) old new result needs (inl same) ends = inl (subst (λ (r : Refusal). HoldsRefusal r old new result) same ends)
given Needs Allows (Err r) (Err e) old new result needs (inr more) ends = inr (needs r more.1, subst (λ (r : Refusal). HoldsRefusal r old new result) more.0 ends)
