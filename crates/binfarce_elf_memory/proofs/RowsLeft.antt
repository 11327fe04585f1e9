-- The entries of the rows that are left.
use Rattle.std.proofs.Common.{◌≡◌, ℕ, suc, ◌+◌, ◌-◌, ◌*◌, ◌<◌, ◌≤◌, List, [], ◌∷◌, Option, Some, None, map, refl, sym, ◌∙◌, ap, arith}
use Rattle.std.specs.Iterator.{YieldsFirstBy, Drains}
use Rattle.std.specs.List.{range_with_len, filter_map}
use Rattle.binfarce_bytes.specs.declared.ByteOrder.{ByteOrder}
use Rattle.binfarce_elf.specs.Elf.{ElfClass, SymbolRow}
use Rattle.binfarce_elf.specs.ElfSymbols.{symbol_at}
use Rattle.binfarce_elf_memory.specs.SelectionViews.{functions_left}
use Rattle.binfarce_elf_memory.specs.declared.selection.Functions.{Functions}
use Rattle.binfarce_bytes.specs.declared.functions.SectionFunction.{SectionFunction}
use Rattle.binfarce_bytes.specs.Entries.{Entry}
use Rattle.binfarce_bytes.specs.SectionEntries.{SectionEntry}
use Rattle.binfarce_bytes.specs.SymbolViews.{function_view, section_function_view}
use Rattle.binfarce_bytes.specs.Found.{entry_at}
use Rattle.std.proofs.lemmas.Simd.{map-map}
use Rattle.binfarce_bytes.proofs.FoundLaws as FoundLaws
use Rattle.binfarce_bytes.proofs.Drained.{drained}

-- row k has none
pub passed : {X : Type 0} (f : ℕ → Option X) (k n : ℕ) → k < n → f k ≡ None → filter_map f (range_with_len k (n - k)) ≡ filter_map f (range_with_len (k + 1) (n - (k + 1)))
passed f k n h e = let s : n - k ≡ suc (n - (k + 1)) = omega arith in rw (s, e) refl

-- row k has one
pub kept : {X : Type 0} (f : ℕ → Option X) (k n : ℕ) (x : X) → k < n → f k ≡ Some x → filter_map f (range_with_len k (n - k)) ≡ x ∷ filter_map f (range_with_len (k + 1) (n - (k + 1)))
kept f k n x h e = let s : n - k ≡ suc (n - (k + 1)) = omega arith in rw (s, e) refl

-- no row is left
pub ended : {X : Type 0} (f : ℕ → Option X) (k n : ℕ) → n ≤ k → filter_map f (range_with_len k (n - k)) ≡ []
ended f k n h = let s : n - k ≡ 0 = omega arith in rw s refl

-- row k, as it was read
pub row_is : (class : ElfClass) (order : ByteOrder) (rows : List ℕ) (k length : ℕ) (read : SymbolRow ℕ) → length ≡ class.symbol_length
    → read ≡ symbol_at class order rows (k * length) → symbol_at class order rows (k * class.symbol_length) ≡ read
row_is class order rows k length read is at = ap (λ (n : ℕ). symbol_at class order rows (k * n)) (sym is) ∙ sym at

-- before any came, none is found
pub none_at_first : (address : ℕ) → None ≡ entry_at [] address
none_at_first = FoundLaws.none_at_first

-- what is found among the functions that came is found among what was left
pub shown_is : (functions : Functions) (given : List SectionFunction) (address : ℕ) (shown : Option Entry) → Drains (YieldsFirstBy section_function_view functions_left) functions given
    → shown ≡ entry_at (map (λ f. function_view f.function) given) address → shown ≡ entry_at (map (λ e. e.entry) (functions_left functions)) address
shown_is functions given address shown drains is =
    is ∙ ap (λ (entries : List Entry). entry_at entries address) (sym (map-map (λ (e : SectionEntry). e.entry) section_function_view given))
    ∙ ap (λ (entries : List SectionEntry). entry_at (map (λ e. e.entry) entries) address) (drained section_function_view functions_left functions given drains)
