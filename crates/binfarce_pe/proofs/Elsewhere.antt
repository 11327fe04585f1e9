-- In which of the selected sections a row is kept, or ends sizes.
use Rattle.std.proofs.Common.{◌≡◌, ℕ, ◌+◌, Bool, true, false, ◌&&◌, ◌||◌, not, None, refl, nat_eq}
use Rattle.std.specs.Prelude.{unwrap_or}
use Rattle.std.specs.Option.{option_map}
use Rattle.binfarce_pe.specs.PeSelection.{SelectedSections, the_text, in_memory, rules_of, is_inner}
use Rattle.binfarce_pe.specs.PeSymbols.{CoffTable, SymbolRow, is_function, name_of}
use Rattle.binfarce_pe.specs.PeRules.{accepted_name, ends_at}
use Rattle.binfarce_pe.specs.machine.RawPe.{ending_name}

not_all : (a b c : Bool) → c ≡ false → (a && (b && c)) ≡ false
not_all true true c e = e
not_all true false c e = refl
not_all false b c e = refl

not_both : (a b : Bool) → b ≡ false → (a && b) ≡ false
not_both true b e = e
not_both false b e = refl

-- a row of another section isn't accepted, and ends no size
not_accepted : (chosen : SelectedSections) (index : ℕ) (row : SymbolRow ℕ) → nat_eq row.section_number (index + 1) ≡ false → ((rules_of chosen).section index).accepts row ≡ false
not_accepted (the_text text) index row e = not_both (is_function row && nat_eq row.storage_class 2) _ e
not_accepted (in_memory base sections code) index row e = not_all (is_function row) (nat_eq row.storage_class 2 || nat_eq row.storage_class 3) _ e

not_either : (a b c : Bool) → c ≡ false → (a && c || b && c) ≡ false
not_either true true c e = rw e refl
not_either true false c e = rw e refl
not_either false b c e = not_both b c e

not_ending : (table : CoffTable) (chosen : SelectedSections) (index k : ℕ) (row : SymbolRow ℕ) → nat_eq row.section_number (index + 1) ≡ false → ends_at table ((rules_of chosen).section index) k row ≡ false
not_ending table (the_text text) index k row e = refl
not_ending table (in_memory base sections code) index k row e =
    not_either (nat_eq row.storage_class 2 || nat_eq row.storage_class 3) (nat_eq row.storage_class 6 && not (unwrap_or (option_map is_inner (name_of table k row)) false)) _ e

pub no_name : (table : CoffTable) (chosen : SelectedSections) (index k : ℕ) (row : SymbolRow ℕ) → nat_eq row.section_number (index + 1) ≡ false → accepted_name table ((rules_of chosen).section index).accepts k row ≡ None
unfolding accepted_name
no_name table chosen index k row e = rw (not_accepted chosen index row e) refl

pub no_ending_name : (table : CoffTable) (chosen : SelectedSections) (index k : ℕ) (row : SymbolRow ℕ) → nat_eq row.section_number (index + 1) ≡ false → ending_name table ((rules_of chosen).section index) k row ≡ None
no_ending_name table chosen index k row e = rw (not_ending table chosen index k row e, no_name table chosen index k row e) refl
