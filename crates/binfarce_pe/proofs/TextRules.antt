-- The rules of the text select what `pe_answer` lists.
use Rattle.std.proofs.Common.{◌≡◌, ℕ, refl}
use Rattle.binfarce_pe.specs.PeSymbols.{CoffTable, function_name, kept_rows, entries_of}
use Rattle.binfarce_pe.specs.PeRules.{text_rules, accepted_name, ending_rows, entries_under}

pub kept_rows_are : (table : CoffTable) (index text_size : ℕ) → ending_rows table (text_rules index text_size) ≡ kept_rows table index
unfolding ending_rows accepted_name kept_rows function_name
kept_rows_are table index text_size = refl

pub text_entries_are : (table : CoffTable) (index text_size : ℕ) → entries_under table (text_rules index text_size) ≡ entries_of table index text_size
unfolding entries_under ending_rows accepted_name entries_of kept_rows function_name
text_entries_are table index text_size = refl
