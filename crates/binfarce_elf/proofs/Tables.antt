-- The sections of a symbol table, by what is found.
use Rattle.std.specs.Prelude.{nat_eq}
use Rattle.std.proofs.Common.{◌≡◌, ◌∙◌, ℕ, Option, Some, Ok, refl, sym, ap}
use Rattle.std.specs.Option.{option_map}
use Rattle.binfarce_bytes.specs.Refusal.{◌>>=◌, required, section_is_missing}
use Rattle.binfarce_bytes.specs.Walk.{Walk, first}
use Rattle.binfarce_elf.specs.Elf.{Section}
use Rattle.binfarce_elf.specs.ElfSymbols.{string_table_kind}
use Rattle.binfarce_elf.specs.SymbolTables.{section_type, strings_name, table_sections}
use Rattle.binfarce_elf.specs.declared.symbol_table.SymbolTable.{SymbolTable}

-- where the table's section is found, the rest follows from what is found by its link
pub by_link : {T : Type 0} (view : T → Section) (which : SymbolTable) (sections : Walk Section) (kind : ℕ) (symbols : T) (table strings : Option T) → kind ≡ section_type which
    → first (λ s. nat_eq s.kind kind) sections ≡ Ok (option_map view table) → table ≡ Some symbols → first (λ s. nat_eq s.index (view symbols).link) sections ≡ Ok (option_map view strings)
    → table_sections which sections
    ≡ (required (section_is_missing (strings_name which)) (option_map view strings) >>= λ linked. string_table_kind linked >>= λ found. Ok (record { symbols = view symbols; strings = found }))
unfolding table_sections
by_link view which sections kind symbols table strings kind_is of_kind is of_index =
    let found : first (λ s. nat_eq s.kind (section_type which)) sections ≡ Ok (Some (view symbols)) =
    ap (λ (k : ℕ). first (λ s. nat_eq s.kind k) sections) (sym kind_is) ∙ of_kind ∙ ap (λ o. Ok (option_map view o)) is in
    rw (found, of_index) refl
