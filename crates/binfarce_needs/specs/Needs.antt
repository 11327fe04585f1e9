-- What an ELF file needs from others: its undefined symbols (System V gABI, "Symbol Table"), with their versions (LSB Core Generic, "Symbol Versioning").
use Rattle.std.specs.Prelude.{ℕ, Bool, List, ◌&&◌, Option, Some, None, Result, Ok, not, nat_eq, if◌then◌else◌}
use Rattle.std.specs.Option.{option_map}
use Rattle.std.specs.List.{range_with_len, filter_map}
use Rattle.binfarce_bytes.specs.declared.ByteOrder.{ByteOrder}
use Rattle.binfarce_bytes.specs.Refusal.{◌>>=◌, Refusal}
use Rattle.binfarce_bytes.specs.Text.{text_at}
use Rattle.binfarce_bytes.specs.Walk.{Walk, first}
use Rattle.binfarce_elf.specs.Elf.{ElfClass, Section, SymbolRow}
use Rattle.binfarce_elf.specs.ElfSymbols.{row_count, row_of}
use Rattle.binfarce_elf.specs.SymbolTables.{TableSections, section_type, table_sections}
use Rattle.binfarce_elf.specs.declared.symbol_table.SymbolTable.{SymbolTable}
use Rattle.binfarce_elf.specs.declared.symbol_table.SymbolTable.TheVariants.{Symtab, Dynsym}
use Rattle.binfarce_elf_memory.specs.Versions.{name_by, needs_section, version_of, versions_section}
use Rattle.binfarce_needs.specs.NeededVersions.{Version, needed_versions, of_index}

-- the symbol table that is read: the dynamic one, where its section was found, else `.symtab`
abbrev pub table_by : Option Section → SymbolTable
table_by None = Symtab
table_by (Some section) = Dynsym

-- the sections of that symbol table, of the versions of its rows, and of the versions that are needed
pub record NeedSections : Type 0 where
  pub table : TableSections
  pub versions : Option Section
  pub needed : Option Section

abbrev pub with_versions : SymbolTable → Walk Section → TableSections → NeedSections
with_versions which sections table = record { table = table; versions = versions_section which sections; needed = needs_section which sections }

-- the refusals in order; else these sections
unfoldable pub need_sections : Walk Section → Result NeedSections Refusal
need_sections sections = do
  dynamic ← first (λ s. nat_eq s.kind (section_type Dynsym)) sections
  table ← table_sections (table_by dynamic) sections
  Ok (with_versions (table_by dynamic) sections table)

-- the bytes of these sections: none of one that a file lacks
pub record NeedTables : Type 0 where
  pub rows : List ℕ
  pub strings : List ℕ
  pub versions : List ℕ
  pub needed : List ℕ

-- a symbol that is needed: its stored name, its info, the name of its version, and that of the file that the version comes from
pub record Need : Type 0 where
  pub name : List ℕ
  pub info : ℕ
  pub version : Option (List ℕ)
  pub from : Option (List ℕ)

-- row k is undefined, by its section SHN_UNDEF (0), and has a name. Row 0 is no symbol's
abbrev pub is_need : (k : ℕ) → SymbolRow ℕ → Bool
is_need k row = not (nat_eq k 0) && (nat_eq row.section 0 && not (nat_eq row.name 0))

-- a row's version by these: the text at what part says of the one with its index
abbrev pub version_text : (strings : List ℕ) → (part : Version → ℕ) → List Version → (version : ℕ) → Option (List ℕ)
version_text strings part versions version = name_by strings (of_index part versions) version

-- the symbol of row k, where it is needed, and its name is valid
unfoldable pub need_of : (strings : List ℕ) → List Version → (k : ℕ) → SymbolRow ℕ → (version : ℕ) → Option Need
need_of strings versions k row version =
    if is_need k row
    then option_map (λ name. record { name = name; info = row.info; version = version_text strings (λ v. v.name) versions version; from = version_text strings (λ v. v.file) versions version }) (text_at strings row.name)
    else None

-- those of all rows, in the table's order
abbrev pub needs_of : ElfClass → ByteOrder → NeedTables → List Need
needs_of class order t =
    filter_map (λ k. need_of t.strings (needed_versions order t.needed) k (row_of class order t.rows k) (version_of order t.versions k)) (range_with_len 0 (row_count class t.rows))
