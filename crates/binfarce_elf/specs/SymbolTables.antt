-- The symbol tables that a file may have, and their sections (System V gABI, "Sections").
use Rattle.std.specs.Prelude.{ℕ, List, codes, Result, Ok, nat_eq}
use Rattle.binfarce_bytes.specs.Refusal.{◌>>=◌, Refusal, section_is_missing}
use Rattle.binfarce_bytes.specs.Walk.{Walk}
use Rattle.binfarce_elf.specs.Elf.{ElfClass, Section}
use Rattle.binfarce_elf.specs.ElfSymbols.{section_data, sought, string_table_kind, whole_rows}
use Rattle.binfarce_elf.specs.declared.symbol_table.SymbolTable.{SymbolTable}
use Rattle.binfarce_elf.specs.declared.symbol_table.SymbolTable.TheVariants.{Symtab, Dynsym}

-- the type of its section: SHT_SYMTAB, SHT_DYNSYM
abbrev pub section_type : SymbolTable → ℕ
section_type Symtab = 2
section_type Dynsym = 11

-- the name of its section
abbrev pub table_name : SymbolTable → List ℕ
table_name Symtab = codes ".symtab"
table_name Dynsym = codes ".dynsym"

-- the name of the section of its strings
abbrev pub strings_name : SymbolTable → List ℕ
strings_name Symtab = codes ".strtab"
strings_name Dynsym = codes ".dynstr"

-- a symbol table, and the section of its strings
pub record TableSections : Type 0 where
  pub symbols : Section
  pub strings : Section

-- the refusals in order; else the sections of this symbol table
unfoldable pub table_sections : SymbolTable → Walk Section → Result TableSections Refusal
table_sections which sections = do
  symbols ← sought (section_is_missing (table_name which)) (λ s. nat_eq s.kind (section_type which)) sections
  linked ← sought (section_is_missing (strings_name which)) (λ s. nat_eq s.index symbols.link) sections
  strings ← string_table_kind linked
  Ok (record { symbols = symbols; strings = strings })

-- the bytes of a symbol table's strings, and of its rows
pub record TableRows : Type 0 where
  pub strings : List ℕ
  pub rows : List ℕ

-- the refusals of these bytes in order; else the bytes
unfoldable pub rows_at : ElfClass → List ℕ → TableSections → Result TableRows Refusal
rows_at class file sections = do
  strings ← section_data file sections.strings
  bytes ← section_data file sections.symbols
  rows ← whole_rows class bytes
  Ok (record { strings = strings; rows = rows })
