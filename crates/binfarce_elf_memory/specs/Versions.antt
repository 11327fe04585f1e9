-- The versions of the rows of a dynamic symbol table, and their names (LSB Core Generic, "Symbol Versioning"). Files of both classes have the same layouts.
use Rattle.std.specs.Prelude.{ℕ, zero, suc, ◌+◌, ◌*◌, ◌%◌, ◌&&◌, List, [], ◌∷◌, length, find, Option, Some, None, nat_eq, nat_le, if◌then◌else◌}
use Rattle.std.specs.Option.{option_and_then, option_map, unwrap_or}
use Rattle.binfarce_bytes.specs.declared.ByteOrder.{ByteOrder}
use Rattle.binfarce_bytes.specs.Field.{field, value_at}
use Rattle.binfarce_bytes.specs.Number.{bytes_at, number}
use Rattle.binfarce_bytes.specs.Text.{text_at}
use Rattle.binfarce_bytes.specs.Walk.{Walk}
use Rattle.binfarce_elf.specs.Elf.{Section, contents}
use Rattle.binfarce_elf.specs.declared.symbol_table.SymbolTable.{SymbolTable}
use Rattle.binfarce_elf.specs.declared.symbol_table.SymbolTable.TheVariants.{Symtab, Dynsym}

-- the section of the versions of a table's rows, of the type SHT_GNU_versym: the first whose header is whole. The dynamic table alone has versions
abbrev pub versions_section : SymbolTable → Walk Section → Option Section
versions_section Symtab sections = None
versions_section Dynsym sections = find (λ s. nat_eq s.kind 0x6fffffff) sections.items

-- the section of their definitions, of the type SHT_GNU_verdef
abbrev pub definitions_section : SymbolTable → Walk Section → Option Section
definitions_section Symtab sections = None
definitions_section Dynsym sections = find (λ s. nat_eq s.kind 0x6ffffffd) sections.items

-- the section of the versions that are needed of other files, of the type SHT_GNU_verneed
abbrev pub needs_section : SymbolTable → Walk Section → Option Section
needs_section Symtab sections = None
needs_section Dynsym sections = find (λ s. nat_eq s.kind 0x6ffffffe) sections.items

-- the bytes of a section, if there is one and it lies in the file; else none
abbrev pub bytes_if : List ℕ → Option Section → List ℕ
bytes_if file None = []
bytes_if file (Some section) = unwrap_or (contents file section) []

-- a row's version: the number of two bytes at its place; 0 if there is none
unfoldable pub version_of : ByteOrder → (versions : List ℕ) → (row : ℕ) → ℕ
version_of order versions row = if nat_le (row * 2 + 2) (length versions) then number order (bytes_at versions (row * 2) 2) else 0

-- Version Definition (Verdef): the version's index (vd_ndx), the offset of its name (the first Verdaux's vda_name), and how far it is to the next definition
-- (vd_next)
pub record Definition : Type 0 where
  pub index : ℕ
  pub name : ℕ
  pub next : ℕ

-- the definition that begins at start, where its 20 bytes and the 8 of its first Verdaux, vd_aux bytes behind its beginning, are there
unfoldable pub definition_at : ByteOrder → List ℕ → ℕ → Option Definition
definition_at order bytes start =
    let names = start + value_at order bytes start (field 12 4) in
    if nat_le (start + 20) (length bytes) && nat_le (names + 8) (length bytes)
    then Some (record { index = value_at order bytes start (field 4 2); name = value_at order bytes names (field 0 4); next = value_at order bytes start (field 16 4) })
    else None

-- a definition, and those after it, unless it is the last one
abbrev pub and_after : Option Definition → (ℕ → List Definition) → List Definition
and_after None after = []
and_after (Some d) after = d ∷ (if nat_eq d.next 0 then [] else after d.next)

-- at most n definitions, the first of which begins at start. One that isn't there ends them
unfoldable pub definitions_from : ByteOrder → List ℕ → (n : ℕ) → (start : ℕ) → List Definition
definitions_from order bytes zero start = []
definitions_from order bytes (suc n) start = and_after (definition_at order bytes start) (λ next. definitions_from order bytes n (start + next))

-- the definitions of a section: each begins at another byte
abbrev pub definitions : ByteOrder → List ℕ → List Definition
definitions order bytes = definitions_from order bytes (length bytes) 0

-- the offset of the name of the first of these definitions with this index
abbrev pub name_offset : List Definition → ℕ → Option ℕ
name_offset definitions index = option_map (λ d. d.name) (find (λ d. nat_eq d.index index) definitions)

-- a version's index, in its low 15 bits; the high bit says that the symbol is hidden
abbrev pub index_of : ℕ → ℕ
index_of version = version % 32768

-- a version's name, at this offset in the strings of the symbol table. The indices 0 (local) and 1 (global) mean no version
abbrev pub name_by : List ℕ → (ℕ → Option ℕ) → ℕ → Option (List ℕ)
name_by strings offset_of version = if nat_le (index_of version) 1 then None else option_and_then (λ offset. text_at strings offset) (offset_of (index_of version))

-- by the definitions of a section
abbrev pub version_name : ByteOrder → (strings : List ℕ) → (definitions : List ℕ) → (version : ℕ) → Option (List ℕ)
version_name order strings bytes version = name_by strings (name_offset (definitions order bytes)) version
