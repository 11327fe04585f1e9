-- The format that a file's first bytes name (gABI, "ELF Identification"; the magic numbers of PE and Mach-O).
use Rattle.std.specs.Prelude.{ℕ, Bool, ◌||◌, List, [], ◌∷◌, length, nat_lt, nat_eq, slice_index, if◌then◌else◌}
use Rattle.std.specs.List.{starts_with}
use Rattle.binfarce_bytes.specs.declared.ByteOrder.{ByteOrder}
use Rattle.binfarce_bytes.specs.declared.ByteOrder.TheVariants.{LittleEndian, BigEndian}
use Rattle.binfarce_bytes.specs.declared.format.Format.{Format}
use Rattle.binfarce_bytes.specs.declared.format.Format.TheVariants.{Elf32, Elf64, Macho, PE, Unknown}

-- EI_CLASS: 1 is 32-bit, 2 is 64-bit
abbrev pub elf_of_class : ℕ → ByteOrder → Format
elf_of_class class order = if nat_eq class 1 then Elf32 order else if nat_eq class 2 then Elf64 order else Unknown

-- EI_DATA: 1 is little endian, 2 is big endian
abbrev pub elf_format_of : ℕ → ℕ → Format
elf_format_of class order =
    if nat_eq order 1 then elf_of_class class LittleEndian
    else if nat_eq order 2 then elf_of_class class BigEndian
    else Unknown

abbrev pub begins : List ℕ → List ℕ → Bool
begins bytes magic = starts_with nat_eq bytes magic

-- the five magic numbers of Mach-O: of universal files, of 32-bit and 64-bit files, and the last two in the other byte order. The reader supports
-- 64-bit little-endian files alone
abbrev pub begins_macho : List ℕ → Bool
begins_macho bytes =
    begins bytes (0xCA ∷ 0xFE ∷ 0xBA ∷ 0xBE ∷ [])
    || begins bytes (0xFE ∷ 0xED ∷ 0xFA ∷ 0xCE ∷ [])
    || begins bytes (0xFE ∷ 0xED ∷ 0xFA ∷ 0xCF ∷ [])
    || begins bytes (0xCE ∷ 0xFA ∷ 0xED ∷ 0xFE ∷ [])
    || begins bytes (0xCF ∷ 0xFA ∷ 0xED ∷ 0xFE ∷ [])

-- a file of fewer than 8 bytes has no format
unfoldable pub format_of : List ℕ → Format
format_of bytes =
    if nat_lt (length bytes) 8 then Unknown
    else if begins bytes (0x7F ∷ 0x45 ∷ 0x4C ∷ 0x46 ∷ []) then elf_format_of (slice_index bytes 4) (slice_index bytes 5)
    else if begins bytes (0x4D ∷ 0x5A ∷ []) then PE
    else if begins_macho bytes then Macho
    else Unknown
