-- The types of sections and their names.
use Rattle.std.specs.Prelude.{ℕ, List, codes, Option, Some, None, nat_eq, if◌then◌else◌}
use Rattle.binfarce_sections.specs.declared.kinds.SectionType.{SectionType}
use Rattle.binfarce_sections.specs.declared.kinds.SectionType.TheVariants.{Elf, Macho, Pe}

-- sh_type as readelf prints it: the names of the gABI ("Sections") and of GNU's extensions
unfoldable pub elf_type_name : ℕ → Option (List ℕ)
elf_type_name n =
    if nat_eq n 0 then Some (codes "NULL") else (
    if nat_eq n 1 then Some (codes "PROGBITS") else (
    if nat_eq n 2 then Some (codes "SYMTAB") else (
    if nat_eq n 3 then Some (codes "STRTAB") else (
    if nat_eq n 4 then Some (codes "RELA") else (
    if nat_eq n 5 then Some (codes "HASH") else (
    if nat_eq n 6 then Some (codes "DYNAMIC") else (
    if nat_eq n 7 then Some (codes "NOTE") else (
    if nat_eq n 8 then Some (codes "NOBITS") else (
    if nat_eq n 9 then Some (codes "REL") else (
    if nat_eq n 10 then Some (codes "SHLIB") else (
    if nat_eq n 11 then Some (codes "DYNSYM") else (
    if nat_eq n 14 then Some (codes "INIT_ARRAY") else (
    if nat_eq n 15 then Some (codes "FINI_ARRAY") else (
    if nat_eq n 16 then Some (codes "PREINIT_ARRAY") else (
    if nat_eq n 17 then Some (codes "GROUP") else (
    if nat_eq n 18 then Some (codes "SYMTAB SECTION INDICES") else (
    if nat_eq n 19 then Some (codes "RELR") else (
    if nat_eq n 0x6ffffff6 then Some (codes "GNU_HASH") else (
    if nat_eq n 0x6ffffff7 then Some (codes "GNU_LIBLIST") else (
    if nat_eq n 0x6ffffffd then Some (codes "VERDEF") else (
    if nat_eq n 0x6ffffffe then Some (codes "VERNEED") else (
    if nat_eq n 0x6fffffff then Some (codes "VERSYM") else None))))))))))))))))))))))

-- the type in the flags of a Mach-O section, by its name in <mach-o/loader.h> without S_
unfoldable pub macho_type_name : ℕ → Option (List ℕ)
macho_type_name n =
    if nat_eq n 0 then Some (codes "REGULAR") else (
    if nat_eq n 1 then Some (codes "ZEROFILL") else (
    if nat_eq n 2 then Some (codes "CSTRING_LITERALS") else (
    if nat_eq n 3 then Some (codes "4BYTE_LITERALS") else (
    if nat_eq n 4 then Some (codes "8BYTE_LITERALS") else (
    if nat_eq n 5 then Some (codes "LITERAL_POINTERS") else (
    if nat_eq n 6 then Some (codes "NON_LAZY_SYMBOL_POINTERS") else (
    if nat_eq n 7 then Some (codes "LAZY_SYMBOL_POINTERS") else (
    if nat_eq n 8 then Some (codes "SYMBOL_STUBS") else (
    if nat_eq n 9 then Some (codes "MOD_INIT_FUNC_POINTERS") else (
    if nat_eq n 10 then Some (codes "MOD_TERM_FUNC_POINTERS") else (
    if nat_eq n 11 then Some (codes "COALESCED") else (
    if nat_eq n 12 then Some (codes "GB_ZEROFILL") else (
    if nat_eq n 13 then Some (codes "INTERPOSING") else (
    if nat_eq n 14 then Some (codes "16BYTE_LITERALS") else (
    if nat_eq n 15 then Some (codes "DTRACE_DOF") else (
    if nat_eq n 16 then Some (codes "LAZY_DYLIB_SYMBOL_POINTERS") else (
    if nat_eq n 17 then Some (codes "THREAD_LOCAL_REGULAR") else (
    if nat_eq n 18 then Some (codes "THREAD_LOCAL_ZEROFILL") else (
    if nat_eq n 19 then Some (codes "THREAD_LOCAL_VARIABLES") else (
    if nat_eq n 20 then Some (codes "THREAD_LOCAL_VARIABLE_POINTERS") else (
    if nat_eq n 21 then Some (codes "THREAD_LOCAL_INIT_FUNCTION_POINTERS") else (
    if nat_eq n 22 then Some (codes "INIT_FUNC_OFFSETS") else None))))))))))))))))))))))

-- a type's name, if it has one
abbrev pub type_name : SectionType → Option (List ℕ)
type_name (Elf n) = elf_type_name n
type_name (Macho n) = macho_type_name n
type_name Pe = None

-- its number; none in PE
abbrev pub type_number : SectionType → Option ℕ
type_number (Elf n) = Some n
type_number (Macho n) = Some n
type_number Pe = None
