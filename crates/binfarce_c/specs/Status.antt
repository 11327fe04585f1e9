-- The status of a call of the library for C: its number, and its text.
use Rattle.std.specs.Prelude.{ℕ, Bool, true, false, ◌+◌, ◌*◌, List, Option, Some, None, nat_eq, codes, if◌then◌else◌}
use Rattle.std.specs.Str.{bytes_eq}
use Rattle.binfarce_foreign.specs.declared.Foreign.{Foreign}
use Rattle.binfarce_foreign.specs.declared.Foreign.TheVariants.{Universal, JavaClass, Macho32, MachoBigEndian, Archive, ThinArchive, Coff, Pdb, Wasm, Bitcode, Script, Text, Empty, ManySections, Core, Dos, Ne, Le, Gzip, Xz, Zstd}
use Rattle.binfarce.specs.Refusal.{Refusal, words, symbols_section_is_missing, section_is_missing, unexpected_section_type, malformed_input, unexpected_eof, out_of_memory}

-- BINFARCE_VERSION_NUMBER: the parts of a version in one number, which is greater for a later one
abbrev pub version_number : (major minor patch : ℕ) → ℕ
version_number major minor patch = major * 65536 + minor * 256 + patch

-- whether something is so, as C gets it
abbrev pub number_of : Bool → ℕ
number_of true = 1
number_of false = 0

-- BINFARCE_OK
abbrev pub ok : ℕ
ok = 0

-- BINFARCE_NONE: there is no such section, or no crate
abbrev pub none : ℕ
none = 1

-- BINFARCE_NOT_UTF8: a name that was passed isn't UTF-8
abbrev pub not_utf8 : ℕ
not_utf8 = 2

-- BINFARCE_OUT_OF_MEMORY
abbrev pub no_memory : ℕ
no_memory = 3

-- BINFARCE_UNKNOWN_FORMAT
abbrev pub unknown_format : ℕ
unknown_format = 4

-- BINFARCE_TOO_LARGE: a number above 64 bits
abbrev pub too_large : ℕ
too_large = 5

-- BINFARCE_NO_BYTES: a section has no bytes in the file
abbrev pub no_bytes : ℕ
no_bytes = 14

-- BINFARCE_PAST_END: a section's bytes end past the file
abbrev pub past_end : ℕ
past_end = 15

-- BINFARCE_SYMBOLS_SECTION_IS_MISSING and those after it: the number of a reader's refusal. Of the sections that may be missing, `.symtab`, `.strtab`, `.dynsym` and `.dynstr`, each has its own
abbrev pub status_of : Refusal → ℕ
status_of symbols_section_is_missing = 6
status_of (section_is_missing name) =
    if bytes_eq name (codes ".symtab") then 7
    else if bytes_eq name (codes ".dynsym") then 12
    else if bytes_eq name (codes ".dynstr") then 13
    else 8
status_of (unexpected_section_type expected actual) = 9
status_of malformed_input = 10
status_of unexpected_eof = 11
status_of out_of_memory = no_memory

-- the detail of a refusal: the section type that was found
abbrev pub detail_of : Refusal → ℕ
detail_of (unexpected_section_type expected actual) = actual
detail_of refusal = 0

-- BINFARCE_UNIVERSAL and those after it: the number of a file that no reader reads
abbrev pub foreign_status : Foreign → ℕ
foreign_status Universal = 32
foreign_status JavaClass = 33
foreign_status Macho32 = 34
foreign_status MachoBigEndian = 35
foreign_status Archive = 36
foreign_status ThinArchive = 37
foreign_status Coff = 38
foreign_status Pdb = 39
foreign_status Wasm = 40
foreign_status Bitcode = 41
foreign_status Script = 42
foreign_status Text = 43
foreign_status Empty = 44
foreign_status ManySections = 45
foreign_status Core = 46
foreign_status Dos = 47
foreign_status Ne = 48
foreign_status Le = 49
foreign_status Gzip = 50
foreign_status Xz = 51
foreign_status Zstd = 52

-- that number, or BINFARCE_OK
abbrev pub status_in : Option Foreign → ℕ
status_in None = ok
status_in (Some foreign) = foreign_status foreign

-- its text: what the command says that the file is
unfoldable pub foreign_words : ℕ → List ℕ
foreign_words status =
    if nat_eq status 32 then codes "a universal Mach-O file"
    else if nat_eq status 33 then codes "a Java class file"
    else if nat_eq status 34 then codes "a Mach-O file of 32 bits"
    else if nat_eq status 35 then codes "a big-endian Mach-O file"
    else if nat_eq status 36 then codes "an archive"
    else if nat_eq status 37 then codes "a thin archive"
    else if nat_eq status 38 then codes "a COFF object file"
    else if nat_eq status 39 then codes "a PDB file"
    else if nat_eq status 40 then codes "a WebAssembly module"
    else if nat_eq status 41 then codes "LLVM bitcode"
    else if nat_eq status 42 then codes "a script"
    else if nat_eq status 43 then codes "a text"
    else if nat_eq status 44 then codes "an empty file"
    else if nat_eq status 45 then codes "an ELF file of 65,280 sections or more"
    else if nat_eq status 46 then codes "a core file"
    else if nat_eq status 47 then codes "a DOS program"
    else if nat_eq status 48 then codes "an NE file, of 16-bit Windows or OS/2"
    else if nat_eq status 49 then codes "an LE or LX file, of OS/2 or Windows 9x"
    else if nat_eq status 50 then codes "a gzip file"
    else if nat_eq status 51 then codes "an xz file"
    else if nat_eq status 52 then codes "a Zstandard file"
    else codes "unknown status"

-- the text of a number: for a refusal the printed text, but without the types of an unexpected section type
abbrev pub status_words : ℕ → List ℕ
status_words status =
    if nat_eq status 0 then codes "ok"
    else if nat_eq status 1 then codes "not there"
    else if nat_eq status 2 then codes "not UTF-8"
    else if nat_eq status 3 then words out_of_memory
    else if nat_eq status 4 then codes "unknown file format"
    else if nat_eq status 5 then codes "sizes are too large"
    else if nat_eq status 6 then words symbols_section_is_missing
    else if nat_eq status 7 then words (section_is_missing (codes ".symtab"))
    else if nat_eq status 8 then words (section_is_missing (codes ".strtab"))
    else if nat_eq status 9 then codes "unexpected section type"
    else if nat_eq status 10 then words malformed_input
    else if nat_eq status 11 then words unexpected_eof
    else if nat_eq status 12 then words (section_is_missing (codes ".dynsym"))
    else if nat_eq status 13 then words (section_is_missing (codes ".dynstr"))
    else if nat_eq status 14 then codes "section has no bytes in the file"
    else if nat_eq status 15 then codes "section reaches past the end of the file"
    else foreign_words status
