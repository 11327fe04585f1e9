-- Files that no reader reads, by their first bytes.
use Rattle.std.specs.Prelude.{ℕ, Bool, ◌+◌, ◌&&◌, ◌||◌, List, [], ◌∷◌, ◌++◌, take, drop, length, slice_index, codes, nat_eq, nat_le, nat_lt, not, Option, Some, None, is_some, if◌then◌else◌}
use Rattle.std.specs.List.{list_all}
use Rattle.binfarce_bytes.specs.Format.{begins, format_of}
use Rattle.binfarce_bytes.specs.declared.format.Format.{Format}
use Rattle.binfarce_bytes.specs.declared.ByteOrder.{ByteOrder}
use Rattle.binfarce_bytes.specs.declared.ByteOrder.TheVariants.{LittleEndian}
use Rattle.binfarce_bytes.specs.declared.format.Format.TheVariants.{Elf32, Elf64, Macho, PE, Unknown}
use Rattle.binfarce_bytes.specs.Number.{number, bytes_at}
use Rattle.binfarce_foreign.specs.declared.Foreign.{Foreign}
use Rattle.binfarce_foreign.specs.declared.Foreign.TheVariants.{Universal, JavaClass, Macho32, MachoBigEndian, Archive, ThinArchive, Coff, Pdb, Wasm, Bitcode, Script, Text, Empty, ManySections, Core, Dos, Ne, Le, Gzip, Xz, Zstd}

-- the printed words: what it is, and what would help
abbrev pub foreign_words : Foreign → List ℕ
foreign_words Universal = codes "a universal Mach-O file; `lipo -thin ARCHITECTURE FILE` extracts a part"
foreign_words JavaClass = codes "a Java class file; `javap -v FILE` shows it"
foreign_words Macho32 = codes "a Mach-O file of 32 bits; those of 64 are read"
foreign_words MachoBigEndian = codes "a big-endian Mach-O file; little-endian ones are read"
foreign_words Archive = codes "an archive; `ar x FILE` extracts its members"
foreign_words ThinArchive = codes "a thin archive; its members, which `ar t FILE` lists, are files of their own"
foreign_words Coff = codes "a COFF object file; the PE file that it is linked into is read"
foreign_words Pdb = codes "a PDB file; `llvm-pdbutil dump --publics FILE` shows its symbols"
foreign_words Wasm = codes "a WebAssembly module; `wasm-objdump -x FILE` shows it"
foreign_words Bitcode = codes "LLVM bitcode; the file that it is linked into is read"
foreign_words Script = codes "a script; its first line names the program that runs it"
foreign_words Text = codes "a text; `binfarce filter <FILE` shows it with readable names"
foreign_words Empty = codes "an empty file"
foreign_words ManySections = codes "an ELF file of 65,280 sections or more; `readelf -SW FILE` lists them"
foreign_words Core = codes "a core file; the program that it is of, which `file FILE` names, has the symbols"
foreign_words Dos = codes "a DOS program; PE files are read"
foreign_words Ne = codes "an NE file, of 16-bit Windows or OS/2; PE files are read"
foreign_words Le = codes "an LE or LX file, of OS/2 or Windows 9x; PE files are read"
foreign_words Gzip = codes "a gzip file; `gzip -d <FILE` writes what it holds"
foreign_words Xz = codes "an xz file; `xz -d <FILE` writes what it holds"
foreign_words Zstd = codes "a Zstandard file; `zstd -d <FILE` writes what it holds"

-- Mach-O (mach-o/loader.h, mach-o/fat.h): MH_MAGIC_64 of a little-endian file is read. MH_MAGIC_64 of a big-endian file isn't, nor MH_MAGIC in either order. After FAT_MAGIC the number of parts follows; a Java class file (JVM specification, 4.1) begins alike, and has its version there, which is at least 45
abbrev pub macho_of : (first : List ℕ) → Option Foreign
macho_of first =
    if begins first (0xCF ∷ 0xFA ∷ 0xED ∷ 0xFE ∷ []) then None
    else if begins first (0xFE ∷ 0xED ∷ 0xFA ∷ 0xCF ∷ []) then Some MachoBigEndian
    else if not (begins first (0xCA ∷ 0xFE ∷ 0xBA ∷ 0xBE ∷ [])) then Some Macho32
    else if begins first (0xCA ∷ 0xFE ∷ 0xBA ∷ 0xBE ∷ 0 ∷ 0 ∷ 0 ∷ []) && (nat_lt 7 (length first) && nat_lt (slice_index first 7) 45) then Some Universal
    else Some JavaClass

-- the machines of COFF objects ("Machine Types" of the PE format): x86-64, x86, ARM64, ARM and Thumb-2
abbrev pub is_machine : (first : List ℕ) → Bool
is_machine first =
    begins first (0x64 ∷ 0x86 ∷ [])
    || begins first (0x4C ∷ 0x01 ∷ [])
    || begins first (0x64 ∷ 0xAA ∷ [])
    || begins first (0xC0 ∷ 0x01 ∷ [])
    || begins first (0xC4 ∷ 0x01 ∷ [])

-- a COFF object ("COFF File Header" of the PE format) has a whole header, and SizeOfOptionalHeader is 0
abbrev pub is_coff : (first : List ℕ) → Bool
is_coff first = nat_le 20 (length first) && (is_machine first && (nat_eq (slice_index first 16) 0 && nat_eq (slice_index first 17) 0))

-- white space and printable ASCII
abbrev pub is_text_byte : ℕ → Bool
is_text_byte byte = nat_eq byte 9 || nat_eq byte 10 || nat_eq byte 12 || nat_eq byte 13 || (nat_le 32 byte && nat_le byte 126)

abbrev pub is_text : (first : List ℕ) → Bool
is_text first = list_all is_text_byte first

-- a compressed file: of gzip (RFC 1952, 2.3.1), xz ("The .xz File Format", 2.1.1.1), or Zstandard (RFC 8878, 3.1.1)
abbrev pub packed_of : (first : List ℕ) → Option Foreign
packed_of first =
    if begins first (0x1F ∷ 0x8B ∷ []) then Some Gzip
    else if begins first (0xFD ∷ codes "7zXZ" ++ 0 ∷ []) then Some Xz
    else if begins first (0x28 ∷ 0xB5 ∷ 0x2F ∷ 0xFD ∷ []) then Some Zstd
    else None

-- an empty file; an archive or a thin one (ar(5)), a universal file by FAT_MAGIC_64, a PDB file (LLVM, "The MSF File Format"), a WebAssembly module (its specification, 5.5.16), bitcode, also in a wrapper (LLVM, "LLVM Bitcode File Format"), a compressed file, a COFF object, a script (execve(2)), a text
abbrev pub other_of : (first : List ℕ) → Option Foreign
other_of first =
    if nat_eq (length first) 0 then Some Empty
    else if begins first (codes "!<arch>\n") then Some Archive
    else if begins first (codes "!<thin>\n") then Some ThinArchive
    else if begins first (0xCA ∷ 0xFE ∷ 0xBA ∷ 0xBF ∷ []) then Some Universal
    else if begins first (codes "Microsoft C/C++ MSF 7.00") then Some Pdb
    else if begins first (0 ∷ codes "asm") then Some Wasm
    else if begins first (0x42 ∷ 0x43 ∷ 0xC0 ∷ 0xDE ∷ []) || begins first (0xDE ∷ 0xC0 ∷ 0x17 ∷ 0x0B ∷ []) then Some Bitcode
    else if is_some (packed_of first) then packed_of first
    else if is_coff first then Some Coff
    else if begins first (codes "#!") then Some Script
    else if is_text first then Some Text
    else None

-- the number of these bytes, from a position on, is 0
abbrev pub is_zero : (from len : ℕ) (first : List ℕ) → Bool
is_zero from len first = list_all (nat_eq 0) (take len (drop from first))

-- a core file, by its type (`e_type` is ET_CORE, 4)
abbrev pub core_of : ByteOrder → (first : List ℕ) → Option Foreign
core_of order first = if nat_eq (number order (bytes_at first 16 2)) 4 then Some Core else None

-- an ELF file of 32 bits (System V gABI, "ELF Header"): without a section header table (`e_shoff` is 0) it may be a core file; with one, but 0 for the number of its entries (`e_shnum`), it has 65,280 (SHN_LORESERVE) or more, and their number is in the first of them
abbrev pub elf32_of : ByteOrder → (first : List ℕ) → Option Foreign
elf32_of order first =
    if nat_lt (length first) 52 then None
    else if is_zero 32 4 first then core_of order first
    else if is_zero 48 2 first then Some ManySections
    else None

-- so for an ELF file of 64 bits, whose fields are at other offsets
abbrev pub elf64_of : ByteOrder → (first : List ℕ) → Option Foreign
elf64_of order first =
    if nat_lt (length first) 64 then None
    else if is_zero 40 8 first then core_of order first
    else if is_zero 60 2 first then Some ManySections
    else None

-- a DOS program whose relocation table (its offset is at 0x18) is in its first 64 bytes, behind the 28 of its header, has no offset of another header at 0x3C
abbrev pub is_dos : (first : List ℕ) → Bool
is_dos first = let table = number LittleEndian (bytes_at first 0x18 2) in nat_le 0x1C table && nat_lt table 0x40

-- what a file is by the header behind its DOS program, of which no reader checks the signature: NE, LE and LX are formats before PE
abbrev pub behind_dos : (header first : List ℕ) → Option Foreign
behind_dos header first =
    if begins header (codes "PE") then None
    else if begins header (codes "NE") then Some Ne
    else if begins header (codes "LE") || begins header (codes "LX") then Some Le
    else if is_dos first then Some Dos
    else None

-- a header at this offset, if the first bytes have its first two
abbrev pub header_at : (at : ℕ) → (first : List ℕ) → Option Foreign
header_at at first = if nat_le (at + 2) (length first) then behind_dos (drop at first) first else None

-- a file that begins with a DOS program, whose first 64 bytes end with the offset of another header ("MS-DOS Stub" of the PE format)
abbrev pub mz_of : (first : List ℕ) → Option Foreign
mz_of first = if nat_lt (length first) 64 then None else header_at (number LittleEndian (bytes_at first 0x3C 4)) first

-- what the first bytes say: of Mach-O files only those of one form are read, of ELF files those that state their number of sections, and files that begin with a DOS program, unless they are of a format before PE
abbrev pub by_format : Format → (first : List ℕ) → Option Foreign
by_format Macho first = macho_of first
by_format Unknown first = other_of first
by_format (Elf32 order) first = elf32_of order first
by_format (Elf64 order) first = elf64_of order first
by_format PE first = mz_of first

unfoldable pub named_by : (first : List ℕ) → Option Foreign
named_by first = by_format (format_of first) first

-- the first 512 bytes of a file, or all of a shorter one
abbrev pub first_bytes : (file : List ℕ) → List ℕ
first_bytes file = take 512 file

-- what a file is that no reader reads
abbrev pub foreign_in : (file : List ℕ) → Option Foreign
foreign_in file = named_by (first_bytes file)
