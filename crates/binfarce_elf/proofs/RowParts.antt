-- A row of the symbol table that is read from its bytes alone.
use Rattle.std.proofs.Common.{◌≡◌, ℕ, ◌+◌, ◌-◌, ◌≤◌, List, length, length-drop, take, drop, ap, ◌∙◌, arith}
use Rattle.std.proofs.lemmas.List.{drop-take, drop-drop, length-take-le, take-take}
use Rattle.binfarce_bytes.specs.declared.ByteOrder.{ByteOrder}
use Rattle.binfarce_bytes.specs.Number.{number, bytes_at}
use Rattle.binfarce_elf.specs.Elf.{elf32, elf64}
use Rattle.binfarce_elf.specs.ElfSymbols.{symbol_at}

-- the bytes of a field are those of the file
field_in : (order : ByteOrder) (file : List ℕ) (start len offset width : ℕ) → offset + width ≤ len → number order (bytes_at (bytes_at file start len) (0 + offset) width) ≡ number order (bytes_at file (start + offset) width)
field_in order file start len offset width h =
    let from : List ℕ = drop start file in
    let rest : ℕ = len - offset in
    let first : 0 + offset ≡ offset = omega arith in
    let all : len ≡ offset + rest = omega arith in
    ap (number order) (
    ap (λ n. take width (drop n (take len from))) first
    ∙ ap (λ n. take width (drop offset (take n from))) all
    ∙ ap (take width) (drop-take offset rest from)
    ∙ take-take width rest (drop offset from) (omega arith)
    ∙ ap (take width) (drop-drop offset start file))

row_of_32_in : (order : ByteOrder) (file : List ℕ) (start : ℕ) → symbol_at elf32 order (bytes_at file start 16) 0 ≡ symbol_at elf32 order file start
unfolding symbol_at elf32
row_of_32_in order file start =
    cc (field_in order file start 16 0 4 (omega arith), field_in order file start 16 4 4 (omega arith), field_in order file start 16 8 4 (omega arith), field_in order file start 16 12 1 (omega arith), field_in order file start 16 13 1 (omega arith), field_in order file start 16 14 2 (omega arith))

row_of_64_in : (order : ByteOrder) (file : List ℕ) (start : ℕ) → symbol_at elf64 order (bytes_at file start 24) 0 ≡ symbol_at elf64 order file start
unfolding symbol_at elf64
row_of_64_in order file start =
    cc (field_in order file start 24 0 4 (omega arith), field_in order file start 24 4 1 (omega arith), field_in order file start 24 5 1 (omega arith), field_in order file start 24 6 2 (omega arith), field_in order file start 24 8 8 (omega arith), field_in order file start 24 16 8 (omega arith))

pub part_length : (file part : List ℕ) (start len : ℕ) → start + len ≤ length file → part ≡ bytes_at file start len → length part ≡ len
part_length file part start len h is = ap length is ∙ length-take-le len (drop start file) (omega (arith, length-drop start file))

fields_32 : (order : ByteOrder) (part : List ℕ) (name value size info other section : ℕ) → name ≡ number order (bytes_at part 0 4) → value ≡ number order (bytes_at part 4 4) → size ≡ number order (bytes_at part 8 4) → info ≡ number order (bytes_at part 12 1) → other ≡ number order (bytes_at part 13 1) → section ≡ number order (bytes_at part 14 2)
    → record { name = name; value = value; size = size; info = info; other = other; section = section } ≡ symbol_at elf32 order part 0
unfolding symbol_at elf32
fields_32 order part name value size info other section is_name is_value is_size is_info is_other is_section = cc

-- a row of 32 bits whose fields are read from its bytes alone is the file's
pub row_of_32_is : (order : ByteOrder) (file part : List ℕ) (start name value size info other section : ℕ) → part ≡ bytes_at file start 16
    → name ≡ number order (bytes_at part 0 4) → value ≡ number order (bytes_at part 4 4) → size ≡ number order (bytes_at part 8 4) → info ≡ number order (bytes_at part 12 1) → other ≡ number order (bytes_at part 13 1) → section ≡ number order (bytes_at part 14 2)
    → record { name = name; value = value; size = size; info = info; other = other; section = section } ≡ symbol_at elf32 order file start
row_of_32_is order file part start name value size info other section is is_name is_value is_size is_info is_other is_section =
    fields_32 order part name value size info other section is_name is_value is_size is_info is_other is_section
    ∙ ap (λ (l : List ℕ). symbol_at elf32 order l 0) is ∙ row_of_32_in order file start

fields_64 : (order : ByteOrder) (part : List ℕ) (name value size info other section : ℕ) → name ≡ number order (bytes_at part 0 4) → value ≡ number order (bytes_at part 8 8) → size ≡ number order (bytes_at part 16 8) → info ≡ number order (bytes_at part 4 1) → other ≡ number order (bytes_at part 5 1) → section ≡ number order (bytes_at part 6 2)
    → record { name = name; value = value; size = size; info = info; other = other; section = section } ≡ symbol_at elf64 order part 0
unfolding symbol_at elf64
fields_64 order part name value size info other section is_name is_value is_size is_info is_other is_section = cc

-- a row of 64 bits whose fields are read from its bytes alone is the file's
pub row_of_64_is : (order : ByteOrder) (file part : List ℕ) (start name value size info other section : ℕ) → part ≡ bytes_at file start 24
    → name ≡ number order (bytes_at part 0 4) → value ≡ number order (bytes_at part 8 8) → size ≡ number order (bytes_at part 16 8) → info ≡ number order (bytes_at part 4 1) → other ≡ number order (bytes_at part 5 1) → section ≡ number order (bytes_at part 6 2)
    → record { name = name; value = value; size = size; info = info; other = other; section = section } ≡ symbol_at elf64 order file start
row_of_64_is order file part start name value size info other section is is_name is_value is_size is_info is_other is_section =
    fields_64 order part name value size info other section is_name is_value is_size is_info is_other is_section
    ∙ ap (λ (l : List ℕ). symbol_at elf64 order l 0) is ∙ row_of_64_in order file start
