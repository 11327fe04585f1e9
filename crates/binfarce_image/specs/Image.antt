-- The ELF file of an image: the header, the bodies of the parts, and their section headers (System V gABI, chapter 4).
use Rattle.std.specs.Prelude.{ℕ, ◌+◌, ◌-◌, ◌*◌, List, [], ◌∷◌, ◌++◌, length, replicate}
use Rattle.std.specs.List.{flat_map}
use Rattle.binfarce.specs.declared.ByteOrder.{ByteOrder}
use Rattle.binfarce.specs.declared.ByteOrder.TheVariants.{LittleEndian, BigEndian}
use Rattle.binfarce.specs.declared.Format.{Format}
use Rattle.binfarce.specs.declared.Format.TheVariants.{Elf32, Elf64}
use Rattle.binfarce.specs.Field.{Field}
use Rattle.binfarce.specs.Elf.{ElfClass, elf32, elf64}
use Rattle.binfarce_image.specs.declared.image.ElfLayout.{ElfLayout}
use Rattle.binfarce_image.specs.declared.image.ElfLayout.TheVariants.{Elf32Little, Elf32Big, Elf64Little, Elf64Big}
use Rattle.binfarce_image.specs.declared.image.Image.{Image}
use Rattle.binfarce_image.specs.declared.image.Part.{Part}
use Rattle.binfarce_image.specs.declared.image.Part.TheVariants.{Bytes, Table}
use Rattle.binfarce_image.specs.declared.image.Row.{Row}
use Rattle.binfarce_image.specs.Structure.{filled}

abbrev pub class_of : ElfLayout → ElfClass
class_of Elf32Little = elf32
class_of Elf32Big = elf32
class_of Elf64Little = elf64
class_of Elf64Big = elf64

abbrev pub order_of : ElfLayout → ByteOrder
order_of Elf32Little = LittleEndian
order_of Elf32Big = BigEndian
order_of Elf64Little = LittleEndian
order_of Elf64Big = BigEndian

-- the format of a layout's files
abbrev pub layout_format : ElfLayout → Format
layout_format Elf32Little = Elf32 LittleEndian
layout_format Elf32Big = Elf32 BigEndian
layout_format Elf64Little = Elf64 LittleEndian
layout_format Elf64Big = Elf64 BigEndian

-- EI_CLASS: ELFCLASS32 or ELFCLASS64
abbrev pub class_byte : ElfLayout → ℕ
class_byte Elf32Little = 1
class_byte Elf32Big = 1
class_byte Elf64Little = 2
class_byte Elf64Big = 2

-- EI_DATA: ELFDATA2LSB or ELFDATA2MSB
abbrev pub order_byte : ElfLayout → ℕ
order_byte Elf32Little = 1
order_byte Elf32Big = 2
order_byte Elf64Little = 1
order_byte Elf64Big = 2

-- where a part's name begins among the section names
abbrev pub name_offset : Part → ℕ
name_offset (Bytes name kind link body) = name
name_offset (Table name link rows) = name

-- a table is SHT_SYMTAB
abbrev pub part_kind : Part → ℕ
part_kind (Bytes name kind link body) = kind
part_kind (Table name link rows) = 2

abbrev pub part_link : Part → ℕ
part_link (Bytes name kind link body) = link
part_link (Table name link rows) = link

-- how many bytes a part has in a file
abbrev pub body_length : ElfClass → Part → ℕ
body_length class (Bytes name kind link body) = length body.items
body_length class (Table name link rows) = length rows.items * class.symbol_length

-- the length of an entry of a part: of a table's row, and else 0
abbrev pub entry_length : ElfClass → Part → ℕ
entry_length class (Bytes name kind link body) = 0
entry_length class (Table name link rows) = class.symbol_length

-- where the bodies of the parts end, if the first begins at this offset
abbrev pub bodies_end : ElfClass → ℕ → List Part → ℕ
bodies_end class place [] = place
bodies_end class place (part ∷ parts) = bodies_end class (place + body_length class part) parts

-- the numbers of a symbol table entry
abbrev pub symbol_numbers : ElfClass → Row → List (Field × ℕ)
symbol_numbers class row =
    (class.symbol.name, row.name)
    ∷ (class.symbol.value, row.address)
    ∷ (class.symbol.size, row.size)
    ∷ (class.symbol.info, row.info)
    ∷ (class.symbol.other, row.other)
    ∷ (class.symbol.section, row.section)
    ∷ []

-- the numbers of a section header, for a part whose body begins at this offset; its other fields are 0
abbrev pub section_numbers : ElfClass → ℕ → Part → List (Field × ℕ)
section_numbers class place part =
    (class.section.name, name_offset part)
    ∷ (class.section.kind, part_kind part)
    ∷ (class.section.flags, 0)
    ∷ (class.section.addr, 0)
    ∷ (class.section.offset, place)
    ∷ (class.section.size, body_length class part)
    ∷ (class.section.link, part_link part)
    ∷ (class.section.addralign, 1)
    ∷ (class.section.entry_size, entry_length class part)
    ∷ []

-- the numbers of the header: ET_REL, EV_CURRENT, and where the section headers are; its other fields are 0
abbrev pub header_numbers : ElfClass → Image → List (Field × ℕ)
header_numbers class image =
    (class.header.elf_type, 1)
    ∷ (class.header.version, 1)
    ∷ (class.header.shoff, bodies_end class class.header_length image.parts.items)
    ∷ (class.header.ehsize, class.header_length)
    ∷ (class.header.shentsize, class.section_length)
    ∷ (class.header.shnum, length image.parts.items)
    ∷ (class.header.shstrndx, image.names_at)
    ∷ []

-- e_ident, of 16 bytes: the magic number, the class, the order, EV_CURRENT, and nine zero bytes
abbrev pub identification : ElfLayout → List ℕ
identification layout = 0x7F ∷ 0x45 ∷ 0x4C ∷ 0x46 ∷ class_byte layout ∷ order_byte layout ∷ 1 ∷ replicate 9 0

-- a symbol table entry
unfoldable pub symbol_bytes : ElfClass → ByteOrder → Row → List ℕ
symbol_bytes class order row = filled order (replicate class.symbol_length 0) (symbol_numbers class row)

-- the content of a part in a file: its bytes, or its rows in order
abbrev pub body : ElfClass → ByteOrder → Part → List ℕ
body class order (Bytes name kind link bytes) = bytes.items
body class order (Table name link rows) = flat_map (symbol_bytes class order) rows.items

-- a section header
unfoldable pub section_bytes : ElfClass → ByteOrder → ℕ → Part → List ℕ
section_bytes class order place part = filled order (replicate class.section_length 0) (section_numbers class place part)

-- the section headers of the parts; each body begins where the one before it ends, the first at this offset
abbrev pub section_headers : ElfClass → ByteOrder → ℕ → List Part → List ℕ
section_headers class order place [] = []
section_headers class order place (part ∷ parts) =
    section_bytes class order place part ++ section_headers class order (place + body_length class part) parts

-- the ELF header
unfoldable pub header_bytes : ElfLayout → Image → List ℕ
header_bytes layout image =
    let class = class_of layout in
    filled (order_of layout) (identification layout ++ replicate (class.header_length - 16) 0) (header_numbers class image)

-- the file: the header, the bodies in order, and the section headers in order
unfoldable pub bytes : Image → ElfLayout → List ℕ
bytes image layout =
    let class = class_of layout in
    let order = order_of layout in
    header_bytes layout image
    ++ (flat_map (body class order) image.parts.items
    ++ section_headers class order class.header_length image.parts.items)
