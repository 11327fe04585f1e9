-- The first bytes of an image's file name its layout.
use Rattle.std.proofs.Common.{◌≡◌, ℕ, Bool, false, List, ◌∷◌, length, drop, ltb, ap, arith}
use Rattle.std.specs.Prelude.{if◌then◌else◌}
use Rattle.std.proofs.lemmas.Bool.{le-ltb}
use Rattle.binfarce.specs.declared.Format.TheVariants.{Unknown}
use Rattle.binfarce.specs.Elf.{elf32, elf64}
use Rattle.binfarce.specs.Format.{elf_format_of, format_of}
use Rattle.binfarce_image.specs.declared.image.ElfLayout.{ElfLayout}
use Rattle.binfarce_image.specs.declared.image.ElfLayout.TheVariants.{Elf32Little, Elf32Big, Elf64Little, Elf64Big}
use Rattle.binfarce_image.specs.declared.image.Image.{Image}
use Rattle.binfarce_image.specs.Structure.{little_endian_bytes, number_bytes, put}
use Rattle.binfarce_image.specs.Image.{header_bytes, bytes, layout_format}

long : (a b c d e f g h : ℕ) (rest : List ℕ) → ltb (length (a ∷ b ∷ c ∷ d ∷ e ∷ f ∷ g ∷ h ∷ rest)) 8 ≡ false
long a b c d e f g h rest = le-ltb (length (a ∷ b ∷ c ∷ d ∷ e ∷ f ∷ g ∷ h ∷ rest)) 8 (omega arith)

-- eight bytes that begin with the magic number of ELF name the class and the order that they hold
elf_named : (class order g h : ℕ) (rest : List ℕ) → format_of (0x7F ∷ 0x45 ∷ 0x4C ∷ 0x46 ∷ class ∷ order ∷ g ∷ h ∷ rest) ≡ elf_format_of class order
unfolding format_of
elf_named class order g h rest = ap (λ (b : Bool). if b then Unknown else elf_format_of class order) (long 0x7F 0x45 0x4C 0x46 class order g h rest)

pub format_back : (image : Image) (layout : ElfLayout) → format_of (bytes image layout) ≡ layout_format layout
unfolding bytes header_bytes put number_bytes little_endian_bytes elf32 elf64
format_back image Elf32Little = elf_named 1 1 1 0 (drop 8 (bytes image Elf32Little))
format_back image Elf32Big = elf_named 1 2 1 0 (drop 8 (bytes image Elf32Big))
format_back image Elf64Little = elf_named 2 1 1 0 (drop 8 (bytes image Elf64Little))
format_back image Elf64Big = elf_named 2 2 1 0 (drop 8 (bytes image Elf64Big))
