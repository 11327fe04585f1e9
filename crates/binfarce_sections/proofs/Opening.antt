-- The sections of an ELF file that has its header.
use Rattle.std.proofs.Common.{◌≡◌, ◌≤◌, ℕ, List, length, Option, refl, ap, ◌∙◌}
use Rattle.std.proofs.lemmas.Bool.{le-ltb}
use Rattle.binfarce.specs.declared.ByteOrder.{ByteOrder}
use Rattle.binfarce.specs.Elf as elf
use Rattle.binfarce.specs.Walk.{Walk}
use Rattle.binfarce_sections.specs.Section.{elf_named, mapped, elf_sections}
use Rattle.binfarce_sections.specs.Views.{named_by}

abbrev pub table_of : elf.ElfClass → ByteOrder → List ℕ → elf.SectionTable
table_of class order file = elf.section_table class (record { order = order; bytes = file })

pub opened : (class : elf.ElfClass) (order : ByteOrder) (file : List ℕ) (names : Option (List ℕ)) (left : Walk elf.Section) → class.header_length ≤ length file
    → left ≡ elf.walk class (table_of class order file) → names ≡ elf.names_bytes class (table_of class order file) → mapped (elf_named (named_by names)) left ≡ elf_sections class order file
unfolding elf.name_of
opened class order file names left long is named =
    ap (λ (w : Walk elf.Section). mapped (elf_named (named_by names)) w) is
    ∙ ap (λ (n : Option (List ℕ)). mapped (elf_named (named_by n)) (elf.walk class (table_of class order file))) named
    ∙ rw (le-ltb (length file) class.header_length long) refl
