-- A source without a length.
use Rattle.std.proofs.Common.{◌≡◌, Bool, false, List, ℕ, refl}
use Rattle.std.proofs.lemmas.List.Elements.{All-head}
use Rattle.binfarce_bytes.specs.declared.format.Format.{Format}
use Rattle.binfarce_bytes.specs.declared.format.Format.TheVariants.{Elf32, Elf64, Macho, PE, Unknown}
use Rattle.binfarce_bytes.specs.Part.{Part, part}
use Rattle.binfarce_bytes.specs.Source.{ReadsOnly}
use Rattle.binfarce_elf.specs.Classes.{class_of}
use Rattle.binfarce_elf.specs.declared.class.Width.TheVariants.{Bits32, Bits64}
use Rattle.binfarce_tables.proofs.Sure.{unmeasured}
use Rattle.binfarce_identity.specs.ElfIdentity.{elf_reading}
use Rattle.binfarce_identity.specs.FileIdentity.{identity_parts}
use Rattle.binfarce_identity.specs.MachoIdentity.{macho_reading}
use Rattle.binfarce_identity.specs.PeIdentity.{pe_reading}
use Rattle.binfarce_tables.specs.Readings.{parts_of}

-- it surely gives none of the parts of a file of a known format
pub no_length : {sure : Part → Bool} {log : (Part → Bool) → Bool} {R : Type 0} (format : Format) (file : List ℕ) → (format ≡ Unknown → ⊥) → ((q : Part) → sure q ≡ false)
    → ReadsOnly sure log log (identity_parts format file) R
unfolding parts_of elf_reading macho_reading pe_reading
no_length (Elf32 order) file is unsure = unmeasured (part 0 (class_of Bits32).header_length) (λ P all. All-head P _ _ all) unsure
no_length (Elf64 order) file is unsure = unmeasured (part 0 (class_of Bits64).header_length) (λ P all. All-head P _ _ all) unsure
no_length Macho file is unsure = unmeasured (part 0 28) (λ P all. All-head P _ _ all) unsure
no_length PE file is unsure = unmeasured (part 0x3C 4) (λ P all. All-head P _ _ all) unsure
no_length Unknown file is unsure = absurd (is refl)
