-- The identity of a file of any format.
use Rattle.std.specs.Prelude.{ℕ, List, None, Ok}
use Rattle.binfarce_bytes.specs.Part.{Part}
use Rattle.binfarce_bytes.specs.declared.format.Format.{Format}
use Rattle.binfarce_bytes.specs.declared.format.Format.TheVariants.{Elf32, Elf64, Macho, PE, Unknown}
use Rattle.binfarce_elf.specs.declared.class.Width.TheVariants.{Bits32, Bits64}
use Rattle.binfarce_identity.specs.ElfIdentity.{elf_reading}
use Rattle.binfarce_identity.specs.Identity.{Answer}
use Rattle.binfarce_identity.specs.MachoIdentity.{macho_reading}
use Rattle.binfarce_identity.specs.PeIdentity.{pe_reading}
use Rattle.binfarce_tables.specs.Readings.{answered, answer_of, parts_of}
use Rattle.binfarce_identity.specs.Reading.{Reading}

-- the reading of a file of this format
abbrev pub identity_reading : Format → Reading
identity_reading (Elf32 order) = elf_reading Bits32 order
identity_reading (Elf64 order) = elf_reading Bits64 order
identity_reading Macho = macho_reading
identity_reading PE = pe_reading
identity_reading Unknown = answered (Ok None)

-- its identity, and the parts of the file that are read for it
abbrev pub identity_of : Format → (file : List ℕ) → Answer
identity_of format file = answer_of file (identity_reading format)

abbrev pub identity_parts : Format → (file : List ℕ) → List Part
identity_parts format file = parts_of file (identity_reading format)
