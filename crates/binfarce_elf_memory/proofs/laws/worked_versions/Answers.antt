use Rattle.std.proofs.Common.{refl}
use Rattle.binfarce_bytes.proofs.Computing.{computing}
use Rattle.binfarce_elf_memory.specs.Versions.{definition_at, definitions_from}
use Rattle.binfarce_elf_memory.proofs.laws.worked_versions.Goals as goal

pub returns : goal.returns
unfolding computing definition_at definitions_from
returns c = (refl, refl, refl, refl)
