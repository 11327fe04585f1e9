use Rattle.std.proofs.Common.{refl}
use Rattle.binfarce_bytes.specs.Refusal.{bytes_in_file}
use Rattle.binfarce_bytes.proofs.Computing.{computing}
use Rattle.binfarce_elf.specs.Elf.{elf32, name_of, section_at, walk}
use Rattle.binfarce_elf.specs.ElfSymbols.{elf_answer, entries_of, entry_of, section_data, symbol_at}
use Rattle.binfarce_elf.proofs.laws.worked_answer.Goals as goal

pub returns : goal.returns
unfolding computing bytes_in_file elf32 name_of section_at walk elf_answer entries_of entry_of section_data symbol_at
returns c = (refl, refl)
