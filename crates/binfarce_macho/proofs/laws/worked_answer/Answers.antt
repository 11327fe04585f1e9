use Rattle.std.proofs.Common.{refl}
use Rattle.binfarce_bytes.specs.Sizes.{arranged, least_above}
use Rattle.binfarce_bytes.proofs.Computing.{computing}
use Rattle.binfarce_macho.specs.Macho.{header_fields, header_of, commands_from, section_fields, section_at, flags_at, segment, sections_of, walk}
use Rattle.binfarce_macho.specs.MachoSymbols.{symbol_table_fields, symbol_table_at, symbol_fields, symbol_at, located_at, located, macho_size, entry_of, kept, answer_of, macho_answer}
use Rattle.binfarce_macho.proofs.laws.worked_answer.Goals as goal

pub returns : goal.returns
unfolding computing arranged least_above header_fields header_of commands_from section_fields section_at flags_at segment sections_of walk symbol_table_fields symbol_table_at symbol_fields symbol_at located_at located macho_size entry_of kept answer_of macho_answer
returns c = (refl, refl, refl, refl, refl)
