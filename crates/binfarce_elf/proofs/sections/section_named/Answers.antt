use Rattle.std.proofs.Common.{rules}
use Rattle.std.specs.Option.{option_map}
use Rattle.binfarce_bytes.specs.Refusal.{unexpected_eof}
use Rattle.binfarce_elf.specs.ElfViews.{section_view}
use Rattle.binfarce_elf.specs.Elf.{walk, name_among}
use Rattle.binfarce_elf.specs.ElfSymbols.{is_named}
use Rattle.binfarce_elf.specs.machine.RawElf.{table_view}
use Rattle.binfarce_bytes.proofs.Firsts.{first_is}
use Rattle.binfarce_elf.proofs.sections.section_named.Goals as goal

pub returns : goal.returns
returns g c =
    first_is (λ _. unexpected_eof) (section_view g.C.Class.number_of) _ (λ s. is_named c.args.name.now (name_among (option_map (λ b. b.now) c.args.names) s.name_offset)) (walk g.C.Class.table (table_view c.args.table)) c.first_section.result
    (λ value answer reported. search rules) c.first_section.ensures
