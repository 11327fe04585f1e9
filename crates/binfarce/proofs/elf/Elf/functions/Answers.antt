use Rattle.std.proofs.Common.{Result, subst, sym}
use Rattle.binfarce_bytes.specs.Entries.{Listed}
use Rattle.binfarce_bytes.specs.Refusal.{Gives, Refusal, refusal_of}
use Rattle.binfarce_elf.specs.Elf.{section_table}
use Rattle.binfarce_elf_memory.proofs.Answered.{section_is_answered}
use Rattle.binfarce.specs.ElfFunctions.{functions_view}
use Rattle.binfarce.proofs.elf.Elf.functions.Goals as goal

pub returns : goal.returns
returns g c =
    let class = g.C.Class.table in
    subst (λ (answer : Result Listed Refusal). Gives refusal_of functions_view answer c.functions_by.result)
    (sym (section_is_answered class (section_table class c.args.self.now) c.args.section_name.now)) c.functions_by.ensures
