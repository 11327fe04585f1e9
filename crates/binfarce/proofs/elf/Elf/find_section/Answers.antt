use Rattle.std.proofs.Common.{ap}
use Rattle.binfarce_bytes.specs.Refusal.{Refusal, refusal_of, unexpected_eof}
use Rattle.binfarce_bytes.specs.declared.parser.UnexpectedEof.{UnexpectedEof}
use Rattle.binfarce_elf.specs.Elf.{walk}
use Rattle.binfarce_elf.specs.ElfViews.{section_view}
use Rattle.binfarce_bytes.proofs.Firsts.{retold}
use Rattle.binfarce.proofs.Searches.{refused}
use Rattle.binfarce.proofs.elf.Elf.find_section.Goals as goal

pub returns : goal.returns
returns g c =
    let why : UnexpectedEof → Refusal = λ _. unexpected_eof in
    retold why refusal_of (section_view g.C.Class.number_of) _ _ _ c.in_ok-first_section.field-0 (ap (walk g.C.Class.table) c.section_table.ensures) c.in_ok-first_section.ensures

pub returns-in_err-first_section : goal.returns-in_err-first_section
returns-in_err-first_section g c =
    refused (section_view g.C.Class.number_of) _ _ _ c.from_residual.result (ap (walk g.C.Class.table) c.section_table.ensures) c.from_residual.ensures.1 c.in_err-first_section.ensures
