use Rattle.std.proofs.Common.{◌≡◌, ◌∙◌, true, Option, Ok, ap, subst, sym}
use Rattle.binfarce_tools.specs.declared.tables.Tables.{Tables}
use Rattle.binfarce_tools.specs.SectionAnswer.{is_elf}
use Rattle.binfarce_jobs.specs.machine.Dynamic.{IsDynamic}
use Rattle.binfarce_jobs.proofs.Dynamic.{by_dynsym}
use Rattle.binfarce_jobs.proofs.at.tables_after.Goals as goal

pub returns-in-Some : goal.returns-in-Some
returns-in-Some g c = λ file is same reads.
    let symbols = c.args.symbols.now in
    let may_fail = g.S.Source.may_fail c.args.source.now ≡ true in
    let read = subst (λ (found : Option Tables). IsDynamic symbols file may_fail (Ok found)) c.in-Some.is (c.in_ok-tables.ensures file is) in
    by_dynsym symbols file may_fail c.args.e c.in-Some.tables reads (sym c.is_no_symtab.ensures ∙ c.if-is_no_symtab.true)
    (sym (ap is_elf same) ∙ (sym c.is_elf.ensures ∙ c.if-is_elf.true)) read
