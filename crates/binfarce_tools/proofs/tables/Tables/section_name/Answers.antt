use Rattle.std.proofs.Common.{ℕ, List, Option, ap, ◌∙◌}
use Rattle.binfarce_tools.proofs.TablesGive.{names_are}
use Rattle.binfarce_tools.proofs.tables.Tables.section_name.Goals as goal

pub returns-clause-file : goal.returns-clause-file
returns-clause-file c = λ which file section seen are answer none.
    c.name_read.ensures ∙ ap (λ (names : ℕ → Option (List ℕ)). names c.args.number) (names_are which file section c.args.self.now seen are answer none)
