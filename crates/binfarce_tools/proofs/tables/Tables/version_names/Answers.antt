use Rattle.std.proofs.Common.{ℕ, List, Option, ap, ◌∙◌}
use Rattle.binfarce_tools.proofs.TablesGive.{versions_are}
use Rattle.binfarce_tools.proofs.tables.Tables.version_names.Goals as goal

pub returns-clause-file : goal.returns-clause-file
returns-clause-file c = λ which file section seen are answer version.
    c.versions_read.ensures version ∙ ap (λ (names : ℕ → Option (List ℕ)). names version) (versions_are which file section c.args.self.now seen are answer)
