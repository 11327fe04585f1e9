use Rattle.binfarce_sections.proofs.TablesRead.{unknown_opens}
use Rattle.binfarce_sections.proofs.tables.Tables.sections.Goals as goal

pub returns-in-Unknown-clause-opens : goal.returns-in-Unknown-clause-opens
returns-in-Unknown-clause-opens c = λ file are. unknown_opens file c.args.self.now c.in-Unknown.is are
