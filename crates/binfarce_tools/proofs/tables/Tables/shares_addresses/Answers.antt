use Rattle.std.proofs.Common.{◌∙◌}
use Rattle.binfarce_tools.proofs.TablesGive.{sharing_is}
use Rattle.binfarce_tools.proofs.tables.Tables.shares_addresses.Goals as goal

pub returns : goal.returns
returns c = λ which file section seen are answer. c.sharing_read.ensures ∙ sharing_is which file section c.args.self.now seen are answer
