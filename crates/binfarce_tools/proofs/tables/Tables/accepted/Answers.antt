use Rattle.std.proofs.Common.{sym, ◌∙◌}
use Rattle.binfarce_tools.proofs.TablesGive.{accepted, answered, is_answered}
use Rattle.binfarce_tools.proofs.tables.Tables.accepted.Goals as goal
use Rattle.binfarce_tools.proofs.tables.Tables.accepted.Goals.{then-may_be_refused+in_ok-functions+in-Arranged-1, then-may_be_refused+in_ok-functions+in-Elf-1, else-may_be_refused}

pub returns : goal.returns
returns c = λ which file section are. accepted which file section c.args.self are
    (elim c.if-may_be_refused.branch [
      | then-may_be_refused+in_ok-functions+in-Arranged-1 w ↦ is_answered which file section w.in_ok-functions.field-0 (w.in_ok-functions.ensures.gets which file section are)
      | then-may_be_refused+in_ok-functions+in-Elf-1 w ↦ is_answered which file section w.in_ok-functions.field-0 (w.in_ok-functions.ensures.gets which file section are)
      | else-may_be_refused w ↦ answered which file section c.args.self are (sym c.may_be_refused.ensures ∙ w.if-may_be_refused.false)
    ])
