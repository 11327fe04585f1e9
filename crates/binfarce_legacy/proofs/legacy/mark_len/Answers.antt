use Rattle.std.proofs.Common.{sym}
use Rattle.binfarce_legacy.proofs.PieceLemmas.{name_chars-marked, name_chars-unmarked}
use Rattle.binfarce_legacy.proofs.legacy.mark_len.Goals as goal

pub returns-then-starts_with-clause-value : goal.returns-then-starts_with-clause-value
returns-then-starts_with-clause-value c = name_chars-marked c.args.name.now (sym c.if-starts_with.ensures.value)

pub returns-else-starts_with-clause-value : goal.returns-else-starts_with-clause-value
returns-else-starts_with-clause-value c = name_chars-unmarked c.args.name.now (sym c.if-starts_with.ensures.value)
