use Rattle.std.proofs.Common.{nat_lt, ap₂, sym, ◌∙◌}
use Rattle.binfarce_legacy.proofs.LaneLemmas.{any_mark}
use Rattle.binfarce_legacy.proofs.runs.has_mark_among.Goals as goal

pub returns : goal.returns
returns c = ap₂ nat_lt c.len_before.ensures (sym c.requires) ∙ any_mark c.args.bytes.now
