use Rattle.std.proofs.Common.{rules}
use Rattle.binfarce_filtering.proofs.Runs.{run_is_utf8}
use Rattle.binfarce_filtering.proofs.filter.push_name.Goals as goal

pub unwrap-name_text-requires : goal.unwrap-name_text-requires
unwrap-name_text-requires c = let text = run_is_utf8 c.args.name.now c.requires in search (rules, text)
