use Rattle.std.proofs.Common.{arith, rules}
use Rattle.binfarce_rows.proofs.Heads.{head_is_utf8}
use Rattle.binfarce_rows.proofs.head.push_head.Goals as goal

pub unwrap-requires : goal.unwrap-requires
unwrap-requires c =
    let text = head_is_utf8 c.args.address c.args.size c.put_head.new.head (omega arith) (omega arith) c.put_head.ensures in
    search (rules, text)
