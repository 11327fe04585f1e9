use Rattle.std.proofs.Common.{◌-◌, drop, length, take}
use Rattle.binfarce_sections.proofs.ChangeSums.{fit_less, part_le}
use Rattle.binfarce_sections.proofs.changes.Layout.first_rows.Goals as goal

pub push_others-requires : goal.push_others-requires
push_others-requires c =
    let changes = c.args.changes.now in
    let n = c.count_of-count.result in
    fit_less changes (take (length changes - n) (drop n changes)) c.requires (λ w adds. part_le w changes (length changes - n) n)
