use Rattle.std.proofs.Common.{ℕ, List, ◌≡◌, true, false, take, subst}
use Rattle.std.proofs.lemmas.List.{take-take}
use Rattle.binfarce_filtering.specs.machine.Scan.{is_plain}
use Rattle.binfarce_filtering.proofs.Scans.{plain_front, plain_stays}
use Rattle.binfarce_filtering.proofs.filter.plain_len.Goals as goal

pub returns-clause-stays : goal.returns-clause-stays
returns-clause-stays c =
    let text = c.args.text.now in
    let start = c.run_start.result in
    let end = c.mark_at.result in
    let P : List ℕ → Type 0 = λ x. is_plain false x ≡ true in
    plain_stays (take start text) (subst P (take-take start end text c.run_start.ensures.within) (plain_front false start (take end text) c.mark_at.ensures.plain)) c.run_start.ensures.outside
