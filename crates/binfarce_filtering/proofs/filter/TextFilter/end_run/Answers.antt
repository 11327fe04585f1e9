use Rattle.std.proofs.Common.{ℕ, List, [], ◌∷◌, ◌++◌, ap, ◌∙◌, append_assoc}
use Rattle.binfarce_filtering.proofs.Parts.{ended}
use Rattle.binfarce_filtering.proofs.filter.TextFilter.end_run.Goals as goal

pub returns-clause-goes : goal.returns-clause-goes
returns-clause-goes c =
    let shown = c.in_ok-show_run.ensures.shown in
    let last = c.args.other ∷ [] in (
      shown.0 ++ last,
      ended c.args.self.now c.show_run.new.self.full c.clear.new.self.items c.args.bytes.now c.args.other shown.0 c.in_ok-show_run.ensures.full c.clear.ensures.items c.requires.run c.requires.other shown.1,
      c.in_ok-push.ensures.items ∙ ap (λ (x : List ℕ). x ++ last) shown.2 ∙ append_assoc c.args.out.now.items shown.0 last,
    )
