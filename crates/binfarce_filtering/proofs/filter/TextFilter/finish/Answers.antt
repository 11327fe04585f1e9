use Rattle.std.proofs.Common.{ℕ, List, [], ◌≡◌, ◌++◌}
use Rattle.binfarce_filtering.specs.FilterViews.{IsDone, Shows}
use Rattle.binfarce_filtering.proofs.Parts.{done, on_ok}
use Rattle.binfarce_filtering.proofs.filter.TextFilter.finish.Goals as goal

pub returns : goal.returns
returns c =
    let self = c.args.self.now in
    let out = c.args.out.now.items in
    on_ok ((more : List ℕ) × Shows self [] more × (c.show_run.new.out.items ≡ out ++ more)) ((more : List ℕ) × IsDone self more × (c.show_run.new.out.items ≡ out ++ more)) c.show_run.result
    (λ s. (s.0, done self s.0 s.1, s.2)) c.show_run.ensures.shown
