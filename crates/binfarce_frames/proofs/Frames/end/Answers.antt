use Rattle.std.proofs.Common.{◌∙◌, ◌++◌, [], List, ℕ, ap, append-nil, refl, sym}
use Rattle.binfarce_frames.proofs.Steps.{ended}
use Rattle.binfarce_frames.proofs.Frames.end.Goals as goal

pub returns : goal.returns
returns c =
    let (added, wrote, left) = c.in_ok-release.ensures.released in
    wrote ∙ ap (λ (t : List ℕ). c.args.out.now.items ++ t) (sym (left [] refl ∙ ap (λ (t : List ℕ). added ++ t) (ended c.release.new.self c.in_ok-release.ensures.held) ∙ append-nil added))
