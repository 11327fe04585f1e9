use Rattle.std.proofs.Common.{◌∙◌, ◌++◌, ◌∷◌, [], List, ℕ, ap, append_assoc, sym, refl}
use Rattle.binfarce_frames.proofs.Steps.{goes_on}
use Rattle.binfarce_frames.proofs.Frames.push.Goals as goal

pub returns : goal.returns
returns c =
    let (added, wrote, left) = c.in_ok-release.ensures.released in
    let b = c.args.byte in (
      added ++ b ∷ [],
      c.in_ok-push.ensures.items ∙ ap (λ (t : List ℕ). t ++ b ∷ []) wrote ∙ append_assoc c.args.out.now.items added (b ∷ []),
      λ text. left (b ∷ text) refl ∙ ap (λ (t : List ℕ). added ++ t) (goes_on c.release.new.self c.go_on.new.self b text c.in_ok-release.ensures.held c.if-byte-eq41.false (c.in_ok-go_on.ensures.1 ∙ c.in_ok-release.ensures.held) c.in_ok-go_on.ensures.0 c.in_ok-go_on.ensures.2)
          ∙ sym (append_assoc added (b ∷ []) _),
    )
