use Rattle.std.proofs.Common.{◌∙◌, ◌++◌, ◌∷◌, [], List, ℕ, ap, append_assoc}
use Rattle.binfarce_frames.specs.Frames.{offset_in}
use Rattle.binfarce_frames.specs.Rest.{names_of}
use Rattle.binfarce_frames.proofs.Steps.{released}
use Rattle.binfarce_frames.proofs.Frames.release.Goals as goal

pub returns-clause-released : goal.returns-clause-released
returns-clause-released c =
    let offset = offset_in (names_of c.args.self.now) c.args.self.now.line.items c.args.is_end in (
      offset ++ 41 ∷ [],
      c.in_ok-push.ensures.items ∙ ap (λ (t : List ℕ). t ++ 41 ∷ []) (c.in_ok-push_offset.ensures ∙ ap (λ (line : List ℕ). c.args.out.now.items ++ offset_in (names_of c.args.self.now) line c.args.is_end) c.deref.ensures.value) ∙ append_assoc c.args.out.now.items offset (41 ∷ []),
      λ text end. released c.args.self.now c.go_on.new.self c.args.is_end text c.if-not-self.false c.in_ok-go_on.ensures.1 c.in_ok-go_on.ensures.0 c.in_ok-go_on.ensures.2 end,
    )
