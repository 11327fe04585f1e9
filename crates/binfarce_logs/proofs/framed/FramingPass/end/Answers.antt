use Rattle.std.proofs.Common.{◌≡◌, ◌∙◌, ◌++◌, List, ℕ, ap, append_assoc, []}
use Rattle.binfarce_frames.specs.Rest.{rest}
use Rattle.binfarce_logs.specs.machine.Framing.{with_frames}
use Rattle.binfarce_logs.proofs.Annotating as whole
use Rattle.binfarce_logs.proofs.Framing.{breaks_off, ends}
use Rattle.binfarce_logs.proofs.framed.FramingPass.end.Goals as goal

pub returns-clause-makes : goal.returns-clause-makes
returns-clause-makes g c =
    let old = c.args.self.now in
    let (one, goes, wrote) = c.in_ok-push.ensures.shows in
    let (two, last, ended) = c.in_ok-push-2.ensures.shows in
    let bytes = c.deref.ensures.value ∙ c.in_ok-end.ensures ∙ ap (λ (t : List ℕ). t ++ rest old.frames []) c.new-framed.ensures.items in (
      one ++ two,
      λ first text made holds. ends old (record { frames = c.end.new.self; pass = c.push.new.self }) (record { frames = c.end.new.self; pass = c.push-2.new.self }) c.deref.result.now one two bytes goes last first text made holds,
      ended ∙ ap (λ (t : List ℕ). t ++ two) wrote ∙ append_assoc c.args.out.now.items one two,
    )

pub returns-clause-breaks_off : goal.returns-clause-breaks_off
returns-clause-breaks_off g c = λ first now text part made others holds. breaks_off first now text part made others holds

pub returns-clause-done : goal.returns-clause-done
returns-clause-done g c = λ first now ended text made others is. whole.breaks_off_done first.pass now.pass.files.counts (with_frames first text) made others is

pub returns-in_err-end-clause-breaks_off : goal.returns-in_err-end-clause-breaks_off
returns-in_err-end-clause-breaks_off g c = λ first now text part made others holds. breaks_off first now text part made others holds

pub returns-in_err-push-clause-breaks_off : goal.returns-in_err-push-clause-breaks_off
returns-in_err-push-clause-breaks_off g c = λ first now text part made others holds. breaks_off first now text part made others holds

pub returns-in_err-push-2-clause-breaks_off : goal.returns-in_err-push-2-clause-breaks_off
returns-in_err-push-2-clause-breaks_off g c = λ first now text part made others holds. breaks_off first now text part made others holds
