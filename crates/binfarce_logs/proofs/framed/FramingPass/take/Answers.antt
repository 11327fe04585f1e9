use Rattle.std.proofs.Common.{◌≡◌, ◌∙◌, ◌++◌, List, ℕ, ap}
use Rattle.binfarce_logs.proofs.Framing.{breaks_off, goes_on}
use Rattle.binfarce_logs.proofs.framed.FramingPass.take.Goals as goal

pub returns-clause-makes : goal.returns-clause-makes
returns-clause-makes g c =
    let (added, is, next) = c.in_ok-take.ensures in
    let (more, annotates, wrote) = c.in_ok-push.ensures.shows in
    let bytes = c.deref.ensures.value ∙ is ∙ ap (λ (t : List ℕ). t ++ added) c.new-framed.ensures.items in
    (more, λ first text made holds. goes_on c.args.self.now (record { frames = c.take.new.self; pass = c.push.new.self }) c.args.part.now added c.deref.result.now more next bytes annotates first text made holds, wrote)

pub returns-clause-breaks_off : goal.returns-clause-breaks_off
returns-clause-breaks_off g c = λ first now text part made others holds. breaks_off first now text part made others holds

pub returns-in_err-take-clause-breaks_off : goal.returns-in_err-take-clause-breaks_off
returns-in_err-take-clause-breaks_off g c = λ first now text part made others holds. breaks_off first now text part made others holds

pub returns-in_err-push-clause-breaks_off : goal.returns-in_err-push-clause-breaks_off
returns-in_err-push-clause-breaks_off g c = λ first now text part made others holds. breaks_off first now text part made others holds
