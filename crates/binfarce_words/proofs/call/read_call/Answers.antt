use Rattle.std.proofs.Common.{ℕ, Option, map, subst}
use Rattle.binfarce_words.specs.Words.{call_read, utf8_checked}
use Rattle.binfarce_words.specs.WordViews.{Gives, argument_view, call_view}
use Rattle.binfarce_words.proofs.call.read_call.Goals as goal

pub returns-in-Some : goal.returns-in-Some
returns-in-Some c =
    let call = call_read (map argument_view c.args.arguments.now) in
    subst (λ (first : Option ℕ). Gives call_view (utf8_checked first call) c.check_utf8.result) c.in-Some.ensures (c.check_utf8.ensures call c.read_arguments-read.ensures)
