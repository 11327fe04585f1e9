use Rattle.std.proofs.Common.{◌≡◌, ◌+◌, ◌-◌, ℕ, ap, ap₂, sym, ◌∙◌, arith}
use Rattle.binfarce_macho.specs.Macho.{Command, header_of}
use Rattle.binfarce_macho.specs.MachoParts.{holds_body, holds_from}
use Rattle.binfarce_macho.proofs.Held.{none_wanted, head_truncated, size_refused, body_truncated, one_held, count_is}
use Rattle.binfarce_macho.proofs.parts.holds_commands.Goals as goal

pub returns-in-Err : goal.returns-in-Err
returns-in-Err c =
    let file = c.args.file.now in
    let count = count_is file c.args.header c.requires in
    let truncated = c.in-Err.ensures in
    sym (head_truncated file ((header_of file).ncmds - c.loop-k._k) c.loop-k.offset (omega (arith, count, c.loop-k-test.true)) truncated) ∙ c.loop-k.invariant

pub returns-then-command-lt-COMMAND_HEAD : goal.returns-then-command-lt-COMMAND_HEAD
returns-then-command-lt-COMMAND_HEAD c =
    let file = c.args.file.now in
    let count = count_is file c.args.header c.requires in
    let at = c.in-Ok.ensures in
    let size = ap (λ (k : Command). k.size) at.1 in
    sym (size_refused file ((header_of file).ncmds - c.loop-k._k) c.loop-k.offset (omega (arith, count, c.loop-k-test.true)) at.0 (omega (arith, size, c.if-command-lt-COMMAND_HEAD.true))) ∙ c.loop-k.invariant

pub returns-then-not-holds_body : goal.returns-then-not-holds_body
returns-then-not-holds_body c =
    let file = c.args.file.now in
    let count = count_is file c.args.header c.requires in
    let at = c.in-Ok.ensures in
    let size = ap (λ (k : Command). k.size) at.1 in
    let short = c.holds_body.ensures in
    sym (body_truncated file ((header_of file).ncmds - c.loop-k._k) c.loop-k.offset (omega (arith, count, c.loop-k-test.true)) at.0 (omega (arith, size, c.if-command-lt-COMMAND_HEAD.false)) (ap (holds_body file) (sym at.1) ∙ sym short ∙ c.if-not-holds_body.true)) ∙ c.loop-k.invariant

pub loop-k-preserved : goal.loop-k-preserved
loop-k-preserved c =
    let file = c.args.file.now in
    let count = count_is file c.args.header c.requires in
    let at = c.in-Ok.ensures in
    let size = ap (λ (k : Command). k.size) at.1 in
    let held = c.holds_body.ensures in
    let left : ((header_of file).ncmds - c.loop-k._k) - 1 ≡ (header_of file).ncmds - (c.loop-k._k + 1) = omega arith in
    sym (one_held file ((header_of file).ncmds - c.loop-k._k) c.loop-k.offset (omega (arith, count, c.loop-k-test.true)) at.0 (omega (arith, size, c.if-command-lt-COMMAND_HEAD.false)) (ap (holds_body file) (sym at.1) ∙ sym held ∙ c.if-not-holds_body.false)
    ∙ ap₂ (λ (n o : ℕ). holds_from file n o) left (ap (λ (s : ℕ). c.loop-k.offset + s) (sym size) ∙ sym c.to_index-offset.ensures))
    ∙ c.loop-k.invariant

pub returns : goal.returns
returns c =
    let file = c.args.file.now in
    let count = count_is file c.args.header c.requires in
    sym (none_wanted file ((header_of file).ncmds - c.loop-k._k) c.loop-k.offset (omega (arith, count, c.loop-k-test.false))) ∙ c.loop-k.invariant
