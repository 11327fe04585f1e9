use Rattle.std.proofs.Common.{◌+◌, ◌-◌, arith}
use Rattle.std.specs.Char.{is_ascii_alphanumeric}
use Rattle.binfarce_text.proofs.Lanes.{run_ends}
use Rattle.binfarce_v0_grammar.proofs.numbers.digits_end.Goals as goal

pub returns-then-run-lt-STRIDE-clause-value : goal.returns-then-run-lt-STRIDE-clause-value
returns-then-run-lt-STRIDE-clause-value c =
    let part = c.args.part.now in
    let start = c.args.start in
    let found = c.digit_run-run.ensures in
    let short = c.if-run-lt-STRIDE.true in
    omega (arith, found, run_ends is_ascii_alphanumeric part start 16 (start + 16 - start) (omega arith) (omega (arith, found, short)))
