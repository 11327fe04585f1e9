use Rattle.std.proofs.Common.{◌≡◌, ℕ, ◌+◌, sym, ap, ◌∙◌}
use Rattle.std.specs.List.{sum_by}
use Rattle.binfarce.specs.Symbol.{Entry}
use Rattle.binfarce.specs.SymbolViews.{function_view}
use Rattle.binfarce_tools.specs.Report.{Share}
use Rattle.binfarce_tools.specs.Entries.{functions_left}
use Rattle.binfarce_tools.proofs.CrateSums.{all_added, all_sizes, checked, fit_more, one_share, one_size, total_is}
use Rattle.binfarce_tools.proofs.report.crate_sums.Goals as goal

pub loop-function-preserved : goal.loop-function-preserved
loop-function-preserved c =
    let share = c.in_ok-add_function.ensures in
    let before = functions_left c.loop-function.function-iterator in
    let left = functions_left c.next.new.self in
    let entry = function_view c.in-Some.function in
    let sum = checked (c.loop-function.total + c.in-Some.function.size) c.in_ok-total.total c.checked_add.result c.checked_add.ensures c.in_ok-total.ensures.ok_part in
    let size : share.0.size ≡ entry.size = ap (λ (s : Share). s.size) share.1.2 in
    record {
      sums = one_share (functions_left c.args.functions) before left entry share.0 c.loop-function.crates c.add_function.new.crates c.in-Some.ensures.steps share.1 share.2 c.loop-function.invariant.sums;
      total = one_size before left entry c.loop-function.total c.in_ok-total.total (sum_by (λ (e : Entry). e.size) (functions_left c.args.functions)) c.in-Some.ensures.steps sum.1 c.loop-function.invariant.total;
      fit = fit_more c.loop-function.crates c.add_function.new.crates share.0 c.loop-function.total c.in_ok-total.total share.2 c.loop-function.invariant.fit (sum.1 ∙ ap (λ (n : ℕ). c.loop-function.total + n) (sym size));
      below = rw sum.1 sum.0;
    }

pub returns : goal.returns
returns c =
    let all = functions_left c.args.functions in
    let left = functions_left c.loop-function.function-iterator in
    let shares = all_added all left c.loop-function.crates c.in-None.ensures.steps.0 c.loop-function.invariant.sums in (
      shares.0,
      shares.1,
      record {
        sums_are = shares.2;
        crates_are = shares.3;
        total_is = total_is all shares.0 shares.1 ∙ all_sizes left c.loop-function.total (sum_by (λ (e : Entry). e.size) all) c.in-None.ensures.steps.0 c.loop-function.invariant.total;
        fits = c.loop-function.invariant.below;
      },
    )
