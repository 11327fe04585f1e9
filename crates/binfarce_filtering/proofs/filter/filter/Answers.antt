use Rattle.std.proofs.Common.{ℕ, List, ◌≡◌, ◌++◌, ◌-◌, true, length, take, drop, sym, ap, subst, ◌∙◌}
use Rattle.binfarce_filtering.specs.Filter.{IsFiltered, is_run}
use Rattle.binfarce_filtering.proofs.Runs.{all_runs, from_here}
use Rattle.binfarce_filtering.proofs.filter.filter.Goals as goal

pub push_run-requires : goal.push_run-requires
push_run-requires c =
    let P : List ℕ → Type 0 = λ x. is_run x ≡ true in subst P (sym (from_here c.args.text.now c.in_ok-at.at)) c.in_ok-at.ensures.run

pub returns : goal.returns
returns c =
    let text = c.args.text.now in
    let at = c.in_ok-at.at in
    let run = take (length text - at) (drop at text) in
    let shown = c.in_ok-at.ensures.shown in
    let last = c.in_ok-push_run.ensures in
    let P : List ℕ → Type 0 = λ x. is_run x ≡ true in
    let is : IsFiltered c.args.full text (shown.0 ++ last.0) = all_runs c.args.full text shown.0 run last.0 at shown.1 (from_here text at) (subst P (sym (from_here text at)) c.in_ok-at.ensures.run) last.1 in
    let out : c.push_run.new.out.items ≡ shown.0 ++ last.0 = last.2 ∙ ap (λ (x : List ℕ). x ++ last.0) (shown.2 ∙ ap (λ (x : List ℕ). x ++ shown.0) c.new-out.ensures.items) in
    subst (λ (x : List ℕ). IsFiltered c.args.full text x) (sym out) is
