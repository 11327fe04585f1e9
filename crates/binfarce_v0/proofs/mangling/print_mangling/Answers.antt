use Rattle.std.proofs.Common.{◌≡◌, Some, None, drop, ap, sym, subst, ◌∙◌}
use Rattle.binfarce_text.specs.Suffixes.{is_allowed_rest}
use Rattle.binfarce_v0.specs.machine.Mangling.{paths_end}
use Rattle.binfarce_v0.specs.machine.Outcome.{ReadsUpTo}
use Rattle.binfarce_v0.proofs.Validating.{past_limit, no_paths, bad_rest, good_rest, when, unless}
use Rattle.binfarce_v0.proofs.mangling.print_mangling.Goals as goal

pub returns-then-not-branch : goal.returns-then-not-branch
returns-then-not-branch c =
    λ text is. past_limit text c.args.printer.now.part is.0 (unless _ _ _ c.if-not-branch.true c.in_ok-print.ensures)

pub paths_end-requires-clause-known : goal.paths_end-requires-clause-known
paths_end-requires-clause-known c =
    let printed = rw (← c.printer.view_is) at (when _ _ _ c.if-not-branch.false c.in_ok-print.ensures) in
    subst (λ x. ReadsUpTo x c.printer.inside.at) (sym printed.0) printed.2.reads

pub returns-in_default : goal.returns-in_default
returns-in_default c =
    let printed = rw (← c.printer.view_is) at (when _ _ _ c.if-not-branch.false c.in_ok-print.ensures) in
    λ text is. no_paths text c.args.printer.now.part is.0 (subst (λ x. paths_end x ≡ None) printed.0 (sym c.paths_end.ensures ∙ c.in_default.is))

pub returns : goal.returns
returns c =
    let outcome = when _ _ _ c.if-not-branch.false c.in_ok-print.ensures in
    let printed = rw (← c.printer.view_is) at outcome in
    let ends = subst (λ x. paths_end x ≡ Some c.in-Some.after) printed.0 (sym c.paths_end.ensures ∙ c.in-Some.is) in
    let allowed = ap is_allowed_rest (sym c.as_bytes.ensures.value) ∙ sym c.is_allowed_rest.ensures ∙ c.if-not-is_allowed_rest.false in
    λ text is. (good_rest text c.args.printer.now.part c.rest_from-rest.result.now c.in-Some.after is ends (c.rest_from-rest.ensures ∙ ap (drop c.in-Some.after) printed.0) allowed, outcome)

pub returns-then-not-is_allowed_rest : goal.returns-then-not-is_allowed_rest
returns-then-not-is_allowed_rest c =
    let printed = rw (← c.printer.view_is) at (when _ _ _ c.if-not-branch.false c.in_ok-print.ensures) in
    let ends = subst (λ x. paths_end x ≡ Some c.in-Some.after) printed.0 (sym c.paths_end.ensures ∙ c.in-Some.is) in
    let bad = ap is_allowed_rest (sym (c.as_bytes.ensures.value ∙ c.rest_from-rest.ensures ∙ ap (drop c.in-Some.after) printed.0)) ∙ sym c.is_allowed_rest.ensures ∙ c.if-not-is_allowed_rest.true in
    λ text is. bad_rest text c.args.printer.now.part c.in-Some.after is ends bad
