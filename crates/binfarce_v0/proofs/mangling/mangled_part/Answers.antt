use Rattle.std.proofs.Common.{sym, ◌∙◌}
use Rattle.binfarce_v0.proofs.RestLemmas.{rest_not_allowed}
use Rattle.binfarce_v0.proofs.mangling.mangled_part.Goals as goal

pub returns-in_err-part : goal.returns-in_err-part
returns-in_err-part c =
    rw c.from_residual.ensures (λ part v. c.in_err-part.ensures part v.after v.mangling)

pub returns-else-is_allowed_rest : goal.returns-else-is_allowed_rest
returns-else-is_allowed_rest c =
    rest_not_allowed c.args.text.now c.in_ok-part.part.now c.in_ok-part.after c.in_ok-part.ensures (rw (← c.rest_from.ensures, ← c.as_bytes.ensures.value) (sym c.is_allowed_rest.ensures ∙ c.if-is_allowed_rest.false))
