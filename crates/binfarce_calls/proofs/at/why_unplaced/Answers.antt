use Rattle.std.proofs.Common.{Some, refl, subst, sym}
use Rattle.binfarce_logs.specs.declared.maps.NoBase.{NoBase}
use Rattle.binfarce_io.specs.declared.message.Unplaced.TheVariants.{NotMapped}
use Rattle.binfarce_calls.specs.Placing.{IsWhy}
use Rattle.binfarce_calls.proofs.Placings.{name_in}
use Rattle.binfarce_calls.proofs.at.why_unplaced.Goals as goal

pub returns-in-Some : goal.returns-in-Some
returns-in-Some c =
    let path = c.args.path.now in
    subst (λ (why : NoBase). IsWhy path why (Some (NotMapped c.args.path (Some c.in-Some.name)))) (sym c.in-NotMapped.is) (refl, name_in path (Some (c.in-Some.field-0-0, c.in-Some.name)) c.in-Some.ensures.cases)
