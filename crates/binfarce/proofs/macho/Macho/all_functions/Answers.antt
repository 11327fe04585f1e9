use Rattle.binfarce_macho.proofs.Selected.{all_answered, all_error}
use Rattle.binfarce.proofs.macho.Macho.all_functions.Goals as goal

pub returns-in_err-functions : goal.returns-in_err-functions
returns-in_err-functions c =
    (all_error c.args.self.now c.in_err-functions.field-0.0 c.from_residual.result c.in_err-functions.ensures c.from_residual.ensures.1)

pub returns : goal.returns
returns c = (all_answered c.args.self.now c.in_ok-functions.functions c.in_ok-functions.field-0-1 c.in_ok-functions.ensures)
