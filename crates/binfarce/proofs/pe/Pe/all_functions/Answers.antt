use Rattle.binfarce_bytes.specs.SymbolViews.{HoldsSectionFunctions}
use Rattle.binfarce.proofs.PeListed.{all_err}
use Rattle.binfarce.proofs.pe.Pe.all_functions.Goals as goal

pub returns-in_err-functions : goal.returns-in_err-functions
returns-in_err-functions c =
    all_err HoldsSectionFunctions c.args.self.now c.in_err-functions.field-0.0 c.from_residual.result
    c.in_err-functions.ensures c.from_residual.ensures
