use Rattle.binfarce_bytes.specs.SymbolViews.{HoldsFunctions}
use Rattle.binfarce.proofs.PeListed.{functions_err, functions_memory, functions_ok}
use Rattle.binfarce.proofs.pe.Pe.functions.Goals as goal

pub returns-in_err-functions : goal.returns-in_err-functions
returns-in_err-functions c =
    functions_err c.args.self.now HoldsFunctions c.in_err-functions.field-0.0 c.from_residual.result (rw (← c.self.view_is) c.in_err-functions.ensures) c.from_residual.ensures

pub returns-in_err-without_sections : goal.returns-in_err-without_sections
returns-in_err-without_sections c =
    functions_memory c.args.self.now c.in_ok-functions.functions c.in_ok-functions.size c.deref.result.now (rw (← c.self.view_is) c.in_ok-functions.ensures) c.deref.ensures.value HoldsFunctions c.from_residual-in_err-without_sections.result
    c.in_err-without_sections.ensures.memory c.from_residual-in_err-without_sections.ensures

pub returns : goal.returns
returns c =
    functions_ok c.args.self.now c.in_ok-functions.functions c.in_ok-functions.size c.deref.result.now (rw (← c.self.view_is) c.in_ok-functions.ensures) c.deref.ensures.value c.in_ok-without_sections.field-0
    c.in_ok-without_sections.ensures.alone
