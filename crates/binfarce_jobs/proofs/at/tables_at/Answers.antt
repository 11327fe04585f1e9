use Rattle.std.proofs.Common.{refl}
use Rattle.binfarce_jobs.proofs.Dynamic.{accepted, tables_still}
use Rattle.binfarce_jobs.proofs.at.tables_at.Goals as goal

pub returns-in-Ok : goal.returns-in-Ok
returns-in-Ok g c = λ file is.
    let symbols = c.args.symbols.now in
    let are = c.in-Ok.ensures.reads file is in
    tables_still symbols file c.in-Ok.tables symbols.which (accepted symbols file c.in-Ok.tables are c.in-Ok.ensures.parts) refl are
