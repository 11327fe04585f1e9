use Rattle.std.proofs.Common.{◌+◌}
use Rattle.binfarce_pe.specs.PeParts.{table_view}
use Rattle.binfarce_pe.specs.PeSelection.{rules_of, sections_view}
use Rattle.binfarce_pe.specs.machine.RawPe.{symbol_view}
use Rattle.binfarce_pe.proofs.Elsewhere.{no_name}
use Rattle.binfarce_pe.proofs.functions.kept_in.Goals as goal

pub returns-in-None : goal.returns-in-None
returns-in-None c i lt =
    let chosen = sections_view c.args.sections in
    no_name (table_view c.args.symbols) chosen ((rules_of chosen).first + i) c.args.number (symbol_view c.args.row) (c.in-None.ensures i lt)
