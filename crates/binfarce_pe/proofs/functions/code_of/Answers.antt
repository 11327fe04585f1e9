use Rattle.std.proofs.Common.{sym, arith}
use Rattle.binfarce_pe.specs.PeParts.{headers_view}
use Rattle.binfarce_pe.specs.PeViews.{section_view}
use Rattle.binfarce_pe.proofs.Selected.{code_below}
use Rattle.binfarce_pe.proofs.functions.code_of.Goals as goal

pub memory_size-size-requires : goal.memory_size-size-requires
memory_size-size-requires c =
    let below = code_below (headers_view c.args.sections) (section_view c.in-Some.code) (sym c.in-Some.ensures) in
    omega (arith, c.requires, below, c.from.ensures)

pub returns-in-Some-clause-within : goal.returns-in-Some-clause-within
returns-in-Some-clause-within c = code_below (headers_view c.args.sections) (section_view c.in-Some.code) (sym c.in-Some.ensures)
