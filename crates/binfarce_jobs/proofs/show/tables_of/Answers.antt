use Rattle.binfarce_bytes.specs.Selection.{section_of}
use Rattle.binfarce_jobs.proofs.Bare.{refused_for}
use Rattle.binfarce_jobs.proofs.show.tables_of.Goals as goal

pub returns-then-branch-clause-reads : goal.returns-then-branch-clause-reads
returns-then-branch-clause-reads g c = λ file is.
    let symbols = c.args.symbols.now in
    refused_for symbols.which file (section_of symbols.selection) c.in_ok-format.format c.in_ok-tables.tables c.is_taken.result c.in_ok-has_table.field-0 c.in_ok-is_bare.field-0 _ (c.in_ok-format.ensures.answer file is) c.is_taken.ensures c.if-not-is_taken.false
    (c.in_ok-has_table.ensures file is) c.if-not-branch.false (c.in_ok-tables.ensures.answer file is) c.in_ok-tables.ensures.parts (c.in_ok-is_bare.ensures file is) c.if-branch.true c.no_functions.ensures
