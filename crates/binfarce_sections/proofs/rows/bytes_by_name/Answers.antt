use Rattle.std.proofs.Common.{subst, sym}
use Rattle.binfarce_sections.specs.Changes.{parts_of}
use Rattle.binfarce_sections.specs.machine.Changed.{Fit}
use Rattle.binfarce_sections.proofs.AddedRows.{by_names}
use Rattle.binfarce_sections.proofs.rows.bytes_by_name.Goals as goal

pub added-requires : goal.added-requires
added-requires c = subst Fit (sym c.deref.ensures.value) c.in_ok-given.ensures.fit

pub returns : goal.returns
returns c = by_names c.in_ok-given.given.items c.deref.result.now (parts_of c.args.old.now) (parts_of c.args.new.now) c.added.result c.deref.ensures.value c.in_ok-given.ensures.rows c.added.ensures
