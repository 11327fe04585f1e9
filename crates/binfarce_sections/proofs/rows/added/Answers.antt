use Rattle.std.proofs.Common.{[]}
use Rattle.binfarce_sections.specs.declared.changes.Change.{Change}
use Rattle.binfarce_sections.proofs.AddedRows.{new_fits, old_fits, one_more}
use Rattle.binfarce_sections.proofs.rows.added.Goals as goal

pub loop-change-preserved : goal.loop-change-preserved
loop-change-preserved c =
    let changes = c.args.changes.now in
    let i = c.loop-change.change-index in
    let d : Change = record { name = record { ref_ptr = (0, 0); now = [] }; old = 0; new = 0; old_memory = 0; new_memory = 0 } in
    let lt = c.loop-change-test.true in
    let old = c.loop-change.rows in
    let new = c.add.new.rows in
    let are = c.loop-change.invariant in
    one_more changes i d lt c.requires old new are (c.in_ok-add.ensures (old_fits changes i d lt c.requires old new are) (new_fits changes i d lt c.requires old new are))
