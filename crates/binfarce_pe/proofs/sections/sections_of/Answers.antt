use Rattle.std.proofs.Common.{Some, sym, ap, ◌∙◌}
use Rattle.binfarce_pe.specs.machine.RawPe.{walk_from}
use Rattle.binfarce_pe.proofs.SectionsLeft.{all_left}
use Rattle.binfarce_pe.proofs.Walks.{walk_is}
use Rattle.binfarce_pe.proofs.sections.sections_of.Goals as goal

pub returns : goal.returns
returns c = ap (λ t. walk_from t (Some 0)) c.section_table.ensures ∙ all_left _ ∙ sym (walk_is c.args.file.now)
