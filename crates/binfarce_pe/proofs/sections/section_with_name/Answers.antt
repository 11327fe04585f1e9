use Rattle.std.proofs.Common.{subst}
use Rattle.std.specs.Option.{option_map}
use Rattle.binfarce_bytes.specs.Refusal.{Gives, unexpected_eof}
use Rattle.binfarce_bytes.specs.Walk.{Walk, first}
use Rattle.binfarce_pe.specs.Pe.{Section, is_named}
use Rattle.binfarce_pe.specs.PeViews.{section_view}
use Rattle.binfarce_pe.proofs.Walks.{walk_of}
use Rattle.binfarce_pe.proofs.sections.section_with_name.Goals as goal

pub returns : goal.returns
returns c =
    subst (λ (w : Walk Section). Gives (λ _. unexpected_eof) (option_map section_view) (first (λ s. is_named c.args.name.now s) w) c.section_named.result)
    (walk_of c.args.file.now _ c.section_table.ensures) c.section_named.ensures
