use Rattle.std.proofs.Common.{refl, subst}
use Rattle.binfarce_bytes.specs.Refusal.{unexpected_eof}
use Rattle.binfarce_bytes.specs.Walk.{Walk, FirstAccepted}
use Rattle.binfarce_pe.specs.Pe.{Section}
use Rattle.binfarce_pe.specs.PeViews.{section_view}
use Rattle.binfarce_pe.proofs.Walks.{walk_of, asked_of}
use Rattle.binfarce_pe.proofs.sections.first_of_file.Goals as goal

pub first_section-requires : goal.first_section-requires
first_section-requires g c κs =
    ((refl, tt), asked_of c.args.file.now _ section_view _ c.section_table.ensures c.requires.asked)

pub returns : goal.returns
returns g c =
    subst (λ (w : Walk Section). FirstAccepted (λ _. unexpected_eof) section_view (goal.F-post g c.args.callback) w c.first_section.result)
    (walk_of c.args.file.now _ c.section_table.ensures) c.first_section.ensures
