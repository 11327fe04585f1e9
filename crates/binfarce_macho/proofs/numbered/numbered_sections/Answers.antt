use Rattle.std.proofs.Common.{◌≡◌, ◌∙◌, Ok, Err, map}
use Rattle.binfarce_bytes.specs.Refusal.{refusal_of}
use Rattle.binfarce_macho.specs.MachoSections.{HasSection, numbered_sections}
use Rattle.binfarce_macho.specs.MachoSelection.{numbered_view}
use Rattle.binfarce_macho.proofs.SectionLists.{has_start}
use Rattle.binfarce_macho.proofs.AllWalks.{out_of_memory_returns}
use Rattle.binfarce_macho.proofs.numbered.numbered_sections.Goals as goal

pub returns-in_err-sections_at : goal.returns-in_err-sections_at
returns-in_err-sections_at c =
    let file = c.args.file.now in
    out_of_memory_returns (HasSection file) (λ e. numbered_sections file ≡ Err (refusal_of e)) (λ v. numbered_sections file ≡ Ok (map numbered_view v.items)) c.from_residual-in_err-sections_at.result
    (has_start file c.in_ok-starts.starts.items c.in_ok-starts.ensures.0 (λ none. c.in_err-sections_at.ensures.memory (c.deref.ensures.value ∙ none))) c.from_residual-in_err-sections_at.ensures.1
