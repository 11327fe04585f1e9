use Rattle.std.proofs.Common.{◌-◌, ℕ, List, sym, ap, subst, ◌∙◌, max}
use Rattle.std.proofs.lemmas.List.{drop_all}
use Rattle.std.proofs.lemmas.List.Elements.{All-nil, All-push}
use Rattle.std.specs.Prelude.{All}
use Rattle.binfarce_sections.specs.declared.sums.Share.{Share}
use Rattle.binfarce_sections.specs.machine.Summed.{IsNamed}
use Rattle.binfarce_sections.proofs.Shares.{Shared, begun, ended, one_more}
use Rattle.binfarce_sections.proofs.sums.shares_of.Goals as goal

pub loop-section-init : goal.loop-section-init
loop-section-init c = (
  subst (λ (xs : List Share). Shared c.args.file_length c.args.sections.now xs 0 0) (sym c.in_ok-shares.ensures.items) (begun c.args.file_length c.args.sections.now c.requires),
  subst (All IsNamed) (sym c.in_ok-shares.ensures.items) (All-nil IsNamed),
)

pub loop-section-preserved : goal.loop-section-preserved
loop-section-preserved c =
    let next = c.end_in-next.ensures in (
      one_more c.args.file_length c.args.sections.now c.loop-section.shares.items c.push.new.self.items c.loop-section.section-index c.loop-section.end c.saturating_sub-bytes.result c.max-end.result _ c.in_ok-full_name.full_name
          c.loop-section-test.true (c.saturating_sub-bytes.ensures ∙ (λ i. next i - c.max.ensures i)) (c.max-end.ensures ∙ ap (λ (n : ℕ). max n c.loop-section.end) next) c.in_ok-push.ensures.items c.loop-section.invariant.0,
      subst (All IsNamed) (sym c.in_ok-push.ensures.items) (All-push IsNamed c.loop-section.shares.items _ c.loop-section.invariant.1 c.in_ok-full_name.ensures),
    )

pub returns-clause-shares : goal.returns-clause-shares
returns-clause-shares c =
    ended c.args.file_length c.args.sections.now c.loop-section.shares.items c.loop-section.section-index c.loop-section.end (drop_all c.loop-section.section-index c.args.sections.now c.loop-section-test.false) c.loop-section.invariant.0

pub returns-clause-named : goal.returns-clause-named
returns-clause-named c = c.loop-section.invariant.1
