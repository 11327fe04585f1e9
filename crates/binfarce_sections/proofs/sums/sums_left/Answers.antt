use Rattle.std.proofs.Common.{◌∙◌, ◌-◌, List, ap, arith, map, refl, subst}
use Rattle.binfarce_sections.specs.declared.sums.Share as code_share
use Rattle.binfarce_sections.specs.Section.{Section}
use Rattle.binfarce_sections.specs.Sums.{AreSharesOf, active, total, total_memory}
use Rattle.binfarce_sections.specs.Views.{sections_left, share_view}
use Rattle.binfarce_sections.proofs.Whole.{sums_whole}
use Rattle.binfarce_sections.proofs.sums.sums_left.Goals as goal

pub invariant_of-result : goal.invariant_of-result
invariant_of-result c =
    let len = c.args.file_length in
    let ranked = c.in_ok-shares.shares.items in
    let sections = active (sections_left c.args.sections).items in
    let are = subst (λ (xs : List Section). AreSharesOf len xs (map share_view ranked)) c.in_ok-sections.ensures.1 c.in_ok-shares.ensures.shares in
    sums_whole len c.rest_of-rest.result c.memory_of-memory.result sections ranked are c.in_ok-shares.ensures.named
    (c.rest_of-rest.ensures ∙ ap (λ (xs : List code_share.Share). len - total (map share_view xs)) c.deref.ensures.value)
    (c.memory_of-memory.ensures ∙ ap (λ (xs : List code_share.Share). total_memory (map share_view xs)) c.deref-2.ensures.value) (omega arith) (omega arith)

pub returns : goal.returns
returns c =
    let len = c.args.file_length in
    let ranked = c.in_ok-shares.shares.items in
    (c.in_ok-sections.ensures.0, (refl, subst (λ (xs : List Section). AreSharesOf len xs (map share_view ranked)) c.in_ok-sections.ensures.1 c.in_ok-shares.ensures.shares))
