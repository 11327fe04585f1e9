use Rattle.std.proofs.Common.{◌∙◌, ◌++◌, ℕ, List, [], ◌∷◌, ap, refl, subst, sym}
use Rattle.std.proofs.lemmas.List.{flat_map_more}
use Rattle.binfarce.specs.SymbolViews.{section_function_view}
use Rattle.binfarce_tools.specs.Report.{Share}
use Rattle.binfarce_tools.specs.Tables.{section_names}
use Rattle.binfarce_figures.specs.declared.key.Grouping.{Grouping}
use Rattle.binfarce_figures.specs.declared.key.Key.TheVariants.{Stack}
use Rattle.binfarce_figures.specs.Figures.{IsShareOf, claim_line}
use Rattle.binfarce_figures.specs.Keys.{IsKeyOf, section_keys}
use Rattle.binfarce_figures.proofs.Growing.{zip_more}
use Rattle.binfarce_figures.proofs.Summed.{of_all}
use Rattle.binfarce_figures.proofs.stacks.stacks_of.Goals as goal

pub loop-claim-preserved : goal.loop-claim-preserved
loop-claim-preserved c =
    let claims = c.claims.inside in
    let sections = section_keys (section_names claims.tables.now) claims.size in
    let grouping : Grouping = record { key = Stack; joins_std = c.args.joins_std } in
    let (shares, are, text) = c.loop-claim.invariant in
    let s : Share = record { name = c.as_str.result.now; size = _ } in (
      shares ++ s ∷ [],
      zip_more (IsShareOf grouping sections) section_function_view _ c.loop-claim.claim-index _ shares _ s c.loop-claim-test.true refl are (record { name_is = subst (IsKeyOf grouping sections _) (sym c.as_str.ensures.value) c.in_ok-put_key.ensures; size_is = refl }),
      c.in_ok-push_claim.ensures ∙ ap (λ (t : List ℕ). t ++ claim_line s) text ∙ flat_map_more claim_line [] shares s,
    )

pub returns : goal.returns
returns c =
    let claims = c.claims.inside in
    let grouping : Grouping = record { key = Stack; joins_std = c.args.joins_std } in
    let (shares, are, text) = c.loop-claim.invariant in
    (shares, of_all grouping claims.tables.now claims.size claims.list.items _ c.loop-claim.claim-index c.args.claims.now shares c.deref-claim-items.ensures.value c.loop-claim-test.false c.claims.view_is are, text)
