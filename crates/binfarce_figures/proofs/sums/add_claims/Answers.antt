use Rattle.std.proofs.Common.{◌++◌, ◌+◌, ◌<◌, ◌^◌, [], ◌∷◌, refl, subst, sym}
use Rattle.binfarce.specs.SymbolViews.{section_function_view}
use Rattle.binfarce_tools.specs.Report.{Share}
use Rattle.binfarce_tools.specs.Tables.{section_names}
use Rattle.binfarce_figures.specs.declared.sums.Numbers.{Numbers}
use Rattle.binfarce_figures.specs.Figures.{IsShareOf}
use Rattle.binfarce_figures.specs.Keys.{IsKeyOf, section_keys}
use Rattle.binfarce_figures.specs.machine.Counts.{AddsNumbers, numbers_at}
use Rattle.binfarce_figures.proofs.Growing.{zip_more}
use Rattle.binfarce_figures.proofs.Numbers.{begun, one_more}
use Rattle.binfarce_figures.proofs.Summed.{of_all}
use Rattle.binfarce_figures.proofs.sums.add_claims.Goals as goal

pub loop-claim-init : goal.loop-claim-init
loop-claim-init c = ([], tt, begun c.args.counting c.args.numbers.now)

pub loop-claim-preserved : goal.loop-claim-preserved
loop-claim-preserved c =
    let claims = c.claims.inside in
    let sections = section_keys (section_names claims.tables.now) claims.size in
    let (shares, are, adds) = c.loop-claim.invariant in
    let name = c.as_str.result.now in
    let s : Share = record { name = name; size = _ } in
    let old = c.loop-claim.numbers in
    let P : Numbers → Type 0 = λ more. (numbers_at old name).sum + more.sum < 2 ^ 64 → (numbers_at old name).other + more.other < 2 ^ 64 → AddsNumbers old name more c.add.new.numbers in (
      shares ++ s ∷ [],
      zip_more (IsShareOf c.args.grouping sections) section_function_view _ c.loop-claim.claim-index _ shares _ s c.loop-claim-test.true refl are (record { name_is = subst (IsKeyOf c.args.grouping sections _) (sym c.as_str.ensures.value) c.in_ok-put_key.ensures; size_is = refl }),
      one_more c.args.counting shares s c.args.numbers.now old c.add.new.numbers adds (subst P c.counts-more.ensures c.in_ok-add.ensures),
    )

pub returns-clause-adds : goal.returns-clause-adds
returns-clause-adds c =
    let claims = c.claims.inside in
    let (shares, are, adds) = c.loop-claim.invariant in
    (shares, of_all c.args.grouping claims.tables.now claims.size claims.list.items _ c.loop-claim.claim-index c.args.claims.now shares c.deref-claim-items.ensures.value c.loop-claim-test.false c.claims.view_is are, adds)
