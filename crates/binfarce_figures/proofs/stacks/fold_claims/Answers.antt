use Rattle.std.proofs.Common.{◌≡◌}
use Rattle.std.specs.List.{flat_map}
use Rattle.binfarce_tools.specs.ReportWords.{outcome_of}
use Rattle.binfarce_figures.specs.declared.key.Grouping.{Grouping}
use Rattle.binfarce_figures.specs.declared.key.Key.TheVariants.{Stack}
use Rattle.binfarce_figures.specs.Figures.{claim_line}
use Rattle.binfarce_figures.proofs.Figured.{figured}
use Rattle.binfarce_figures.proofs.stacks.fold_claims.Goals as goal

pub returns-clause-takes : goal.returns-clause-takes
returns-clause-takes g c = λ which file section got.
    let grouping : Grouping = record { key = Stack; joins_std = c.args.joins_std } in
    figured grouping (λ size shares text. text ≡ flat_map claim_line shares) which file section c.args.claims.now c.stacks_of.result _ _ (outcome_of c.write_made.result) got c.stacks_of.ensures c.write_made.ensures.takes
