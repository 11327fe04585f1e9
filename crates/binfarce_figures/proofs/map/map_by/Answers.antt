use Rattle.binfarce_figures.specs.Picture.{IsPictureOfShares}
use Rattle.binfarce_tools.specs.ReportWords.{outcome_of}
use Rattle.binfarce_figures.proofs.Figured.{figured}
use Rattle.binfarce_figures.proofs.map.map_by.Goals as goal

pub returns-clause-takes : goal.returns-clause-takes
returns-clause-takes g c = λ which file section got.
    figured c.args.grouping (λ size shares text. IsPictureOfShares c.args.title.now shares size c.args.first text) which file section c.args.claims.now c.picture_of.result _ _ (outcome_of c.write_made.result) got c.picture_of.ensures c.write_made.ensures.takes
