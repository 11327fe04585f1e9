use Rattle.binfarce_figures.proofs.Summed.{of_claims}
use Rattle.binfarce_figures.proofs.sums.numbers_of.Goals as goal

pub returns : goal.returns
returns c =
    let (shares, with, adds) = c.in_ok-add_claims.ensures.adds in
    (shares, with, of_claims c.args.grouping c.args.claims.now shares c.new-numbers.result c.add_claims.new.numbers c.in_ok-add_claims.ensures.few c.new-numbers.ensures.empty with adds)
