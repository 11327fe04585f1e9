use Rattle.std.proofs.Common.{◌≡◌, ◌-◌, ℕ, List, Some, sym, ◌∙◌, ap, arith}
use Rattle.std.proofs.lemmas.Bool.Decides.{nat_tests}
use Rattle.binfarce_v0_grammar.specs.Forms.{NoPathForm, path_form}
use Rattle.binfarce_v0_grammar.specs.machine.Ends.{ends, path_end}
use Rattle.binfarce_v0_grammar.proofs.ReadingComplete.{path_end_at}
use Rattle.binfarce_v0_grammar.proofs.reading.+reading.Goals as goal

pub read_path-returns-in_default : goal.read_path-returns-in_default
unfolding path_form path_end
read_path-returns-in_default t c =
    let part : List ℕ = c.args.part.now in
    let none : path_form part (Some c.args.at) ≡ NoPathForm = grind (arith, nat_tests) in
    sym (path_end_at part c.args.levels_left c.args.at (omega arith) ∙ ap (path_end part (ends part (c.args.levels_left - 1))) none)
