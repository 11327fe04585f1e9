use Rattle.std.proofs.Common.{List, subst}
use Rattle.binfarce.specs.Symbol.{Entry}
use Rattle.binfarce_addresses.specs.declared.lookup.Lookup.{Lookup}
use Rattle.binfarce_addresses.specs.machine.Places.{IsFoundFor}
use Rattle.binfarce_addresses.proofs.names.Names.answer_to.Goals as goal

pub returns-clause-is : goal.returns-clause-is
returns-clause-is c =
    let P : List Entry × Lookup → Type 0 = λ s. IsFoundFor s.0 s.1 c.args.address c.find_place-found.result in subst P c.self.view_is c.find_place-found.ensures
