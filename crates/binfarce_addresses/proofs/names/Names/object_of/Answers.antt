use Rattle.binfarce_addresses.proofs.Objects.{joined, object_answer}
use Rattle.binfarce_addresses.proofs.names.Names.object_of.Goals as goal

pub returns-clause-answer : goal.returns-clause-answer
returns-clause-answer c =
    let symbol = c.in_ok-push_symbol.ensures.symbol in
    object_answer c.args.file.now c.args.self.now.0 c.args.self.now.1 c.args.answer.address c.args.answer.found symbol.0 _ c.requires symbol.1
    (joined _ _ _ _ _ _ _ _ _ c.new-object.ensures.bytes c.in_ok-push_start.ensures c.in_ok-push_given.ensures symbol.2 c.in_ok-push_str.ensures.bytes)
