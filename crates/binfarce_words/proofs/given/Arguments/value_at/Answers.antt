use Rattle.binfarce_words.proofs.ValuesGiven.{nth_value}
use Rattle.binfarce_words.proofs.given.Arguments.value_at.Goals as goal

pub returns-in-Some : goal.returns-in-Some
returns-in-Some c = nth_value c.args.flag c.args.self.now c.name.result.now c.as_slice.result.now _ c.args.place c.name.ensures c.as_slice.ensures.value c.in-Some.ensures

pub returns-in-None : goal.returns-in-None
returns-in-None c = nth_value c.args.flag c.args.self.now c.name.result.now c.as_slice.result.now _ c.args.place c.name.ensures c.as_slice.ensures.value c.in-None.ensures
