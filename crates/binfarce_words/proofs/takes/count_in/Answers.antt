use Rattle.std.proofs.Common.{◌∙◌}
use Rattle.std.specs.Str.Parse.{without_leading_plus}
use Rattle.binfarce_words.proofs.Counts.{count_is}
use Rattle.binfarce_words.proofs.takes.count_in.Goals as goal

pub returns : goal.returns
returns c = c.ok.ensures.value ∙ count_is (without_leading_plus c.args.value.now) c.parse.result c.parse.ensures.value.0
