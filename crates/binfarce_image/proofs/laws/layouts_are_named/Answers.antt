use Rattle.binfarce_image.proofs.Formats.{format_back}
use Rattle.binfarce_image.proofs.laws.layouts_are_named.Goals as goal

pub returns : goal.returns
returns c = format_back c.args.image.now
