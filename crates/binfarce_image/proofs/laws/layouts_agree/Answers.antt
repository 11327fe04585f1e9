use Rattle.binfarce_image.proofs.ReadsBack.{reads_back}
use Rattle.binfarce_image.proofs.laws.layouts_agree.Goals as goal

pub returns : goal.returns
returns c = reads_back c.args.image.now
