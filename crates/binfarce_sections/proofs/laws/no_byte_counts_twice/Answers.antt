use Rattle.binfarce_sections.proofs.Whole.{all_le}
use Rattle.binfarce_sections.proofs.laws.no_byte_counts_twice.Goals as goal

pub returns : goal.returns
returns c = all_le
