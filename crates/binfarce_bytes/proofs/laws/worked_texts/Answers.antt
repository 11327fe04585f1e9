use Rattle.std.proofs.Common.{refl}
use Rattle.binfarce_bytes.proofs.Computing.{computing}
use Rattle.binfarce_bytes.proofs.laws.worked_texts.Goals as goal

pub returns-clause-up_to_nul : goal.returns-clause-up_to_nul
unfolding computing
returns-clause-up_to_nul c = refl

pub returns-clause-padded : goal.returns-clause-padded
unfolding computing
returns-clause-padded c = refl

pub returns-clause-filled : goal.returns-clause-filled
unfolding computing
returns-clause-filled c = refl

pub returns-clause-empty_text : goal.returns-clause-empty_text
unfolding computing
returns-clause-empty_text c = refl

pub returns-clause-not_utf8 : goal.returns-clause-not_utf8
unfolding computing
returns-clause-not_utf8 c = refl
