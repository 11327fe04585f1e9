use Rattle.std.proofs.Common.{ap}
use Rattle.binfarce_identity.specs.FileIdentity.{identity_of}
use Rattle.binfarce_tables.specs.Readings.{answer_of}
use Rattle.binfarce_identity.proofs.Unmeasured.{no_length}
use Rattle.binfarce_identity.proofs.reading.read_identity.Goals as goal

pub returns-in-Unknown-clause-answer : goal.returns-in-Unknown-clause-answer
unfolding answer_of
returns-in-Unknown-clause-answer g c = λ file known. ap (λ f. identity_of f file) c.in-Unknown.is

pub returns-in_err-opened-clause-only : goal.returns-in_err-opened-clause-only
returns-in_err-opened-clause-only g c = λ file known. no_length c.args.format file c.in_default.not-Unknown c.in_err-opened.ensures.unsure

pub returns-clause-answer : goal.returns-clause-answer
returns-clause-answer g c = λ file known. rw c.in_ok-opened.ensures.source at ((c.read_as.ensures file (c.in_ok-opened.ensures.known file known)).answer)

pub returns-clause-only : goal.returns-clause-only
returns-clause-only g c = λ file known. rw c.in_ok-opened.ensures.source at ((c.read_as.ensures file (c.in_ok-opened.ensures.known file known)).only)
