use Rattle.std.proofs.Common.{[], ◌∷◌, length, ap, subst}
use Rattle.binfarce_bytes.specs.Part.{Part, part, HasAll}
use Rattle.test_reading.proofs.Logs.{asked_for_one}
use Rattle.test_reading.proofs.recording.RecordedSource.fill_at.Goals as goal

pub returns-clause-asked : goal.returns-clause-asked
returns-clause-asked c = λ set has all.
    let same_size = ap (part c.args.offset) c.fill_at.auto.buf in
    asked_for_one _ c.args.log.now.items c.record.new.log.items (record { offset = c.args.offset; size = length c.args.buf.now }) c.record.ensures set
    (subst (λ (p : Part). HasAll set (p ∷ [])) same_size has) all
