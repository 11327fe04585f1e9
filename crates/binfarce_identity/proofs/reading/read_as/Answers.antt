use Rattle.std.proofs.Common.{Ok, None, sym, ap, refl}
use Rattle.binfarce_identity.specs.FileIdentity.{identity_reading}
use Rattle.binfarce_tables.proofs.ReadingSteps.{done, same}
use Rattle.binfarce_identity.proofs.reading.read_as.Goals as goal

pub returns-in-Unknown : goal.returns-in-Unknown
returns-in-Unknown g c = λ file known. same file (ap identity_reading (sym c.in-Unknown.is)) (done file (Ok None) (Ok None) refl)
