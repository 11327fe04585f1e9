-- The numbers of a part fit where those of its body and of its section header do.
use Rattle.std.proofs.Common.{List, [], ◌∷◌}
use Rattle.std.specs.List.{AllByRecursion}
use Rattle.binfarce_image.specs.declared.image.Part.{Part}
use Rattle.binfarce_image.specs.declared.image.Part.TheVariants.{Bytes, Table}
use Rattle.binfarce_image.specs.ImageSymbols.{PartFits}
use Rattle.binfarce_image.specs.machine.Views.{BodyFits, HeaderFits}

part_fits : (part : Part) → BodyFits part → HeaderFits part → PartFits part
part_fits (Bytes name kind link body) b h = h
part_fits (Table name link rows) b h = (h.0, h.2, b)

pub parts_fit : (parts : List Part) → AllByRecursion BodyFits parts → AllByRecursion HeaderFits parts → AllByRecursion PartFits parts
parts_fit [] b h = tt
parts_fit (part ∷ parts) b h = (part_fits part b.0 h.0, parts_fit parts b.1 h.1)
