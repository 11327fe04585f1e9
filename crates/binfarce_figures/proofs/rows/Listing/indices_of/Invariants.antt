use Rattle.std.proofs.Common.{map, take}
use Rattle.std.specs.List.{AllZip}
use Rattle.binfarce_figures.specs.machine.Listings.{AreTexts, IsShownBy, name_of}
use Rattle.binfarce_figures.proofs.rows.Listing.indices_of.Given as goal

-- the indices of the function symbols so far
abbrev pub invariant-loop-function : goal.invariant-loop-function
invariant-loop-function l = AreTexts l.self.shown.now.naming l.texts × AllZip (IsShownBy l.self.shown.now.naming l.texts.texts.items) (map name_of (take l.function-index l.functions)) l.indices.items
