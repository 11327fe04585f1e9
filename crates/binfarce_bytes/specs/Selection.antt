-- Which function symbols of a file are taken.
use Rattle.std.specs.Prelude.{ℕ, List, Option, Some, None}
use Rattle.binfarce_bytes.specs.declared.functions.Selection.{Selection}
use Rattle.binfarce_bytes.specs.declared.functions.Selection.TheVariants.{Section, All}

-- the name of the selected section; none where all sections are selected
abbrev pub section_of : Selection → Option (List ℕ)
section_of (Section name) = Some name.now
section_of All = None
