-- What is shown of a name.
use Rattle.std.specs.Prelude.{◌≡◌, ℕ, List}
use Rattle.binfarce_names.specs.Name.{Name}
use Rattle.binfarce_names.specs.Named.{IsNamed}
use Rattle.binfarce_figures.specs.declared.rows.Naming.{Naming}
use Rattle.binfarce_figures.specs.declared.rows.Naming.TheVariants.{Trimmed, Complete, Stored}

-- text is what is shown of the stored name, by its answer
abbrev pub IsNameText : Naming → (stored text : List ℕ) → Type 0
IsNameText Trimmed stored text = (name : Name) × IsNamed stored name × (text ≡ name.trimmed)
IsNameText Complete stored text = (name : Name) × IsNamed stored name × (text ≡ name.complete)
IsNameText Stored stored text = text ≡ stored
