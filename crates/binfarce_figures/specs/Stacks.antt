-- The stack of a function symbol.
use Rattle.std.specs.Prelude.{ℕ, List, [], ◌++◌, ◌||◌, codes, bytes_eq, nat_eq, if◌then◌else◌}
use Rattle.std.specs.List.{starts_with}
use Rattle.binfarce_figures.specs.declared.generic.Shape.TheVariants as shapes
use Rattle.binfarce_figures.specs.Generic.{rewritten}

-- a crate, and below it the parts of a name; the first part is left out where it is the crate, which it is if the parts are the crate alone, or the crate
-- and `;` before others
abbrev pub stack_of : (crate_name parts : List ℕ) → List ℕ
stack_of crate_name parts =
    let below = crate_name ++ codes ";" in
    (if bytes_eq parts crate_name || starts_with nat_eq parts below then [] else below) ++ parts

-- the stack of a function of this crate with this trimmed name
abbrev pub stack : (crate_name trimmed : List ℕ) → List ℕ
stack crate_name trimmed = stack_of (rewritten shapes.Stack crate_name) (rewritten shapes.Stack trimmed)
