-- The crate of a name.
use Rattle.std.specs.Prelude.{◌≡◌, ℕ, List, [], ◌∷◌, ◌++◌, Bool, Option, Some, None, is_some, unwrap_or, nat_eq, codes, if◌then◌else◌}
use Rattle.std.specs.List.{starts_with}
use Rattle.binfarce_names.specs.declared.demangle.Kind.{Kind}
use Rattle.binfarce_names.specs.declared.demangle.Kind.TheVariants.{Unknown, Legacy, V0}
use Rattle.binfarce_names.specs.Name.{Name}

-- a path up to its first `::`, or all of it if there is none
abbrev pub first_part : (path : List ℕ) → List ℕ
first_part [] = []
first_part (b ∷ path) = if starts_with nat_eq (b ∷ path) (codes "::") then [] else b ∷ first_part path

-- the crate that a path begins with; none where it begins with a type or a trait
abbrev pub path_crate : (path : List ℕ) → Option (List ℕ)
path_crate path = if starts_with nat_eq path (codes "<") then None else Some (first_part path)

-- the crate of a name of this kind, with this crate root and this path
abbrev pub crate_of_kind : (kind : Kind) (root : Option (List ℕ)) (path : List ℕ) → Option (List ℕ)
crate_of_kind Legacy root path = path_crate path
crate_of_kind V0 root path = root
crate_of_kind Unknown root path = None

-- the crate of a name: of a legacy name by its path, and of a v0 name by its crate root
unfoldable pub crate_of : (name : Name) → Option (List ℕ)
crate_of name = crate_of_kind name.kind name.crate_name name.complete

-- crate_found says whether there is a crate; new is old with the crate's name after it, if there is one
abbrev pub GrowsByCrate : (crate_name : Option (List ℕ)) (crate_found : Bool) (old new : List ℕ) → Type 0
GrowsByCrate crate_name crate_found old new = (crate_found ≡ is_some crate_name) × (new ≡ old ++ unwrap_or crate_name [])
