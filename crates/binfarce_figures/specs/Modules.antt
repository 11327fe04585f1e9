-- The module of a function symbol.
use Rattle.std.specs.Prelude.{◌≡◌, ℕ, Bool, true, false, not, ◌&&◌, ◌||◌, List, [], ◌∷◌, ◌++◌, nat_eq, nat_le, codes, drop, length, if◌then◌else◌}
use Rattle.std.specs.List.{list_any, starts_with}
use Rattle.binfarce_names.specs.Crates.{first_part}
use Rattle.binfarce_figures.specs.Generic.{is_of_name, is_of_path}

-- a text begins with a path of this crate
abbrev pub begins_in : (crate_name text : List ℕ) → Bool
begins_in crate_name text = starts_with nat_eq text crate_name && starts_with nat_eq (drop (length crate_name) text) (codes "::")

-- what comes after a crate where a path of it first begins in a text, which follows this character; nothing if none does
abbrev pub below_crate : (crate_name : List ℕ) → (before : ℕ) → (text : List ℕ) → List ℕ
below_crate crate_name before [] = []
below_crate crate_name before (c ∷ others) =
    if not (is_of_path before) && begins_in crate_name (c ∷ others) then drop (length crate_name) (c ∷ others) else below_crate crate_name c others

-- a text begins with a name
abbrev pub begins_name : List ℕ → Bool
begins_name [] = false
begins_name (c ∷ others) = is_of_name c

-- a text begins with a module's name: the first character of it that isn't `_` is no upper-case letter (RFC 430)
abbrev pub begins_module : List ℕ → Bool
begins_module [] = false
begins_module (c ∷ others) = if nat_eq c 95 then begins_module others else is_of_name c && not (nat_le 65 c && nat_le c 90)

-- the modules of a path may end before this text: before a name, or before an impl, as legacy names have it
abbrev pub may_end : List ℕ → Bool
may_end text = starts_with nat_eq text (codes "::") && (begins_name (drop 2 text) || starts_with nat_eq (drop 2 text) (codes "<impl "))

-- a path is among its modules up to this text alone, which begins with a character of no path, or with a name that is no module's
abbrev pub leaves : List ℕ → Bool
leaves [] = true
leaves (c ∷ others) = not (is_of_path c) || (starts_with nat_eq (c ∷ others) (codes "::") && not (begins_module (drop 2 (c ∷ others))))

-- from this text on the modules of a path may end, before it leaves them
abbrev pub goes_on : List ℕ → Bool
goes_on [] = false
goes_on (c ∷ others) = may_end (c ∷ others) || (not (leaves (c ∷ others)) && goes_on others)

-- the modules of a path below its crate: up to the last place where they may end, before it leaves them
abbrev pub modules : (path : List ℕ) → List ℕ
modules [] = []
modules (c ∷ others) = if not (leaves (c ∷ others)) && goes_on others then c ∷ modules others else []

-- the module of a function of this crate with this trimmed name
abbrev pub module_of : (crate_name trimmed : List ℕ) → List ℕ
module_of crate_name trimmed = crate_name ++ modules (below_crate crate_name 32 trimmed)

-- the name of a module says which crate it is in, by its first part: so the modules of a crate have the crate's sum
abbrev pub NamesItsCrate : (crate_name trimmed : List ℕ) → Type 0
NamesItsCrate crate_name trimmed = list_any (nat_eq 58) crate_name ≡ false → first_part (module_of crate_name trimmed) ≡ crate_name
