-- The names that limits have.
use Rattle.std.specs.Prelude.{◌≡◌, ℕ, List}
use Rattle.std.specs.BTreeMap.{BTreeMap, get_by}
use Rattle.std.specs.Cmp.Lexicographic.{slice_cmp}
use Rattle.std.specs.Option.{is_some}
use Rattle.std.specs.Ordering.{nat_cmp}
use denote.Ref.{Bor}
use Rattle.binfarce_limits.specs.Reading.{is_named}
use Rattle.binfarce_limits.specs.Rows.{NameLimit}

-- names are those of limits
abbrev pub AreNamesOf : List NameLimit → BTreeMap (Bor (List ℕ)) (Unit {0}) → Type 0
AreNamesOf limits names = (name : List ℕ) → is_some (get_by (λ k. slice_cmp nat_cmp name k.now) names) ≡ is_named limits name
