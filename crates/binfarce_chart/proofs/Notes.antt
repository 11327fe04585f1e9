-- The line below the rows.
use Rattle.std.proofs.Common.{◌≡◌, ◌<◌, Bool, ◌||◌, true, false, List, [], ◌∷◌, length, map, Option, Some, None, is_some, nat_eq, refl, ap, arith}
use Rattle.std.specs.List.{list_any}
use Rattle.std.specs.Option.{option_map}
use Rattle.std.proofs.lemmas.Bool.Decides.{nat_tests}
use Rattle.std.proofs.lemmas.List.{length-map}
use Rattle.binfarce_chart.specs.declared.bars.Bar.{Bar}
use Rattle.binfarce_chart.specs.Svg.{is_unknown, note, unknown_note}
use Rattle.binfarce_chart.specs.Views.{bar_view}

-- a test of what is made of a list
pub any_viewed : (bars : List Bar) → list_any is_unknown (map bar_view bars) ≡ list_any (λ b. is_unknown (bar_view b)) bars
any_viewed [] = refl
any_viewed (b ∷ others) = ap (λ (t : Bool). is_unknown (bar_view b) || t) (any_viewed others)

some_rows : (bars : List Bar) → 0 < length bars → nat_eq (length (map bar_view bars)) 0 ≡ false
some_rows bars some = grind (arith, nat_tests, length-map bars bar_view)

pub has_note : (bars : List Bar) → 0 < length bars → list_any is_unknown (map bar_view bars) ≡ true → Some unknown_note ≡ note (map bar_view bars)
has_note bars some is = rw (some_rows bars some, is) refl

pub has_none : (bars : List Bar) → 0 < length bars → list_any is_unknown (map bar_view bars) ≡ false → None ≡ note (map bar_view bars)
has_none bars some is = rw (some_rows bars some, is) refl

-- a test of what is made of a value
pub is_made : {X Y : Type 0} (f : X → Y) (o : Option X) → is_some (option_map f o) ≡ is_some o
is_made f None = refl
is_made f (Some x) = refl
