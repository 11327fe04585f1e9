-- What is reported of a file of a text.
use Rattle.std.proofs.Common.{◌≡◌, ◌∙◌, ◌==◌, ◌++◌, ℕ, Bool, true, false, List, [], ◌∷◌, Option, Some, None, MatchOption, Result, Ok, Err, Bor, ap, arith, refl, subst, sym, take, take-append-drop}
use Rattle.std.proofs.lemmas.Str.Pattern.{drop_at_char}
use Rattle.std.specs.Option.{option_map}
use Rattle.std.specs.Str.{NoCharPasses}
use Rattle.std.specs.Str.Pattern.{RFindsChar, SplitsAroundMatch}
use Rattle.binfarce_words.specs.Words.{Arguments}
use Rattle.binfarce_jobs.specs.Files.{Refused, Reports}
use Rattle.binfarce_io.specs.declared.fault.Fault.{Fault}
use Rattle.binfarce_logs.specs.declared.maps.NoBase.{NoBase}
use Rattle.binfarce_logs.specs.declared.maps.NoBase.TheVariants as reasons
use Rattle.binfarce_calls.specs.declared.at.Place.TheVariants as places
use Rattle.binfarce_calls.specs.Placing.{IsNameIn, IsPlacedBy, IsPlacedUnless, file_at}

-- the name that a path ends with is what is behind the last `/`
pub name_in : (path : List ℕ) (parts : Option (Bor (List ℕ) × Bor (List ℕ))) → MatchOption parts (RFindsChar 47 path None) (λ x. SplitsAroundMatch (RFindsChar 47) path x.0.now x.1.now) → IsNameIn path (option_map (λ x. x.1.now) parts)
name_in path None none = none
name_in path (Some x) (i, j, (free, at), front, back, below, before, behind) = (
  take i path,
  sym (take-append-drop i path) ∙ ap (λ (end : List ℕ). take i path ++ end) (drop_at_char 47 path i j at (omega arith) ∙ ap (λ (name : List ℕ). 47 ∷ name) (sym back)),
  subst (NoCharPasses (λ c. c == 47)) (sym back) free,
)

-- what is reported of a file, by where it is placed
module _ (given : Arguments) (place : ℕ) (a b : Option (List Refused)) where
  pub placed_at_by : (known : Result (Option ℕ) NoBase) (base : Option ℕ) → IsPlacedBy given place known a b (places.At base) → b ≡ a
  placed_at_by (Ok x) base (is, same) = same
  placed_at_by (Err reasons.NotMaps) base (is, same) = same
  placed_at_by (Err reasons.NotMapped) base (is, reported) = absurd cc
  placed_at_by (Err reasons.NoCode) base (is, reported) = absurd cc
  placed_at_by (Err reasons.Several) base (is, reported) = absurd cc

  pub no_maps_by : (known : Result (Option ℕ) NoBase) → IsPlacedBy given place known a b places.NoMaps → b ≡ a
  no_maps_by (Ok x) (is, same) = same
  no_maps_by (Err reasons.NotMaps) (is, same) = same
  no_maps_by (Err reasons.NotMapped) (is, reported) = absurd cc
  no_maps_by (Err reasons.NoCode) (is, reported) = absurd cc
  no_maps_by (Err reasons.Several) (is, reported) = absurd cc

  pub not_placed_by : (known : Result (Option ℕ) NoBase) → IsPlacedBy given place known a b places.Refused → (fault : Fault) × Reports a b ((file_at given place, fault) ∷ [])
  not_placed_by (Ok x) (is, same) = absurd cc
  not_placed_by (Err reasons.NotMaps) (is, same) = absurd cc
  not_placed_by (Err reasons.NotMapped) (is, reported) = (reported.0, reported.2)
  not_placed_by (Err reasons.NoCode) (is, reported) = (reported.0, reported.2)
  not_placed_by (Err reasons.Several) (is, reported) = (reported.0, reported.2)

  -- so of one that may lack the bytes that offsets are of
  pub placed_at : (lacks : Bool) (known : Result (Option ℕ) NoBase) (base : Option ℕ) → IsPlacedUnless lacks given place known a b (places.At base) → b ≡ a
  placed_at false known base placed = placed_at_by known base placed
  placed_at true known base (is, reported) = absurd cc

  -- and it is loaded there
  pub placed_base : (lacks : Bool) (known : Result (Option ℕ) NoBase) (base : Option ℕ) → IsPlacedUnless lacks given place known a b (places.At base) → (lacks ≡ false) × (known ≡ Ok base)
  placed_base false (Ok x) base (is, same) = (refl, cc)
  placed_base false (Err reasons.NotMaps) base (is, same) = absurd cc
  placed_base false (Err reasons.NotMapped) base (is, reported) = absurd cc
  placed_base false (Err reasons.NoCode) base (is, reported) = absurd cc
  placed_base false (Err reasons.Several) base (is, reported) = absurd cc
  placed_base true known base (is, reported) = absurd cc

  pub placed_by_none : (lacks : Bool) (known : Result (Option ℕ) NoBase) → IsPlacedUnless lacks given place known a b places.NoMaps → b ≡ a
  placed_by_none false known placed = no_maps_by known placed
  placed_by_none true known (is, reported) = absurd cc

  pub not_placed : (lacks : Bool) (known : Result (Option ℕ) NoBase) → IsPlacedUnless lacks given place known a b places.Refused → (fault : Fault) × Reports a b ((file_at given place, fault) ∷ [])
  not_placed false known placed = not_placed_by known placed
  not_placed true known (is, reported) = (reported.0, reported.2)
