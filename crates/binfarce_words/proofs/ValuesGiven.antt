-- All values of an option.
use Rattle.std.proofs.Common.{◌≡◌, ◌∙◌, ℕ, Bool, true, false, List, [], ◌∷◌, map, Option, cond, refl, sym, ap, Bor}
use Rattle.std.proofs.lemmas.Option.{slice_get-map}
use Rattle.std.specs.List.{filter, slice_get}
use Rattle.std.specs.Option.{option_map}
use Rattle.std.specs.Str.{bytes_eq}
use Rattle.binfarce_words.specs.Words.{flag_name, values_given}
use Rattle.binfarce_words.specs.WordViews.{given_view}
use Rattle.binfarce_words.specs.declared.flag.Flag.{Flag}
use Rattle.binfarce_words.specs.declared.given.Arguments.{Arguments}
use Rattle.binfarce_words.proofs.LastGiven.{seen}

abbrev value_of : Flag × Bor (List ℕ) → List ℕ
value_of it = it.1.now

values_seen : (name : List ℕ) (xs : List (Flag × Bor (List ℕ))) → map value_of (filter (λ it. bytes_eq (flag_name it.0) name) xs) ≡ map (λ it. it.1) (filter (λ it. bytes_eq (flag_name it.0) name) (map seen xs))
values_seen name [] = refl
values_seen name (x ∷ xs) = go (bytes_eq (flag_name x.0) name) (values_seen name xs)
  where
    kept : List (Flag × Bor (List ℕ))
    kept = filter (λ it. bytes_eq (flag_name it.0) name) xs

    kept_seen : List (Flag × List ℕ)
    kept_seen = filter (λ it. bytes_eq (flag_name it.0) name) (map seen xs)

    go : (b : Bool) → map value_of kept ≡ map (λ it. it.1) kept_seen → map value_of (cond b (x ∷ kept) kept) ≡ map (λ it. it.1) (cond b (seen x ∷ kept_seen) kept_seen)
    go true e = ap (λ (vs : List (List ℕ)). x.1.now ∷ vs) e
    go false e = e

module _ (flag : Flag) (given : Arguments) (name : List ℕ) (xs : List (Flag × Bor (List ℕ))) (found : Option (Flag × Bor (List ℕ))) (place : ℕ) where
  -- the option at a place among those of this name has the value at this place
  pub nth_value : name ≡ flag_name flag → xs ≡ given.options.items → found ≡ slice_get (filter (λ it. bytes_eq (flag_name it.0) name) xs) place → option_map value_of found ≡ slice_get (values_given flag (given_view given)) place
  nth_value named are is =
      let values : List ℕ → List (Flag × Bor (List ℕ)) → Option (List ℕ) = λ n ys. slice_get (map (λ it. it.1) (filter (λ it. bytes_eq (flag_name it.0) n) (map seen ys))) place in
      ap (option_map value_of) is ∙ sym (slice_get-map value_of (filter (λ it. bytes_eq (flag_name it.0) name) xs) place) ∙ ap (λ (vs : List (List ℕ)). slice_get vs place) (values_seen name xs)
      ∙ ap (λ (n : List ℕ). values n xs) named ∙ ap (λ (ys : List (Flag × Bor (List ℕ))). values (flag_name flag) ys) are
