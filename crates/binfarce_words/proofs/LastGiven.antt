-- The option that was given last.
use Rattle.std.proofs.Common.{◌≡◌, ◌∙◌, ◌++◌, Bool, true, false, List, [], ◌∷◌, map, find, reverse, Option, Some, cond, refl, sym, ap, Bor, ℕ}
use Rattle.std.proofs.lemmas.List.{map-append, reverse-append}
use Rattle.std.specs.Option.{option_map}
use Rattle.std.specs.Str.{bytes_eq}
use Rattle.binfarce_words.specs.Words.{flag_name, value_given}
use Rattle.binfarce_words.specs.WordViews.{given_view}
use Rattle.binfarce_words.specs.declared.flag.Flag.{Flag}
use Rattle.binfarce_words.specs.declared.given.Arguments.{Arguments}

abbrev pub seen : Flag × Bor (List ℕ) → Flag × List ℕ
seen it = (it.0, it.1.now)

reversed : (xs : List (Flag × Bor (List ℕ))) → map seen (reverse xs) ≡ reverse (map seen xs)
reversed [] = refl
reversed (x ∷ xs) =
    ap (map seen) (reverse-append (x ∷ []) xs) ∙ map-append seen (reverse xs) (x ∷ []) ∙ ap (λ (ys : List (Flag × List ℕ)). ys ++ seen x ∷ []) (reversed xs)
    ∙ sym (reverse-append (seen x ∷ []) (map seen xs))

value_seen : (name : List ℕ) (xs : List (Flag × Bor (List ℕ))) → option_map (λ it. it.1.now) (find (λ it. bytes_eq (flag_name it.0) name) xs) ≡ option_map (λ it. it.1) (find (λ it. bytes_eq (flag_name it.0) name) (map seen xs))
value_seen name [] = refl
value_seen name (x ∷ xs) = go (bytes_eq (flag_name x.0) name) (value_seen name xs)
  where
    go : (b : Bool) → option_map (λ it. it.1.now) (find (λ it. bytes_eq (flag_name it.0) name) xs) ≡ option_map (λ it. it.1) (find (λ it. bytes_eq (flag_name it.0) name) (map seen xs))
        → option_map (λ it. it.1.now) (cond b (Some x) (find (λ it. bytes_eq (flag_name it.0) name) xs)) ≡ option_map (λ it. it.1) (cond b (Some (seen x)) (find (λ it. bytes_eq (flag_name it.0) name) (map seen xs)))
    go true e = refl
    go false e = e

module _ (flag : Flag) (given : Arguments) (name : List ℕ) (xs : List (Flag × Bor (List ℕ))) (found : Option (Flag × Bor (List ℕ))) where
  -- the last option of this name has the value that is given
  pub last_value : name ≡ flag_name flag → xs ≡ given.options.items → found ≡ find (λ it. bytes_eq (flag_name it.0) name) (reverse xs) → option_map (λ it. it.1.now) found ≡ value_given flag (given_view given)
  last_value named are is =
      let value : List ℕ → List (Flag × List ℕ) → Option (List ℕ) = λ n ys. option_map (λ it. it.1) (find (λ it. bytes_eq (flag_name it.0) n) (reverse ys)) in
      ap (option_map (λ (it : Flag × Bor (List ℕ)). it.1.now)) is ∙ value_seen name (reverse xs) ∙ ap (λ (ys : List (Flag × List ℕ)). option_map (λ it. it.1) (find (λ it. bytes_eq (flag_name it.0) name) ys)) (reversed xs)
      ∙ ap (λ (n : List ℕ). value n (map seen xs)) named ∙ ap (λ (ys : List (Flag × Bor (List ℕ))). value (flag_name flag) (map seen ys)) are
