-- Files of a text, taken one after the other.
use Rattle.std.proofs.Common.{◌≡◌, ◌∙◌, ℕ, ◌+◌, List, [], ◌∷◌, ◌++◌, map, Option, sym, ap, subst, append-nil, arith}
use Rattle.std.proofs.lemmas.List.{map-append, map-id}
use Rattle.std.proofs.lemmas.List.Concat.{flat_map-append}
use Rattle.std.proofs.lemmas.List.FromFn.{map-range_with_len_more}
use Rattle.std.specs.List.{flat_map, range_with_len}
use Rattle.binfarce_words.specs.Words.{Arguments}
use Rattle.binfarce_jobs.specs.Files.{Refused, Reports}
use Rattle.binfarce_io.specs.declared.fault.Fault.{Fault}
use Rattle.binfarce_jobs.proofs.FileLoop.{reports_more}
use Rattle.binfarce_calls.specs.Compared.{refusal}
use Rattle.binfarce_calls.specs.Placing.{TakesFiles, file_at, left_of}

-- one place more
pub range_more : (n : ℕ) → range_with_len 0 (n + 1) ≡ range_with_len 0 n ++ n ∷ []
range_more n = let e : 0 + n ≡ n = omega arith in sym (map-id (range_with_len 0 (n + 1))) ∙ map-range_with_len_more (λ x. x) 0 n n e ∙ ap (λ xs. xs ++ n ∷ []) (map-id (range_with_len 0 n))

-- the values of a list that grew by one
pub pushed : {X : Type 0} (f : X → ℕ) (xs more : List X) (x : X) (n : ℕ) → more ≡ xs ++ x ∷ [] → f x ≡ n → map f more ≡ map f xs ++ n ∷ []
pushed f xs more x n grown is = ap (map f) grown ∙ map-append f xs (x ∷ []) ∙ ap (λ n. map f xs ++ n ∷ []) is

-- one file more, which is refused for a fault or not
pub one_taken : (given : Arguments) (places left : List ℕ) (place : ℕ) (fate : Option Fault) (more_places more_left : List ℕ) (before mid after : Option (List Refused)) → more_places ≡ places ++ place ∷ [] → more_left ≡ left ++ left_of (place, fate)
    → TakesFiles given places left before mid → Reports mid after (refusal (file_at given place) fate) → TakesFiles given more_places more_left before after
one_taken given places left place fate more_places more_left before mid after places_are left_are (fates, are, left_is, reports) one =
    let last : ℕ × Option Fault = (place, fate) in
    let report : ℕ × Option Fault → List Refused = λ f. refusal (file_at given f.0) f.1 in (
      fates ++ last ∷ [],
      map-append (λ (f : ℕ × Option Fault). f.0) fates (last ∷ []) ∙ ap (λ (ps : List ℕ). ps ++ place ∷ []) are ∙ sym places_are,
      left_are ∙ ap (λ (ps : List ℕ). ps ++ left_of last) left_is ∙ sym (more left_of fates last),
      subst (Reports before after) (sym (more report fates last)) (reports_more before mid after (flat_map report fates) (report last) reports one),
    )
  where
    more : {X A : Type 0} (f : X → List A) (xs : List X) (x : X) → flat_map f (xs ++ x ∷ []) ≡ flat_map f xs ++ f x
    more f xs x = flat_map-append f xs (x ∷ []) ∙ ap (λ z. flat_map f xs ++ z) (append-nil (f x))

-- no more is reported
pub later : (given : Arguments) (places left : List ℕ) (before mid after : Option (List Refused)) → TakesFiles given places left before mid → Reports mid after [] → TakesFiles given places left before after
later given places left before mid after (fates, are, left_is, reports) none =
    let reported = flat_map (λ (f : ℕ × Option Fault). refusal (file_at given f.0) f.1) fates in
    (fates, are, left_is, subst (Reports before after) (append-nil reported) (reports_more before mid after reported [] reports none))
