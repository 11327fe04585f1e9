-- The lines of entries, written one after the other.
use Rattle.std.proofs.Common.{◌≡◌, ℕ, List, [], ◌∷◌, ◌++◌, Option, Some, None, Result, Ok, Err, refl, sym, ap, subst, ◌∙◌, append_assoc, append-nil}
use Rattle.std.specs.Io.KnownBytes.{Appends}
use Rattle.std.specs.Result.{IsErrAnd}
use Rattle.std.specs.List.{AllZip, concat}
use Rattle.binfarce.specs.Refusal.{Refusal}
use Rattle.binfarce_tools.specs.declared.list.ListError.{ListError}
use Rattle.binfarce_tools.specs.declared.list.ListError.TheVariants.{Unknown, Parse, OutOfMemory, Write}
use Rattle.binfarce_tools.specs.ListWords.{outcome_of, Writes}
use Rattle.binfarce_tools.specs.Writing as writing
use Rattle.binfarce_tools.specs.Entries.{GetsAs}

-- the lines of entries of any kind
module _ {X : Type 0} (IsLine : X → List ℕ → Type 0) where
  -- all is the lines of these entries
  abbrev pub AreLines : List X → List ℕ → Type 0
  AreLines entries all = (lines : List (List ℕ)) × AllZip IsLine entries lines × (all ≡ concat lines)

  -- with the lines of what is left after it, the text is the lines of all
  abbrev pub Completes : List X → List X → List ℕ → Type 0
  Completes all left text = (others : List ℕ) → AreLines left others → AreLines all (text ++ others)

  one_more : (entry : X) (left : List X) (line others : List ℕ) → IsLine entry line → AreLines left others → AreLines (entry ∷ left) (line ++ others)
  one_more entry left line others is are = (line ∷ are.0, (is, are.1), ap (λ (x : List ℕ). line ++ x) are.2)

  -- the line of the first entry that was left was written
  pub one_line : (all before left : List X) (entry : X) (line text new : List ℕ) → before ≡ entry ∷ left → IsLine entry line → new ≡ text ++ line → Completes all before text → Completes all left new
  one_line all before left entry line text new first is grown w others are =
      let P : List ℕ → Type 0 = λ x. AreLines all x in
      let Q : List X → Type 0 = λ x. Completes all x text in
      subst P (sym (ap (λ (x : List ℕ). x ++ others) grown ∙ append_assoc text line others)) (subst Q first w (line ++ others) (one_more entry left line others is are))

  -- no entry is left
  pub whole : (all left : List X) (text : List ℕ) → left ≡ [] → Completes all left text → AreLines all text
  whole all left text none w =
      let P : List ℕ → Type 0 = λ x. AreLines all x in
      let Q : List X → Type 0 = λ x. Completes all x text in
      subst P (append-nil text) (subst Q none w [] ([], tt, refl))

pub nothing : (old : Option (List ℕ)) → Appends old old []
nothing None = tt
nothing (Some taken) = sym (append-nil taken)

-- what was taken of a text of any kind, by what a listing answers
module _ {L : Type 0} (IsText : L → List ℕ → Type 0) where
  abbrev pub Takes : Option (Result L Refusal) → Option (List ℕ) → Option (List ℕ) → Result (Unit {0}) ListError → Type 0
  Takes answer old new result = writing.Takes IsText answer old new (outcome_of result)

  -- the text of what a file holds was written, or a beginning of it
  pub takes : {V : Type 0} (Holds : L → V → Type 0) (memory : Result L Refusal → Type 0) (answer : Option (Result L Refusal)) (value : V) (text : List ℕ) (old new : Option (List ℕ)) (result : Result (Unit {0}) ListError)
      → GetsAs Holds memory answer (Ok value) → ((all : L) → answer ≡ Some (Ok all) → Holds all value → IsText all text) → Writes old new text result → Takes answer old new result
  takes Holds memory None value text old new result gets is wrote = absurd gets
  takes Holds memory (Some (Err refusal)) value text old new result gets is wrote = absurd gets
  takes Holds memory (Some (Ok all)) value text old new (Ok x) gets is wrote = (text, is all refl gets, wrote)
  takes Holds memory (Some (Ok all)) value text old new (Err Write) gets is wrote = (text, is all refl gets, wrote.1)
  takes Holds memory (Some (Ok all)) value text old new (Err Unknown) gets is wrote = let e = wrote.0 in absurd cc
  takes Holds memory (Some (Ok all)) value text old new (Err (Parse p)) gets is wrote = let e = wrote.0 in absurd cc
  takes Holds memory (Some (Ok all)) value text old new (Err OutOfMemory) gets is wrote = let e = wrote.0 in absurd cc

  -- nothing was written if an allocation failed
  pub takes_nothing : (answer : Option (Result L Refusal)) (old : Option (List ℕ)) (result : Result (Unit {0}) ListError) → IsErrAnd result (λ e. e ≡ OutOfMemory) → Takes answer old old result
  takes_nothing answer old (Ok x) is = absurd is
  takes_nothing answer old (Err e) is =
      let P : ListError → Type 0 = λ e. Takes answer old old (Err e) in subst P (sym is) (nothing old)
