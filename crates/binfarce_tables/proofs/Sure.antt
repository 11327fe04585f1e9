-- Parts that are surely given, and what a reading of them returns.
use Rattle.std.proofs.Common.{◌≡◌, ℕ, ◌+◌, Bool, true, false, cond, leb, List, [], ◌∷◌, ◌++◌, length, Option, Some, Result, sym, subst, ◌∙◌}
use Rattle.std.specs.Prelude.{◌≢◌, All, IfErr}
use Rattle.std.specs.Result.{IsErr, IsErrAnd}
use Rattle.std.proofs.lemmas.List.Elements.{All-nil, All-cons, All-head, All-tail}
use Rattle.binfarce_bytes.specs.Part.{Part, part, whole_part, parts_if}
use Rattle.binfarce_bytes.specs.Source.{ReadsOnly}
use Rattle.binfarce_bytes.specs.declared.error.ParseError.{ParseError}
use Rattle.binfarce_tables.specs.declared.error.ReadError.{ReadError}
use Rattle.binfarce_tables.specs.declared.error.ReadError.TheVariants.{Refused, Unreadable, OutOfMemory}
use Rattle.binfarce_tables.proofs.Readings.{err_is}

-- what is true of each part of a list is true of each part of the lists that it is made of: of those that are surely given, and of those that files agree in
pub front : {X : Type 0} (P : X → Type 0) (xs ys : List X) → All P (xs ++ ys) → All P xs
front P [] ys all = All-nil P
front P (x ∷ xs) ys all = All-cons P x xs (All-head P x (xs ++ ys) all) (front P xs ys (All-tail P x (xs ++ ys) all))

pub back : {X : Type 0} (P : X → Type 0) (xs ys : List X) → All P (xs ++ ys) → All P ys
back P [] ys all = all
back P (x ∷ xs) ys all = back P xs ys (All-tail P x (xs ++ ys) all)

-- of one part
pub only : {X : Type 0} (P : X → Type 0) (x : X) → All P (x ∷ []) → P x
only P x all = All-head P x [] all

pub alone : {X : Type 0} (P : X → Type 0) (x : X) → P x → All P (x ∷ [])
alone P x is = All-cons P x [] is (All-nil P)

-- of a part that is read only if it lies in the file
maybe : (P : Part → Type 0) (fits : Bool) (p : Part) → P p → All P (cond fits (p ∷ []) [])
maybe P true p is = alone P p is
maybe P false p is = All-nil P

pub in_any : (P : Part → Type 0) (file : List ℕ) (offset size : ℕ) → P (part offset size) → All P (whole_part file offset size)
in_any P file offset size is = maybe P (leb (offset + size) (length file)) (part offset size) is

-- of the parts of a structure that is there
pub of_some : {A : Type 0} (P : Part → Type 0) (found : Option A) (x : A) (parts : A → List Part) → found ≡ Some x → All P (parts_if found parts) → All P (parts x)
of_some P found x parts is all = subst (λ (o : Option _). All P (parts_if o parts)) is all

-- readings of some parts, from a log to a later one
module _ {sure : Part → Bool} {old new : (Part → Bool) → Bool} {parts : List Part} {R : Type 0} where
  -- of fewer parts
  pub within : {some : List Part} → ((P : Part → Type 0) → All P parts → All P some) → ReadsOnly sure old new some R → ReadsOnly sure old new parts R
  within among reads = record { asked = λ allowed are. reads.asked allowed (among (λ p. allowed p ≡ true) are); given = λ are. reads.given (among (λ p. sure p ≡ true) are) }

  -- of one of them
  pub one : {p : Part} → ((P : Part → Type 0) → All P parts → P p) → ReadsOnly sure old new (p ∷ []) R → ReadsOnly sure old new parts R
  one {p = p} is reads = within (λ P all. alone P p (is P all)) reads

  -- of some, and then of others
  pub next : {between : (Part → Bool) → Bool} {Q : Type 0} → ReadsOnly sure old between parts Q → ReadsOnly sure between new parts R → ReadsOnly sure old new parts R
  next first second = record { asked = λ allowed are before. second.asked allowed are (first.asked allowed are before); given = second.given }

  -- of which only the end was another
  pub ending : {Q : Type 0} → ReadsOnly sure old new parts R → Q → ReadsOnly sure old new parts Q
  ending reads is = record { asked = reads.asked; given = λ are. is }

-- of no part
pub nothing : {sure : Part → Bool} {log : (Part → Bool) → Bool} {parts : List Part} {R : Type 0} → R → ReadsOnly sure log log parts R
nothing is = record { asked = λ allowed are before. before; given = λ are. is }

-- of a source that can't give its length, and so none of these parts surely
pub unmeasured : {sure : Part → Bool} {log : (Part → Bool) → Bool} {parts : List Part} {R : Type 0} (p : Part)
    → ((P : Part → Type 0) → All P parts → P p) → ((q : Part) → sure q ≡ false) → ReadsOnly sure log log parts R
unmeasured {sure = sure} p is unsure = record {
  asked = λ allowed are before. before;
  given = λ are. let never : true ≡ false = sym (is (λ q. sure q ≡ true) are) ∙ unsure p in absurd cc;
}

module _ {X : Type 0} {sure : Part → Bool} {old new : (Part → Bool) → Bool} {parts : List Part} where
  -- of which an error is passed on by `?`
  pub passed_only : {e : ReadError} (r : Result X ReadError) → ReadsOnly sure old new parts (e ≢ Unreadable) → (IsErr r × IsErrAnd r (λ x. x ≡ e)) → ReadsOnly sure old new parts (IfErr r (λ x. x ≢ Unreadable))
  passed_only {e = e} r reads error = record { asked = reads.asked; given = λ are. err_is (λ (x : Result _ ReadError). IfErr x (λ y. y ≢ Unreadable)) r e error (reads.given are) }

-- a refusal of a reader, as `?` converts it
pub converted_surely : {X : Type 0} (p : ParseError) (r : Result X ReadError) → (IsErr r × IsErrAnd r (λ e. e ≡ Refused p)) → IfErr r (λ e. e ≢ Unreadable)
converted_surely p r error = err_is (λ (x : Result _ ReadError). IfErr x (λ e. e ≢ Unreadable)) r (Refused p) error (λ is. cc)

-- a failed allocation, as `?` converts it
pub out_surely : {X : Type 0} (r : Result X ReadError) → (IsErr r × IsErrAnd r (λ e. e ≡ OutOfMemory)) → IfErr r (λ e. e ≢ Unreadable)
out_surely r error = err_is (λ (x : Result _ ReadError). IfErr x (λ e. e ≢ Unreadable)) r OutOfMemory error (λ is. cc)
