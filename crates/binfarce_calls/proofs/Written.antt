-- What is written of a text that no heading precedes, by what is taken of it.
use Rattle.std.proofs.Common.{◌≡◌, ◌∙◌, ◌⊎◌, inl, inr, ℕ, List, [], ◌++◌, Option, Some, None, append-nil, refl, sym, ap, subst}
use Rattle.std.specs.Io.KnownBytes.{Appends, Keeps}
use Rattle.std.specs.Option.{option_map}
use Rattle.binfarce_tools.specs.Writing.{AppendsBeginning}
use Rattle.binfarce_io.specs.Output.{pending, taken, writer_of}
use Rattle.binfarce_io.specs.declared.output.Output.{Output}

none_left : (bytes : Option (List ℕ)) (left : List ℕ) → left ≡ [] → option_map (λ b. b ++ left) bytes ≡ bytes
none_left None left is = refl
none_left (Some a) left is = ap Some (ap (λ (l : List ℕ). a ++ l) is ∙ append-nil a)

-- what is kept is still appended
kept_on : (a b c : Option (List ℕ)) (text : List ℕ) → Appends a b text → Keeps b c → Appends a c text
kept_on None b c text appends kept = tt
kept_on (Some a) None c text appends kept = absurd appends
kept_on (Some a) (Some b) None text appends kept = absurd kept
kept_on (Some a) (Some b) (Some c) text appends kept = kept ∙ appends

-- nothing is appended
pub nothing : (a : Option (List ℕ)) → Appends a a []
nothing None = tt
nothing (Some a) = sym (append-nil a)

module _ {W : Type 0} (contents : W → Option (List ℕ)) (start begun mid : Output W) (same : writer_of begun ≡ writer_of start) (none : pending begun ≡ []) where
  begun_is : taken contents begun ≡ contents (writer_of start)
  begun_is = none_left (contents (writer_of begun)) (pending begun) none ∙ ap contents same

  -- what is taken
  pub took : (text : List ℕ) → Appends (taken contents begun) (taken contents mid) text → Appends (contents (writer_of start)) (taken contents mid) text
  took text appends = subst (λ (old : Option (List ℕ)). Appends old (taken contents mid) text) begun_is appends

  pub took_beginning : (text : List ℕ) → AppendsBeginning (taken contents begun) (taken contents mid) text → AppendsBeginning (contents (writer_of start)) (taken contents mid) text
  took_beginning text begins = subst (λ (old : Option (List ℕ)). AppendsBeginning old (taken contents mid) text) begun_is begins

  -- it is kept where the rest of a heading, which there isn't, can't be written
  pub still_took : (new : Output W) (text : List ℕ) → Appends (taken contents begun) (taken contents mid) text → Keeps (taken contents mid) (taken contents new) → Appends (contents (writer_of start)) (taken contents new) text
  still_took new text appends kept = kept_on (contents (writer_of start)) (taken contents mid) (taken contents new) text (took text appends) kept

  pub took_whole : (new : Output W) (text : List ℕ) → Appends (taken contents begun) (taken contents mid) text → Keeps (taken contents mid) (taken contents new) → AppendsBeginning (contents (writer_of start)) (taken contents new) text
  took_whole new text appends kept = (text, [], sym (append-nil text), still_took new text appends kept)

  -- and it is written where it can
  pub wrote : (new : Output W) (text : List ℕ) → Appends (taken contents begun) (taken contents mid) text → Keeps (taken contents mid) (taken contents new) → pending new ≡ [] → Appends (contents (writer_of start)) (contents (writer_of new)) text
  wrote new text appends kept all = subst (λ (n : Option (List ℕ)). Appends (contents (writer_of start)) n text) (none_left (contents (writer_of new)) (pending new) all) (still_took new text appends kept)

  -- the writing failed
  pub broke : (Failed Full : Type 0) (Is : List ℕ → Type 0) → (Failed × ((text : List ℕ) × Is text × AppendsBeginning (taken contents begun) (taken contents mid) text)) ⊎ (Full × Appends (taken contents begun) (taken contents mid) [])
      → (Failed × ((text : List ℕ) × Is text × AppendsBeginning (contents (writer_of start)) (taken contents mid) text)) ⊎ (Full × Appends (contents (writer_of start)) (taken contents mid) [])
  broke Failed Full Is (inl (failed, (text, is, begins))) = inl (failed, (text, is, took_beginning text begins))
  broke Failed Full Is (inr (full, none)) = inr (full, took [] none)
