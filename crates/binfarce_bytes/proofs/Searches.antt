-- A search by a callback, as a loop goes over a walk.
use Rattle.std.proofs.Common.{◌≡◌, Bool, true, false, List, [], ◌∷◌, ◌++◌, All, Option, Result, Ok, Err, IsErr, IsErrAnd, None, Some, MatchOption, refl, sym, ap, subst, ◌∙◌, append_assoc, arith}
use Rattle.std.specs.List.{Contains}
use Rattle.std.proofs.lemmas.List.{append-nil}
use Rattle.std.proofs.lemmas.List.Elements.{All-nil, All-same, All-push, All-contains, Contains-append_right}
use Rattle.binfarce_bytes.specs.Refusal.{Refusal}
use Rattle.binfarce_bytes.specs.Walk.{Walk, Answered, MayBeAsked, IsFirstAccepted, NoneAccepted, FirstAccepted, ended, ahead_of}

module _ {T S : Type 0} (seen : T → S) (post : T → Bool → Type 0) (whole : Walk S) where
  -- the callback refused the items before what is left of the walk
  pub record Reaches (left : Walk S) : Type 0 where
    pub before : List S
    pub occurs : whole.items ≡ before ++ left.items
    pub end : whole.refusal ≡ left.refusal
    pub refused : All (Answered seen post false) before

  pub reaches_all : (left : Walk S) → left ≡ whole → Reaches left
  reaches_all left is = record { before = []; occurs = ap (λ (w : Walk S). w.items) (sym is); end = ap (λ (w : Walk S). w.refusal) (sym is); refused = All-nil (Answered seen post false) }

  module _ (left : Walk S) (h : Reaches left) where
    -- nothing is left
    pub none_accepted : (end : Option Refusal) → left ≡ ended end → NoneAccepted seen post whole end
    none_accepted end is = record {
      refused = All-same (Answered seen post false) whole.items h.before (h.occurs ∙ ap (λ (w : Walk S). h.before ++ w.items) is ∙ append-nil h.before) h.refused;
      end_is = h.end ∙ ap (λ (w : Walk S). w.refusal) is;
    }

    module _ (value : T) (after : Walk S) (is : left ≡ ahead_of (seen value) after) where
      occurs : whole.items ≡ h.before ++ seen value ∷ after.items
      occurs = h.occurs ∙ ap (λ (w : Walk S). h.before ++ w.items) is

      -- the callback may be asked of the next item
      pub may_be_asked : (pre : T → Type 0) → All (MayBeAsked seen pre) whole.items → pre value
      may_be_asked pre all =
          let there : Contains (h.before ++ seen value ∷ after.items) (seen value) = Contains-append_right h.before (seen value ∷ after.items) (seen value) (0, omega arith, refl) in
          All-contains (MayBeAsked seen pre) (h.before ++ seen value ∷ after.items) (seen value) (All-same (MayBeAsked seen pre) (h.before ++ seen value ∷ after.items) whole.items (sym occurs) all) there value refl

      -- it accepts the item, or refuses it
      pub accepted : post value true → IsFirstAccepted seen post whole value
      accepted answer = record { before = h.before; after = after.items; occurs = occurs; accepted = answer; refused = h.refused }

      pub reaches_next : post value false → Reaches after
      reaches_next answer = record {
        before = h.before ++ seen value ∷ [];
        occurs = occurs ∙ sym (append_assoc h.before (seen value ∷ []) after.items);
        end = h.end ∙ ap (λ (w : Walk S). w.refusal) is;
        refused = All-push (Answered seen post false) h.before (seen value) h.refused (value, refl, answer);
      }

-- a search that ends with the walk's refusal
pub refused_by : {T S E : Type 0} (why : Refusal) (seen : T → S) (post : T → Bool → Type 0) (walk : Walk S) (result : Result (Option T) E)
    → IsErr result → NoneAccepted seen post walk (Some why) → FirstAccepted (λ _. why) seen post walk result
refused_by why seen post walk (Ok found) is_err none = absurd cc
refused_by why seen post walk (Err e) is_err none = none

-- a search that ends with a refusal
pub refused_with : {T S E : Type 0} (why : E → Refusal) (seen : T → S) (post : T → Bool → Type 0) (walk : Walk S) (error : E) (result : Result (Option T) E)
    → IsErrAnd result (λ e. e ≡ error) → NoneAccepted seen post walk (Some (why error)) → FirstAccepted why seen post walk result
refused_with why seen post walk error (Ok found) is none = absurd is
refused_with {E = E} why seen post walk error (Err e) is none = subst (λ (d : E). NoneAccepted seen post walk (Some (why d))) (sym is) none

-- a match that is known
pub some_is : {X : Type 0} (o : Option X) (x : X) (P : Type 0) (Q : X → Type 0) → o ≡ Some x → MatchOption o P Q → Q x
some_is (Some y) x P Q e h = let same : y ≡ x = cc in subst Q same h
some_is None x P Q e h = absurd cc

pub none_is : {X : Type 0} (o : Option X) (P : Type 0) (Q : X → Type 0) → o ≡ None → MatchOption o P Q → P
none_is None P Q e h = h
none_is (Some x) P Q e h = absurd cc
