-- A search through functions, one after the other.
use Rattle.std.proofs.Common.{◌≡◌, inl, inr, ℕ, ◌+◌, ◌<◌, ◌≤◌, true, false, true≢false, List, [], ◌∷◌, ◌++◌, length, length-take, take, get_or, append_assoc, Option, Some, None, refl, sym, ap, subst, ◌∙◌, arith}
use Rattle.std.specs.List.{All}
use Rattle.std.proofs.lemmas.List.Elements.{All-nil, All-cons, All-same, All-push, All-append, All-weaker}
use Rattle.std.proofs.lemmas.Grind.{take_at_read}
use Rattle.std.proofs.lemmas.List.{take_all}
use Rattle.binfarce_c.specs.declared.functions.Function.{Function}
use Rattle.binfarce_c.specs.FunctionAt.{IsFound, IsHighest, SymbolizesTo, holds}

module _ (address : ℕ) (before : List Function) (function : Function) where
  -- one that isn't higher changes nothing
  pub kept : (index highest : ℕ) → (holds address function ≡ true → function.address ≤ highest) → IsHighest address before index highest → IsHighest address (before ++ function ∷ []) index highest
  kept index highest low is = record {
    before = is.before;
    function = is.function;
    after = is.after ++ function ∷ [];
    occurs = ap (λ (fs : List Function). fs ++ function ∷ []) is.occurs ∙ append_assoc is.before (is.function ∷ is.after) (function ∷ []);
    index_is = is.index_is;
    highest_is = is.highest_is;
    held = is.held;
    lower = is.lower;
    not_higher = All-push (λ (f : Function). holds address f ≡ true → f.address ≤ highest) is.after function is.not_higher low;
  }

  -- one that doesn't hold the address
  pub not_held : (found : Option (ℕ × ℕ)) → holds address function ≡ false → IsFound address before found → IsFound address (before ++ function ∷ []) found
  not_held None misses is = All-push (λ (f : Function). holds address f ≡ false) before function is misses
  not_held (Some found) misses is = kept found.0 found.1 (λ held. absurd (true≢false (sym held ∙ misses))) is

  -- one that is higher than what was found
  pub higher : (index lower highest : ℕ) → index ≡ length before → holds address function ≡ true → highest < function.address → IsHighest address before lower highest → IsHighest address (before ++ function ∷ []) index function.address
  higher index lower highest at is_held above is =
      let P : Function → Type 0 = λ f. holds address f ≡ true → f.address < function.address in
      record {
        before = before;
        function = function;
        after = [];
        occurs = refl;
        index_is = at;
        highest_is = refl;
        held = is_held;
        lower = All-same P before (is.before ++ is.function ∷ is.after) is.occurs
            (All-append P is.before (is.function ∷ is.after)
            (All-weaker (λ (f : Function). holds address f ≡ true → f.address < highest) P (λ f low held. omega (arith, low held, above)) is.before is.lower)
            (All-cons P is.function is.after (λ _. omega (arith, is.highest_is, above))
            (All-weaker (λ (f : Function). holds address f ≡ true → f.address ≤ highest) P (λ f low held. omega (arith, low held, above)) is.after is.not_higher)));
        not_higher = All-nil (λ (f : Function). holds address f ≡ true → f.address ≤ function.address);
      }

-- a loop over the functions by index
module _ (address : ℕ) (functions : List Function) where
  pub none_yet : IsFound address (take 0 functions) None
  none_yet = All-nil (λ (f : Function). holds address f ≡ false)

  pub next : (index : ℕ) (d : Function) (found after : Option (ℕ × ℕ)) → index < length functions
      → ((before : List Function) → index ≡ length before → IsFound address before found → IsFound address (before ++ get_or functions index d ∷ []) after)
      → IsFound address (take index functions) found → IsFound address (take (index + 1) functions) after
  next index d found after within more so =
      subst (λ (fs : List Function). IsFound address fs after) (sym (take_at_read functions index d within).1)
      (more (take index functions) (omega (arith, within, length-take index functions)) so)

  all_of_them : (end : ℕ) → length functions ≤ end → take end functions ≡ functions
  all_of_them end whole = take_all end functions whole

  pub found_at_end : (end : ℕ) (found : ℕ × ℕ) → length functions ≤ end → IsFound address (take end functions) (Some found) → SymbolizesTo address functions found.0
  found_at_end end found whole so = inl (found.1, subst (λ (fs : List Function). IsHighest address fs found.0 found.1) (all_of_them end whole) so)

  pub none_at_end : (end : ℕ) → length functions ≤ end → IsFound address (take end functions) None → SymbolizesTo address functions (length functions)
  none_at_end end whole so = inr (subst (λ (fs : List Function). All (λ (f : Function). holds address f ≡ false) fs) (all_of_them end whole) so, refl)
