-- One more item of a list that is read.
use Rattle.std.proofs.Common.{◌≡◌, ℕ, zero, suc, ◌+◌, ◌-◌, ◌<◌, true, false, List, Some, None, if◌then◌else◌, refl, arith}
use Rattle.binfarce_text.specs.Steps.{◌>>=◌}
use Rattle.binfarce_v0_grammar.specs.Identifiers.{UndisambiguatedIdentifier, undisambiguated_identifier}
use Rattle.binfarce_v0_grammar.specs.Forms.{has_byte}
use Rattle.binfarce_v0_grammar.specs.Tree.{Listed}
use Rattle.binfarce_v0_grammar.specs.machine.Ends.{Ends, items_end, item_end, bindings_end, bound_from}

pub items_end_step : (part : List ℕ) (R : Ends) (listed : Listed) (n at : ℕ) → 0 < n → items_end part R listed n at ≡ (if has_byte part 69 (Some at) then Some (at + 1) else (item_end part R listed at >>= items_end part R listed (n - 1)))
unfolding items_end
items_end_step part R listed zero at h = absurd (omega arith)
items_end_step part R listed (suc n) at h = let e : n ≡ suc n - 1 = omega arith in rw (← e) refl

pub items_end_none : (part : List ℕ) (R : Ends) (listed : Listed) (n at : ℕ) → n ≡ 0 → items_end part R listed n at ≡ None
unfolding items_end
items_end_none part R listed n at h = rw h refl

pub bindings_end_step : (part : List ℕ) (R : Ends) (n at : ℕ) → 0 < n → bindings_end part R n at ≡ (if has_byte part 112 (Some at) then bound_from R (bindings_end part R (n - 1)) (undisambiguated_identifier part (at + 1)) else Some at)
unfolding bindings_end
bindings_end_step part R zero at h = absurd (omega arith)
bindings_end_step part R (suc n) at h = let e : n ≡ suc n - 1 = omega arith in rw (← e) refl

pub bindings_end_none : (part : List ℕ) (R : Ends) (n at : ℕ) → n ≡ 0 → bindings_end part R n at ≡ None
unfolding bindings_end
bindings_end_none part R n at h = rw h refl

pub items_end_more : (part : List ℕ) (R : Ends) (listed : Listed) (n m at next : ℕ) → 0 < n → m ≡ n - 1 → has_byte part 69 (Some at) ≡ false → item_end part R listed at ≡ Some next → items_end part R listed m next ≡ items_end part R listed n at
items_end_more part R listed n m at next h em e i =
    rw (items_end_step part R listed n at h, e, i, em) refl

pub bindings_end_more : (part : List ℕ) (R : Ends) (n m at next : ℕ) (i : UndisambiguatedIdentifier × ℕ) → 0 < n → m ≡ n - 1 → has_byte part 112 (Some at) ≡ true → undisambiguated_identifier part (at + 1) ≡ Some i → R.ty i.1 ≡ Some next → bindings_end part R m next ≡ bindings_end part R n at
bindings_end_more part R n m at next i h em e ei t =
    rw (bindings_end_step part R n at h, e, ei, t, em) refl
