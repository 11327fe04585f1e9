-- One more item of a list.
use Rattle.std.proofs.Common.{◌≡◌, ℕ, zero, suc, ◌-◌, ◌<◌, Bool, true, false, List, ◌==◌, if◌then◌else◌, refl, ap, arith}
use Rattle.std.specs.Prelude.{codes, []}
use Rattle.binfarce_v0_grammar.specs.Forms.{has_byte}
use Rattle.binfarce_v0_grammar.specs.Tree.{Items, NoItems, ItemThen, NoBindings, Listed}
use Rattle.binfarce_v0_state.specs.TreeTexts.{single_mark, separator}
use Rattle.binfarce_v0_grammar.specs.Unfolding.{list_goes_on}
use Rattle.binfarce_v0_state.specs.machine.Printing.{State, Readers, Printing, with_state, readers, items_rule, list_rule, items_count, bindings_rule, binding_rule, stopped, write, item_rule}
use Rattle.std.proofs.lemmas.Bool.Decides.{nat_tests}

pub items_step : (part : List ℕ) (R : Readers) (binder_depth : ℕ) (listed : Listed) (between : List ℕ) (n : ℕ) (is_first : Bool) (s : State) → 0 < n → items_rule part R binder_depth listed between n is_first s ≡ list_rule part R binder_depth listed between (items_rule part R binder_depth listed between (n - 1) false) is_first s (list_goes_on part s.at)
unfolding items_rule
items_step part R binder_depth listed between zero is_first s h = absurd (omega arith)
items_step part R binder_depth listed between (suc n) is_first s h = let e : n ≡ suc n - 1 = omega arith in rw (← e) refl

pub bindings_step : (part : List ℕ) (R : Readers) (binder_depth n : ℕ) (is_open : Bool) (s : State) → 0 < n → bindings_rule part R binder_depth n is_open s ≡ binding_rule part R binder_depth (bindings_rule part R binder_depth (n - 1)) is_open s (has_byte part 112 s.at)
unfolding bindings_rule
bindings_step part R binder_depth zero is_open s h = absurd (omega arith)
bindings_step part R binder_depth (suc n) is_open s h = let e : n ≡ suc n - 1 = omega arith in rw (← e) refl

pub items_none : (part : List ℕ) (R : Readers) (binder_depth : ℕ) (listed : Listed) (between : List ℕ) (n : ℕ) (is_first : Bool) (s : State) → n ≡ 0 → items_rule part R binder_depth listed between n is_first s ≡ (NoItems, stopped s)
unfolding items_rule
items_none part R binder_depth listed between n is_first s h = rw h refl

pub bindings_none : (part : List ℕ) (R : Readers) (binder_depth n : ℕ) (is_open : Bool) (s : State) → n ≡ 0 → bindings_rule part R binder_depth n is_open s ≡ (NoBindings, stopped s)
unfolding bindings_rule
bindings_none part R binder_depth n is_open s h = rw h refl

two_not_one : (n : ℕ) → (suc (suc n) == 1) ≡ false
two_not_one n = grind (arith, nat_tests)

pub single_mark_count : (items : Items) → single_mark items ≡ (if items_count items == 1 then codes "," else [])
single_mark_count NoItems = refl
single_mark_count (ItemThen i NoItems) = refl
single_mark_count (ItemThen i (ItemThen j items)) = rw (two_not_one (items_count items)) refl

-- an item and the list after it
pub items_more : (part : List ℕ) (R : Readers) (binder_depth : ℕ) (listed : Listed) (between : List ℕ) (n m : ℕ) (is_first later : Bool) (s s2 s3 : State) → 0 < n → m ≡ n - 1 → later ≡ false → list_goes_on part s.at ≡ true → s2 ≡ write (separator is_first between) s → s3 ≡ (item_rule part R binder_depth listed s2).1 → ((items_rule part R binder_depth listed between m later s3).1 ≡ (items_rule part R binder_depth listed between n is_first s).1) × (suc (items_count (items_rule part R binder_depth listed between m later s3).0) ≡ items_count (items_rule part R binder_depth listed between n is_first s).0)
items_more part R binder_depth listed between n m is_first later s s2 s3 h em ef eg e2 e3 =
    rw (items_step part R binder_depth listed between n is_first s h, eg, e3, e2, em, ef) (refl, refl)

-- so for a printer
pub items_next : (levels_left binder_depth : ℕ) (listed : Listed) (between : List ℕ) (n m : ℕ) (is_first later : Bool) (p q r : Printing) → 0 < n → m ≡ n - 1 → later ≡ false → list_goes_on p.part p.state.at ≡ true → q ≡ with_state (write (separator is_first between) p.state) p → r ≡ with_state (item_rule q.part (readers q.part levels_left) binder_depth listed q.state).1 q → (with_state (items_rule r.part (readers r.part levels_left) binder_depth listed between m later r.state).1 r ≡ with_state (items_rule p.part (readers p.part levels_left) binder_depth listed between n is_first p.state).1 p) × (suc (items_count (items_rule r.part (readers r.part levels_left) binder_depth listed between m later r.state).0) ≡ items_count (items_rule p.part (readers p.part levels_left) binder_depth listed between n is_first p.state).0)
items_next levels_left binder_depth listed between n m is_first later p q r h em ef eg e2 e3 =
    let more = items_more p.part (readers p.part levels_left) binder_depth listed between n m is_first later p.state (write (separator is_first between) p.state) _ h em ef eg refl refl in
    rw (e3, e2) (ap (λ s. with_state s p) more.0, more.1)
