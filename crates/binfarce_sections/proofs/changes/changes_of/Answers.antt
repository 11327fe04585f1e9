use Rattle.std.proofs.Common.{◌≡◌, ℕ, Bor, List, Ok, nat_cmp, filter, rules, sym, ap, subst, ◌∙◌, arith}
use Rattle.std.proofs.lemmas.Fn.{always_returns_same}
use Rattle.std.proofs.lemmas.List.Sorted.{sum_by-IsPermutation}
use Rattle.std.specs.Cmp.Lexicographic.{slice_cmp}
use Rattle.binfarce_rows.specs.Columns.{difference}
use Rattle.binfarce_sections.specs.declared.changes.Change.{Change}
use Rattle.binfarce_sections.specs.Changes.{IsRanked, differs, parts_of}
use Rattle.binfarce_sections.specs.Sums.{IsByKey}
use Rattle.binfarce_sections.specs.machine.Changed.{Fit, joined}
use Rattle.binfarce_sections.proofs.ChangeSums.{fit_joined, fit_less}
use Rattle.binfarce_sections.proofs.Joined.{names, rows_between}
use Rattle.binfarce_sections.proofs.Ranked.{by_falling, by_key_as, reversed, reversed_is}
use Rattle.binfarce_sections.proofs.changes.changes_of.Goals.{In_ok-sort_by_key}
use Rattle.binfarce_sections.proofs.changes.changes_of.Goals as goal

by_name : (c : In_ok-sort_by_key) → IsByKey (λ (x : Change). x.name.now) (slice_cmp nat_cmp) c.in_ok-given.given.items c.sort_by_key.new.self.items
by_name c =
    let sorted = c.in_ok-sort_by_key.ensures in
    by_key_as {E = Unit {0}} _ _ (λ (x : Change). x.name) (λ (a b : Bor (List ℕ)). slice_cmp nat_cmp a.now b.now) (λ (x : Change). x.name.now) (slice_cmp nat_cmp) c.in_ok-given.given.items c.sort_by_key.new.self.items (Ok tt)
    (always_returns_same _ (λ a r. r ≡ a.0.now.name) _ (λ a r q k. search rules)) sorted.permutation sorted.sorted sorted.stable (λ s. s) (λ s. s)

pub joined_of-requires : goal.joined_of-requires
joined_of-requires c =
    let given = c.in_ok-given.given.items in
    let sorted = c.sort_by_key.new.self.items in
    subst Fit (sym c.deref.ensures.value) (fit_less given sorted c.in_ok-given.ensures.fit (λ w adds. omega (arith, sum_by-IsPermutation w given sorted c.in_ok-sort_by_key.ensures.permutation)))

abbrev memory_change : Change → ℕ
memory_change x = difference x.old_memory x.new_memory

abbrev bytes_change : Change → ℕ
bytes_change x = difference x.old x.new

pub returns-clause-from : goal.returns-clause-from
returns-clause-from c =
    let given = c.in_ok-given.given.items in
    let sorted = c.sort_by_key.new.self.items in
    let changes = c.in_ok-changes.changes.items in
    let second = c.in_ok-sort_by_key-2.ensures in
    let third = c.in_ok-sort_by_key-3.ensures in
    let by_memory = by_falling {E = Unit {0}} _ _ memory_change changes c.sort_by_key-2.new.self.items (Ok tt)
    (always_returns_same _ (λ a r. r ≡ reversed (memory_change a.0.now)) _ (λ a r q k. (reversed_is r (memory_change a.0.now) (search rules), search rules))) second.permutation second.sorted second.stable in
    let by_bytes = by_falling {E = Unit {0}} _ _ bytes_change c.sort_by_key-2.new.self.items c.sort_by_key-3.new.self.items (Ok tt)
    (always_returns_same _ (λ a r. r ≡ reversed (bytes_change a.0.now)) _ (λ a r q k. (reversed_is r (bytes_change a.0.now) (search rules), search rules))) third.permutation third.sorted third.stable in
    let joined_is : changes ≡ filter differs (joined sorted) = c.in_ok-changes.ensures ∙ ap (λ (xs : List Change). filter differs (joined xs)) c.deref.ensures.value in
    let rows = rows_between given (parts_of c.args.old.now) (parts_of c.args.new.now) c.in_ok-given.ensures.rows sorted (by_name (goal.at.returns-clause-from c).In_ok-sort_by_key) in
    (names (joined sorted), joined sorted, rows.0, rows.1, subst (λ (xs : List Change). IsRanked xs c.sort_by_key-3.new.self.items) joined_is (c.sort_by_key-2.new.self.items, by_memory, by_bytes))

pub returns-clause-fit : goal.returns-clause-fit
returns-clause-fit c =
    let given = c.in_ok-given.given.items in
    let sorted = c.sort_by_key.new.self.items in
    let changes = c.in_ok-changes.changes.items in
    let by_memory = c.sort_by_key-2.new.self.items in
    let by_bytes = c.sort_by_key-3.new.self.items in
    let fit_sorted = fit_less given sorted c.in_ok-given.ensures.fit (λ w adds. omega (arith, sum_by-IsPermutation w given sorted c.in_ok-sort_by_key.ensures.permutation)) in
    let joined_is : changes ≡ filter differs (joined sorted) = c.in_ok-changes.ensures ∙ ap (λ (xs : List Change). filter differs (joined xs)) c.deref.ensures.value in
    fit_less changes by_bytes (subst Fit (sym joined_is) (fit_joined sorted fit_sorted))
    (λ w adds. omega (arith, sum_by-IsPermutation w changes by_memory c.in_ok-sort_by_key-2.ensures.permutation, sum_by-IsPermutation w by_memory by_bytes c.in_ok-sort_by_key-3.ensures.permutation))
