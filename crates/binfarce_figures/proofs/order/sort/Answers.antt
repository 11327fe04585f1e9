use Rattle.std.proofs.Common.{◌≡◌, Ok, OnOk, Option, Some, nat_cmp, ap, ◌∙◌, map, rules, subst, sym}
use Rattle.std.proofs.lemmas.Fn.{always_returns_same}
use Rattle.binfarce.specs.SymbolViews.{section_function_view}
use Rattle.binfarce_bytes.specs.declared.functions.SectionFunction.{SectionFunction}
use Rattle.binfarce_figures.specs.declared.order.Order.{Order}
use Rattle.binfarce_figures.specs.Order.{IsByAddress}
use Rattle.binfarce_figures.specs.machine.Listings.{IsPlaced}
use Rattle.binfarce_figures.proofs.Ordered.{by_falling, by_key, entries_by_address, entries_by_size, reversed, reversed_is}
use Rattle.binfarce_figures.proofs.order.sort.Goals.{In_ok-sort_by_key}
use Rattle.binfarce_figures.proofs.order.sort.Goals as goal

by_address : (c : In_ok-sort_by_key) → IsByAddress (map section_function_view c.args.functions.now.items) (map section_function_view c.sort_by_key.new.self.items)
by_address c =
    let sorted = c.in_ok-sort_by_key.ensures in
    let functions = c.args.functions.now.items in
    let rising = c.sort_by_key.new.self.items in
    entries_by_address functions rising
    (by_key {E = Unit {0}} _ _ (λ (f : SectionFunction). f.function.address) nat_cmp functions rising (Ok tt) (always_returns_same _ (λ a r. r ≡ a.0.now.function.address) _ (λ a r q k. search rules)) sorted.permutation sorted.sorted sorted.stable)

pub returns-in-Size : goal.returns-in-Size
returns-in-Size c =
    let result = c.sort_by_key-in-Size.result in
    let functions = c.args.functions.now.items in
    let rising = c.sort_by_key.new.self.items in
    let by_size = c.sort_by_key-in-Size.new.self.items in
    let sorted = c.sort_by_key-in-Size.ensures in
    subst (λ (o : Option Order). OnOk result (IsPlaced o (map section_function_view functions) (map section_function_view by_size))) (sym (c.in-Some.is ∙ ap (λ (o : Order). Some o) c.in-Size.is))
    (entries_by_size functions rising by_size result (by_address (goal.at.returns-in-Size c).In_ok-sort_by_key)
    (by_falling _ _ (λ (f : SectionFunction). f.function.size) rising by_size result (always_returns_same _ (λ a r. r ≡ reversed a.0.now.function.size) _ (λ a r q k. (reversed_is r a.0.now.function.size (search rules), search rules))) sorted.permutation sorted.sorted sorted.stable))

pub returns-in-Address : goal.returns-in-Address
returns-in-Address c =
    subst (λ (o : Option Order). IsPlaced o (map section_function_view c.args.functions.now.items) (map section_function_view c.sort_by_key.new.self.items)) (sym (c.in-Some.is ∙ ap (λ (o : Order). Some o) c.in-Address.is)) (by_address (goal.at.returns-in-Address c).In_ok-sort_by_key)

pub returns-in-Name : goal.returns-in-Name
returns-in-Name c =
    subst (λ (o : Option Order). IsPlaced o (map section_function_view c.args.functions.now.items) (map section_function_view c.sort_by_key.new.self.items)) (sym (c.in-Some.is ∙ ap (λ (o : Order). Some o) c.in-Name.is)) (by_address (goal.at.returns-in-Name c).In_ok-sort_by_key)
