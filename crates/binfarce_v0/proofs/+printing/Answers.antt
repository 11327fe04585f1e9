use Rattle.std.proofs.Common.{◌≡◌, ◌+◌, ◌-◌, ◌<◌, ◌==◌, slice_index, true, false, sym, ap, ◌∙◌, arith}
use Rattle.std.proofs.lemmas.Bool.Decides.{nat_tests}
use Rattle.binfarce_v0_grammar.specs.Forms.{path_form}
use Rattle.binfarce_v0_state.specs.TreeTexts.{separator, is_left_open}
use Rattle.binfarce_v0_grammar.specs.Unfolding.{list_goes_on}
use Rattle.binfarce_v0_grammar.specs.machine.View.{listed_view}
use Rattle.binfarce_v0_state.specs.machine.View.{position_view}
use Rattle.binfarce_v0_state.specs.machine.Printing.{Printing, with_state, write, readers, path_rule}
use Rattle.binfarce_v0_state.specs.machine.Kept.{production_view}
use Rattle.binfarce_v0.proofs.ListLemmas.{items_next}
use Rattle.binfarce_v0.proofs.Shown.{path_closed}
use Rattle.binfarce_v0_state.proofs.KeptLemmas.{may_be_kept}
use Rattle.binfarce_v0.proofs.+printing.Goals as goal
use Rattle.binfarce_v0.proofs.+printing.Goals.{lists::print_items-then-count-eq0, lists::print_items-else-count-eq0}

pub lists::print_items-loop-count-preserved : goal.lists::print_items-loop-count-preserved
lists::print_items-loop-count-preserved t c =
    let p : Printing = c.loop-count.printer in
    let count = c.loop-count.count in
    let most = c.printer.inside.steps_left + 1 in
    let said : c.if-count-eq0.write.now ≡ separator (count == 0) c.args.between.now = elim c.if-count-eq0.branch [ lists::print_items-then-count-eq0 w ↦ grind (arith, nat_tests) | lists::print_items-else-count-eq0 w ↦ grind (arith, nat_tests) ] in
    let first : c.write.new.self ≡ with_state (write (separator (count == 0) c.args.between.now) p.state) p = rw (← said) c.in_ok-write.ensures in
    let part = ap (λ (v : Printing). v.part) c.printer-in-loop-count.view_is in
    let here = ap (λ (v : Printing). v.state.at) c.printer-in-loop-count.view_is in
    let goes : list_goes_on p.part p.state.at ≡ true = rw (← part, ← here) (rw c.as_bytes.ensures.value at c.in_default.ensures) in
    let below : count < most = c.loop-count-test.true in
    let later : (count + 1 == 0) ≡ false = grind (arith, nat_tests) in
    let more = items_next c.args.here.levels_left c.args.here.binder_depth (listed_view c.args.listed) c.args.between.now (most - count) (most - (count + 1)) (count == 0) (count + 1 == 0) p c.write.new.self c.print_item.new.printer (omega arith) (omega arith) later goes first c.in_ok-print_item.ensures in
    (more.0 ∙ c.loop-count.invariant.0, omega (arith, more.1, c.loop-count.invariant.1))

pub productions::print_and_keep-keep-requires : goal.productions::print_and_keep-keep-requires
productions::print_and_keep-keep-requires t c =
    may_be_kept (production_view c.args.production) c.args.here.levels_left c.args.here.binder_depth c.args.printer.now c.mark-mark.new.self c.print_anew.new.printer c.mark-mark.result c.in_ok-opened.opened c.mark-mark.ensures.mark c.mark-mark.ensures.state c.in_ok-opened.ensures.printed c.in_ok-opened.ensures.opened

pub productions::print_by_letter-returns-in-Path-clause-printed : goal.productions::print_by_letter-returns-in-Path-clause-printed
productions::print_by_letter-returns-in-Path-clause-printed t c = rw c.in-Path.is c.print_path_by_letter.ensures.printed

pub productions::print_by_letter-returns-in-Path-clause-opened : goal.productions::print_by_letter-returns-in-Path-clause-opened
productions::print_by_letter-returns-in-Path-clause-opened t c = rw c.in-Path.is c.print_path_by_letter.ensures.opened

pub productions::print_by_letter-returns-in_ok-print_type_by_letter-in-Type-clause-printed : goal.productions::print_by_letter-returns-in_ok-print_type_by_letter-in-Type-clause-printed
productions::print_by_letter-returns-in_ok-print_type_by_letter-in-Type-clause-printed t c = rw c.in-Type.is c.in_ok-print_type_by_letter-in-Type.ensures

pub productions::print_by_letter-returns-in_ok-print_const_by_letter-in-Const-clause-printed : goal.productions::print_by_letter-returns-in_ok-print_const_by_letter-in-Const-clause-printed
productions::print_by_letter-returns-in_ok-print_const_by_letter-in-Const-clause-printed t c = rw c.in-Const.is c.in_ok-print_const_by_letter-in-Const.ensures

pub paths::print_path_by_letter-returns-in_ok-print_closed_path-in_default-byte_at-clause-opened : goal.paths::print_path_by_letter-returns-in_ok-print_closed_path-in_default-byte_at-clause-opened
paths::print_path_by_letter-returns-in_ok-print_closed_path-in_default-byte_at-clause-opened t c =
    let part = c.args.printer.now.part in
    let at = c.in-Some.at in
    let no_arguments : (slice_index part at == 73) ≡ false = grind (arith, nat_tests) in
    let no_back_reference : (slice_index part at == 66) ≡ false = grind (arith, nat_tests) in
    let s = c.args.printer.now.state in
    let position = position_view c.args.position in
    let here = sym (ap (λ (p : Printing). p.state.at) c.printer.view_is) ∙ c.in-Some.is in
    let closed = path_closed part (readers part c.args.here.levels_left) position c.args.here.binder_depth s at no_arguments no_back_reference in
    sym (ap (λ start. is_left_open (path_rule part (readers part c.args.here.levels_left) position c.args.here.binder_depth s (path_form part start)).0 position) here ∙ closed)
