use Rattle.std.proofs.Common.{◌≡◌, ◌+◌, ◌-◌, ◌*◌, ◌==◌}
use Rattle.binfarce_v0_grammar.specs.machine.View.{listed_view}
use Rattle.binfarce_v0_state.specs.machine.Printing.{with_state, readers, items_rule, items_from, items_count, bindings_rule}
use Rattle.binfarce_v0.proofs.+printing.Given as goal

abbrev pub decreases-productions::print : goal.decreases-productions::print
decreases-productions::print l = 12 * l.here.levels_left + 2

abbrev pub decreases-productions::print_and_keep : goal.decreases-productions::print_and_keep
decreases-productions::print_and_keep l = 12 * l.here.levels_left + 1

abbrev pub decreases-productions::print_anew : goal.decreases-productions::print_anew
decreases-productions::print_anew l = 12 * l.here.levels_left + 0

abbrev pub decreases-productions::print_by_letter : goal.decreases-productions::print_by_letter
decreases-productions::print_by_letter l = 12 * l.here.levels_left + 11

abbrev pub decreases-productions::print_target : goal.decreases-productions::print_target
decreases-productions::print_target l = 12 * l.here.levels_left + 3

abbrev pub decreases-paths::print_path : goal.decreases-paths::print_path
decreases-paths::print_path l = 12 * l.here.levels_left + 3

abbrev pub decreases-paths::print_impl_path : goal.decreases-paths::print_impl_path
decreases-paths::print_impl_path l = 12 * l.here.levels_left + 7

abbrev pub decreases-paths::print_qualified : goal.decreases-paths::print_qualified
decreases-paths::print_qualified l = 12 * l.here.levels_left + 7

abbrev pub decreases-paths::print_generic : goal.decreases-paths::print_generic
decreases-paths::print_generic l = 12 * l.here.levels_left + 7

abbrev pub decreases-paths::print_inherent_impl : goal.decreases-paths::print_inherent_impl
decreases-paths::print_inherent_impl l = 12 * l.here.levels_left + 8

abbrev pub decreases-paths::print_trait_impl : goal.decreases-paths::print_trait_impl
decreases-paths::print_trait_impl l = 12 * l.here.levels_left + 8

abbrev pub decreases-paths::print_nested : goal.decreases-paths::print_nested
decreases-paths::print_nested l = 12 * l.here.levels_left + 8

abbrev pub decreases-paths::print_closed_path : goal.decreases-paths::print_closed_path
decreases-paths::print_closed_path l = 12 * l.here.levels_left + 9

abbrev pub decreases-paths::print_path_by_letter : goal.decreases-paths::print_path_by_letter
decreases-paths::print_path_by_letter l = 12 * l.here.levels_left + 10

abbrev pub decreases-lists::print_argument : goal.decreases-lists::print_argument
decreases-lists::print_argument l = 12 * l.here.levels_left + 4

abbrev pub decreases-lists::print_bindings : goal.decreases-lists::print_bindings
decreases-lists::print_bindings l = 12 * l.here.levels_left + 4

abbrev pub decreases-lists::print_item : goal.decreases-lists::print_item
decreases-lists::print_item l = 12 * l.here.levels_left + 5

abbrev pub decreases-lists::print_items : goal.decreases-lists::print_items
decreases-lists::print_items l = 12 * l.here.levels_left + 6

abbrev pub decreases-types::print_type : goal.decreases-types::print_type
decreases-types::print_type l = 12 * l.here.levels_left + 3

abbrev pub decreases-types::print_pointer : goal.decreases-types::print_pointer
decreases-types::print_pointer l = 12 * l.here.levels_left + 7

abbrev pub decreases-types::print_slice : goal.decreases-types::print_slice
decreases-types::print_slice l = 12 * l.here.levels_left + 7

abbrev pub decreases-types::print_dyn_form : goal.decreases-types::print_dyn_form
decreases-types::print_dyn_form l = 12 * l.here.levels_left + 8

abbrev pub decreases-types::print_array : goal.decreases-types::print_array
decreases-types::print_array l = 12 * l.here.levels_left + 7

abbrev pub decreases-types::print_tuple : goal.decreases-types::print_tuple
decreases-types::print_tuple l = 12 * l.here.levels_left + 7

abbrev pub decreases-types::print_reference : goal.decreases-types::print_reference
decreases-types::print_reference l = 12 * l.here.levels_left + 7

abbrev pub decreases-types::print_function : goal.decreases-types::print_function
decreases-types::print_function l = 12 * l.here.levels_left + 7

abbrev pub decreases-types::print_dyn : goal.decreases-types::print_dyn
decreases-types::print_dyn l = 12 * l.here.levels_left + 7

abbrev pub decreases-types::print_function_form : goal.decreases-types::print_function_form
decreases-types::print_function_form l = 12 * l.here.levels_left + 8

abbrev pub decreases-types::print_other_type : goal.decreases-types::print_other_type
decreases-types::print_other_type l = 12 * l.here.levels_left + 9

abbrev pub decreases-types::print_type_by_letter : goal.decreases-types::print_type_by_letter
decreases-types::print_type_by_letter l = 12 * l.here.levels_left + 10

abbrev pub decreases-consts::print_const : goal.decreases-consts::print_const
decreases-consts::print_const l = 12 * l.here.levels_left + 3

abbrev pub decreases-consts::print_const_by_letter : goal.decreases-consts::print_const_by_letter
decreases-consts::print_const_by_letter l = 12 * l.here.levels_left + 10

abbrev pub invariant-lists::print_bindings-loop-turn : goal.invariant-lists::print_bindings-loop-turn
invariant-lists::print_bindings-loop-turn l =
    with_state (bindings_rule l.printer.part (readers l.printer.part l.here.levels_left) l.here.binder_depth (l.most - l._turn) l.opened l.printer.state).1 l.printer ≡ with_state (bindings_rule l.initial.printer.part (readers l.initial.printer.part l.here.levels_left) l.here.binder_depth l.most l.initial.opened l.initial.printer.state).1 l.initial.printer

abbrev pub invariant-lists::print_items-loop-count : goal.invariant-lists::print_items-loop-count
invariant-lists::print_items-loop-count l =
    (with_state (items_rule l.printer.part (readers l.printer.part l.here.levels_left) l.here.binder_depth (listed_view l.listed) l.between (l.most - l.count) (l.count == 0) l.printer.state).1 l.printer ≡ with_state (items_from l.initial.printer.part (readers l.initial.printer.part l.here.levels_left) l.here.binder_depth (listed_view l.listed) l.between l.initial.printer.state).1 l.initial.printer) × (l.count + items_count (items_rule l.printer.part (readers l.printer.part l.here.levels_left) l.here.binder_depth (listed_view l.listed) l.between (l.most - l.count) (l.count == 0) l.printer.state).0 ≡ items_count (items_from l.initial.printer.part (readers l.initial.printer.part l.here.levels_left) l.here.binder_depth (listed_view l.listed) l.between l.initial.printer.state).0)
