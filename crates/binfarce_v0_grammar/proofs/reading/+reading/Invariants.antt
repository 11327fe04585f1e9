use Rattle.std.proofs.Common.{◌≡◌, ◌+◌, ◌-◌, ◌*◌, suc, length}
use Rattle.binfarce_v0_grammar.specs.machine.View.{listed_view}
use Rattle.binfarce_v0_grammar.specs.machine.Ends.{ends, items_end, bindings_end}
use Rattle.binfarce_v0_grammar.proofs.reading.+reading.Given as goal

abbrev pub invariant-read_items-loop-turn : goal.invariant-read_items-loop-turn
invariant-read_items-loop-turn l =
    items_end l.part (ends l.part l.levels_left) (listed_view l.listed) (suc (length l.part) - l._turn) l.at ≡ items_end l.part (ends l.part l.levels_left) (listed_view l.listed) (suc (length l.part)) l.start

abbrev pub invariant-read_bindings-loop-turn : goal.invariant-read_bindings-loop-turn
invariant-read_bindings-loop-turn l =
    bindings_end l.part (ends l.part l.levels_left) (suc (length l.part) - l._turn) l.at ≡ bindings_end l.part (ends l.part l.levels_left) (suc (length l.part)) l.start

abbrev pub decreases-read_path : goal.decreases-read_path
decreases-read_path l = 10 * l.levels_left + 0

abbrev pub decreases-read_type : goal.decreases-read_type
decreases-read_type l = 10 * l.levels_left + 0

abbrev pub decreases-read_other_type : goal.decreases-read_other_type
decreases-read_other_type l = 10 * l.levels_left + 5

abbrev pub decreases-read_return : goal.decreases-read_return
decreases-read_return l = 10 * l.levels_left + 4

abbrev pub decreases-read_items : goal.decreases-read_items
decreases-read_items l = 10 * l.levels_left + 4

abbrev pub decreases-read_item : goal.decreases-read_item
decreases-read_item l = 10 * l.levels_left + 3

abbrev pub decreases-read_argument : goal.decreases-read_argument
decreases-read_argument l = 10 * l.levels_left + 2

abbrev pub decreases-read_bindings : goal.decreases-read_bindings
decreases-read_bindings l = 10 * l.levels_left + 2
