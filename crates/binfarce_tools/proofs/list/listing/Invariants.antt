use Rattle.std.specs.String.{string_bytes}
use Rattle.binfarce_tools.specs.SelectedTexts.{IsLineOfSelected}
use Rattle.binfarce_tools.specs.Tables.{section_names}
use Rattle.binfarce_tools.specs.Entries.{all_left}
use Rattle.binfarce_tools.proofs.Lines.{Completes}
use Rattle.binfarce_tools.proofs.list.listing.Given as goal

-- with the lines of what is left after it, the text is the lines of all
abbrev pub invariant-loop-function : goal.invariant-loop-function
invariant-loop-function l = Completes (IsLineOfSelected (section_names l.tables) l.fn.selected.size) (all_left l.fn.selected.functions) (all_left l.function-iterator) (string_bytes l.text)
