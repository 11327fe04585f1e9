use Rattle.std.proofs.Common.{◌≡◌, ◌++◌, map}
use Rattle.std.specs.List.{filter_map}
use Rattle.binfarce.specs.SymbolViews.{function_view}
use Rattle.binfarce_tools.specs.Entries.{all_left}
use Rattle.binfarce_addresses.specs.Lookup.{local_entry, other_entry}
use Rattle.binfarce_addresses.proofs.at.places_of.Given as goal

-- those that are kept of each kind, and after them those that are left, are all of that kind
abbrev pub invariant-loop-function : goal.invariant-loop-function
invariant-loop-function l = record {
  others : map function_view l.functions.items ++ filter_map other_entry (all_left l.function-iterator) ≡ filter_map other_entry (all_left l.fn.listed.all);
  locals : map function_view l.local.items ++ filter_map local_entry (all_left l.function-iterator) ≡ filter_map local_entry (all_left l.fn.listed.all);
}
