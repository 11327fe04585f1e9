use Rattle.std.proofs.Common.{◌≡◌, length, map}
use Rattle.std.specs.List.{range_with_len, flat_map}
use Rattle.binfarce_bytes.specs.SymbolViews.{section_function_view}
use Rattle.binfarce_pe.specs.PeParts.{table_view}
use Rattle.binfarce_pe.specs.PeSelection.{rules_of, sections_view, section_entries}
use Rattle.binfarce_pe.specs.machine.RawPe.{HoldsSections}
use Rattle.binfarce_pe.proofs.functions.functions_of.Given as goal

-- the sections so far are listed, and the rows of the others are held
abbrev pub invariant-loop-at : goal.invariant-loop-at
invariant-loop-at l =
    let rules = rules_of (sections_view l.sections) in
    record {
      long : length l.held.items ≡ rules.count;
      held : HoldsSections (table_view l.symbols) rules l.at l.held.items;
      listed : map section_function_view l.functions.items ≡ flat_map (section_entries rules (table_view l.symbols)) (range_with_len rules.first l.at);
    }
