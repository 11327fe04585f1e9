use Rattle.std.proofs.Common.{◌≡◌, List, Option, Some, None, Result, Ok, Err, ap, ◌∙◌}
use Rattle.binfarce.specs.Refusal.{Refusal}
use Rattle.binfarce.specs.SectionEntries.{SectionEntry, SelectedSymbols}
use Rattle.binfarce.specs.Symbol.{Entry}
use Rattle.binfarce_tools.specs.Answer.{selected_answer, MemoryIn}
use Rattle.binfarce_tools.specs.Entries.{GetsAs, HoldsLeft, all_left}
use Rattle.binfarce_tools.specs.declared.functions.Selected.{Selected}
use Rattle.binfarce_addresses.specs.Lookup.{with_local_last}
use Rattle.binfarce_addresses.specs.PlacesViews.{IsMadeOf}
use Rattle.binfarce_addresses.proofs.at.Places.of_tables.Goals as goal

pub returns-clause-made : goal.returns-clause-made
returns-clause-made c = λ which file section are.
    made (MemoryIn file section) (selected_answer which section file) c.in_ok-functions.field-0 (all_left c.into_list-functions.result.0.all) c.in_ok-places_of.field-0 (c.in_ok-functions.ensures.gets which file section are) c.into_list-functions.ensures.functions c.in_ok-places_of.ensures
  where
    made : (memory : Result SelectedSymbols Refusal → Type 0) (answer : Option (Result SelectedSymbols Refusal)) (selected : Selected) (left : List SectionEntry) (places : List Entry) → GetsAs HoldsLeft memory answer (Ok selected) → left ≡ all_left selected.functions
        → places ≡ with_local_last left → IsMadeOf memory answer (Ok places)
    made memory None selected left places gets is same = absurd gets
    made memory (Some (Err refusal)) selected left places gets is same = absurd gets
    made memory (Some (Ok seen)) selected left places gets is same = same ∙ ap with_local_last (is ∙ gets.0)
