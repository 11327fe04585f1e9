-- The entries of a file of any format: iterators over them, and the result of a call that reads them.
use Rattle.std.specs.Prelude.{◌≡◌, ◌⊎◌, ℕ, List, map, drop, Option, Some, None, Result, Ok, Err}
use Rattle.binfarce.specs.declared.ParseError.{ParseError}
use Rattle.binfarce.specs.SelectionViews as elf
use Rattle.binfarce.specs.Refusal.{Refusal, refusal_of}
use Rattle.binfarce.specs.Symbol.{Entry, Listed}
use Rattle.binfarce.specs.SectionEntries.{SectionEntry, SelectedSymbols}
use Rattle.binfarce.specs.SymbolViews.{section_function_view}
use Rattle.binfarce.specs.declared.SymbolTable.{SymbolTable}
use Rattle.binfarce_tools.specs.Answer.{selected_answer, MemoryIn}
use Rattle.binfarce_tools.specs.declared.functions.AllFunctions.{AllFunctions}
use Rattle.binfarce_tools.specs.declared.functions.AllFunctions.TheVariants as variants
use Rattle.binfarce_tools.specs.declared.functions.Arranged.{Arranged}
use Rattle.binfarce_tools.specs.declared.functions.Functions.{Functions}
use Rattle.binfarce_tools.specs.declared.functions.Lent.{Lent}
use Rattle.binfarce_tools.specs.declared.functions.Selected.{Selected}
use Rattle.binfarce_tools.specs.declared.list.ListError.{ListError}
use Rattle.binfarce_tools.specs.declared.list.ListError.TheVariants.{Unknown, Parse, OutOfMemory}

-- the entries that a list has left
abbrev pub arranged_left : Arranged → List SectionEntry
arranged_left a = map section_function_view (drop a.next a.functions.items)

-- those that a list which is lent has left
abbrev pub lent_left : Lent → List SectionEntry
lent_left l = map section_function_view (drop l.next l.functions.now)

-- the entries that are left of a file's, with their sections
abbrev pub all_left : AllFunctions → List SectionEntry
all_left (variants.Elf functions) = elf.functions_left functions
all_left (variants.Arranged functions) = arranged_left functions
all_left (variants.Lent functions) = lent_left functions

-- and without them
abbrev pub functions_left : Functions → List Entry
functions_left functions = map (λ e. e.entry) (all_left functions.all)

-- the entries of an answer are left, with the size of the selected section, if one is selected
abbrev pub HoldsLeft : SelectedSymbols → Selected → Type 0
HoldsLeft answer selected = (all_left selected.functions ≡ answer.entries) × (selected.size ≡ answer.section_size)

-- the entries of a reader's answer are left, with the size of its section
abbrev pub HoldsText : Listed → Selected → Type 0
HoldsText listed selected = (map (λ e. e.entry) (all_left selected.functions) ≡ listed.entries) × (selected.size ≡ Some listed.section_size)

-- the entries of a section's answer are left, and this is its size
abbrev pub HoldsListed : SelectedSymbols → Functions × ℕ → Type 0
HoldsListed answer listed = (all_left listed.0.all ≡ answer.entries) × (answer.section_size ≡ Some listed.1)

-- what reading the functions of a file returns where its answer is this: a value that holds what the answer does, or why it can't be had. In place of an answer that needs memory, and of no other, it may return that an allocation failed
abbrev pub GetsAs : {L X : Type 0} → (L → X → Type 0) → (Result L Refusal → Type 0) → Option (Result L Refusal) → Result X ListError → Type 0
GetsAs Holds NeedsMemory (Some (Ok listed)) (Ok value) = Holds listed value
GetsAs Holds NeedsMemory (Some (Ok listed)) (Err e) = NeedsMemory (Ok listed) × (e ≡ OutOfMemory)
GetsAs Holds NeedsMemory (Some (Err refusal)) (Ok value) = ⊥
GetsAs Holds NeedsMemory (Some (Err refusal)) (Err e) = ((p : ParseError) × (refusal_of p ≡ refusal) × (e ≡ Parse p)) ⊎ (NeedsMemory (Err refusal) × (e ≡ OutOfMemory))
GetsAs Holds NeedsMemory None (Ok value) = ⊥
GetsAs Holds NeedsMemory None (Err e) = e ≡ Unknown

-- so for the functions of a selection
abbrev pub GetsIn : SymbolTable → (file : List ℕ) → (section : Option (List ℕ)) → Result Selected ListError → Type 0
GetsIn which file section result = GetsAs HoldsLeft (MemoryIn file section) (selected_answer which section file) result
