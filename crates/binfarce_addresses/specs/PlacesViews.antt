-- The views of the places of a file that clauses use.
use Rattle.std.specs.Prelude.{◌≡◌, ◌⊎◌, List, Option, Some, None, Result, Ok, Err}
use Rattle.binfarce.specs.declared.ParseError.{ParseError}
use Rattle.binfarce.specs.Refusal.{Refusal, refusal_of}
use Rattle.binfarce.specs.SectionEntries.{SelectedSymbols}
use Rattle.binfarce.specs.Symbol.{Entry}
use Rattle.binfarce_addresses.specs.Lookup.{places_in}
use Rattle.binfarce_tools.specs.declared.list.ListError.{ListError}
use Rattle.binfarce_tools.specs.declared.list.ListError.TheVariants.{Unknown, Parse, OutOfMemory}

-- the result for a file's answer: its places, or its refusal. Only a refusal that needs memory may be replaced by a failed allocation
abbrev pub IsMadeOf : (Result SelectedSymbols Refusal → Type 0) → Option (Result SelectedSymbols Refusal) → Result (List Entry) ListError → Type 0
IsMadeOf NeedsMemory (Some (Ok selected)) (Ok entries) = entries ≡ places_in selected
IsMadeOf NeedsMemory (Some (Ok selected)) (Err e) = e ≡ OutOfMemory
IsMadeOf NeedsMemory (Some (Err refusal)) (Ok entries) = ⊥
IsMadeOf NeedsMemory (Some (Err refusal)) (Err e) = ((p : ParseError) × (refusal_of p ≡ refusal) × (e ≡ Parse p)) ⊎ (NeedsMemory (Err refusal) × (e ≡ OutOfMemory))
IsMadeOf NeedsMemory None (Ok entries) = ⊥
IsMadeOf NeedsMemory None (Err e) = e ≡ Unknown
