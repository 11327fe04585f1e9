-- A section that was found, before its bytes are cut.
use Rattle.std.specs.Prelude.{◌≡◌, ℕ, Bool, true, List, Vec, Option, Some, None, Result, Ok, Err}
use Rattle.std.specs.Global.{Global}
use Rattle.std.specs.Option.{option_map}
use Rattle.binfarce.specs.Refusal.{refusal_of}
use Rattle.binfarce.specs.Walk.{Walk, first}
use Rattle.binfarce_sections.specs.declared.error.SectionError.{SectionError}
use Rattle.binfarce_sections.specs.declared.error.SectionError.TheVariants.{Unknown, Parse, OutOfMemory, Unreadable}
use Rattle.binfarce_sections.specs.declared.sections.Section as code
use Rattle.binfarce_sections.specs.Named.{is_named, Lack}
use Rattle.binfarce_sections.specs.Section.{Section}
use Rattle.binfarce_sections.specs.Results.{IsLack}
use Rattle.binfarce_sections.specs.Views.{section_view}

-- the first section that the word names, or why the walk doesn't reach it
abbrev pub Finds : Option (Walk Section) → List ℕ → Result (Option code.Section) SectionError → Type 0
Finds (Some walk) word (Ok found) = first (is_named word) walk ≡ Ok (option_map section_view found)
Finds (Some walk) word (Err (Parse e)) = first (is_named word) walk ≡ Err (refusal_of e)
Finds (Some walk) word (Err e) = ⊥
Finds None word (Ok found) = ⊥
Finds None word (Err e) = e ≡ Unknown

-- the bytes of a search, read from a source, or why there are none; or a source that may fail is unreadable, or an allocation failed
abbrev pub ReadsBytes : Bool → Result (List ℕ) Lack → Result (Vec ℕ Global) SectionError → Type 0
ReadsBytes may_fail answer (Ok v) = answer ≡ Ok v.items
ReadsBytes may_fail answer (Err Unreadable) = may_fail ≡ true
ReadsBytes may_fail answer (Err OutOfMemory) = Unit {0}
ReadsBytes may_fail answer (Err e) = (lack : Lack) × (answer ≡ Err lack) × IsLack lack e
