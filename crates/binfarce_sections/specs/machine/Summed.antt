-- The sums of a walk's sections while they are made, and the fields of a `SectionSums`.
use Rattle.std.specs.Prelude.{◌≡◌, ◌+◌, ◌<◌, ◌^◌, ℕ, List, [], map, All, Option, Some, None, Vec, Result, Ok, Err}
use Rattle.std.specs.Global.{Global}
use Rattle.std.specs.Option.{option_map}
use Rattle.std.specs.String.{string_bytes}
use Rattle.binfarce.specs.Refusal.{refusal_of}
use Rattle.binfarce.specs.Walk.{Walk}
use Rattle.binfarce_sections.specs.declared.error.SectionError.{SectionError}
use Rattle.binfarce_sections.specs.declared.error.SectionError.TheVariants.{Parse, OutOfMemory}
use Rattle.binfarce_sections.specs.declared.sections.Section as code
use Rattle.binfarce_sections.specs.declared.sums.Share as code_share
use Rattle.binfarce_sections.specs.Lines.{name_text}
use Rattle.binfarce_sections.specs.Section.{Section}
use Rattle.binfarce_sections.specs.Sums.{active, total, total_memory}
use Rattle.binfarce_sections.specs.Views.{section_view, share_view}

-- the active sections of a walk that isn't refused
abbrev pub AreActive : Walk Section → Result (Vec code.Section Global) SectionError → Type 0
AreActive walk (Ok v) = (walk.refusal ≡ None) × (map section_view v.items ≡ active walk.items)
AreActive walk (Err (Parse e)) = walk.refusal ≡ Some (refusal_of e)
AreActive walk (Err OutOfMemory) = Unit {0}
AreActive walk (Err e) = ⊥

-- the name of a section: that after its segment's, or of one without a segment the stored one
abbrev pub name_or : (full_name : Option (List ℕ)) → (name : Option (List ℕ)) → List ℕ
name_or (Some full_name) name = full_name
name_or None None = []
name_or None (Some name) = name

abbrev pub shown_name : code_share.Share → List ℕ
shown_name s = name_or (option_map string_bytes s.full_name) (option_map (λ t. t.now) s.section.name)

-- full_name is that of a section: its name after its segment's, if it has a segment
abbrev pub IsFullName : Section → Option (List ℕ) → Type 0
IsFullName s full_name = name_or full_name s.name ≡ name_text s.segment s.name

-- the share has its section's name
abbrev pub IsNamed : code_share.Share → Type 0
IsNamed s = IsFullName (section_view s.section) (option_map string_bytes s.full_name)

-- the fields of a `SectionSums`: the shares have their names, and the numbers are the sums over them, of 64 bits and of 128
pub record AreWhole (shares : List code_share.Share) (rest file_length memory : ℕ) : Type 0 where
  pub named : All IsNamed shares
  pub length_is : total (map share_view shares) + rest ≡ file_length
  pub memory_is : total_memory (map share_view shares) ≡ memory
  pub fits : file_length < 2 ^ 64
  pub memory_fits : memory < 2 ^ 128
