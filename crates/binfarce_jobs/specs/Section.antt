-- What is written of a file's sections.
use Rattle.std.specs.Prelude.{ℕ, Bool, List, Option, Result}
use Rattle.binfarce.specs.Format.{format_of}
use Rattle.binfarce_rows.specs.Json.{Style}
use Rattle.binfarce_sections.specs.Named.{bytes_named}
use Rattle.binfarce_sections.specs.Section.{sections_of}
use Rattle.binfarce_sections.specs.Results.{TakesRead, TakesReadLines}
use Rattle.binfarce_sections.specs.declared.error.SectionError.{SectionError}
use Rattle.binfarce_jobs.specs.declared.section.Asked.{Asked}
use Rattle.binfarce_jobs.specs.declared.section.Asked.TheVariants.{Bytes, Lines}

-- the bytes of the section of this name were taken, or the lines of all sections
abbrev pub TakesAsked : Style → (may_fail : Bool) (file : List ℕ) → Asked → (old new : Option (List ℕ)) → Result (Unit {0}) SectionError → Type 0
TakesAsked style may_fail file (Bytes name) old new result = TakesRead may_fail (bytes_named (sections_of (format_of file) file) file name.now) old new result
TakesAsked style may_fail file Lines old new result = TakesReadLines style may_fail (sections_of (format_of file) file) old new result
