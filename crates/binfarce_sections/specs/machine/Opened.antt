-- The sections that a reader of one format gives, before its refusal becomes the call's.
use Rattle.std.specs.Prelude.{◌≡◌, Some, Result, Ok, Err}
use Rattle.binfarce.specs.declared.ParseError.{ParseError}
use Rattle.binfarce.specs.Refusal.{refusal_of}
use Rattle.binfarce.specs.Walk.{Walk, ended}
use Rattle.binfarce_sections.specs.declared.sections.Sections.{Sections}
use Rattle.binfarce_sections.specs.Section.{Section}
use Rattle.binfarce_sections.specs.Views.{sections_left}

-- all sections of the walk, or the refusal that comes before any
abbrev pub OpensWalk : Walk Section → Result Sections ParseError → Type 0
OpensWalk walk (Ok sections) = sections_left sections ≡ walk
OpensWalk walk (Err e) = walk ≡ ended (Some (refusal_of e))
