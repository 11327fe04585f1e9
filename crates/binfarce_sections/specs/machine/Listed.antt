-- The lines of a walk's sections, before they are written.
use Rattle.std.specs.Prelude.{◌≡◌, Option, String}
use Rattle.std.specs.Option.{option_map}
use Rattle.std.specs.String.{string_bytes}
use Rattle.std.specs.Global.{Global}
use Rattle.binfarce.specs.declared.ParseError.{ParseError}
use Rattle.binfarce.specs.Refusal.{refusal_of}
use Rattle.binfarce.specs.Walk.{Walk}
use Rattle.binfarce_rows.specs.Json.{Style}
use Rattle.binfarce_sections.specs.Lines.{section_lines}
use Rattle.binfarce_sections.specs.Section.{Section}

-- the lines of a walk's sections, and the walk's refusal
abbrev pub Lists : Style → Walk Section → String Global × Option ParseError → Type 0
Lists style walk made = (string_bytes made.0 ≡ section_lines style walk.items) × (option_map refusal_of made.1 ≡ walk.refusal)
