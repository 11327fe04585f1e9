-- The readings of files for their identities.
use Rattle.std.specs.Prelude.{ℕ, Bool, List, Option, None, Result, Ok}
use Rattle.std.specs.Option.{option_map}
use Rattle.binfarce_bytes.specs.Part.{PartSet}
use Rattle.binfarce_bytes.specs.Source.{PartLog}
use Rattle.binfarce_tables.specs.Readings as readings
use Rattle.binfarce_tables.specs.Readings.{answered, with_part}
use Rattle.binfarce_tables.specs.declared.error.ReadError.{ReadError}
use Rattle.binfarce_identity.specs.Identity.{Identity, identity_view}
use Rattle.binfarce_identity.specs.declared.identity.Identity as code

-- a reading that comes to an identity, if there is one
abbrev pub Reading : Type 0
Reading = readings.Reading (Option Identity)

-- the answer of a reading, or if that finds no identity another reading
unfoldable pub or_else : Reading → Reading → Reading
or_else (answered (Ok None)) others = others
or_else (answered answer) others = answered answer
or_else (with_part offset size after) others = with_part offset size (λ bytes. or_else (after bytes) others)

-- a call did this reading of a file
abbrev pub Does : (may_fail : Bool) → (sure : PartSet) → (before after : PartLog) → (file : List ℕ) → Reading → Result (Option code.Identity) ReadError → Type 0
Does may_fail sure before after file reading result = readings.Does (option_map identity_view) may_fail sure before after file reading result
