-- Logs that list the parts of a file that a source was asked for.
use Rattle.std.specs.Prelude.{List, All, Contains}
use Rattle.std.specs.List.{list_all}
use Rattle.binfarce_bytes.specs.Part.{Part, part}
use Rattle.binfarce_bytes.specs.Source.{PartLog}
use Rattle.test_reading.specs.declared.recording.LoggedPart as code

-- an item of a log, as a part of a file
abbrev pub part_view : code.LoggedPart → Part
part_view p = part p.offset p.size

-- whether a set has each part of the list
abbrev pub log_view : List code.LoggedPart → PartLog
log_view log set = list_all (λ p. set (part_view p)) log

-- each part of the log is one of these
abbrev pub LogsOnly : List Part → List code.LoggedPart → Type 0
LogsOnly parts log = All (λ p. Contains parts (part_view p)) log
