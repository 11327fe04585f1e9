-- A text of perf-script(1) in which each address is followed by its symbol.
use Rattle.std.specs.Prelude.{ℕ, Bool, List, [], map, Option, Result}
use Rattle.binfarce_addresses.specs.declared.counts.Counts.{Counts}
use Rattle.binfarce_frames.specs.Frames.{framed}
use Rattle.binfarce_logs.specs.Annotated.{File, IsAnnotated, IsCounted, IsPrefixOf}
use Rattle.binfarce_logs.specs.Maps.{name_of}
use Rattle.binfarce_text.specs.Streams.{Streams}
use Rattle.binfarce_text.specs.declared.streams.StreamError.{StreamError}

-- the names of the files: what is behind the last `/` of each path
abbrev pub names_of : List File → List (List ℕ)
names_of files = map (λ (file : File). name_of file.1.path.now) files

-- the text in which the offset of each frame in one of the files is behind its file
abbrev pub with_offsets : List File → (text : List ℕ) → List ℕ
with_offsets files text = framed (names_of files) [] text

-- what was read and written, as of this text
abbrev pub AnnotatesFrames : (files : List File) (bare : Bool) (given left old new : Option (List ℕ)) (result : Result Counts StreamError) → Type 0
AnnotatesFrames files bare given left old new result =
    Streams (λ counts text. IsCounted files bare counts (with_offsets files text)) (λ text. IsAnnotated files bare (with_offsets files text)) (λ text. IsPrefixOf files bare (with_offsets files text)) given left old new result
