use Rattle.std.proofs.Common.{◌≡◌, ◌∙◌, ℕ, Some, length, min, take, ap, arith}
use Rattle.std.proofs.lemmas.List.{take_min}
use Rattle.binfarce_bytes.specs.Source.{IsPart}
use Rattle.binfarce_io.proofs.input.OpenFile.first_held.Goals as goal

pub returns-in-Ok-keep-clause-held : goal.returns-in-Ok-keep-clause-held
returns-in-Ok-keep-clause-held g c = λ file known.
    let asked = c.in-Ok.ensures.kept in
    let read = c.in-Ok-keep.ensures.kept in
    let told = rw asked at c.length.ensures.length in
    let long : c.in-Ok.file_length ≡ length file = rw known at told in
    let size = rw read at c.read_part.ensures.size in
    let part = rw read at c.read_part.ensures.part in
    let first : IsPart (Some file) 0 c.in-Ok-keep.bytes.items = rw known at part in
    let count : length c.in-Ok-keep.bytes.items ≡ min 512 (length file) = omega (arith, size, c.min-size.ensures, c.to_index.ensures, long) in
    (first.1 ∙ ap (λ (n : ℕ). take n file) count ∙ take_min 512 file, long)
