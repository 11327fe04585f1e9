use Rattle.std.proofs.Common.{◌≡◌, ◌-◌, ◌∷◌, [], ℕ, List, Ok, ap, sym, subst, ◌∙◌, arith, length, min, rules}
use Rattle.std.proofs.lemmas.List.Elements.{All-head, All-tail}
use Rattle.binfarce_bytes.specs.declared.ByteOrder.TheVariants.{LittleEndian}
use Rattle.binfarce_bytes.specs.Field.{field, number_in}
use Rattle.binfarce_bytes.specs.Number.{bytes_at, number}
use Rattle.binfarce_bytes.specs.Part.{Part, part}
use Rattle.binfarce_tables.proofs.PeStrings.{size_read, table_read}
use Rattle.binfarce_tables.proofs.Readings.{instead, taken}
use Rattle.binfarce_tables.proofs.Sure.{one, next}
use Rattle.binfarce_tables.proofs.pe.read_string_table.Goals as goal

pub returns-clause-answer : goal.returns-clause-answer
returns-clause-answer g c = λ file known room.
    let offset = c.args.offset in
    let bytes : c.deref.result.now ≡ bytes_at file offset 4 = c.deref.ensures.value ∙ taken (c.in_ok-head.ensures.part file known.0 room) in
    let stated : c.unwrap-size.result ≡ number LittleEndian (bytes_at c.deref.result.now 0 4) = search rules in
    let size : c.unwrap-size.result ≡ number_in file offset (field 0 4) = stated ∙ size_read file c.deref.result.now offset bytes in
    let least : c.min.result ≡ min (number_in file offset (field 0 4)) (length file - offset) = omega (arith, c.min.ensures, c.from.ensures, size, c.saturating_sub-rest.ensures, known.1) in
    instead (g.S.Source.may_fail c.args.opened.now.source.now) (λ v. v.items) _ _ c.part-2.result (ap (λ (x : List ℕ). Ok x) (sym (table_read file offset c.min.result room least)))
    (c.part-2.ensures.part file known.0 (omega (arith, least, room)))

pub returns-clause-only : goal.returns-clause-only
returns-clause-only g c = λ file known room.
    let offset = c.args.offset in
    let bytes : c.deref.result.now ≡ bytes_at file offset 4 = c.deref.ensures.value ∙ taken (c.in_ok-head.ensures.part file known.0 room) in
    let stated : c.unwrap-size.result ≡ number LittleEndian (bytes_at c.deref.result.now 0 4) = search rules in
    let size : c.unwrap-size.result ≡ number_in file offset (field 0 4) = stated ∙ size_read file c.deref.result.now offset bytes in
    let least : c.min.result ≡ min (number_in file offset (field 0 4)) (length file - offset) = omega (arith, c.min.ensures, c.from.ensures, size, c.saturating_sub-rest.ensures, known.1) in
    let last : Part = part offset (min (number_in file offset (field 0 4)) (length file - offset)) in
    next (one (λ P all. All-head P (part offset 4) (last ∷ []) all) c.in_ok-head.ensures.only)
    (one (λ P all. subst (λ (n : ℕ). P (part offset n)) (sym least) (All-head P last [] (All-tail P (part offset 4) (last ∷ []) all))) c.part-2.ensures.only)
