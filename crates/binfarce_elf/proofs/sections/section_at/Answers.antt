use Rattle.std.proofs.Common.{◌≡◌, ◌+◌, ◌*◌, length, ap, ◌∙◌, arith}
use Rattle.binfarce_elf.proofs.Headers.{IsAt, moved, read_at, section_is}
use Rattle.binfarce_elf.proofs.sections.section_at.Goals as goal

-- each field is the number at its offset
pub returns : goal.returns
returns g c =
    let w = g.C.RawNumber.SIZE in
    let order = c.args.byte_order in
    let bytes = c.args.bytes.now in
    let start = c.args.start in
    let same : c.SIZE.result ≡ w = c.SIZE.ensures in
    let at_name : IsAt bytes order (start + 0) c.in_ok-s.s = record { bytes_are = c.in_ok-s.ensures.1; order_is = c.in_ok-s.ensures.3; offset_is = omega (arith, c.in_ok-s.ensures.2) } in
    let at_kind : IsAt bytes order (start + 4) c.read.new.self = moved bytes order (start + 0) 4 (start + 4) _ _ at_name c.in_ok-name_offset.ensures.offset (omega arith) in
    let at_flags : IsAt bytes order (start + 8) c.read-2.new.self = moved bytes order (start + 4) 4 (start + 8) _ _ at_kind c.in_ok-kind.ensures.offset (omega arith) in
    let at_address : IsAt bytes order (start + (8 + w)) c.read-3.new.self = moved bytes order (start + 8) w (start + (8 + w)) _ _ at_flags c.in_ok-flags.ensures.offset (omega arith) in
    let at_offset : IsAt bytes order (start + (8 + 2 * w)) c.read-4.new.self = moved bytes order (start + (8 + w)) w (start + (8 + 2 * w)) _ _ at_address c.in_ok-address.ensures.offset (omega arith) in
    let at_size : IsAt bytes order (start + (8 + 3 * w)) c.read-5.new.self = moved bytes order (start + (8 + 2 * w)) w (start + (8 + 3 * w)) _ _ at_offset c.in_ok-offset.ensures.offset (omega arith) in
    let at_link : IsAt bytes order (start + (8 + 4 * w)) c.read-6.new.self = moved bytes order (start + (8 + 3 * w)) w (start + (8 + 4 * w)) _ _ at_size c.in_ok-size.ensures.offset (omega arith) in
    let at_info : IsAt bytes order (start + (12 + 4 * w)) c.read-7.new.self = moved bytes order (start + (8 + 4 * w)) 4 (start + (12 + 4 * w)) _ _ at_link c.in_ok-link.ensures.offset (omega arith) in
    let at_entry_size : IsAt bytes order (start + (16 + 5 * w)) c.skip_len.new.self = moved bytes order (start + (12 + 4 * w)) (4 + c.SIZE.result) (start + (16 + 5 * w)) _ _ at_info c.in_ok-skip_len.ensures (omega (arith, same)) in
    let number = g.C.Class.number_of in (
      omega (arith, c.in_ok-entry_size.ensures.number.0, at_entry_size.offset_is, ap length at_entry_size.bytes_are, g.met.C.Class.section_fields),
      section_is g.C.Class.table w order bytes start c.args.index _ _ _ _ _ _ _ _ g.met.C.Class.section
          (read_at bytes order (start + 0) 4 _ _ at_name c.in_ok-name_offset.ensures.number.1)
          (read_at bytes order (start + 4) 4 _ _ at_kind c.in_ok-kind.ensures.number.1)
          (read_at bytes order (start + 8) w _ _ at_flags (ap number c.in_ok-flags.ensures.number.1 ∙ g.met.C.Class.word _ _))
          (read_at bytes order (start + (8 + w)) w _ _ at_address (ap number c.in_ok-address.ensures.number.1 ∙ g.met.C.Class.word _ _))
          (read_at bytes order (start + (8 + 2 * w)) w _ _ at_offset (ap number c.in_ok-offset.ensures.number.1 ∙ g.met.C.Class.word _ _))
          (read_at bytes order (start + (8 + 3 * w)) w _ _ at_size (ap number c.in_ok-size.ensures.number.1 ∙ g.met.C.Class.word _ _))
          (read_at bytes order (start + (8 + 4 * w)) 4 _ _ at_link c.in_ok-link.ensures.number.1)
          (read_at bytes order (start + (16 + 5 * w)) w _ _ at_entry_size (ap number c.in_ok-entry_size.ensures.number.1 ∙ g.met.C.Class.word _ _)),
    )
