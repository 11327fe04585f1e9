use Rattle.std.proofs.Common.{[], ◌∷◌, codes}
use Rattle.std.specs.Option.{option_map}
use Rattle.std.specs.String.{string_bytes}
use Rattle.binfarce_rows.specs.Json.{address_member, number_member, object_start, text_member}
use Rattle.binfarce_rows.proofs.Objects.{one, more}
use Rattle.binfarce_sections.specs.Lines.{type_member}
use Rattle.binfarce_sections.proofs.list.push_object.Goals as goal

pub returns : goal.returns
returns c =
    let old = string_bytes c.args.text.now in
    let section = c.args.section in
    let start = object_start c.args.file.now in
    let segment = text_member (codes "segment") (option_map (λ t. t.now) section.segment) in
    let name = text_member (codes "section") (option_map (λ t. t.now) section.name) in
    let address = address_member section.address in
    let offset = number_member (codes "offset") section.offset in
    let size = number_member (codes "size") section.size in
    let kind = type_member section.kind in
    let flags = number_member (codes "flags") section.flags in
    let end = codes "}\n" in
    let t1 = one old (string_bytes c.push_start.new.text) start (c.in_ok-push_start.ensures) in
    let t2 = more old (string_bytes c.push_start.new.text) (string_bytes c.push_text_member.new.text) (start ∷ []) segment t1 (c.in_ok-push_text_member.ensures) in
    let t3 = more old (string_bytes c.push_text_member.new.text) (string_bytes c.push_text_member-2.new.text) (start ∷ segment ∷ []) name t2 (c.in_ok-push_text_member-2.ensures) in
    let t4 = more old (string_bytes c.push_text_member-2.new.text) (string_bytes c.push_address_member.new.text) (start ∷ segment ∷ name ∷ []) address t3 (c.in_ok-push_address_member.ensures) in
    let t5 = more old (string_bytes c.push_address_member.new.text) (string_bytes c.push_number_member.new.text) (start ∷ segment ∷ name ∷ address ∷ []) offset t4 (c.in_ok-push_number_member.ensures) in
    let t6 = more old (string_bytes c.push_number_member.new.text) (string_bytes c.push_number_member-2.new.text) (start ∷ segment ∷ name ∷ address ∷ offset ∷ []) size t5 (c.in_ok-push_number_member-2.ensures) in
    let t7 = more old (string_bytes c.push_number_member-2.new.text) (string_bytes c.push_type_member.new.text) (start ∷ segment ∷ name ∷ address ∷ offset ∷ size ∷ []) kind t6 (c.in_ok-push_type_member.ensures) in
    let t8 = more old (string_bytes c.push_type_member.new.text) (string_bytes c.push_number_member-3.new.text) (start ∷ segment ∷ name ∷ address ∷ offset ∷ size ∷ kind ∷ []) flags t7 (c.in_ok-push_number_member-3.ensures) in
    more old (string_bytes c.push_number_member-3.new.text) (string_bytes c.push_str.new.self) (start ∷ segment ∷ name ∷ address ∷ offset ∷ size ∷ kind ∷ flags ∷ []) end t8 (c.in_ok-push_str.ensures.bytes)
