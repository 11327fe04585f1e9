use Rattle.std.proofs.Common.{Some, None, [], ◌∷◌, codes}
use Rattle.std.specs.String.{string_bytes}
use Rattle.binfarce_rows.specs.Json.{number_member, object_start, text_member}
use Rattle.binfarce_rows.proofs.Objects.{one, more}
use Rattle.binfarce_sections.proofs.sums.push_plain_object.Goals as goal

pub returns : goal.returns
returns c =
    let old = string_bytes c.args.text.now in
    let start = object_start c.args.file.now in
    let segment = text_member (codes "segment") None in
    let name = text_member (codes "section") (Some c.args.label.now) in
    let kind = text_member (codes "type") None in
    let flags = text_member (codes "flags") None in
    let size = number_member (codes "size") c.args.bytes in
    let memory = number_member (codes "memory") c.args.memory in
    let end = codes "}\n" in
    let t1 = one old (string_bytes c.push_start.new.text) start (c.in_ok-push_start.ensures) in
    let t2 = more old (string_bytes c.push_start.new.text) (string_bytes c.push_text_member.new.text) (start ∷ []) segment t1 (c.in_ok-push_text_member.ensures) in
    let t3 = more old (string_bytes c.push_text_member.new.text) (string_bytes c.push_text_member-2.new.text) (start ∷ segment ∷ []) name t2 (c.in_ok-push_text_member-2.ensures) in
    let t4 = more old (string_bytes c.push_text_member-2.new.text) (string_bytes c.push_text_member-3.new.text) (start ∷ segment ∷ name ∷ []) kind t3 (c.in_ok-push_text_member-3.ensures) in
    let t5 = more old (string_bytes c.push_text_member-3.new.text) (string_bytes c.push_text_member-4.new.text) (start ∷ segment ∷ name ∷ kind ∷ []) flags t4 (c.in_ok-push_text_member-4.ensures) in
    let t6 = more old (string_bytes c.push_text_member-4.new.text) (string_bytes c.push_long_member.new.text) (start ∷ segment ∷ name ∷ kind ∷ flags ∷ []) size t5 (c.in_ok-push_long_member.ensures) in
    let t7 = more old (string_bytes c.push_long_member.new.text) (string_bytes c.push_long_member-2.new.text) (start ∷ segment ∷ name ∷ kind ∷ flags ∷ size ∷ []) memory t6 (c.in_ok-push_long_member-2.ensures) in
    more old (string_bytes c.push_long_member-2.new.text) (string_bytes c.push_str.new.self) (start ∷ segment ∷ name ∷ kind ∷ flags ∷ size ∷ memory ∷ []) end t7 (c.in_ok-push_str.ensures.bytes)
