use Rattle.std.proofs.Common.{[], ◌∷◌, codes}
use Rattle.std.specs.Option.{option_map}
use Rattle.std.specs.String.{string_bytes}
use Rattle.binfarce_rows.specs.Json.{number_member, object_start, text_member}
use Rattle.binfarce_rows.proofs.Objects.{one, more}
use Rattle.binfarce_sections.specs.Lines.{type_member}
use Rattle.binfarce_sections.proofs.sums.push_object.Goals as goal

pub returns : goal.returns
returns c =
    let old = string_bytes c.args.text.now in
    let start = object_start c.args.file.now in
    let segment = text_member (codes "segment") (option_map (λ t. t.now) c.args.share.now.section.segment) in
    let name = text_member (codes "section") (option_map (λ t. t.now) c.args.share.now.section.name) in
    let kind = type_member c.args.share.now.section.kind in
    let flags = number_member (codes "flags") c.args.share.now.section.flags in
    let size = number_member (codes "size") c.args.share.now.bytes in
    let memory = number_member (codes "memory") c.args.share.now.section.memory_size in
    let end = codes "}\n" in
    let t1 = one old (string_bytes c.push_start.new.text) start (c.in_ok-push_start.ensures) in
    let t2 = more old (string_bytes c.push_start.new.text) (string_bytes c.push_text_member.new.text) (start ∷ []) segment t1 (c.in_ok-push_text_member.ensures) in
    let t3 = more old (string_bytes c.push_text_member.new.text) (string_bytes c.push_text_member-2.new.text) (start ∷ segment ∷ []) name t2 (c.in_ok-push_text_member-2.ensures) in
    let t4 = more old (string_bytes c.push_text_member-2.new.text) (string_bytes c.push_type_member.new.text) (start ∷ segment ∷ name ∷ []) kind t3 (c.in_ok-push_type_member.ensures) in
    let t5 = more old (string_bytes c.push_type_member.new.text) (string_bytes c.push_number_member.new.text) (start ∷ segment ∷ name ∷ kind ∷ []) flags t4 (c.in_ok-push_number_member.ensures) in
    let t6 = more old (string_bytes c.push_number_member.new.text) (string_bytes c.push_number_member-2.new.text) (start ∷ segment ∷ name ∷ kind ∷ flags ∷ []) size t5 (c.in_ok-push_number_member-2.ensures) in
    let t7 = more old (string_bytes c.push_number_member-2.new.text) (string_bytes c.push_number_member-3.new.text) (start ∷ segment ∷ name ∷ kind ∷ flags ∷ size ∷ []) memory t6 (c.in_ok-push_number_member-3.ensures) in
    more old (string_bytes c.push_number_member-3.new.text) (string_bytes c.push_str.new.self) (start ∷ segment ∷ name ∷ kind ∷ flags ∷ size ∷ memory ∷ []) end t7 (c.in_ok-push_str.ensures.bytes)
