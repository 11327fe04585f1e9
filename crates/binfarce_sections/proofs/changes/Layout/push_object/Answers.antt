use Rattle.std.proofs.Common.{[], ◌∷◌, ◌++◌, ◌∙◌, codes}
use Rattle.std.specs.String.{string_bytes}
use Rattle.binfarce_rows.specs.Json.{number_member, object_start, text_member}
use Rattle.binfarce_rows.proofs.Objects.{one, more}
use Rattle.binfarce_rows.specs.Columns.{growth_member, signed_member}
use Rattle.binfarce_sections.specs.Changes.{name_given}
use Rattle.binfarce_sections.proofs.changes.Layout.push_object.Goals as goal

pub returns : goal.returns
returns c =
    let old = string_bytes c.args.text.now in
    let change = c.args.change in
    let start = object_start c.args.file.now in
    let name = text_member (codes "section") (name_given change.name.now) in
    let before = number_member (codes "old") change.old in
    let after = number_member (codes "new") change.new in
    let bytes = signed_member (codes "change") change.old change.new in
    let old_memory = number_member (codes "old_memory") change.old_memory in
    let new_memory = number_member (codes "new_memory") change.new_memory in
    let memory = signed_member (codes "memory_change") change.old_memory change.new_memory in
    let growth = growth_member c.args.self.now.has_percent change.old change.new in
    let end = codes "}\n" in
    let t1 = one old (string_bytes c.push_start.new.text) start (c.in_ok-push_start.ensures) in
    let t2 = more old (string_bytes c.push_start.new.text) (string_bytes c.push_text_member.new.text) (start ∷ []) name t1 (c.in_ok-push_text_member.ensures ∙ (λ i. string_bytes c.push_start.new.text ++ text_member (codes "section") (c.name_given.ensures i))) in
    let t3 = more old (string_bytes c.push_text_member.new.text) (string_bytes c.push_number_member.new.text) (start ∷ name ∷ []) before t2 (c.in_ok-push_number_member.ensures) in
    let t4 = more old (string_bytes c.push_number_member.new.text) (string_bytes c.push_number_member-2.new.text) (start ∷ name ∷ before ∷ []) after t3 (c.in_ok-push_number_member-2.ensures) in
    let t5 = more old (string_bytes c.push_number_member-2.new.text) (string_bytes c.push_signed_member.new.text) (start ∷ name ∷ before ∷ after ∷ []) bytes t4 (c.in_ok-push_signed_member.ensures ∙ (λ i. string_bytes c.push_number_member-2.new.text ++ signed_member (codes "change") (c.from.ensures i) (c.from-2.ensures i))) in
    let t6 = more old (string_bytes c.push_signed_member.new.text) (string_bytes c.push_long_member.new.text) (start ∷ name ∷ before ∷ after ∷ bytes ∷ []) old_memory t5 (c.in_ok-push_long_member.ensures) in
    let t7 = more old (string_bytes c.push_long_member.new.text) (string_bytes c.push_long_member-2.new.text) (start ∷ name ∷ before ∷ after ∷ bytes ∷ old_memory ∷ []) new_memory t6 (c.in_ok-push_long_member-2.ensures) in
    let t8 = more old (string_bytes c.push_long_member-2.new.text) (string_bytes c.push_signed_member-2.new.text) (start ∷ name ∷ before ∷ after ∷ bytes ∷ old_memory ∷ new_memory ∷ []) memory t7 (c.in_ok-push_signed_member-2.ensures) in
    let t9 = more old (string_bytes c.push_signed_member-2.new.text) (string_bytes c.push_growth_member.new.text) (start ∷ name ∷ before ∷ after ∷ bytes ∷ old_memory ∷ new_memory ∷ memory ∷ []) growth t8 (c.in_ok-push_growth_member.ensures) in
    more old (string_bytes c.push_growth_member.new.text) (string_bytes c.push_str.new.self) (start ∷ name ∷ before ∷ after ∷ bytes ∷ old_memory ∷ new_memory ∷ memory ∷ growth ∷ []) end t9 (c.in_ok-push_str.ensures.bytes)
