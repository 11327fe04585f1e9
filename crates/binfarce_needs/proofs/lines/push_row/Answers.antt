use Rattle.std.proofs.Common.{◌≡◌, List, ℕ, [], ◌∷◌, ◌++◌, ◌∙◌, ◌/◌, Option, Some, OnOk, ap, codes, rules, subst, sym}
use Rattle.std.proofs.lemmas.Result.{on_ok_weaker}
use Rattle.std.specs.String.{string_bytes}
use Rattle.binfarce_figures.specs.RowListing.{word_of}
use Rattle.binfarce_rows.specs.Json.{object_start, style_of, text_member}
use Rattle.binfarce_rows.specs.declared.json.Form.{Form}
use Rattle.binfarce_rows.proofs.Objects.{one, more}
use Rattle.binfarce_needs.specs.FileNeeds.{need_view}
use Rattle.binfarce_needs.specs.Lines.{row_of}
use Rattle.binfarce_needs.proofs.lines.push_row.Goals as goal

pub returns-in_ok-push_text_member-in-Objects-5 : goal.returns-in_ok-push_text_member-in-Objects-5
returns-in_ok-push_text_member-in-Objects-5 c =
    let old = string_bytes c.args.text.now in
    let need = need_view c.args.need.now in
    let start = object_start c.in-Objects.file.now in
    let name = text_member (codes "name") (Some c.args.name.now) in
    let raw = text_member (codes "raw") (Some need.name) in
    let binding = text_member (codes "binding") (word_of (need.info / 16)) in
    let version = text_member (codes "version") need.version in
    let from = text_member (codes "from") need.from in
    let new = string_bytes c.push_str-in-Objects.new.self in
    let t1 = one old (string_bytes c.push_start.new.text) start c.in_ok-push_start-in-Objects.ensures in
    let t2 = more old (string_bytes c.push_start.new.text) (string_bytes c.push_text_member.new.text) (start ∷ []) name t1 c.in_ok-push_text_member-in-Objects.ensures in
    let t3 = more old (string_bytes c.push_text_member.new.text) (string_bytes c.push_text_member-in-Objects.new.text) (start ∷ name ∷ []) raw t2 c.in_ok-push_text_member-in-Objects-2.ensures in
    let t4 = more old (string_bytes c.push_text_member-in-Objects.new.text) (string_bytes c.push_text_member-in-Objects-2.new.text) (start ∷ name ∷ raw ∷ []) binding t3
    (c.in_ok-push_text_member-in-Objects-3.ensures ∙ ap (λ (v : Option (List ℕ)). string_bytes c.push_text_member-in-Objects.new.text ++ text_member (codes "binding") v) c.word_of.ensures) in
    let t5 = more old (string_bytes c.push_text_member-in-Objects-2.new.text) (string_bytes c.push_text_member-in-Objects-3.new.text) (start ∷ name ∷ raw ∷ binding ∷ []) version t4 c.in_ok-push_text_member-in-Objects-4.ensures in
    let t6 = more old (string_bytes c.push_text_member-in-Objects-3.new.text) (string_bytes c.push_text_member-in-Objects-4.new.text) (start ∷ name ∷ raw ∷ binding ∷ version ∷ []) from t5 c.in_ok-push_text_member-in-Objects-5.ensures in
    subst (λ (form : Form). OnOk c.push_str-in-Objects.result (new ≡ old ++ row_of (style_of form) c.args.name.now need)) (sym c.in-Objects.is)
    (on_ok_weaker c.push_str-in-Objects.result (λ is. more old (string_bytes c.push_text_member-in-Objects-4.new.text) new (start ∷ name ∷ raw ∷ binding ∷ version ∷ from ∷ []) (codes "}\n") t6 is) (search rules))
