use Rattle.std.proofs.Common.{[], ◌∷◌, ◌++◌, ◌∙◌, codes}
use Rattle.std.specs.String.{string_bytes}
use Rattle.binfarce_rows.proofs.Objects.{one, more}
use Rattle.binfarce_rows.specs.Columns.{change_column, growth_column, size_column}
use Rattle.binfarce_sections.proofs.changes.Layout.push_line.Goals as goal

pub returns : goal.returns
returns c =
    let start = string_bytes c.args.text.now in
    let change = c.args.change in
    let old = size_column change.old in
    let new = size_column change.new in
    let bytes = change_column change.old change.new in
    let memory = change_column change.old_memory change.new_memory in
    let growth = growth_column c.args.self.now.has_percent change.old change.new in
    let t1 = one start (string_bytes c.push_size.new.text) old (c.in_ok-push_size.ensures) in
    let t2 = more start (string_bytes c.push_size.new.text) (string_bytes c.push_size-2.new.text) (old ∷ []) new t1 (c.in_ok-push_size-2.ensures) in
    let t3 = more start (string_bytes c.push_size-2.new.text) (string_bytes c.push_change.new.text) (old ∷ new ∷ []) bytes t2
    (c.in_ok-push_change.ensures ∙ (λ i. string_bytes c.push_size-2.new.text ++ change_column (c.from.ensures i) (c.from-2.ensures i))) in
    let t4 = more start (string_bytes c.push_change.new.text) (string_bytes c.push_change-2.new.text) (old ∷ new ∷ bytes ∷ []) memory t3 (c.in_ok-push_change-2.ensures) in
    let t5 = more start (string_bytes c.push_change-2.new.text) (string_bytes c.push_growth.new.text) (old ∷ new ∷ bytes ∷ memory ∷ []) growth t4 (c.in_ok-push_growth.ensures) in
    let t6 = more start (string_bytes c.push_growth.new.text) (string_bytes c.push_str.new.self) (old ∷ new ∷ bytes ∷ memory ∷ growth ∷ []) change.name.now t5 (c.in_ok-push_str.ensures.bytes) in
    more start (string_bytes c.push_str.new.self) (string_bytes c.push_str-2.new.self) (old ∷ new ∷ bytes ∷ memory ∷ growth ∷ change.name.now ∷ []) (codes "\n") t6 (c.in_ok-push_str-2.ensures.bytes)
