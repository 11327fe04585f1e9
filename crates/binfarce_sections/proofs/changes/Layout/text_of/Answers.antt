use Rattle.std.proofs.Common.{◌≡◌, ◌++◌, ◌∙◌, List, ap, codes, string_bytes, sym}
use Rattle.binfarce_rows.specs.Json.{style_of}
use Rattle.binfarce_sections.specs.declared.changes.Change.{Change}
use Rattle.binfarce_sections.specs.Changes.{AreChangesOf, change_row, change_rows, total_row}
use Rattle.binfarce_sections.proofs.changes.Layout.text_of.Goals as goal

pub returns : goal.returns
unfolding AreChangesOf
returns c =
    let has_percent = c.args.self.now.has_percent in
    let style = style_of c.args.self.now.form in
    let changes = c.in_ok-changes.changes.items in
    let rows : string_bytes c.in_ok-text.text ≡ change_rows has_percent style c.args.first changes =
    c.in_ok-text.ensures ∙ ap (λ (xs : List Change). change_rows has_percent style c.args.first xs) c.deref.ensures.value in (
      changes,
      c.in_ok-changes.ensures.from,
      c.in_ok-push_row.ensures
          ∙ (λ i. rows i ++ change_row has_percent style (record { name = codes "[total]"; old = c.old.inside.file_length; new = c.new.inside.file_length; old_memory = sym c.old.invariant.memory_is i; new_memory = sym c.new.invariant.memory_is i }))
          ∙ (λ i. change_rows has_percent style c.args.first changes ++ change_row has_percent style (total_row (c.old.view_is i) (c.new.view_is i))),
    )
