use Rattle.std.proofs.Common.{List, ℕ, false, not, sym, subst, ◌∙◌}
use Rattle.std.specs.Bool.{Decides}
use Rattle.binfarce_bytes.specs.Text.{IsTextAt}
use Rattle.binfarce_elf.proofs.Names.{other_text, same_text}
use Rattle.binfarce_elf.proofs.sections.is_text_at.Goals as goal

pub returns-in-None-strip_prefix : goal.returns-in-None-strip_prefix
returns-in-None-strip_prefix c =
    subst (λ (t : List ℕ). Decides false (IsTextAt c.args.bytes.now c.args.start t)) c.as_bytes-text.ensures.value
    (other_text c.args.bytes.now c.in-Some.rest.now c.as_bytes-text.result.now c.args.start c.in-Some.ensures.lookup.0.0 c.in-Some.ensures.lookup.0.2 c.in-None-strip_prefix.ensures.cases)

pub returns-then-starts_with : goal.returns-then-starts_with
returns-then-starts_with c =
    let found = c.in-Some-strip_prefix.ensures.cases in
    subst (λ (t : List ℕ). Decides (not c.contains.result) (IsTextAt c.args.bytes.now c.args.start t)) c.as_bytes-text.ensures.value
    (same_text c.args.bytes.now c.in-Some.rest.now c.in-Some-strip_prefix.after.now c.as_bytes-text.result.now c.args.start c.contains.result c.as_bytes-text.ensures.utf8 c.in-Some.ensures.lookup.0.0 c.in-Some.ensures.lookup.0.2
    found.0 found.1 (sym c.starts_with.ensures.value ∙ c.if-starts_with.true) (sym c.is_empty.ensures ∙ c.if-is_empty.false) c.contains.ensures.value)
