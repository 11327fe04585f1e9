use Rattle.std.proofs.Common.{◌≡◌, ◌+◌, ◌++◌, ℕ, List, sym, ap, subst, ◌∙◌, arith, length-set}
use Rattle.binfarce_bytes.specs.SectionEntries.{SectionEntry}
use Rattle.binfarce_pe.specs.PeParts.{table_view}
use Rattle.binfarce_pe.specs.PeSelection.{rules_of, sections_view, section_entries, HasHeader}
use Rattle.binfarce_pe.specs.machine.RawPe.{HoldsRows}
use Rattle.binfarce_pe.proofs.EachSection.{held_at, held_named, one_section_more, others_held}
use Rattle.binfarce_pe.proofs.Selected.{has_header}
use Rattle.binfarce_pe.proofs.functions.functions_of.Goals as goal

pub push_functions-requires-clause-named : goal.push_functions-requires-clause-named
push_functions-requires-clause-named c =
    let t = table_view c.args.symbols in
    let rules = rules_of (sections_view c.args.sections) in
    let at = c.loop-at.at in
    let section = rules.section (rules.first + at) in
    held_named t section c.replace-rows.result
    (subst (HoldsRows t section) (sym (c.replace-rows.ensures.value ∙ c.index_mut.ensures.value)) (held_at t rules c.loop-at.held.items at c.index_mut.result.now (omega (arith, c.loop-at.invariant.long, c.span_of-first.ensures.count, c.loop-at-test.true)) c.loop-at.invariant.long c.loop-at.invariant.held))

pub loop-at-preserved : goal.loop-at-preserved
loop-at-preserved c =
    let t = table_view c.args.symbols in
    let rules = rules_of (sections_view c.args.sections) in
    let at = c.loop-at.at in
    let section = rules.section (rules.first + at) in
    let held : HoldsRows t section c.replace-rows.result =
    subst (HoldsRows t section) (sym (c.replace-rows.ensures.value ∙ c.index_mut.ensures.value)) (held_at t rules c.loop-at.held.items at c.index_mut.result.now (omega (arith, c.loop-at.invariant.long, c.span_of-first.ensures.count, c.loop-at-test.true)) c.loop-at.invariant.long c.loop-at.invariant.held) in
    let same : c.span_of-first.result.0 + at ≡ rules.first + at = ap (λ (n : ℕ). n + at) c.span_of-first.ensures.first in
    let pushed = rw same at c.in_ok-push_functions.ensures in
    record {
      long = length-set c.loop-at.held.items at c.replace-rows.new.dest ∙ c.loop-at.invariant.long;
      held = others_held t rules c.loop-at.held.items at c.replace-rows.new.dest c.loop-at.invariant.held;
      listed = pushed t held
          ∙ ap (λ (es : List SectionEntry). es ++ section_entries rules t (rules.first + at)) c.loop-at.invariant.listed
          ∙ sym (one_section_more (section_entries rules t) rules.first at);
    }

pub push_functions-requires-clause-within : goal.push_functions-requires-clause-within
push_functions-requires-clause-within c =
    let chosen = sections_view c.args.sections in
    let at = c.loop-at.at in
    let here : HasHeader chosen ((rules_of chosen).first + at) = has_header chosen at c.requires (omega (arith, c.loop-at-test.true, c.span_of-first.ensures.count)) in (
      omega (arith, c.span_of-first.ensures.fits, c.loop-at-test.true),
      subst (HasHeader chosen) (ap (λ (n : ℕ). n + at) (sym c.span_of-first.ensures.first)) here,
    )
