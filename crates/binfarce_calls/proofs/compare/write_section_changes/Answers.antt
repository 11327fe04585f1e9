use Rattle.std.proofs.Common.{◌∙◌, ◌≡◌, ◌++◌, ◌⊎◌, ℕ, List, inl, inr, [], None, ap, map, refl, subst, sym}
use Rattle.binfarce_rows.specs.Json.{style_of}
use Rattle.binfarce_sections.specs.Changes.{AreChangesOf}
use Rattle.binfarce_tools.specs.Writing.{no_memory, write_failed}
use Rattle.binfarce_figures.specs.declared.diff.Growth.{Growth}
use Rattle.binfarce_io.specs.Faults.{failure, no_memory_fault}
use Rattle.binfarce_io.specs.Output.{taken}
use Rattle.binfarce_jobs.specs.Files.{Grows, hinted, state_of}
use Rattle.binfarce_io.specs.declared.fault.Fault.TheVariants.{Section}
use Rattle.binfarce_jobs.proofs.FileLoop.{grows_none, grows_unless}
use Rattle.binfarce_jobs.specs.Hints.{words_of}
use Rattle.binfarce_jobs.specs.Limit.{grown}
use Rattle.binfarce_limits.specs.Rows.{finding_view, found_words}
use Rattle.binfarce_calls.specs.Compared.{by_sections}
use Rattle.binfarce_calls.specs.Summed.{summed}
use Rattle.binfarce_calls.specs.machine.Steps.{HasSums}
use Rattle.binfarce_calls.proofs.Changes.{both_had, growth_of, none_had, passed_on, section_broke, unwritten, were_not, were_written, words_are}
use Rattle.binfarce_calls.proofs.Written as text
use Rattle.binfarce_calls.proofs.compare.write_section_changes.Goals as goal
use Rattle.binfarce_calls.proofs.compare.write_section_changes.Goals.{in_default-via-in-Some+in_default, in_default-via-in_default}

pub returns-in_default-clause-writes : goal.returns-in_default-clause-writes
returns-in_default-clause-writes g c = λ may_fail old new first second one other.
    let asked = by_sections c.args.figures.now c.args.pair.now may_fail old new in
    let which : (c.args.before.now ≡ None) ⊎ (c.args.after.now ≡ None) = elim c.in_default.branch [ in_default-via-in-Some+in_default w ↦ inr w.in_default.is-1 | in_default-via-in_default w ↦ inl w.in_default.is-0 ] in
    unwritten asked first second (state_of g.W.Write.contents c.args.out.now (g.Y.System.reports c.args.system.now) (g.Y.System.hints c.args.system.now))
    (none_had asked (HasSums old) (HasSums new) c.args.before.now c.args.after.now first second which one other)

pub returns-in_err-rows-clause-writes : goal.returns-in_err-rows-clause-writes
returns-in_err-rows-clause-writes g c = λ may_fail old new first second one other.
    let asked = by_sections c.args.figures.now c.args.pair.now may_fail old new in
    let had = both_had (HasSums old) (HasSums new) c.args.before.now c.args.after.now c.in-Some-Some.before c.in-Some-Some.after first second c.in-Some-Some.is-0 c.in-Some-Some.is-1 one other in
    let begun = c.begin.new.self in
    let none = c.begin.ensures.pending ∙ c.new.ensures.items in
    let reports = g.Y.System.reports c.args.system.now in
    let hints = g.Y.System.hints c.args.system.now in
    let start = state_of g.W.Write.contents c.args.out.now reports hints in
    let after = state_of g.W.Write.contents begun reports hints in
    passed_on asked first second start after no_memory_fault c.from_residual.result c.from_residual.ensures.1
    (were_not asked had.0 had.1 first second had.2 had.3 start after no_memory_fault
    (inr (refl, text.took g.W.Write.contents c.args.out.now begun begun c.begin.ensures.writer none [] (text.nothing (taken g.W.Write.contents begun))), grows_none reports, grows_none hints))

pub returns-in_err-diff_sections-clause-writes : goal.returns-in_err-diff_sections-clause-writes
returns-in_err-diff_sections-clause-writes g c = λ may_fail old new first second one other.
    let pair = c.args.pair.now in
    let figures = c.args.figures.now in
    let asked = by_sections figures pair may_fail old new in
    let had = both_had (HasSums old) (HasSums new) c.args.before.now c.args.after.now c.in-Some-Some.before c.in-Some-Some.after first second c.in-Some-Some.is-0 c.in-Some-Some.is-1 one other in
    let before = c.in-Some-Some.before in
    let after_sums = c.in-Some-Some.after in
    let first_is = had.2 ∙ ap summed (sym had.4.0) in
    let second_is = had.3 ∙ ap summed (sym had.5.0) in
    let begun = c.begin.new.self in
    let none = c.begin.ensures.pending ∙ c.new.ensures.items in
    let reports = g.Y.System.reports c.args.system.now in
    let hints = g.Y.System.hints c.args.system.now in
    let start = state_of g.W.Write.contents c.args.out.now reports hints in
    let Is = AreChangesOf figures.has_percent (style_of pair.form) figures.first before after_sums in
    let after = state_of g.W.Write.contents c.diff_sections.new.out reports hints in
    let e = c.in_err-diff_sections.field-0.0 in
    passed_on asked first second start after (Section e) c.from_residual-in_err-diff_sections.result c.from_residual-in_err-diff_sections.ensures.1
    (were_not asked before after_sums first second first_is second_is start after (Section e) (
      text.broke g.W.Write.contents c.args.out.now begun c.diff_sections.new.out c.begin.ensures.writer none (failure (Section e) ≡ write_failed) (failure (Section e) ≡ no_memory) Is
          (section_broke Is (taken g.W.Write.contents begun) (taken g.W.Write.contents c.diff_sections.new.out) e c.in_err-diff_sections.ensures.takes),
      grows_none reports,
      grows_none hints,
    ))

pub returns-in_err-end-clause-writes : goal.returns-in_err-end-clause-writes
returns-in_err-end-clause-writes g c = λ may_fail old new first second one other.
    let pair = c.args.pair.now in
    let figures = c.args.figures.now in
    let asked = by_sections figures pair may_fail old new in
    let had = both_had (HasSums old) (HasSums new) c.args.before.now c.args.after.now c.in-Some-Some.before c.in-Some-Some.after first second c.in-Some-Some.is-0 c.in-Some-Some.is-1 one other in
    let before = c.in-Some-Some.before in
    let after_sums = c.in-Some-Some.after in
    let first_is = had.2 ∙ ap summed (sym had.4.0) in
    let second_is = had.3 ∙ ap summed (sym had.5.0) in
    let begun = c.begin.new.self in
    let none = c.begin.ensures.pending ∙ c.new.ensures.items in
    let reports = g.Y.System.reports c.args.system.now in
    let hints = g.Y.System.hints c.args.system.now in
    let start = state_of g.W.Write.contents c.args.out.now reports hints in
    let Is = AreChangesOf figures.has_percent (style_of pair.form) figures.first before after_sums in
    let after = state_of g.W.Write.contents c.end.new.self reports hints in
    let e = c.in_err-end.field-0.0 in
    let takes = c.in_ok-diff_sections.ensures.takes in
    passed_on asked first second start after e c.from_residual-in_err-end.result c.from_residual-in_err-end.ensures.1
    (were_not asked before after_sums first second first_is second_is start after e (
      inl (c.in_err-end.ensures.fails.0, (takes.0, takes.1, text.took_whole g.W.Write.contents c.args.out.now begun c.diff_sections.new.out c.begin.ensures.writer none c.end.new.self takes.0 takes.2 c.end.ensures.kept)),
      grows_none reports,
      grows_none hints,
    ))

pub returns-clause-writes : goal.returns-clause-writes
returns-clause-writes g c = λ may_fail old new first second one other.
    let pair = c.args.pair.now in
    let figures = c.args.figures.now in
    let asked = by_sections figures pair may_fail old new in
    let had = both_had (HasSums old) (HasSums new) c.args.before.now c.args.after.now c.in-Some-Some.before c.in-Some-Some.after first second c.in-Some-Some.is-0 c.in-Some-Some.is-1 one other in
    let before = c.in-Some-Some.before in
    let after_sums = c.in-Some-Some.after in
    let first_is = had.2 ∙ ap summed (sym had.4.0) in
    let second_is = had.3 ∙ ap summed (sym had.5.0) in
    let begun = c.begin.new.self in
    let none = c.begin.ensures.pending ∙ c.new.ensures.items in
    let reports = g.Y.System.reports c.args.system.now in
    let hints = g.Y.System.hints c.args.system.now in
    let start = state_of g.W.Write.contents c.args.out.now reports hints in
    let Is = AreChangesOf figures.has_percent (style_of pair.form) figures.first before after_sums in
    let s3 = c.is_above.new.system in
    let after = state_of g.W.Write.contents c.end.new.self (g.Y.System.reports s3) (g.Y.System.hints s3) in
    let growth : Growth = record { old = c.file_length.result; new = c.file_length-2.result } in
    let takes = c.in_ok-diff_sections.ensures.takes in
    were_written asked before after_sums first second first_is second_is start after takes.0 growth (map finding_view c.in_ok-rows.rows.items) [] [] takes.1 (growth_of c.file_length.result c.file_length-2.result before.file_length after_sums.file_length c.file_length.ensures c.file_length-2.ensures)
    c.in_ok-rows.ensures (inr refl) (inr refl)
    (text.wrote g.W.Write.contents c.args.out.now begun c.diff_sections.new.out c.begin.ensures.writer none c.end.new.self takes.0 takes.2 c.end.ensures.kept c.in_ok-end.ensures.written.0)
    (grows_unless reports (g.Y.System.reports s3) c.is_above.ensures.reports)
    (subst (λ (said : List (List ℕ)). Grows hints (g.Y.System.hints s3) (hinted pair.new.now (words_of (grown growth pair.limit) ++ said))) (words_are c.in_ok-rows.rows.items) c.is_above.ensures.hints)
    c.is_above.result c.is_above.ensures.above
