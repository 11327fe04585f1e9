use Rattle.std.proofs.Common.{◌∙◌, ◌≡◌, ◌++◌, ◌⊎◌, ℕ, List, [], inl, inr, None, map, refl, subst}
use Rattle.binfarce_bytes.specs.Selection.{section_of}
use Rattle.binfarce_figures.specs.Changes.{AreChangesBy, Asked, answer_for, both}
use Rattle.binfarce_rows.specs.Json.{style_of}
use Rattle.binfarce_tools.specs.Writing.{no_memory, write_failed}
use Rattle.binfarce_io.specs.Faults.{failure, no_memory_fault}
use Rattle.binfarce_jobs.specs.Files.{Grows, hinted, state_of}
use Rattle.binfarce_jobs.specs.Hints.{words_of}
use Rattle.binfarce_jobs.specs.Limit.{grown}
use Rattle.binfarce_io.specs.Output.{taken}
use Rattle.binfarce_io.specs.declared.fault.Fault.TheVariants.{Report}
use Rattle.binfarce_jobs.proofs.FileLoop.{grows_none, grows_unless, reports_more}
use Rattle.binfarce_limits.specs.Rows.{finding_view, found_words}
use Rattle.binfarce_calls.specs.Compared.{by_sizes}
use Rattle.binfarce_calls.specs.machine.Steps.{HasSummed}
use Rattle.binfarce_calls.proofs.Changes.{both_are, both_had, due_of, none_had, passed_on, report_broke, unwritten, were_not, were_written, words_are}
use Rattle.binfarce_calls.proofs.Written as text
use Rattle.binfarce_calls.proofs.compare.write_changes.Goals as goal
use Rattle.binfarce_calls.proofs.compare.write_changes.Goals.{in_default-via-in-Some+in_default, in_default-via-in_default}

pub returns-in_default-clause-writes : goal.returns-in_default-clause-writes
returns-in_default-clause-writes g c = λ may_fail old new first second one other.
    let symbols = c.args.asked.now.symbols in
    let asked = by_sizes c.args.asked.now c.args.pair.now may_fail old new in
    let which : (c.args.before.now ≡ None) ⊎ (c.args.after.now ≡ None) = elim c.in_default.branch [ in_default-via-in-Some+in_default w ↦ inr w.in_default.is-1 | in_default-via-in_default w ↦ inl w.in_default.is-0 ] in
    unwritten asked first second (state_of g.W.Write.contents c.args.out.now (g.Y.System.reports c.args.system.now) (g.Y.System.hints c.args.system.now))
    (none_had asked (HasSummed g.F.Source.bytes symbols old) (HasSummed g.F.Source.bytes symbols new) c.args.before.now c.args.after.now first second which one other)

pub returns-in_err-rows-clause-writes : goal.returns-in_err-rows-clause-writes
returns-in_err-rows-clause-writes g c = λ may_fail old new first second one other.
    let symbols = c.args.asked.now.symbols in
    let asked = by_sizes c.args.asked.now c.args.pair.now may_fail old new in
    let had = both_had (HasSummed g.F.Source.bytes symbols old) (HasSummed g.F.Source.bytes symbols new) c.args.before.now c.args.after.now c.in-Some-Some.before c.in-Some-Some.after first second c.in-Some-Some.is-0 c.in-Some-Some.is-1 one other in
    let begun = c.begin.new.self in
    let none = c.begin.ensures.pending ∙ c.new.ensures.items in
    let reports = g.Y.System.reports c.args.system.now in
    let hints = g.Y.System.hints c.args.system.now in
    let start = state_of g.W.Write.contents c.args.out.now reports hints in
    let after = state_of g.W.Write.contents begun reports hints in
    passed_on asked first second start after no_memory_fault c.from_residual.result c.from_residual.ensures.1
    (were_not asked had.0 had.1 first second had.2 had.3 start after no_memory_fault
    (inr (refl, text.took g.W.Write.contents c.args.out.now begun begun c.begin.ensures.writer none [] (text.nothing (taken g.W.Write.contents begun))), grows_none reports, grows_none hints))

pub returns-in_err-growth-clause-writes : goal.returns-in_err-growth-clause-writes
returns-in_err-growth-clause-writes g c = λ may_fail old new first second one other.
    let pair = c.args.pair.now in
    let figures = c.args.asked.now.figures in
    let symbols = c.args.asked.now.symbols in
    let asked = by_sizes c.args.asked.now pair may_fail old new in
    let had = both_had (HasSummed g.F.Source.bytes symbols old) (HasSummed g.F.Source.bytes symbols new) c.args.before.now c.args.after.now c.in-Some-Some.before c.in-Some-Some.after first second c.in-Some-Some.is-0 c.in-Some-Some.is-1 one other in
    let was : Asked = record { which = symbols.which; file = old; section = section_of symbols.selection } in
    let now : Asked = record { which = symbols.which; file = new; section = section_of symbols.selection } in
    let are = both_are (answer_for was) (answer_for now) had.0 had.1 had.4.selected_is had.5.selected_is in
    let begun = c.begin.new.self in
    let none = c.begin.ensures.pending ∙ c.new.ensures.items in
    let reports = g.Y.System.reports c.args.system.now in
    let hints = g.Y.System.hints c.args.system.now in
    let start = state_of g.W.Write.contents c.args.out.now reports hints in
    let after = state_of g.W.Write.contents c.diff.new.out reports hints in
    let e = c.in_err-growth.field-0.0 in
    let Is = AreChangesBy figures (style_of pair.form) in
    let broke = report_broke Is (both (answer_for was) (answer_for now)) (had.0, had.1) are (taken g.W.Write.contents begun) (taken g.W.Write.contents c.diff.new.out) e c.in_err-growth.ensures.outcome
    (c.in_err-growth.ensures.takes was now (had.0, had.4.selected_is, had.4.claims_are) (had.1, had.5.selected_is, had.5.claims_are)) in
    passed_on asked first second start after (Report e) c.from_residual-in_err-growth.result c.from_residual-in_err-growth.ensures.1
    (were_not asked had.0 had.1 first second had.2 had.3 start after (Report e)
    (text.broke g.W.Write.contents c.args.out.now begun c.diff.new.out c.begin.ensures.writer none (failure (Report e) ≡ write_failed) (failure (Report e) ≡ no_memory) (Is (had.0, had.1)) broke, grows_none reports, grows_none hints))

pub returns-in_err-end-clause-writes : goal.returns-in_err-end-clause-writes
returns-in_err-end-clause-writes g c = λ may_fail old new first second one other.
    let pair = c.args.pair.now in
    let figures = c.args.asked.now.figures in
    let symbols = c.args.asked.now.symbols in
    let asked = by_sizes c.args.asked.now pair may_fail old new in
    let had = both_had (HasSummed g.F.Source.bytes symbols old) (HasSummed g.F.Source.bytes symbols new) c.args.before.now c.args.after.now c.in-Some-Some.before c.in-Some-Some.after first second c.in-Some-Some.is-0 c.in-Some-Some.is-1 one other in
    let was : Asked = record { which = symbols.which; file = old; section = section_of symbols.selection } in
    let now : Asked = record { which = symbols.which; file = new; section = section_of symbols.selection } in
    let are = both_are (answer_for was) (answer_for now) had.0 had.1 had.4.selected_is had.5.selected_is in
    let begun = c.begin.new.self in
    let none = c.begin.ensures.pending ∙ c.new.ensures.items in
    let reports = g.Y.System.reports c.args.system.now in
    let hints = g.Y.System.hints c.args.system.now in
    let start = state_of g.W.Write.contents c.args.out.now reports hints in
    let after = state_of g.W.Write.contents c.end.new.self reports hints in
    let e = c.in_err-end.field-0.0 in
    let Is = AreChangesBy figures (style_of pair.form) in
    let takes = c.in_ok-growth.ensures.takes was now (had.0, had.4.selected_is, had.4.claims_are) (had.1, had.5.selected_is, had.5.claims_are) in
    passed_on asked first second start after e c.from_residual-in_err-end.result c.from_residual-in_err-end.ensures.1
    (were_not asked had.0 had.1 first second had.2 had.3 start after e (
      inl (
        c.in_err-end.ensures.fails.0,
        (
          takes.0,
          due_of Is (both (answer_for was) (answer_for now)) (had.0, had.1) takes.0 are takes.1,
          text.took_whole g.W.Write.contents c.args.out.now begun c.diff.new.out c.begin.ensures.writer none c.end.new.self takes.0 takes.2 c.end.ensures.kept,
        ),
      ),
      grows_none reports,
      grows_none hints,
    ))

pub returns-clause-writes : goal.returns-clause-writes
returns-clause-writes g c = λ may_fail old new first second one other.
    let pair = c.args.pair.now in
    let figures = c.args.asked.now.figures in
    let symbols = c.args.asked.now.symbols in
    let asked = by_sizes c.args.asked.now pair may_fail old new in
    let had = both_had (HasSummed g.F.Source.bytes symbols old) (HasSummed g.F.Source.bytes symbols new) c.args.before.now c.args.after.now c.in-Some-Some.before c.in-Some-Some.after first second c.in-Some-Some.is-0 c.in-Some-Some.is-1 one other in
    let was : Asked = record { which = symbols.which; file = old; section = section_of symbols.selection } in
    let now : Asked = record { which = symbols.which; file = new; section = section_of symbols.selection } in
    let are = both_are (answer_for was) (answer_for now) had.0 had.1 had.4.selected_is had.5.selected_is in
    let begun = c.begin.new.self in
    let none = c.begin.ensures.pending ∙ c.new.ensures.items in
    let s0 = c.args.system.now in
    let s1 = c.hint_on_none.new.system in
    let s2 = c.hint_on_none-2.new.system in
    let s3 = c.is_above.new.system in
    let start = state_of g.W.Write.contents c.args.out.now (g.Y.System.reports s0) (g.Y.System.hints s0) in
    let after = state_of g.W.Write.contents c.end.new.self (g.Y.System.reports s3) (g.Y.System.hints s3) in
    let growth = c.in_ok-growth.growth in
    let Is = AreChangesBy figures (style_of pair.form) in
    let takes = c.in_ok-growth.ensures.takes was now (had.0, had.4.selected_is, had.4.claims_are) (had.1, had.5.selected_is, had.5.claims_are) in
    let of_old = c.hint_on_none.ensures.hints old had.0 had.4 in
    let of_new = c.hint_on_none-2.ensures.hints new had.1 had.5 in
    let rows = c.in_ok-rows.rows.items in
    let excess = hinted pair.new.now (words_of (grown growth pair.limit) ++ map found_words (map finding_view rows)) in
    let hints_new = hinted pair.new.now of_new.0 in
    were_written asked had.0 had.1 first second had.2 had.3 start after takes.0 growth (map finding_view rows) of_old.0 of_new.0
    (due_of Is (both (answer_for was) (answer_for now)) (had.0, had.1) takes.0 are takes.1)
    (c.in_ok-growth.ensures.growth was now (had.0, had.1) (had.0, had.4.selected_is, had.4.claims_are) (had.1, had.5.selected_is, had.5.claims_are) are)
    (c.in_ok-rows.ensures had.0 had.1 had.4.claims_are had.5.claims_are)
    of_old.1 of_new.1
    (text.wrote g.W.Write.contents c.args.out.now begun c.diff.new.out c.begin.ensures.writer none c.end.new.self takes.0 takes.2 c.end.ensures.kept c.in_ok-end.ensures.written.0)
    (grows_unless (g.Y.System.reports s0) (g.Y.System.reports s3) (c.is_above.ensures.reports ∙ c.hint_on_none-2.ensures.reports ∙ c.hint_on_none.ensures.reports))
    (reports_more (g.Y.System.hints s0) (g.Y.System.hints s1) (g.Y.System.hints s3) (hinted pair.old.now of_old.0) (hints_new ++ excess) of_old.2
    (reports_more (g.Y.System.hints s1) (g.Y.System.hints s2) (g.Y.System.hints s3) hints_new excess of_new.2
    (subst (λ (said : List (List ℕ)). Grows (g.Y.System.hints s2) (g.Y.System.hints s3) (hinted pair.new.now (words_of (grown growth pair.limit) ++ said))) (words_are rows) c.is_above.ensures.hints)))
    c.is_above.result c.is_above.ensures.above
