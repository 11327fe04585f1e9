use Rattle.std.proofs.Common.{ℕ, Ok, subst, sym}
use Rattle.binfarce_tools.specs.Answer.{MemoryIn, addresses_are_shared, selected_answer}
use Rattle.binfarce_jobs.specs.At.{AnswersInput, lines_end}
use Rattle.binfarce_jobs.proofs.Outcomes.{still_so}
use Rattle.binfarce_jobs.proofs.Lines.{answered_less, answered_lines, without_places}
use Rattle.binfarce_jobs.proofs.at.answer_input.Goals as goal

pub returns-in_err-places-clause-answers : goal.returns-in_err-places-clause-answers
returns-in_err-places-clause-answers g c = λ which file section are.
    without_places (addresses_are_shared (selected_answer which section file)) (MemoryIn file section) (selected_answer which section file) c.args.lookup _ _ c.in_err-places.field-0.0 c.from_residual.result
    (c.in_err-places.ensures.has which file section are) c.from_residual.ensures.1

pub returns-in_err-places-clause-fails : goal.returns-in_err-places-clause-fails
returns-in_err-places-clause-fails g c = still_so (g.K.Sink.has_failed c.args.out.now) c.in_err-places.field-0.0 c.from_residual.result c.from_residual.ensures.1 c.in_err-places.ensures.unwritten

pub returns-in_err-counts-clause-answers : goal.returns-in_err-counts-clause-answers
returns-in_err-counts-clause-answers g c = λ which file section are.
    let has = c.in_ok-places.ensures.has which file section are in
    let share = addresses_are_shared (selected_answer which section file) in
    answered_less share (MemoryIn file section) (selected_answer which section file) c.in_ok-places.places c.args.lookup _ _ _ _ c.in_err-counts.field-0.0 c.from_residual-in_err-counts.result
    has.0 has.1 c.in_err-counts.ensures.answers c.from_residual-in_err-counts.ensures.1

pub returns-clause-answers : goal.returns-clause-answers
returns-clause-answers g c = λ which file section are.
    let has = c.in_ok-places.ensures.has which file section are in
    let share = addresses_are_shared (selected_answer which section file) in
    subst (λ (n : ℕ). AnswersInput share (MemoryIn file section) (selected_answer which section file) c.args.lookup (g.I.Read.remaining c.args.input.now) (g.I.Read.remaining c.answer_lines.new.input)
    (g.K.Sink.taken c.args.out.now) (g.K.Sink.taken c.answer_lines.new.out) (lines_end n (Ok c.in_ok-counts.counts))) (sym c.len.ensures)
    (answered_lines share (MemoryIn file section) (selected_answer which section file) c.in_ok-places.places c.args.lookup _ _ _ _ (Ok c.in_ok-counts.counts) has.0 has.1 c.in_ok-counts.ensures.answers)
