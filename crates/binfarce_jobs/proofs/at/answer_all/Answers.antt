use Rattle.std.proofs.Common.{◌∙◌, Err, ap, length}
use Rattle.binfarce_addresses.specs.Lines.{AreLinesAt}
use Rattle.binfarce_tools.specs.Listing.{ListingFits}
use Rattle.binfarce_tools.specs.ListWords as list
use Rattle.binfarce_tools.specs.Answer.{MemoryIn, selected_answer}
use Rattle.binfarce_tools.specs.Writing.{Outcome, Takes, EndsAs, written}
use Rattle.binfarce_addresses.proofs.AddressLines.{counts_of, ends_of, takes_of}
use Rattle.binfarce_jobs.proofs.Outcomes.{made_of, still_so, shared_places}
use Rattle.binfarce_jobs.proofs.Shown.{of_list}
use Rattle.binfarce_jobs.proofs.at.answer_all.Goals as goal

pub returns-in_err-places-clause-shared : goal.returns-in_err-places-clause-shared
returns-in_err-places-clause-shared g c = λ which file section are shared.
    shared_places (MemoryIn file section) (selected_answer which section file) c.in_err-places.field-0.0 c.from_residual.result
    shared (c.in_err-places.ensures.has which file section are) c.from_residual.ensures.1

pub returns-in_err-places-clause-fails : goal.returns-in_err-places-clause-fails
returns-in_err-places-clause-fails g c = still_so (g.K.Sink.has_failed c.args.out.now) c.in_err-places.field-0.0 c.from_residual.result c.from_residual.ensures.1 c.in_err-places.ensures.unwritten

pub returns-in_err-counts-clause-outcome : goal.returns-in_err-counts-clause-outcome
returns-in_err-counts-clause-outcome g c = λ which file section are alone.
    let e = c.in_err-counts.field-0.0 in
    let has = c.in_ok-places.ensures.has which file section are in
    of_list e c.from_residual-in_err-counts.result (λ (o : Outcome). EndsAs ListingFits (MemoryIn file section) (selected_answer which section file) o) c.from_residual-in_err-counts.ensures.1
    (ends_of (MemoryIn file section) (selected_answer which section file) c.in_ok-places.places (list.outcome_of (Err e)) has.1 c.in_err-counts.ensures.outcome)

pub returns-in_err-counts-clause-takes : goal.returns-in_err-counts-clause-takes
returns-in_err-counts-clause-takes g c = λ which file section are.
    let e = c.in_err-counts.field-0.0 in
    let old = g.K.Sink.taken c.args.out.now in
    let new = g.K.Sink.taken c.write_lines.new.out in
    let has = c.in_ok-places.ensures.has which file section are in
    of_list e c.from_residual-in_err-counts.result (λ (o : Outcome). Takes (AreLinesAt c.args.lookup c.args.addresses.now) (selected_answer which section file) old new o) c.from_residual-in_err-counts.ensures.1
    (takes_of (MemoryIn file section) (selected_answer which section file) c.in_ok-places.places c.args.lookup c.args.addresses.now old new (list.outcome_of (Err e)) has.1 c.in_err-counts.ensures.takes)

pub returns-clause-takes : goal.returns-clause-takes
returns-clause-takes g c = λ which file section are.
    let has = c.in_ok-places.ensures.has which file section are in
    takes_of (MemoryIn file section) (selected_answer which section file) c.in_ok-places.places c.args.lookup c.args.addresses.now (g.K.Sink.taken c.args.out.now) (g.K.Sink.taken c.write_lines.new.out) written has.1 c.in_ok-counts.ensures.takes

pub returns-clause-counts : goal.returns-clause-counts
returns-clause-counts g c = λ which file section selected are answer.
    let has = c.in_ok-places.ensures.has which file section are in
    counts_of (MemoryIn file section) (selected_answer which section file) c.in_ok-places.places selected c.args.lookup c.args.addresses.now c.in_ok-counts.counts has.1 answer c.in_ok-counts.ensures.counts

pub returns-clause-symbols : goal.returns-clause-symbols
returns-clause-symbols g c = λ which file section selected are answer.
    let has = c.in_ok-places.ensures.has which file section are in
    c.len.ensures ∙ ap length (made_of (MemoryIn file section) (selected_answer which section file) c.in_ok-places.places selected has.1 answer)
