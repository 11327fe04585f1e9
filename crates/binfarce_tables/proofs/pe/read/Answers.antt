use Rattle.std.proofs.Common.{Result, Ok, Err, ap}
use Rattle.binfarce_bytes.specs.Refusal.{◌>>=◌, Refusal}
use Rattle.binfarce_bytes.specs.Selection.{section_of}
use Rattle.binfarce_pe.specs.PeParts.{places_view}
use Rattle.binfarce_pe.specs.PeSelection.{selected_file_answer, symbols_of}
use Rattle.binfarce_pe.specs.PeSymbols.{CoffTable}
use Rattle.binfarce_tables.specs.PeReading.{SelectedTables, selected_view}
use Rattle.binfarce_tables.specs.machine.PePlaces.{chosen_at, places_step, table_at, read_view, records_view}
use Rattle.binfarce_tables.proofs.PeSteps.{after_places, steps_are, symbols_at, from_places, from_sections}
use Rattle.binfarce_tables.proofs.PeSure.{pointer_sure, places_sure, selected_sure, table_sure}
use Rattle.binfarce_tables.proofs.Readings.{after_err, instead, passed}
use Rattle.binfarce_tables.proofs.Sure.{within, next, unmeasured, passed_only}
use Rattle.binfarce_tables.proofs.pe.read.Goals as goal

pub returns-in_err-sections-clause-answer : goal.returns-in_err-sections-clause-answer
returns-in_err-sections-clause-answer g c = λ file known.
    let is_known = c.in_ok-opened.ensures.known file known in
    let fails = g.S.Source.may_fail c.in_ok-opened.opened.source.now in
    let section = section_of c.args.selection in
    let places = places_view c.in_ok-places.places in
    let step = c.in_ok-places.ensures.answer file is_known in
    let e = c.in_err-sections.field-0.0 in
    rw c.in_ok-opened.ensures.source at (passed fails selected_view _ e c.from_residual-in_err-sections.result c.from_residual-in_err-sections.ensures
    (from_places fails selected_view section file places (Err e) step
    (after_err fails read_view selected_view (chosen_at section file places) (symbols_at file places) e (c.in_err-sections.ensures.answer file is_known step))))

pub returns-in_err-records-clause-answer : goal.returns-in_err-records-clause-answer
returns-in_err-records-clause-answer g c = λ file known.
    let is_known = c.in_ok-opened.ensures.known file known in
    let fails = g.S.Source.may_fail c.in_ok-opened.opened.source.now in
    let places = places_view c.in_ok-places.places in
    let step = c.in_ok-places.ensures.answer file is_known in
    let chosen = read_view c.in_ok-sections.sections in
    let e = c.in_err-records.field-0.0 in
    rw c.in_ok-opened.ensures.source at (passed fails selected_view _ e c.from_residual-in_err-records.result c.from_residual-in_err-records.ensures
    (from_sections fails selected_view (section_of c.args.selection) file places chosen (Err e) step (c.in_ok-sections.ensures.answer file is_known step)
    (after_err fails records_view selected_view (table_at file places) (λ symbols. Ok (symbols_of chosen symbols)) e (c.in_err-records.ensures.answer file is_known))))

pub returns-clause-answer : goal.returns-clause-answer
returns-clause-answer g c = λ file known.
    let is_known = c.in_ok-opened.ensures.known file known in
    let step = c.in_ok-places.ensures.answer file is_known in
    let chosen = read_view c.in_ok-sections.sections in
    let tables : SelectedTables = record { sections = chosen; symbols = records_view c.in_ok-records.records } in
    from_sections (g.S.Source.may_fail c.in_ok-opened.opened.source.now) selected_view (section_of c.args.selection) file (places_view c.in_ok-places.places) chosen (Ok tables) step (c.in_ok-sections.ensures.answer file is_known step)
    (ap (λ (a : Result CoffTable Refusal). a >>= λ symbols. Ok (symbols_of chosen symbols)) (c.in_ok-records.ensures.answer file is_known))

pub returns-in_err-opened-clause-only : goal.returns-in_err-opened-clause-only
returns-in_err-opened-clause-only g c = λ file known. unmeasured _ (λ P. pointer_sure P file) c.in_err-opened.ensures.unsure

pub returns-in_err-places-clause-only : goal.returns-in_err-places-clause-only
returns-in_err-places-clause-only g c = λ file known.
    let is_known = c.in_ok-opened.ensures.known file known in
    rw c.in_ok-opened.ensures.source at (passed_only _ (within (λ P. places_sure P file) (c.in_err-places.ensures.only file is_known)) c.from_residual-in_err-places.ensures)

pub returns-in_err-sections-clause-only : goal.returns-in_err-sections-clause-only
returns-in_err-sections-clause-only g c = λ file known.
    let is_known = c.in_ok-opened.ensures.known file known in
    let step = c.in_ok-places.ensures.answer file is_known in
    rw c.in_ok-opened.ensures.source at (passed_only _ (next (within (λ P. places_sure P file) (c.in_ok-places.ensures.only file is_known))
    (within (λ P all. selected_sure P file all (places_view c.in_ok-places.places) step) (c.in_err-sections.ensures.only file is_known step))) c.from_residual-in_err-sections.ensures)

pub returns-in_err-records-clause-only : goal.returns-in_err-records-clause-only
returns-in_err-records-clause-only g c = λ file known.
    let is_known = c.in_ok-opened.ensures.known file known in
    let places = places_view c.in_ok-places.places in
    let step = c.in_ok-places.ensures.answer file is_known in
    rw c.in_ok-opened.ensures.source at (passed_only _ (next (within (λ P. places_sure P file) (c.in_ok-places.ensures.only file is_known))
    (next (within (λ P all. selected_sure P file all places step) (c.in_ok-sections.ensures.only file is_known step))
    (within (λ P all. table_sure P file all places step) (c.in_err-records.ensures.only file is_known)))) c.from_residual-in_err-records.ensures)

pub returns-clause-only : goal.returns-clause-only
returns-clause-only g c = λ file known.
    let is_known = c.in_ok-opened.ensures.known file known in
    let places = places_view c.in_ok-places.places in
    let step = c.in_ok-places.ensures.answer file is_known in
    rw c.in_ok-opened.ensures.source at (next (within (λ P. places_sure P file) (c.in_ok-places.ensures.only file is_known))
    (next (within (λ P all. selected_sure P file all places step) (c.in_ok-sections.ensures.only file is_known step))
    (within (λ P all. table_sure P file all places step) (c.in_ok-records.ensures.only file is_known))))

pub returns-in_err-places-clause-answer : goal.returns-in_err-places-clause-answer
returns-in_err-places-clause-answer g c = λ file known.
    let is_known = c.in_ok-opened.ensures.known file known in
    let fails = g.S.Source.may_fail c.in_ok-opened.opened.source.now in
    let section = section_of c.args.selection in
    let e = c.in_err-places.field-0.0 in
    rw c.in_ok-opened.ensures.source at (passed fails selected_view (selected_file_answer section file) e c.from_residual-in_err-places.result c.from_residual-in_err-places.ensures
    (instead fails selected_view (selected_file_answer section file) (places_step file >>= after_places section file) (Err e) (steps_are section file)
    (after_err fails places_view selected_view (places_step file) (after_places section file) e (c.in_err-places.ensures.answer file is_known))))
