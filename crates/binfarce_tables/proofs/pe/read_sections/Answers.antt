use Rattle.std.proofs.Common.{◌≡◌, List, ℕ, ap, ◌∙◌, rules}
use Rattle.binfarce_pe.specs.Pe.{walk}
use Rattle.binfarce_pe.specs.PeParts.{places_view, table_walk}
use Rattle.binfarce_tables.specs.PeReading.{ReadsSections}
use Rattle.binfarce_tables.specs.machine.PePlaces.{headers_at}
use Rattle.binfarce_tables.proofs.PeSure.{section_pointer_sure, section_places_sure, beginning_sure, strings_parts_sure}
use Rattle.binfarce_tables.proofs.Readings.{taken}
use Rattle.binfarce_tables.proofs.Sure.{within, next, unmeasured, passed_only}
use Rattle.binfarce_tables.proofs.pe.read_sections.Goals as goal

pub returns-in_err-places-clause-answer : goal.returns-in_err-places-clause-answer
returns-in_err-places-clause-answer g c = λ file known.
    let is_known = c.in_ok-opened.ensures.known file known in
    let answer : ReadsSections (g.S.Source.may_fail c.in_ok-opened.opened.source.now) file c.from_residual-in_err-places.result = search rules in
    rw c.in_ok-opened.ensures.source at answer

pub returns-in_err-beginning-clause-answer : goal.returns-in_err-beginning-clause-answer
returns-in_err-beginning-clause-answer g c = λ file known.
    let is_known = c.in_ok-opened.ensures.known file known in
    let answer : ReadsSections (g.S.Source.may_fail c.in_ok-opened.opened.source.now) file c.from_residual-in_err-beginning.result = search rules in
    rw c.in_ok-opened.ensures.source at answer

pub returns-in_err-strings-clause-answer : goal.returns-in_err-strings-clause-answer
returns-in_err-strings-clause-answer g c = λ file known.
    let is_known = c.in_ok-opened.ensures.known file known in
    let answer : ReadsSections (g.S.Source.may_fail c.in_ok-opened.opened.source.now) file c.from_residual-in_err-strings.result = search rules in
    rw c.in_ok-opened.ensures.source at answer

pub returns-clause-answer : goal.returns-clause-answer
returns-clause-answer g c = λ file known.
    let is_known = c.in_ok-opened.ensures.known file known in
    let places = places_view c.in_ok-places.places in
    let step = c.in_ok-places.ensures.answer file is_known in
    let walks : table_walk (headers_at c.bytes.result.now places) ≡ walk file = ap (λ (b : List ℕ). table_walk (headers_at b places)) c.bytes.ensures ∙ c.in_ok-beginning.ensures.walk file is_known step in
    (c.in_ok-beginning.ensures.answer file is_known step, taken (c.in_ok-strings.ensures.answer file is_known step walks))

pub returns-in_err-opened-clause-only : goal.returns-in_err-opened-clause-only
returns-in_err-opened-clause-only g c = λ file known. unmeasured _ (λ P. section_pointer_sure P file) c.in_err-opened.ensures.unsure

pub returns-in_err-places-clause-only : goal.returns-in_err-places-clause-only
returns-in_err-places-clause-only g c = λ file known.
    let is_known = c.in_ok-opened.ensures.known file known in
    rw c.in_ok-opened.ensures.source at (passed_only _ (within (λ P. section_places_sure P file) (c.in_err-places.ensures.only file is_known)) c.from_residual-in_err-places.ensures)

pub returns-in_err-beginning-clause-only : goal.returns-in_err-beginning-clause-only
returns-in_err-beginning-clause-only g c = λ file known.
    let is_known = c.in_ok-opened.ensures.known file known in
    let places = places_view c.in_ok-places.places in
    let step = c.in_ok-places.ensures.answer file is_known in
    rw c.in_ok-opened.ensures.source at (passed_only _ (next (within (λ P. section_places_sure P file) (c.in_ok-places.ensures.only file is_known))
    (within (λ P all. beginning_sure P file all places step) (c.in_err-beginning.ensures.only file is_known step))) c.from_residual-in_err-beginning.ensures)

pub returns-in_err-strings-clause-only : goal.returns-in_err-strings-clause-only
returns-in_err-strings-clause-only g c = λ file known.
    let is_known = c.in_ok-opened.ensures.known file known in
    let places = places_view c.in_ok-places.places in
    let step = c.in_ok-places.ensures.answer file is_known in
    let walks : table_walk (headers_at c.bytes.result.now places) ≡ walk file = ap (λ (b : List ℕ). table_walk (headers_at b places)) c.bytes.ensures ∙ c.in_ok-beginning.ensures.walk file is_known step in
    rw c.in_ok-opened.ensures.source at (passed_only _ (next (next (within (λ P. section_places_sure P file) (c.in_ok-places.ensures.only file is_known))
    (within (λ P all. beginning_sure P file all places step) (c.in_ok-beginning.ensures.only file is_known step)))
    (within (λ P all. strings_parts_sure P file all places step) (c.in_err-strings.ensures.only file is_known step walks))) c.from_residual-in_err-strings.ensures)

pub returns-clause-only : goal.returns-clause-only
returns-clause-only g c = λ file known.
    let is_known = c.in_ok-opened.ensures.known file known in
    let places = places_view c.in_ok-places.places in
    let step = c.in_ok-places.ensures.answer file is_known in
    let walks : table_walk (headers_at c.bytes.result.now places) ≡ walk file = ap (λ (b : List ℕ). table_walk (headers_at b places)) c.bytes.ensures ∙ c.in_ok-beginning.ensures.walk file is_known step in
    rw c.in_ok-opened.ensures.source at (next (next (within (λ P. section_places_sure P file) (c.in_ok-places.ensures.only file is_known))
    (within (λ P all. beginning_sure P file all places step) (c.in_ok-beginning.ensures.only file is_known step)))
    (within (λ P all. strings_parts_sure P file all places step) (c.in_ok-strings.ensures.only file is_known step walks)))
