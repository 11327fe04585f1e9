use Rattle.std.proofs.Common.{◌≡◌, ℕ, true, false, List, length, Some, None, Ok, ap, ap₂, sym, ◌∙◌}
use Rattle.binfarce_pe.specs.Pe.{walk}
use Rattle.binfarce_pe.specs.PeNames.{has_long_names}
use Rattle.binfarce_pe.specs.PeParts.{places_of, places_view, table_walk}
use Rattle.binfarce_tables.specs.PeReads.{strings_at}
use Rattle.binfarce_tables.proofs.PeBeginning.{places_read}
use Rattle.binfarce_tables.proofs.PeStrings.{not_needed, is_needed, none_at, some_at}
use Rattle.binfarce_tables.proofs.Readings.{instead}
use Rattle.binfarce_tables.proofs.pe.read_strings.Goals as goal

pub returns-then-not-has_long_names-clause-answer : goal.returns-then-not-has_long_names-clause-answer
returns-then-not-has_long_names-clause-answer g c = λ file known step walks.
    let long_from = λ (n : ℕ). has_long_names (table_walk (record { bytes = c.args.beginning.now; offset = n; count = c.args.places.section_count })) in
    let long : has_long_names (walk file) ≡ false = ap has_long_names (sym walks) ∙ ap long_from (sym c.to_index.ensures) ∙ sym c.if-not-has_long_names.ensures in
    ap (λ (x : List ℕ). Ok x) (not_needed file long ∙ sym c.new.ensures.items)

pub returns-in-None-clause-answer : goal.returns-in-None-clause-answer
returns-in-None-clause-answer g c = λ file known step walks.
    let long_from = λ (n : ℕ). has_long_names (table_walk (record { bytes = c.args.beginning.now; offset = n; count = c.args.places.section_count })) in
    let long : has_long_names (walk file) ≡ true = ap has_long_names (sym walks) ∙ ap long_from (sym c.to_index.ensures) ∙ sym c.if-not-has_long_names.ensures in
    let places = places_read file (places_view c.args.places) step in
    let none : strings_at (length file) (places_of file) ≡ None = ap₂ strings_at (sym known.1) (sym places.0) ∙ sym c.strings_at.ensures ∙ c.in-None.is in
    ap (λ (x : List ℕ). Ok x) (is_needed file long ∙ none_at file none ∙ sym c.new-in-None.ensures.items)

pub returns-in-Some-clause-answer : goal.returns-in-Some-clause-answer
returns-in-Some-clause-answer g c = λ file known step walks.
    let long_from = λ (n : ℕ). has_long_names (table_walk (record { bytes = c.args.beginning.now; offset = n; count = c.args.places.section_count })) in
    let long : has_long_names (walk file) ≡ true = ap has_long_names (sym walks) ∙ ap long_from (sym c.to_index.ensures) ∙ sym c.if-not-has_long_names.ensures in
    let places = places_read file (places_view c.args.places) step in
    let some : strings_at (length file) (places_of file) ≡ Some c.in-Some.offset = ap₂ strings_at (sym known.1) (sym places.0) ∙ sym c.strings_at.ensures ∙ c.in-Some.is in
    let found = some_at file c.in-Some.offset some in
    instead (g.S.Source.may_fail c.args.opened.now.source.now) (λ v. v.items) _ _ c.read_string_table.result (ap (λ (x : List ℕ). Ok x) (is_needed file long ∙ found.0))
    (c.read_string_table.ensures.answer file known found.1)
