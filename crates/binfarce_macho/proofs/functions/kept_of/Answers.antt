use Rattle.std.proofs.Common.{◌≡◌, ◌+◌, ◌-◌, ℕ, map, true, false, sym, ap, ◌∙◌, arith}
use Rattle.std.specs.Option.{option_map}
use Rattle.std.proofs.lemmas.Option.{slice_get_past, slice_get-map}
use Rattle.binfarce_macho.specs.MachoSections.{function_name}
use Rattle.binfarce_macho.specs.MachoSelection.{extent_view, numbered_view}
use Rattle.binfarce_macho.specs.machine.RawMacho.{symbol_view}
use Rattle.binfarce_macho.proofs.EachSection.{not_of, of_none, no_section, by_section, section_is}
use Rattle.binfarce_macho.proofs.functions.kept_of.Goals as goal

pub returns-then-row-eq0 : goal.returns-then-row-eq0
returns-then-row-eq0 c = λ i. not_of c.args.strings.now (symbol_view c.args.row) (map numbered_view c.args.sections.now) i (λ e. absurd (omega (arith, c.if-row-eq0.true)))

pub returns-then-index-sections : goal.returns-then-index-sections
returns-then-index-sections c =
    let index = c.from-index.result - 1 in
    let sections = map numbered_view c.args.sections.now in
    let row = symbol_view c.args.row in
    let strings = c.args.strings.now in
    of_none strings row sections index (omega (arith, c.from-index.ensures, c.if-row-eq0.false))
    (no_section strings row sections index (slice_get-map numbered_view c.args.sections.now index ∙ ap (option_map numbered_view) (slice_get_past c.args.sections.now index (omega (arith, c.if-index-sections.true)))))

pub returns-then-not-section : goal.returns-then-not-section
returns-then-not-section c =
    let index = c.from-index.result - 1 in
    let sections = map numbered_view c.args.sections.now in
    let row = symbol_view c.args.row in
    let strings = c.args.strings.now in
    of_none strings row sections index (omega (arith, c.from-index.ensures, c.if-row-eq0.false))
    (by_section strings row sections index (numbered_view c.index-sections-index.result) false (section_is c.args.sections.now index c.index-sections-index.result (omega (arith, c.if-index-sections.false)) c.index-sections-index.is) c.if-not-section.true)

pub returns-in-None : goal.returns-in-None
returns-in-None c =
    let index = c.from-index.result - 1 in
    let sections = map numbered_view c.args.sections.now in
    let row = symbol_view c.args.row in
    let strings = c.args.strings.now in
    let number : index + 1 ≡ c.args.row.section = omega (arith, c.from-index.ensures, c.if-row-eq0.false) in
    of_none strings row sections index (sym number)
    (by_section strings row sections index (numbered_view c.index-sections-index.result) true (section_is c.args.sections.now index c.index-sections-index.result (omega (arith, c.if-index-sections.false)) c.index-sections-index.is) c.if-not-section.false
    ∙ ap (λ (n : ℕ). function_name strings (extent_view c.index-sections-index.result.extent) n row) number ∙ sym c.in-None.ensures)

pub returns-in-Some : goal.returns-in-Some
returns-in-Some c =
    let index = c.from-index.result - 1 in
    let sections = map numbered_view c.args.sections.now in
    let row = symbol_view c.args.row in
    let strings = c.args.strings.now in
    let number : index + 1 ≡ c.args.row.section = omega (arith, c.from-index.ensures, c.if-row-eq0.false) in (
      omega (arith, c.if-index-sections.false),
      by_section strings row sections index (numbered_view c.index-sections-index.result) true (section_is c.args.sections.now index c.index-sections-index.result (omega (arith, c.if-index-sections.false)) c.index-sections-index.is) c.if-not-section.false
          ∙ ap (λ (n : ℕ). function_name strings (extent_view c.index-sections-index.result.extent) n row) number ∙ sym c.in-Some.ensures,
      λ i other. not_of strings row sections i (λ e. other (omega (arith, number))),
      omega (arith, number),
    )
