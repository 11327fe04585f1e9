use Rattle.std.proofs.Common.{◌≡◌, ◌+◌, ◌<◌, ◌++◌, ◌/◌, ℕ, Bool, true, false, ◌&&◌, nat_lt, List, Bor, Some, length, get_or, set, slice_get, map, sym, ap, ◌∙◌, arith}
use Rattle.std.specs.Option.{option_map}
use Rattle.std.proofs.lemmas.Bool.{and_parts, eqb-true, ltb-true}
use Rattle.std.proofs.lemmas.List.{append-nil, length-map}
use Rattle.binfarce_bytes.specs.SectionEntries.{SectionEntry}
use Rattle.binfarce_bytes.specs.Sizes.{arranged}
use Rattle.binfarce_bytes.specs.RowViews.{rows_view}
use Rattle.binfarce_bytes.specs.SymbolViews.{section_function_view}
use Rattle.binfarce_macho.specs.MachoSelection.{code_view, is_selected, numbered_view, symbols_view}
use Rattle.binfarce_macho.specs.machine.RawMacho.{function_in, selected_view}
use Rattle.binfarce_macho.proofs.EachSection.{section_here, others_held, past_one, held_here, all_inside, section_listed}
use Rattle.binfarce_macho.proofs.SectionLists.{no_sections, of_other, of_selected, section_added, all_added}
use Rattle.binfarce_macho.proofs.functions.functions_in.Goals as goal
use Rattle.binfarce_macho.proofs.functions.functions_in.Goals.{then-is_taken+in_ok-push_section, else-is_taken}

pub returns-then-is_empty : goal.returns-then-is_empty
returns-then-is_empty c =
    ap (map section_function_view) c.new-functions.ensures.items
    ∙ sym (no_sections (selected_view c.args.sections.now c.args.code) (symbols_view c.args.symbols) (length-map c.args.sections.now numbered_view ∙ eqb-true (length c.args.sections.now) 0 (sym c.is_empty.ensures ∙ c.if-is_empty.true)))

-- what is taken is a section that is selected
taken : (index count : ℕ) (selected result : Bool) → result ≡ (nat_lt index count && selected) → result ≡ true → (index < count) × (selected ≡ true)
taken index count selected result is holds = let both = and_parts (nat_lt index count) selected (sym is ∙ holds) in (ltb-true index count both.0, both.1)

pub push_section-requires : goal.push_section-requires
push_section-requires c =
    let sections = map numbered_view c.args.sections.now in
    let table = symbols_view c.args.symbols in
    let k = c.loop-index.index in
    let n = length c.args.symbols.rows.now / 16 in
    let held = c.loop-index.kept_rows.items in
    let lt : c.from-at.result < length c.args.sections.now = (taken c.from-at.result (length c.args.sections.now) (is_selected (option_map code_view c.args.code) c.from-at.result) c.is_taken.result c.is_taken.ensures c.if-is_taken.true).0 in
    let here = ap (slice_get sections) (sym c.from-at.ensures) ∙ section_here c.args.sections.now c.from-at.result c.index-sections-at.result lt in
    let is = c.replace-rows.ensures.value ∙ c.index_mut.ensures.value ∙ ap (λ (i : ℕ). get_or held i c.index_mut.result.now) c.from-at.ensures in
    all_inside sections table k n (numbered_view (get_or c.args.sections.now c.from-at.result c.index-sections-at.result)) here c.replace-rows.result.items (length c.deref.result.now)
    (held_here sections table n k held c.in_ok-kept.kept.names.items c.loop-index.invariant.1 c.replace-rows.result c.index_mut.result.now (omega (arith, lt, c.from-at.ensures, length-map c.args.sections.now numbered_view)) is)
    (omega (arith, c.loop-index.invariant.1.many, ap length c.deref.ensures.value))

pub loop-index-preserved : goal.loop-index-preserved
loop-index-preserved c =
    let sections = map numbered_view c.args.sections.now in
    let selected = selected_view c.args.sections.now c.args.code in
    let table = symbols_view c.args.symbols in
    let k = c.loop-index.index in
    let n = length c.args.symbols.rows.now / 16 in
    let held = c.loop-index.kept_rows.items in
    let names = c.in_ok-kept.kept.names.items in
    let before = map section_function_view c.loop-index.functions.items in
    let after = map section_function_view c.if-is_taken.functions.items in
    elim c.if-is_taken.branch [
      | then-is_taken+in_ok-push_section w ↦
          let both = taken c.from-at.result (length c.args.sections.now) (is_selected (option_map code_view c.args.code) c.from-at.result) c.is_taken.result c.is_taken.ensures w.if-is_taken.true in
          let lt : c.from-at.result < length c.args.sections.now = both.0 in
          let chosen : is_selected (option_map code_view c.args.code) k ≡ true = ap (is_selected (option_map code_view c.args.code)) (sym c.from-at.ensures) ∙ both.1 in
          let section = numbered_view (get_or c.args.sections.now c.from-at.result w.index-sections-at.result) in
          let here : slice_get sections k ≡ Some section = ap (slice_get sections) (sym c.from-at.ensures) ∙ section_here c.args.sections.now c.from-at.result w.index-sections-at.result lt in
          let is = w.replace-rows.ensures.value ∙ w.index_mut.ensures.value ∙ ap (λ (i : ℕ). get_or held i w.index_mut.result.now) c.from-at.ensures in
          let rows = rows_view w.replace-rows.result.items in
          let are = held_here sections table n k held names c.loop-index.invariant.1 w.replace-rows.result w.index_mut.result.now (omega (arith, lt, c.from-at.ensures, length-map c.args.sections.now numbered_view)) is in (
            section_added selected table k before after c.loop-index.invariant.0
                (ap (λ v. map section_function_view v.items) w.functions-is ∙ w.in_ok-push_section.ensures
                ∙ ap (λ (names : List (Bor (List ℕ))). before ++ map (function_in section.extent (k + 1) (map (λ t. t.now) names) (arranged rows)) (arranged rows)) w.deref.ensures.value
                ∙ ap (λ (es : List SectionEntry). before ++ es)
                (section_listed sections table k section (map (λ t. t.now) names) rows here are (λ j name. c.loop-index.invariant.1.named k j name) ∙ sym (of_selected selected table k (Some section) here chosen))),
            rw (ap (λ v. v.items) w.kept_rows-is ∙ ap (λ (i : ℕ). set held i w.replace-rows.new.dest) c.from-at.ensures)
                (others_held sections table n k held names c.loop-index.invariant.1 w.replace-rows.new.dest),
          )
      | else-is_taken w ↦
          let other : (nat_lt k (length sections) && is_selected (option_map code_view c.args.code) k) ≡ false =
          ap (λ (m : ℕ). nat_lt k m && is_selected (option_map code_view c.args.code) k) (length-map c.args.sections.now numbered_view)
          ∙ ap (λ (i : ℕ). nat_lt i (length c.args.sections.now) && is_selected (option_map code_view c.args.code) i) (sym c.from-at.ensures) ∙ sym c.is_taken.ensures ∙ w.if-is_taken.false in (
            section_added selected table k before after c.loop-index.invariant.0
                (ap (λ v. map section_function_view v.items) w.functions-is ∙ sym (append-nil before) ∙ ap (λ (es : List SectionEntry). before ++ es) (sym (of_other selected table k other))),
            rw (ap (λ v. v.items) w.kept_rows-is) (past_one sections table n k held names c.loop-index.invariant.1),
          )
    ]

pub returns : goal.returns
returns c =
    all_added (selected_view c.args.sections.now c.args.code) (symbols_view c.args.symbols) c.loop-index.index (map section_function_view c.loop-index.functions.items) (omega arith) c.loop-index.invariant.0
