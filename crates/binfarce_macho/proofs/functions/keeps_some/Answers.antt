use Rattle.std.proofs.Common.{◌≡◌, ◌<◌, ◌+◌, ℕ, List, Bool, true, false, refl, ◌&&◌, nat_lt, length, map, slice_get, Option, None, sym, ap, subst, ◌∙◌, arith, inl, inr}
use Rattle.std.specs.Option.{option_map}
use Rattle.std.proofs.lemmas.Bool.{and_parts, cases_eq, false≢true, lt-ltb}
use Rattle.binfarce_bytes.proofs.Rows.{match_ok}
use Rattle.binfarce_bytes.proofs.SomeListed.{has_some, has_none}
use Rattle.binfarce_macho.specs.MachoSelection.{code_view, entries_of_selected, is_selected, numbered_view, symbols_view}
use Rattle.binfarce_macho.specs.MachoSymbols.{SymbolRow}
use Rattle.binfarce_macho.specs.machine.RawMacho.{named_in, name_in, selected_view}
use Rattle.binfarce_macho.proofs.SomeKept.{none_selected, some_selected}
use Rattle.binfarce_macho.proofs.functions.keeps_some.Goals as goal
use Rattle.binfarce_macho.proofs.functions.keeps_some.Goals.{in-None, in-Some+else-is_taken}

pub loop-k-init : goal.loop-k-init
loop-k-init c = λ i j lt is. absurd (omega arith)

pub returns-then-is_taken : goal.returns-then-is_taken
returns-then-is_taken c =
    let selected = selected_view c.args.sections.now c.args.code in
    let table = symbols_view c.args.symbols in
    let at = match_ok c.symbol_at.result c.unwrap-row.result _ _ c.unwrap-row.ensures c.symbol_at.ensures in
    let both = and_parts (nat_lt c.in-Some.at (length c.args.sections.now)) (is_selected (option_map code_view c.args.code) c.in-Some.at) (sym c.is_taken.ensures ∙ c.if-is_taken.true) in
    let name : SymbolRow ℕ → Option (List ℕ) = λ row. named_in table.strings (c.in-Some.at + 1) (slice_get selected.sections c.in-Some.at) row in
    has_some (entries_of_selected selected table)
    (some_selected selected table c.in-Some.at c.loop-k.k c.in-Some.field-0-1.now c.in-Some.ensures.3 c.loop-k-test.true both.1 (ap name (sym at.1) ∙ c.in-Some.ensures.1))

-- a section that is selected is taken
not_taken : (index count : ℕ) (selected result : Bool) → index < count → selected ≡ true → result ≡ (nat_lt index count && selected) → result ≡ false → ⊥
not_taken index count selected result lt is taken none = false≢true (sym none ∙ taken ∙ rw is (rw (lt-ltb index count lt) refl))

pub loop-k-preserved : goal.loop-k-preserved
loop-k-preserved c =
    let sections = map numbered_view c.args.sections.now in
    let code = option_map code_view c.args.code in
    let table = symbols_view c.args.symbols in
    let k = c.loop-k.k in
    let at = match_ok c.symbol_at.result c.unwrap-row.result _ _ c.unwrap-row.ensures c.symbol_at.ensures in
    let name : ℕ → SymbolRow ℕ → Option (List ℕ) = λ i row. named_in table.strings (i + 1) (slice_get sections i) row in
    let here : (i : ℕ) → is_selected code i ≡ true → name_in sections table i k ≡ None = λ i is. elim c.match-kept_of.branch [
      | in-None w ↦ ap (name i) (sym at.1) ∙ w.in-None.ensures i
      | in-Some+else-is_taken w ↦ elim (cases_eq i w.in-Some.at) [
        | inl same ↦ absurd (not_taken w.in-Some.at (length c.args.sections.now) (is_selected code w.in-Some.at) w.is_taken.result w.in-Some.ensures.0 (ap (is_selected code) (sym same) ∙ is) w.is_taken.ensures w.if-is_taken.false)
        | inr other ↦ ap (name i) (sym at.1) ∙ w.in-Some.ensures.2 i other
      ]
    ] in
    λ i j lt is. elim (cases_eq j k) [
      | inl same ↦ subst (λ (j : ℕ). name_in sections table i j ≡ None) (sym same) (here i is)
      | inr other ↦ c.loop-k.invariant i j (omega arith) is
    ]

pub returns : goal.returns
returns c =
    let selected = selected_view c.args.sections.now c.args.code in
    let table = symbols_view c.args.symbols in
    has_none (entries_of_selected selected table) (none_selected selected table (λ i j lt is. c.loop-k.invariant i j (omega arith) is))
