use Rattle.std.proofs.Common.{◌+◌, ℕ, List, map, slice_get, Option, sym, ap, ◌∙◌, arith}
use Rattle.std.proofs.lemmas.List.{length-map}
use Rattle.binfarce_bytes.proofs.Rows.{match_ok}
use Rattle.binfarce_macho.specs.MachoSelection.{numbered_view, symbols_view}
use Rattle.binfarce_macho.specs.MachoSymbols.{SymbolRow}
use Rattle.binfarce_macho.specs.machine.RawMacho.{named_in}
use Rattle.binfarce_macho.proofs.EachSection.{holds_none, passes_over, keeps}
use Rattle.binfarce_macho.proofs.functions.kept_by_section.Goals as goal
use Rattle.binfarce_macho.proofs.functions.kept_by_section.Goals.{in-None, in-Some+in_ok-push-in-Some}

pub loop-k-init : goal.loop-k-init
loop-k-init c =
    let sections = map numbered_view c.args.sections.now in
    holds_none sections (symbols_view c.args.symbols) c.in_ok-rows.rows.items c.in_ok-names.names.items
    (c.in_ok-rows.ensures.0 ∙ sym (length-map c.args.sections.now numbered_view)) c.in_ok-rows.ensures.1 (omega (arith, c.in_ok-names.ensures.len))

pub loop-k-preserved : goal.loop-k-preserved
loop-k-preserved c =
    let sections = map numbered_view c.args.sections.now in
    let table = symbols_view c.args.symbols in
    let k = c.loop-k.k in
    let at = match_ok c.symbol_at.result c.unwrap-row.result _ _ c.unwrap-row.ensures c.symbol_at.ensures in
    let name : ℕ → SymbolRow ℕ → Option (List ℕ) = λ i row. named_in table.strings (i + 1) (slice_get sections i) row in
    elim c.match-kept_of.branch [
      | in-None w ↦
          rw (ap (λ v. v.items) w.rows-is, ap (λ v. v.items) w.names-is)
          (passes_over sections table k c.loop-k.rows.items c.loop-k.names.items c.loop-k.invariant (λ i. ap (name i) (sym at.1) ∙ w.in-None.ensures i))
      | in-Some+in_ok-push-in-Some w ↦
          rw (ap (λ v. v.items) w.rows-is, ap (λ v. v.items) w.names-is)
          (keeps sections table k c.loop-k.rows.items c.loop-k.names.items c.loop-k.invariant w.in-Some.at c.unwrap-row.result.value w.in-Some.name w.index_mut-in-Some.result.now w.push.new.self
          (omega (arith, w.in-Some.ensures.0, length-map c.args.sections.now numbered_view)) c.loop-k-test.true
          (ap (name w.in-Some.at) (sym at.1) ∙ w.in-Some.ensures.1) (λ i other. ap (name i) (sym at.1) ∙ w.in-Some.ensures.2 i other) (ap (λ (r : SymbolRow ℕ). r.value) at.1)
          w.index_mut-in-Some.ensures.value w.in_ok-push-in-Some.ensures.items)
    ]
