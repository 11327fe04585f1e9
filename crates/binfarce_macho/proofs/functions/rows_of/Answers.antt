use Rattle.std.proofs.Common.{◌∙◌, ◌+◌, ◌*◌, ◌/◌, ◌≤◌, ◌++◌, ap, sym, ℕ, length, List, [], ◌∷◌}
use Rattle.std.proofs.lemmas.List.{map-append}
use Rattle.std.proofs.lemmas.List.Elements.{All-nil, All-cons, All-append}
use Rattle.binfarce_bytes.specs.declared.sizes.RowAddress as code
use Rattle.binfarce_bytes.specs.Sizes.{RowAddress}
use Rattle.binfarce_bytes.specs.RowViews.{row_view}
use Rattle.binfarce_bytes.proofs.Rows.{match_ok, on_err}
use Rattle.binfarce_macho.specs.MachoSymbols.{SymbolRow, address_of}
use Rattle.binfarce_macho.proofs.Kept.{some_kept, added_some, added_none, address_some, address_none}
use Rattle.binfarce_macho.proofs.functions.rows_of.Goals as goal
use Rattle.binfarce_macho.proofs.functions.rows_of.Goals.{then-ends_size+in_ok-push, else-ends_size}

pub returns-in_err-push-clause-memory : goal.returns-in_err-push-clause-memory
returns-in_err-push-clause-memory c =
    let bytes = c.args.symbols.rows.now in
    let k = c.loop-k.k in
    let v = c.unwrap-row.result.value in
    let at = match_ok c.symbol_at.result c.unwrap-row.result _ _ c.unwrap-row.ensures c.symbol_at.ensures in
    on_err c.from_residual.result _ (some_kept (address_of bytes) (length bytes / 16) k (record { address = v; row = k })
    (address_some bytes k v (ap (λ (r : SymbolRow ℕ). r.value) at.1) (sym c.ends_size.ensures ∙ c.if-ends_size.true)) c.loop-k-test.true)

pub loop-k-preserved : goal.loop-k-preserved
loop-k-preserved c =
    let bytes = c.args.symbols.rows.now in
    let k = c.loop-k.k in
    let v = c.unwrap-row.result.value in
    let rows = c.loop-k.rows.items in
    let at = match_ok c.symbol_at.result c.unwrap-row.result _ _ c.unwrap-row.ensures c.symbol_at.ensures in
    let value = ap (λ (r : SymbolRow ℕ). r.value) at.1 in
    elim c.if-ends_size.branch [
      | then-ends_size+in_ok-push w ↦
          let P = λ (r : code.RowAddress). r.index * 16 + 16 ≤ length bytes in
          let new : code.RowAddress = record { address = v; index = k } in
          let x : RowAddress = record { address = v; row = k } in
          rw (ap (λ v. v.items) w.rows-is ∙ w.in_ok-push.ensures.items) (
            map-append row_view rows (new ∷ []) ∙ ap (λ (xs : List RowAddress). xs ++ x ∷ []) c.loop-k.invariant.0 ∙ sym (added_some (address_of bytes) k x (address_some bytes k v value (sym c.ends_size.ensures ∙ w.if-ends_size.true))),
            All-append P rows (new ∷ []) c.loop-k.invariant.1 (All-cons P new [] at.0 (All-nil P)),
          )
      | else-ends_size w ↦
          rw (ap (λ v. v.items) w.rows-is) (c.loop-k.invariant.0 ∙ sym (added_none (address_of bytes) k (address_none bytes k v value (sym c.ends_size.ensures ∙ w.if-ends_size.false))), c.loop-k.invariant.1)
    ]
