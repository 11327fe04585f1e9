use Rattle.std.proofs.Common.{◌≡◌, ◌++◌, ◌∷◌, [], ℕ, List, Some, None, refl, ap, sym, subst, ◌∙◌, arith}
use Rattle.binfarce_bytes.proofs.Rows.{match_ok}
use Rattle.binfarce_elf.specs.Classes.{class_of}
use Rattle.binfarce_elf_memory.specs.ElfEnds.{End, symbol_end}
use Rattle.binfarce_elf.specs.ElfSymbols.{row_of}
use Rattle.binfarce_elf.specs.machine.RawElf.{rows_view, symbol_view}
use Rattle.binfarce_elf_memory.proofs.Pushed.{AreAdded, pushed, row_added, row_passed}
use Rattle.binfarce_elf_memory.proofs.RowsLeft.{row_is}
use Rattle.binfarce_elf_memory.proofs.ends.push_rows.Goals as goal
use Rattle.binfarce_elf_memory.proofs.ends.push_rows.Goals.{then-not-is_mark+in_ok-push, else-not-is_mark}

pub loop-k-preserved : goal.loop-k-preserved
loop-k-preserved c =
    let class = class_of c.args.width in
    let found = rows_view c.args.found in
    let row = symbol_view c.unwrap-row.result in
    let k = c.loop-k.k in
    let old = c.args.keys.now.items in
    let at = match_ok c.row_at.result c.unwrap-row.result _ _ c.unwrap-row.ensures c.row_at.ensures in
    let same = row_is class c.args.byte_order found.rows k c.symbol_length-length.result row c.symbol_length-length.ensures.is at.1 in
    let f = λ (k : ℕ). symbol_end found.strings c.args.has_modes (row_of class c.args.byte_order found.rows k) in
    elim c.if-not-is_mark.branch [
      | then-not-is_mark+in_ok-push w ↦
          let e : End = record { section = row.section; address = w.address_of.result } in
          let is : f k ≡ Some e = ap (symbol_end found.strings c.args.has_modes) same ∙ rw (sym c.is_mark.ensures ∙ w.if-not-is_mark.true, sym w.address_of.ensures) refl in
          let more = pushed old c.loop-k.keys.items _ e w.key_of.result c.loop-k.invariant w.key_of.ensures (omega arith) in
          rw (ap (λ v. v.items) w.keys-is ∙ w.in_ok-push.ensures.items) (subst (λ (ends : List End). AreAdded old (c.loop-k.keys.items ++ w.key_of.result ∷ []) ends) (sym (row_added f k e is)) more)
      | else-not-is_mark w ↦
          let is : f k ≡ None = ap (symbol_end found.strings c.args.has_modes) same ∙ rw (sym c.is_mark.ensures ∙ w.if-not-is_mark.false) refl in
          rw (ap (λ v. v.items) w.keys-is) (subst (λ (ends : List End). AreAdded old c.loop-k.keys.items ends) (sym (row_passed f k is)) c.loop-k.invariant)
    ]
