use Rattle.std.proofs.Common.{◌≡◌, ◌/◌, ◌++◌, ◌∷◌, [], ℕ, List, length, map, ap, subst, sym, ◌∙◌, arith}
use Rattle.std.proofs.lemmas.List.{map-append}
use Rattle.std.specs.List.{filter_map, range_with_len}
use Rattle.std.specs.Option.{option_map}
use Rattle.binfarce_bytes.proofs.Rows.{match_ok}
use Rattle.binfarce_elf.specs.Classes.{class_of}
use Rattle.binfarce_elf.specs.Elf.{SymbolRow}
use Rattle.binfarce_elf.specs.ElfSymbols.{row_of}
use Rattle.binfarce_elf.specs.machine.RawElf.{symbol_view}
use Rattle.binfarce_elf_memory.specs.Versions.{version_of}
use Rattle.binfarce_elf_memory.proofs.Pushed.{row_added, row_passed}
use Rattle.binfarce_elf_memory.proofs.RowsLeft.{row_is}
use Rattle.binfarce_needs.specs.FileNeeds.{need_view}
use Rattle.binfarce_needs.specs.Needs.{Need, need_of}
use Rattle.binfarce_needs.proofs.needs.needs_in.Goals as goal
use Rattle.binfarce_needs.proofs.needs.needs_in.Goals.{in-None, in-Some+in_ok-push-in-Some}

pub loop-k-preserved : goal.loop-k-preserved
loop-k-preserved c = λ needed found.
    let class = class_of c.args.width in
    let rows = c.args.rows.now in
    let strings = c.args.strings.now in
    let row = symbol_view c.unwrap-row.result in
    let k = c.loop-k.k in
    let version = λ (k : ℕ). version_of c.args.byte_order c.args.versions.now k in
    let f = λ (k : ℕ). need_of strings needed k (row_of class c.args.byte_order rows k) (version k) in
    let at = match_ok c.row_at.result c.unwrap-row.result _ _ c.unwrap-row.ensures c.row_at.ensures in
    let same = row_is class c.args.byte_order rows k c.symbol_length-length.result row c.symbol_length-length.ensures.is at.1 in
    let is : f k ≡ option_map need_view c.need_of.result =
    ap (λ (r : SymbolRow ℕ). need_of strings needed k r (version k)) same
    ∙ ap (need_of strings needed k row) (sym c.version_at-version.ensures) ∙ sym (c.need_of.ensures needed found) in
    elim c.match-need_of.branch [
      | in-None w ↦
          rw (ap (λ v. v.items) w.needs-is) (c.loop-k.invariant needed found ∙ sym (row_passed f k (is ∙ ap (option_map need_view) w.in-None.is)))
      | in-Some+in_ok-push-in-Some w ↦
          rw (ap (λ v. v.items) w.needs-is ∙ w.in_ok-push-in-Some.ensures.items)
          (map-append need_view c.loop-k.needs.items (w.in-Some.need ∷ []) ∙ ap (λ (xs : List Need). xs ++ need_view w.in-Some.need ∷ []) (c.loop-k.invariant needed found)
          ∙ sym (row_added f k (need_view w.in-Some.need) (is ∙ ap (option_map need_view) w.in-Some.is)))
    ]

pub returns : goal.returns
returns c = λ needed found.
    let class = class_of c.args.width in
    let rows = c.args.rows.now in
    let f = λ (k : ℕ). need_of c.args.strings.now needed k (row_of class c.args.byte_order rows k) (version_of c.args.byte_order c.args.versions.now k) in
    let all : c.loop-k.k ≡ length rows / class.symbol_length = omega arith ∙ ap (λ (n : ℕ). length rows / n) c.symbol_length-length.ensures.is in
    subst (λ (n : ℕ). map need_view c.loop-k.needs.items ≡ filter_map f (range_with_len 0 n)) all (c.loop-k.invariant needed found)
