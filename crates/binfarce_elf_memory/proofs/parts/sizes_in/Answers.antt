use Rattle.std.proofs.Common.{ℕ, Vec, Global, ap, sym, subst, ◌∙◌}
use Rattle.binfarce_elf.specs.Classes.{class_of}
use Rattle.binfarce_elf.specs.Elf.{walk}
use Rattle.binfarce_elf_memory.specs.ElfParts.{headers_alone}
use Rattle.binfarce_elf.specs.SymbolTables.{TableRows}
use Rattle.binfarce_elf_memory.specs.ElfEnds.{ends_of}
use Rattle.binfarce_elf_memory.specs.SelectionViews.{kind_view, taken_view}
use Rattle.binfarce_elf_memory.specs.machine.RawSelection.{AreKeysOf}
use Rattle.binfarce_elf.specs.machine.RawElf.{table_view}
use Rattle.binfarce_elf.specs.declared.class.Width.{Width}
use Rattle.binfarce_elf.specs.declared.class.Width.TheVariants.{Bits32, Bits64}
use Rattle.binfarce_elf_memory.proofs.Sized.{keys_by, sizes_all}
use Rattle.binfarce_elf_memory.proofs.parts.sizes_in.Goals as goal
use Rattle.binfarce_elf_memory.proofs.parts.sizes_in.Goals.{in-Bits32+in_ok-keys-in-Bits32, in-Bits64+in_ok-keys-in-Bits64}

pub returns : goal.returns
returns c = λ versions.
    let class = class_of c.args.width in
    let order = c.args.place.byte_order in
    let kind = kind_view c.args.place.kind in
    let found : TableRows = record { strings = c.args.strings.now; rows = c.args.rows.now } in
    let alone = headers_alone order c.args.headers.now c.args.place.shnum in
    let t = table_view c.headers_alone-table.result in
    let ends = ends_of class order (walk class alone) kind found in
    let keys : AreKeysOf ends c.deref.result.now = elim c.match-width.branch [
      | in-Bits32+in_ok-keys-in-Bits32 w ↦
          let are = keys_by (class_of Bits32) kind found w.in_ok-keys-in-Bits32.keys.items t alone c.headers_alone-table.ensures w.in_ok-keys-in-Bits32.ensures in
          let there = subst (λ (width : Width). AreKeysOf (ends_of (class_of width) order (walk (class_of width) alone) kind found) w.in_ok-keys-in-Bits32.keys.items) (sym w.in-Bits32.is) are in
          subst (AreKeysOf ends) (sym (c.deref.ensures.value ∙ ap (λ (v : Vec ℕ Global). v.items) w.keys-is)) there
      | in-Bits64+in_ok-keys-in-Bits64 w ↦
          let are = keys_by (class_of Bits64) kind found w.in_ok-keys-in-Bits64.keys.items t alone c.headers_alone-table.ensures w.in_ok-keys-in-Bits64.ensures in
          let there = subst (λ (width : Width). AreKeysOf (ends_of (class_of width) order (walk (class_of width) alone) kind found) w.in_ok-keys-in-Bits64.keys.items) (sym w.in-Bits64.is) are in
          subst (AreKeysOf ends) (sym (c.deref.ensures.value ∙ ap (λ (v : Vec ℕ Global). v.items) w.keys-is)) there
    ] in
    sizes_all class order (walk class alone) kind (taken_view c.args.taken) found versions (λ (v : Vec ℕ Global). v.items) c.sizes_of.result c.has_modes.result c.has_modes.ensures (c.sizes_of.ensures ends keys)
