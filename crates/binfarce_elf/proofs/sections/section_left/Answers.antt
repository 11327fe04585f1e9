use Rattle.std.proofs.Common.{◌≡◌, ◌+◌, ◌-◌, ◌*◌, ◌<◌, ◌≤◌, length, Some, None, sym, ap, ◌∙◌, arith}
use Rattle.std.proofs.lemmas.Nat.{div_below}
use Rattle.binfarce_bytes.specs.Refusal.{unexpected_eof}
use Rattle.binfarce_bytes.specs.Walk.{ahead_of}
use Rattle.binfarce_elf.specs.Elf.{Section, section_of, section_at, whole_headers}
use Rattle.binfarce_elf.specs.ElfViews.{section_view}
use Rattle.binfarce_elf.specs.machine.RawElf.{table_view, section_count, walk_from}
use Rattle.binfarce_elf.proofs.Walks.{is_whole, is_truncated, done_is, truncated_is, outside_is}
use Rattle.binfarce_elf.proofs.SectionsLeft.{next_is, end_is}
use Rattle.binfarce_elf.proofs.sections.section_left.Goals as goal

pub returns-then-table : goal.returns-then-table
returns-then-table g c =
    let class = g.C.Class.table in
    let t = table_view c.args.table in
    let some : 0 < class.section_length = omega (arith, g.met.C.Class.some_section, g.met.C.Class.section_length) in
    let none : section_count class t ≤ c.args.index = omega (arith, div_below (length t.file - t.shoff) class.section_length 1 some (omega (arith, c.if-table.true))) in
    end_is class t c.args.index (Some unexpected_eof) none (outside_is class t c.if-table.true)

pub returns-then-index-table : goal.returns-then-index-table
returns-then-index-table g c =
    let class = g.C.Class.table in
    let t = table_view c.args.table in
    end_is class t c.args.index None (omega (arith, c.if-index-table.true)) (done_is class t (omega (arith, c.if-table.false)) (omega (arith, c.requires, c.if-index-table.true)))

pub returns-in-Err : goal.returns-in-Err
returns-in-Err g c =
    let class = g.C.Class.table in
    let t = table_view c.args.table in
    let some : 0 < class.section_length = omega (arith, g.met.C.Class.some_section, g.met.C.Class.section_length) in
    let start = c.args.table.shoff + c.args.index * c.SECTION_LENGTH.result in
    let at : start ≡ t.shoff + c.args.index * class.section_length = grind (arith, g.met.C.Class.section_length, c.SECTION_LENGTH.ensures) in
    let truncated : whole_headers class t ≤ c.args.index = is_truncated (length t.file) t.shoff start class.section_length c.args.index some at c.in-Err.ensures in
    end_is class t c.args.index (Some unexpected_eof) (omega (arith, truncated)) (truncated_is class t (omega (arith, truncated, c.if-index-table.false)))

pub returns-in-Ok : goal.returns-in-Ok
returns-in-Ok g c =
    let class = g.C.Class.table in
    let t = table_view c.args.table in
    let some : 0 < class.section_length = omega (arith, g.met.C.Class.some_section, g.met.C.Class.section_length) in
    let start = c.args.table.shoff + c.args.index * c.SECTION_LENGTH.result in
    let at : start ≡ t.shoff + c.args.index * class.section_length = grind (arith, g.met.C.Class.section_length, c.SECTION_LENGTH.ensures) in
    let whole : c.args.index < whole_headers class t = is_whole (length t.file) t.shoff start class.section_length c.args.index some at c.in-Ok.ensures.0 in
    let lt : c.args.index < section_count class t = omega (arith, whole, c.if-index-table.false) in
    let is : section_of class t c.args.index ≡ section_view g.C.Class.number_of c.in-Ok.section = ap (λ s. section_at class t.order t.file s c.args.index) (sym at) ∙ sym c.in-Ok.ensures.1 in
    (lt, next_is class t c.args.index lt ∙ ap (λ (s : Section). ahead_of s (walk_from class t (Some (c.args.index + 1)))) is)
