use Rattle.std.proofs.Common.{◌++◌, ◌*◌, ◌∙◌, List, ℕ, ap, ap₂, sym}
use Rattle.binfarce_bytes.proofs.Rows.{match_ok}
use Rattle.binfarce_elf.specs.Classes.{class_of}
use Rattle.binfarce_elf.specs.Elf.{walk}
use Rattle.binfarce_elf.specs.ElfViews.{section_view}
use Rattle.binfarce_elf.specs.machine.RawElf.{symbol_view, table_view}
use Rattle.binfarce_elf_memory.specs.Descriptors.{in_code}
use Rattle.binfarce_elf_memory.proofs.Placed.{as_placed, as_stored, row_long}
use Rattle.binfarce_elf_memory.proofs.descriptors.push_row.Goals as goal

pub push_in_code-requires-clause-whole : goal.push_in_code-requires-clause-whole
push_in_code-requires-clause-whole c =
    let own = match_ok c.slice_at.result c.unwrap-bytes.result _ _ c.unwrap-bytes.ensures c.slice_at.ensures in
    row_long c.args.rows.now (c.args.k * 24) c.unwrap-bytes.result.now own.0 own.1

pub returns-in_ok-push_in_code : goal.returns-in_ok-push_in_code
returns-in_ok-push_in_code c =
    let order = c.args.table.byte_order in
    let sections = walk (class_of c.args.width) (table_view c.args.table) in
    let section = section_view (λ n. n) c.args.section in
    let at = match_ok c.row_at.result c.unwrap-row.result _ _ c.unwrap-row.ensures c.row_at.ensures in
    let own = match_ok c.slice_at.result c.unwrap-bytes.result _ _ c.unwrap-bytes.ensures c.slice_at.ensures in
    c.in_ok-push_in_code.ensures
    ∙ ap (λ (xs : List ℕ). c.args.placed.now.items ++ xs)
    (ap₂ (in_code order sections) own.1 c.code_bytes-code.ensures.is
    ∙ as_placed order sections section c.args.descriptors.now c.args.rows.now c.args.k (symbol_view c.unwrap-row.result) at.1 (sym c.has_descriptor.ensures ∙ c.if-has_descriptor.true))

pub returns-in_ok-extend_from_slice : goal.returns-in_ok-extend_from_slice
returns-in_ok-extend_from_slice c =
    let order = c.args.table.byte_order in
    let sections = walk (class_of c.args.width) (table_view c.args.table) in
    let section = section_view (λ n. n) c.args.section in
    let at = match_ok c.row_at.result c.unwrap-row.result _ _ c.unwrap-row.ensures c.row_at.ensures in
    let own = match_ok c.slice_at.result c.unwrap-bytes.result _ _ c.unwrap-bytes.ensures c.slice_at.ensures in
    c.in_ok-extend_from_slice.ensures.items
    ∙ ap (λ (xs : List ℕ). c.args.placed.now.items ++ xs)
    (own.1 ∙ as_stored order sections section c.args.descriptors.now c.args.rows.now c.args.k (symbol_view c.unwrap-row.result) at.1 (sym c.has_descriptor.ensures ∙ c.if-has_descriptor.false))
