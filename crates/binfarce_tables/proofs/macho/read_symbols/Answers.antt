use Rattle.std.proofs.Common.{◌*◌, ap}
use Rattle.binfarce_bytes.specs.Part.{Part, whole_part}
use Rattle.std.specs.Option.{option_map}
use Rattle.binfarce_macho.specs.MachoParts.{table_view}
use Rattle.binfarce_tables.specs.MachoReads.{table_parts}
use Rattle.binfarce_tables.proofs.Sure.{front, back, of_some, within, next, passed_only}
use Rattle.binfarce_tables.proofs.macho.read_symbols.Goals as goal

pub returns-in_err-strings-clause-only : goal.returns-in_err-strings-clause-only
returns-in_err-strings-clause-only g c = λ file known.
    let table = table_view c.in-Some.table in
    let there = λ (P : Part → Type 0). of_some P (option_map table_view c.args.table) table (table_parts file) (ap (option_map table_view) c.in-Some.is) in
    let strings = whole_part file table.strings_offset table.strings_size in
    let rows = whole_part file table.symbol_offset (16 * table.row_count) in
    passed_only _ (within (λ P all. front P strings rows (there P all)) (c.in_err-strings.ensures.only file known)) c.from_residual.ensures

pub returns-in_err-rows-clause-only : goal.returns-in_err-rows-clause-only
returns-in_err-rows-clause-only g c = λ file known.
    let table = table_view c.in-Some.table in
    let there = λ (P : Part → Type 0). of_some P (option_map table_view c.args.table) table (table_parts file) (ap (option_map table_view) c.in-Some.is) in
    let strings = whole_part file table.strings_offset table.strings_size in
    let rows = whole_part file table.symbol_offset (16 * table.row_count) in
    passed_only _ (next (within (λ P all. front P strings rows (there P all)) (c.in_ok-strings.ensures.only file known)) (within (λ P all. back P strings rows (there P all)) (c.in_err-rows.ensures.only file known)))
    c.from_residual-in_err-rows.ensures

pub returns-clause-only : goal.returns-clause-only
returns-clause-only g c = λ file known.
    let table = table_view c.in-Some.table in
    let there = λ (P : Part → Type 0). of_some P (option_map table_view c.args.table) table (table_parts file) (ap (option_map table_view) c.in-Some.is) in
    let strings = whole_part file table.strings_offset table.strings_size in
    let rows = whole_part file table.symbol_offset (16 * table.row_count) in
    next (within (λ P all. front P strings rows (there P all)) (c.in_ok-strings.ensures.only file known)) (within (λ P all. back P strings rows (there P all)) (c.in_ok-rows.ensures.only file known))
