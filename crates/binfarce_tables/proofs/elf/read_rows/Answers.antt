use Rattle.std.proofs.Common.{◌≡◌, ℕ, Vec, Global, List, Result, Ok, Err, ap, sym, ◌∙◌}
use Rattle.binfarce_bytes.specs.Refusal.{◌>>=◌, Refusal, refusal_of}
use Rattle.binfarce_elf.specs.ElfViews.{table_sections_view}
use Rattle.binfarce_elf.specs.SymbolTables.{rows_at}
use Rattle.binfarce_elf.specs.ElfSymbols.{section_data, whole_rows}
use Rattle.binfarce_elf.specs.Classes.{class_of}
use Rattle.binfarce_tables.specs.ElfReads.{section_parts}
use Rattle.binfarce_tables.specs.machine.Places.{rows_view}
use Rattle.binfarce_tables.proofs.Located.{after_strings, after_rows, from_sections, from_strings, from_rows, rows_read}
use Rattle.binfarce_tables.proofs.Readings.{after_err, instead, converted, passed}
use Rattle.binfarce_tables.proofs.Sure.{front, back, within, next, ending, passed_only, converted_surely}
use Rattle.binfarce_tables.proofs.elf.read_rows.Goals as goal

pub returns-in_err-strings-clause-answer : goal.returns-in_err-strings-clause-answer
returns-in_err-strings-clause-answer g c = λ file known.
    let class = class_of c.args.width in
    let fails = g.S.Source.may_fail c.args.opened.now.source.now in
    let n = table_sections_view c.args.sections in
    let e = c.in_err-strings.field-0.0 in
    passed fails rows_view _ e c.from_residual.result c.from_residual.ensures
    (instead fails rows_view (rows_at class file n) _ (Err e) (from_sections class file n)
    (after_err fails (λ (v : Vec ℕ Global). v.items) rows_view (section_data file n.strings) (after_strings class file n) e (c.in_err-strings.ensures.answer file known)))

pub returns-in_err-rows-clause-answer : goal.returns-in_err-rows-clause-answer
returns-in_err-rows-clause-answer g c = λ file known.
    let class = class_of c.args.width in
    let fails = g.S.Source.may_fail c.args.opened.now.source.now in
    let n = table_sections_view c.args.sections in
    let strings = c.in_ok-strings.strings.items in
    let e = c.in_err-rows.field-0.0 in
    passed fails rows_view _ e c.from_residual-in_err-rows.result c.from_residual-in_err-rows.ensures
    (instead fails rows_view (rows_at class file n) (after_strings class file n strings) (Err e) (from_strings class file n strings (c.in_ok-strings.ensures.answer file known))
    (after_err fails (λ (v : Vec ℕ Global). v.items) rows_view (section_data file n.symbols) (after_rows class strings) e (c.in_err-rows.ensures.answer file known)))

pub returns-in_err-whole_rows-clause-answer : goal.returns-in_err-whole_rows-clause-answer
returns-in_err-whole_rows-clause-answer g c = λ file known.
    let class = class_of c.args.width in
    let n = table_sections_view c.args.sections in
    let strings = c.in_ok-strings.strings.items in
    let p = c.in_err-whole_rows.field-0.0 in
    let truncated : whole_rows class c.in_ok-rows.rows.items ≡ Err (refusal_of p) = ap (whole_rows class) (sym c.deref.ensures.value) ∙ c.in_err-whole_rows.ensures in
    converted (g.S.Source.may_fail c.args.opened.now.source.now) rows_view _ p c.from_residual-in_err-whole_rows.result c.from_residual-in_err-whole_rows.ensures
    (from_rows class file n strings (c.in_ok-strings.ensures.answer file known) c.in_ok-rows.rows.items (c.in_ok-rows.ensures.answer file known)
    ∙ ap (λ (a : Result (List ℕ) Refusal). a >>= λ rows. Ok (record { strings = strings; rows = rows })) truncated)

pub returns-clause-answer : goal.returns-clause-answer
returns-clause-answer g c = λ file known.
    let class = class_of c.args.width in
    let n = table_sections_view c.args.sections in
    rows_read class file n c.in_ok-strings.strings.items (c.in_ok-strings.ensures.answer file known) c.in_ok-rows.rows.items (c.in_ok-rows.ensures.answer file known)
    c.in_ok-whole_rows.field-0.now (ap (whole_rows class) (sym c.deref.ensures.value) ∙ c.in_ok-whole_rows.ensures)

pub returns-in_err-strings-clause-only : goal.returns-in_err-strings-clause-only
returns-in_err-strings-clause-only g c = λ file known.
    let n = table_sections_view c.args.sections in
    passed_only _ (within (λ P. front P (section_parts file n.strings) (section_parts file n.symbols)) (c.in_err-strings.ensures.only file known)) c.from_residual.ensures

pub returns-in_err-rows-clause-only : goal.returns-in_err-rows-clause-only
returns-in_err-rows-clause-only g c = λ file known.
    let n = table_sections_view c.args.sections in
    let strings = section_parts file n.strings in
    let rows = section_parts file n.symbols in
    passed_only _ (next (within (λ P. front P strings rows) (c.in_ok-strings.ensures.only file known)) (within (λ P. back P strings rows) (c.in_err-rows.ensures.only file known))) c.from_residual-in_err-rows.ensures

pub returns-in_err-whole_rows-clause-only : goal.returns-in_err-whole_rows-clause-only
returns-in_err-whole_rows-clause-only g c = λ file known.
    let n = table_sections_view c.args.sections in
    let strings = section_parts file n.strings in
    let rows = section_parts file n.symbols in
    ending (next (within (λ P. front P strings rows) (c.in_ok-strings.ensures.only file known)) (within (λ P. back P strings rows) (c.in_ok-rows.ensures.only file known)))
    (converted_surely c.in_err-whole_rows.field-0.0 c.from_residual-in_err-whole_rows.result c.from_residual-in_err-whole_rows.ensures)

pub returns-clause-only : goal.returns-clause-only
returns-clause-only g c = λ file known.
    let n = table_sections_view c.args.sections in
    let strings = section_parts file n.strings in
    let rows = section_parts file n.symbols in
    next (within (λ P. front P strings rows) (c.in_ok-strings.ensures.only file known)) (within (λ P. back P strings rows) (c.in_ok-rows.ensures.only file known))
