use Rattle.std.proofs.Common.{◌≡◌, List, ℕ, Ok, Err, refl, sym, ap, ◌∙◌}
use Rattle.binfarce_bytes.specs.Refusal.{refusal_of}
use Rattle.binfarce_elf.specs.Classes.{class_of}
use Rattle.binfarce_elf.specs.ElfSymbols.{whole_rows}
use Rattle.binfarce_tables.specs.Readings.{answered}
use Rattle.binfarce_tables.specs.declared.error.ReadError.TheVariants.{Refused}
use Rattle.binfarce_tables.proofs.ReadingSteps.{done, followed, stopped}
use Rattle.binfarce_needs.specs.NeedsReading.{reading_if, section_reading, tables_reading}
use Rattle.binfarce_needs.specs.machine.Views.{sections_view}
use Rattle.binfarce_needs.proofs.TableSteps.{rows_whole}
use Rattle.binfarce_needs.proofs.reading.read_tables.Goals as goal

pub returns-in_err-strings : goal.returns-in_err-strings
unfolding tables_reading
returns-in_err-strings g c = λ file known.
    let s = sections_view c.args.sections in
    stopped file (section_reading s.table.strings) _ c.from_residual.result (c.in_err-strings.ensures file known) c.from_residual.ensures

pub returns-in_err-rows : goal.returns-in_err-rows
unfolding tables_reading
returns-in_err-rows g c = λ file known.
    let s = sections_view c.args.sections in
    followed file (section_reading s.table.strings) _ c.in_ok-strings.strings (c.in_ok-strings.ensures file known)
    (stopped file (section_reading s.table.symbols) _ c.from_residual-in_err-rows.result (c.in_err-rows.ensures file known) c.from_residual-in_err-rows.ensures)

pub returns-in_err-whole_rows : goal.returns-in_err-whole_rows
unfolding tables_reading
returns-in_err-whole_rows g c = λ file known.
    let s = sections_view c.args.sections in
    let class = class_of c.args.width in
    let bytes = c.in_ok-rows.rows.items in
    let truncated : whole_rows class bytes ≡ Err (refusal_of c.in_err-whole_rows.field-0.0) = ap (whole_rows class) (sym c.deref.ensures.value) ∙ c.in_err-whole_rows.ensures in
    followed file (section_reading s.table.strings) _ c.in_ok-strings.strings (c.in_ok-strings.ensures file known)
    (followed file (section_reading s.table.symbols) _ c.in_ok-rows.rows (c.in_ok-rows.ensures file known)
    (stopped {view = λ (b : List ℕ). b} file (answered (whole_rows class bytes)) _ c.from_residual-in_err-whole_rows.result
    (done file (whole_rows class bytes) (Err (Refused c.in_err-whole_rows.field-0.0)) truncated) c.from_residual-in_err-whole_rows.ensures))

pub returns-in_err-versions : goal.returns-in_err-versions
unfolding tables_reading
returns-in_err-versions g c = λ file known.
    let s = sections_view c.args.sections in
    let class = class_of c.args.width in
    let bytes = c.in_ok-rows.rows.items in
    let whole : whole_rows class bytes ≡ Ok bytes = rows_whole class bytes c.in_ok-whole_rows.field-0.now (ap (whole_rows class) (sym c.deref.ensures.value) ∙ c.in_ok-whole_rows.ensures) in
    followed file (section_reading s.table.strings) _ c.in_ok-strings.strings (c.in_ok-strings.ensures file known)
    (followed file (section_reading s.table.symbols) _ c.in_ok-rows.rows (c.in_ok-rows.ensures file known)
    (followed {view = λ (b : List ℕ). b} file (answered (whole_rows class bytes)) _ bytes (done file (whole_rows class bytes) (Ok bytes) whole)
    (stopped file (reading_if s.versions) _ c.from_residual-in_err-versions.result (c.in_err-versions.ensures file known) c.from_residual-in_err-versions.ensures)))

pub returns-in_err-needed : goal.returns-in_err-needed
unfolding tables_reading
returns-in_err-needed g c = λ file known.
    let s = sections_view c.args.sections in
    let class = class_of c.args.width in
    let bytes = c.in_ok-rows.rows.items in
    let whole : whole_rows class bytes ≡ Ok bytes = rows_whole class bytes c.in_ok-whole_rows.field-0.now (ap (whole_rows class) (sym c.deref.ensures.value) ∙ c.in_ok-whole_rows.ensures) in
    followed file (section_reading s.table.strings) _ c.in_ok-strings.strings (c.in_ok-strings.ensures file known)
    (followed file (section_reading s.table.symbols) _ c.in_ok-rows.rows (c.in_ok-rows.ensures file known)
    (followed {view = λ (b : List ℕ). b} file (answered (whole_rows class bytes)) _ bytes (done file (whole_rows class bytes) (Ok bytes) whole)
    (followed file (reading_if s.versions) _ c.in_ok-versions.versions (c.in_ok-versions.ensures file known)
    (stopped file (reading_if s.needed) _ c.from_residual-in_err-needed.result (c.in_err-needed.ensures file known) c.from_residual-in_err-needed.ensures))))

pub returns : goal.returns
unfolding tables_reading
returns g c = λ file known.
    let s = sections_view c.args.sections in
    let class = class_of c.args.width in
    let bytes = c.in_ok-rows.rows.items in
    let whole : whole_rows class bytes ≡ Ok bytes = rows_whole class bytes c.in_ok-whole_rows.field-0.now (ap (whole_rows class) (sym c.deref.ensures.value) ∙ c.in_ok-whole_rows.ensures) in
    followed file (section_reading s.table.strings) _ c.in_ok-strings.strings (c.in_ok-strings.ensures file known)
    (followed file (section_reading s.table.symbols) _ c.in_ok-rows.rows (c.in_ok-rows.ensures file known)
    (followed {view = λ (b : List ℕ). b} file (answered (whole_rows class bytes)) _ bytes (done file (whole_rows class bytes) (Ok bytes) whole)
    (followed file (reading_if s.versions) _ c.in_ok-versions.versions (c.in_ok-versions.ensures file known)
    (followed file (reading_if s.needed) _ c.in_ok-needed.needed (c.in_ok-needed.ensures file known) (done file _ _ refl)))))
