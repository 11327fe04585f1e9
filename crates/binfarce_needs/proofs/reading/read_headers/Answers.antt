use Rattle.std.proofs.Common.{◌≡◌, ◌*◌, ℕ, List, codes, Ok, Err, refl, sym, ap, ap₂, ◌∙◌}
use Rattle.binfarce_bytes.specs.Refusal.{section_is_missing}
use Rattle.binfarce_elf.specs.Classes.{class_of}
use Rattle.binfarce_elf.specs.Elf.{walk}
use Rattle.binfarce_elf_memory.specs.ElfParts.{headers_alone}
use Rattle.binfarce_tables.specs.Readings.{answered, part_reading}
use Rattle.binfarce_tables.specs.declared.error.ReadError.TheVariants.{Refused}
use Rattle.binfarce_tables.proofs.ReadingSteps.{done, followed, part_done, same, stopped}
use Rattle.binfarce_needs.specs.Needs as needs
use Rattle.binfarce_needs.specs.Needs.{need_sections}
use Rattle.binfarce_needs.specs.NeedsReading.{tables_reading}
use Rattle.binfarce_needs.specs.machine.Views.{sections_view}
use Rattle.binfarce_needs.proofs.TableSteps.{headers_then, no_headers, some_headers}
use Rattle.binfarce_needs.proofs.reading.read_headers.Goals as goal

pub returns-then-place-eq0 : goal.returns-then-place-eq0
returns-then-place-eq0 g c = λ file known.
    same file (no_headers c.args.width c.args.place.byte_order c.args.place.shoff c.args.place.shnum c.if-place-eq0.true) (done file (Err (section_is_missing (codes ".symtab"))) _ refl)

pub returns-in_err-headers : goal.returns-in_err-headers
returns-in_err-headers g c = λ file known.
    let p = c.args.place in
    let size : c.from.result * c.section_length.result ≡ p.shnum * (class_of c.args.width).section_length = ap₂ (λ (a b : ℕ). a * b) c.from.ensures c.section_length.ensures.is in
    same file (some_headers c.args.width p.byte_order p.shoff p.shnum c.if-place-eq0.false)
    (stopped file (part_reading p.shoff (p.shnum * (class_of c.args.width).section_length)) _ c.from_residual.result
    (same file (ap (λ (n : ℕ). part_reading p.shoff n) size) (part_done file p.shoff (c.from.result * c.section_length.result) _ (c.in_err-headers.ensures.answer file known) (c.in_err-headers.ensures.only file known))) c.from_residual.ensures)

pub returns-in_err-sections : goal.returns-in_err-sections
returns-in_err-sections g c = λ file known.
    let p = c.args.place in
    let headers = c.in_ok-headers.headers in
    let size : c.from.result * c.section_length.result ≡ p.shnum * (class_of c.args.width).section_length = ap₂ (λ (a b : ℕ). a * b) c.from.ensures c.section_length.ensures.is in
    let answer = λ (b : List ℕ). need_sections (walk (class_of c.args.width) (headers_alone p.byte_order b p.shnum)) in
    same file (some_headers c.args.width p.byte_order p.shoff p.shnum c.if-place-eq0.false)
    (followed file (part_reading p.shoff (p.shnum * (class_of c.args.width).section_length)) (headers_then c.args.width p.byte_order p.shnum) headers
    (same file (ap (λ (n : ℕ). part_reading p.shoff n) size) (part_done file p.shoff (c.from.result * c.section_length.result) _ (c.in_ok-headers.ensures.answer file known) (c.in_ok-headers.ensures.only file known)))
    (stopped {view = λ (s : needs.NeedSections). s} file (answered (answer headers.items)) (tables_reading c.args.width) c.from_residual-in_err-sections.result
    (done file (answer headers.items) (Err (Refused c.in_err-sections.field-0.0)) (ap answer (sym c.deref.ensures.value) ∙ c.in_err-sections.ensures)) c.from_residual-in_err-sections.ensures))

pub returns : goal.returns
returns g c = λ file known.
    let p = c.args.place in
    let headers = c.in_ok-headers.headers in
    let size : c.from.result * c.section_length.result ≡ p.shnum * (class_of c.args.width).section_length = ap₂ (λ (a b : ℕ). a * b) c.from.ensures c.section_length.ensures.is in
    let answer = λ (b : List ℕ). need_sections (walk (class_of c.args.width) (headers_alone p.byte_order b p.shnum)) in
    same file (some_headers c.args.width p.byte_order p.shoff p.shnum c.if-place-eq0.false)
    (followed file (part_reading p.shoff (p.shnum * (class_of c.args.width).section_length)) (headers_then c.args.width p.byte_order p.shnum) headers
    (same file (ap (λ (n : ℕ). part_reading p.shoff n) size) (part_done file p.shoff (c.from.result * c.section_length.result) _ (c.in_ok-headers.ensures.answer file known) (c.in_ok-headers.ensures.only file known)))
    (followed {view = sections_view} file (answered (answer headers.items)) (tables_reading c.args.width) c.in_ok-sections.sections
    (done file (answer headers.items) (Ok c.in_ok-sections.sections) (ap answer (sym c.deref.ensures.value) ∙ c.in_ok-sections.ensures)) (c.read_tables.ensures file known)))
