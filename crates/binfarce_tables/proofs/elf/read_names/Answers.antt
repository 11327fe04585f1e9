use Rattle.std.proofs.Common.{◌≡◌, ℕ, ◌+◌, ◌*◌, ap, ◌∙◌, Ok, subst, sym}
use Rattle.binfarce_bytes.specs.Part.{part, Part}
use Rattle.binfarce_elf.specs.ElfViews.{section_view}
use Rattle.binfarce_elf.specs.Classes.{class_of}
use Rattle.binfarce_tables.specs.machine.Places.{table_at}
use Rattle.binfarce_tables.proofs.Contents.{index_below, names_section_read, names_are}
use Rattle.binfarce_tables.proofs.ElfSure.{of_names_header, of_names}
use Rattle.binfarce_tables.proofs.HeadersAlone.{HasWithin, within_of}
use Rattle.binfarce_tables.proofs.Readings.{instead, taken}
use Rattle.binfarce_tables.proofs.Sure.{within, one, next, passed_only}
use Rattle.binfarce_tables.proofs.elf.read_names.Goals as goal

pub returns-in-Ok-clause-answer : goal.returns-in-Ok-clause-answer
returns-in-Ok-clause-answer g c = λ file known.
    let class = class_of c.args.width in
    let table = table_at file c.args.place in
    let section = section_view (λ n. n) c.in-Ok.section in
    let size : c.section_length-size.result ≡ class.section_length = c.section_length-size.ensures.is in
    let lt = index_below class table c.args.opened.now.len c.saturating_sub.result c.section_length-size.result known.1 c.saturating_sub.ensures size c.if-place-whole.false in
    let within : HasWithin class = within_of c.args.width in
    let is = names_section_read class table c.deref.result.now section c.section_length-size.result within size lt (λ there. c.deref.ensures.value ∙ taken (c.in_ok-header.ensures.part file known.0 there)) c.in-Ok.ensures.1 in
    instead _ _ _ _ _ (ap Ok (names_are class table section is)) (c.read_contents.ensures.answer file known)

pub returns-in_err-header-clause-only : goal.returns-in_err-header-clause-only
returns-in_err-header-clause-only g c = λ file known.
    let class = class_of c.args.width in
    let table = table_at file c.args.place in
    let size : c.section_length-size.result ≡ class.section_length = c.section_length-size.ensures.is in
    let lt = index_below class table c.args.opened.now.len c.saturating_sub.result c.section_length-size.result known.1 c.saturating_sub.ensures size c.if-place-whole.false in
    let at : ℕ → Part = λ n. part (c.args.place.shoff + c.args.place.shstrndx * n) n in
    passed_only _ (one (λ P all. subst (λ (n : ℕ). P (at n)) (sym size) (of_names_header P class table lt all)) c.in_err-header.ensures.only) c.from_residual.ensures

pub returns-in-Ok-clause-only : goal.returns-in-Ok-clause-only
returns-in-Ok-clause-only g c = λ file known.
    let class = class_of c.args.width in
    let table = table_at file c.args.place in
    let size : c.section_length-size.result ≡ class.section_length = c.section_length-size.ensures.is in
    let lt = index_below class table c.args.opened.now.len c.saturating_sub.result c.section_length-size.result known.1 c.saturating_sub.ensures size c.if-place-whole.false in
    let at : ℕ → Part = λ n. part (c.args.place.shoff + c.args.place.shstrndx * n) n in
    let section = section_view (λ n. n) c.in-Ok.section in
    let is = names_section_read class table c.deref.result.now section c.section_length-size.result (within_of c.args.width) size lt (λ there. c.deref.ensures.value ∙ taken (c.in_ok-header.ensures.part file known.0 there)) c.in-Ok.ensures.1 in
    next (one (λ P all. subst (λ (n : ℕ). P (at n)) (sym size) (of_names_header P class table lt all)) c.in_ok-header.ensures.only)
    (within (λ P all. of_names P class table section is all) (c.read_contents.ensures.only file known))
