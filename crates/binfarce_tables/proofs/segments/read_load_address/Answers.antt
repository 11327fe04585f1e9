use Rattle.binfarce_tables.proofs.ElfSure.{of_load_header, of_programs}
use Rattle.binfarce_tables.proofs.Sure.{next, one, passed_only, unmeasured, within}
use Rattle.std.proofs.Common.{◌≡◌, ◌*◌, ℕ, Option, ap, ap₂, sym, ◌∙◌}
use Rattle.binfarce_bytes.specs.declared.ByteOrder.{ByteOrder}
use Rattle.binfarce_elf.specs.Classes.{class_of}
use Rattle.binfarce_elf.specs.Elf.{header_of}
use Rattle.binfarce_elf_memory.specs.ElfSegments.{file_load_address, load_address_at, program_length}
use Rattle.binfarce_elf_memory.specs.declared.segments.LoadAddress.{LoadAddress}
use Rattle.binfarce_tables.specs.ElfReads.{table_of}
use Rattle.binfarce_tables.specs.machine.Places.{table_at}
use Rattle.binfarce_tables.proofs.Readings.{as_long_as, instead, long_enough, passed}
use Rattle.binfarce_tables.proofs.segments.read_load_address.Goals as goal

pub returns-in_err-opened-clause-only : goal.returns-in_err-opened-clause-only
returns-in_err-opened-clause-only g c = λ file known. unmeasured _ (λ P. of_load_header P c.args.width c.args.byte_order file) c.in_err-opened.ensures.unsure

pub returns-in_err-place-clause-only : goal.returns-in_err-place-clause-only
returns-in_err-place-clause-only g c = λ file known. rw c.in_ok-opened.ensures.source at (passed_only _ (one (λ P. of_load_header P c.args.width c.args.byte_order file) (c.in_err-place.ensures.only file (c.in_ok-opened.ensures.known file known))) c.from_residual-in_err-place.ensures)

pub returns-clause-only : goal.returns-clause-only
returns-clause-only g c = λ file known.
    let is_known = c.in_ok-opened.ensures.known file known in
    let place = c.in_ok-place.place in
    let are = c.in_ok-place.ensures.programs file is_known in
    rw c.in_ok-opened.ensures.source at (next (one (λ P. of_load_header P c.args.width c.args.byte_order file) (c.in_ok-place.ensures.only file is_known))
    (within (λ P. of_programs P c.args.width c.args.byte_order file place.phoff place.phnum are.1 are.2) (c.read_segments.ensures.only file is_known)))

pub returns-in_err-place-clause-answer : goal.returns-in_err-place-clause-answer
unfolding file_load_address
returns-in_err-place-clause-answer g c = λ file known.
    let is_known = c.in_ok-opened.ensures.known file known in
    let fails = g.S.Source.may_fail c.in_ok-opened.opened.source.now in
    let class = class_of c.args.width in
    let order = c.args.byte_order in
    let header = header_of class order file in
    let e = c.in_err-place.field-0.0 in
    rw c.in_ok-opened.ensures.source at (passed fails (λ (loaded : Option LoadAddress). loaded) (file_load_address c.args.width order file) e c.from_residual-in_err-place.result c.from_residual-in_err-place.ensures
    (as_long_as fails (table_at file) (λ (loaded : Option LoadAddress). loaded) class.header_length file (table_of class order file) (load_address_at c.args.width order file header.phoff (header.phnum * program_length c.args.width)) e (c.in_err-place.ensures.table file is_known)))

pub returns-clause-answer : goal.returns-clause-answer
unfolding file_load_address
returns-clause-answer g c = λ file known.
    let is_known = c.in_ok-opened.ensures.known file known in
    let fails = g.S.Source.may_fail c.in_ok-opened.opened.source.now in
    let width = c.args.width in
    let class = class_of width in
    let order = c.args.byte_order in
    let header = header_of class order file in
    let place = c.in_ok-place.place in
    let are = c.in_ok-place.ensures.programs file is_known in
    let loaded = λ (o : ByteOrder) (phoff phnum : ℕ). load_address_at width o file phoff (phnum * program_length width) in
    let same : file_load_address width order file ≡ loaded place.byte_order place.phoff place.phnum =
    long_enough class.header_length file (table_of class order file) (table_at file place) (loaded order header.phoff header.phnum) (c.in_ok-place.ensures.table file is_known)
    ∙ ap (λ (o : ByteOrder). loaded o header.phoff header.phnum) (sym are.0)
    ∙ ap₂ (λ (phoff phnum : ℕ). loaded place.byte_order phoff phnum) (sym are.1) (sym are.2) in
    rw c.in_ok-opened.ensures.source at (instead fails (λ (loaded : Option LoadAddress). loaded) (file_load_address width order file) _ c.read_segments.result same (c.read_segments.ensures.answer file is_known))
