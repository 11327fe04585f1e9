use Rattle.std.specs.Option.{option_map}
use Rattle.binfarce_elf.specs.Elf.{walk}
use Rattle.binfarce_elf_memory.specs.ElfParts.{headers_alone}
use Rattle.binfarce_elf.specs.Classes.{class_of}
use Rattle.binfarce_elf_memory.specs.SelectionViews.{kind_view}
use Rattle.binfarce_tables.specs.ElfReads.{names_parts, headers_parts}
use Rattle.binfarce_tables.specs.machine.Places.{table_at}
use Rattle.binfarce_tables.proofs.ElfSure.{of_file_header, of_table}
use Rattle.binfarce_tables.proofs.Readings.{taken}
use Rattle.binfarce_tables.proofs.SectionsRead.{sections_read}
use Rattle.binfarce_tables.proofs.Sure.{front, back, within, one, next, passed_only}
use Rattle.binfarce_tables.proofs.sections.sections_of.Goals as goal

pub returns-clause-answer : goal.returns-clause-answer
returns-clause-answer g c = λ file known.
    let class = class_of c.args.width in
    let place = c.in_ok-place.place in
    sections_read class c.args.byte_order file (table_at file place) (kind_view place.kind) (walk class (headers_alone place.byte_order c.in_ok-headers.headers.items place.shnum)) (option_map (λ v. v.items) c.in_ok-names.names) c.args.opened.now.len
    (c.in_ok-place.ensures.table file known) (c.in_ok-place.ensures.kind_is file known) (taken (c.in_ok-headers.ensures.answer file known)) (taken (c.in_ok-names.ensures.answer file known)) known.1

pub returns-in_err-place-clause-only : goal.returns-in_err-place-clause-only
returns-in_err-place-clause-only g c = λ file known. passed_only _ (one (λ P. of_file_header P (class_of c.args.width) c.args.byte_order file) (c.in_err-place.ensures.only file known)) c.from_residual.ensures

pub returns-in_err-names-clause-only : goal.returns-in_err-names-clause-only
returns-in_err-names-clause-only g c = λ file known.
    let class = class_of c.args.width in
    let table = table_at file c.in_ok-place.place in
    let step = c.in_ok-place.ensures.table file known in
    passed_only _ (next (one (λ P. of_file_header P class c.args.byte_order file) (c.in_ok-place.ensures.only file known))
    (within (λ P all. front P (names_parts class table) (headers_parts class table) (of_table P class c.args.byte_order file table step all)) (c.in_err-names.ensures.only file known))) c.from_residual-in_err-names.ensures

pub returns-in_err-headers-clause-only : goal.returns-in_err-headers-clause-only
returns-in_err-headers-clause-only g c = λ file known.
    let class = class_of c.args.width in
    let table = table_at file c.in_ok-place.place in
    let step = c.in_ok-place.ensures.table file known in
    let names = names_parts class table in
    let headers = headers_parts class table in
    passed_only _ (next (one (λ P. of_file_header P class c.args.byte_order file) (c.in_ok-place.ensures.only file known))
    (next (within (λ P all. front P names headers (of_table P class c.args.byte_order file table step all)) (c.in_ok-names.ensures.only file known))
    (within (λ P all. back P names headers (of_table P class c.args.byte_order file table step all)) (c.in_err-headers.ensures.only file known)))) c.from_residual-in_err-headers.ensures

pub returns-clause-only : goal.returns-clause-only
returns-clause-only g c = λ file known.
    let class = class_of c.args.width in
    let table = table_at file c.in_ok-place.place in
    let step = c.in_ok-place.ensures.table file known in
    let names = names_parts class table in
    let headers = headers_parts class table in
    next (one (λ P. of_file_header P class c.args.byte_order file) (c.in_ok-place.ensures.only file known))
    (next (within (λ P all. front P names headers (of_table P class c.args.byte_order file table step all)) (c.in_ok-names.ensures.only file known))
    (within (λ P all. back P names headers (of_table P class c.args.byte_order file table step all)) (c.in_ok-headers.ensures.only file known)))
