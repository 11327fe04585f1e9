use Rattle.std.proofs.Common.{◌+◌, ◌<◌, ◌≤◌, List, Vec, Global, ℕ, Ok, ap, sym, ◌∙◌, arith, length}
use Rattle.binfarce_bytes.specs.Number.{bytes_at}
use Rattle.binfarce_elf.specs.Elf.{walk}
use Rattle.binfarce_elf_memory.specs.ElfParts.{headers_alone}
use Rattle.binfarce_elf.specs.Classes.{class_of}
use Rattle.binfarce_tables.specs.machine.Places.{table_at}
use Rattle.binfarce_tables.proofs.Contents.{part_long}
use Rattle.binfarce_tables.proofs.ElfSure.{of_headers, of_no_header}
use Rattle.binfarce_tables.proofs.HeadersAlone.{HasWithin, within_of, some_of, headers_of, headers_read, headers_walk}
use Rattle.binfarce_tables.proofs.Located.{walk_outside, walk_of_none}
use Rattle.binfarce_tables.proofs.SectionsRead.{seen_as}
use Rattle.binfarce_tables.proofs.Sure.{one}
use Rattle.binfarce_tables.proofs.sections.read_table.Goals as goal

pub returns-then-place-opened-clause-answer : goal.returns-then-place-opened-clause-answer
returns-then-place-opened-clause-answer g c = λ file known.
    let class = class_of c.args.width in
    let none : length c.new.result.items ≤ 0 = omega (arith, ap length c.new.ensures.items) in
    ap Ok (walk_outside class (table_at file c.args.place) (omega (arith, known.1, c.if-place-opened.true)) ∙ sym (walk_outside class (headers_alone c.args.place.byte_order c.new.result.items c.args.place.shnum) none))

pub returns-then-place-eq0-clause-answer : goal.returns-then-place-eq0-clause-answer
returns-then-place-eq0-clause-answer g c = λ file known.
    let class = class_of c.args.width in
    let table = table_at file c.args.place in
    let inside : c.args.place.shoff < length file = omega (arith, known.1, c.if-place-opened.false) in
    let there : c.args.place.shoff + 1 ≤ length file = omega (arith, inside) in
    seen_as (g.S.Source.may_fail c.args.opened.now.source.now) (λ (v : Vec ℕ Global). v.items) (λ (v : Vec ℕ Global). walk class (headers_alone c.args.place.byte_order v.items c.args.place.shnum))
    (bytes_at file c.args.place.shoff 1) (walk class table) c.part.result
    (λ v is.
    let one : 0 < length v.items = omega (arith, ap length is, part_long file c.args.place.shoff 1 there) in
    walk_of_none class (headers_alone c.args.place.byte_order v.items c.args.place.shnum) one c.if-place-eq0.true ∙ sym (walk_of_none class table inside c.if-place-eq0.true))
    (c.part.ensures.part file known.0 there)

pub returns-clause-answer : goal.returns-clause-answer
returns-clause-answer g c = λ file known.
    let class = class_of c.args.width in
    let table = table_at file c.args.place in
    let within : HasWithin class = within_of c.args.width in
    let some : 0 < class.section_length = some_of c.args.width in
    let inside : c.args.place.shoff < length file = omega (arith, known.1, c.if-place-opened.false) in
    let any : 0 < c.args.place.shnum = omega (arith, c.if-place-eq0.false) in
    let size = headers_read (class_of c.args.width) (table_at file c.args.place) c.args.opened.now.len c.min-count.result c.section_length-size.result c.saturating_sub.result known.1 c.section_length-size.ensures.is c.saturating_sub.ensures c.min-count.ensures (omega (arith, c.if-place-opened.false)) in
    seen_as (g.S.Source.may_fail c.args.opened.now.source.now) (λ (v : Vec ℕ Global). v.items) (λ (v : Vec ℕ Global). walk class (headers_alone c.args.place.byte_order v.items c.args.place.shnum))
    (headers_of class table) (walk class table) c.part-2.result
    (λ v is. ap (λ (h : List ℕ). walk class (headers_alone c.args.place.byte_order h c.args.place.shnum)) is ∙ headers_walk class table within some inside any)
    (rw size.0 at (c.part-2.ensures.part file known.0 size.1))

pub returns-then-place-eq0-clause-only : goal.returns-then-place-eq0-clause-only
returns-then-place-eq0-clause-only g c = λ file known.
    one (λ P. of_no_header P (class_of c.args.width) (table_at file c.args.place) (omega (arith, known.1, c.if-place-opened.false)) c.if-place-eq0.true) c.part.ensures.only

pub returns-clause-only : goal.returns-clause-only
returns-clause-only g c = λ file known.
    let size = headers_read (class_of c.args.width) (table_at file c.args.place) c.args.opened.now.len c.min-count.result c.section_length-size.result c.saturating_sub.result known.1 c.section_length-size.ensures.is c.saturating_sub.ensures c.min-count.ensures (omega (arith, c.if-place-opened.false)) in
    one (λ P. of_headers P (class_of c.args.width) (table_at file c.args.place) (omega (arith, known.1, c.if-place-opened.false)) (omega (arith, c.if-place-eq0.false))) (rw size.0 at c.part-2.ensures.only)
