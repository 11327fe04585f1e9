use Rattle.std.proofs.Common.{◌≡◌, ℕ, ◌*◌, ◌<◌, ap, ◌∙◌, arith}
use Rattle.std.specs.Option.{option_map}
use Rattle.binfarce_elf.specs.Classes.{class_of}
use Rattle.binfarce_elf.specs.Elf as elf
use Rattle.binfarce_elf_memory.proofs.Numbered.{none_past, none_truncated, name_is}
use Rattle.binfarce_elf_memory.proofs.parts.name_of_index.Goals as goal

pub returns-then-index-from : goal.returns-then-index-from
returns-then-index-from c = none_past (class_of c.args.width) c.args.byte_order c.args.headers.now (option_map (λ b. b.now) c.args.names) c.args.count c.args.index (omega (arith, c.if-index-from.true, c.from.ensures))

pub returns-in-Ok : goal.returns-in-Ok
returns-in-Ok c =
    let class = class_of c.args.width in
    let is : c.section_length.result ≡ class.section_length = c.section_length.ensures.is in
    let some : 0 < class.section_length = omega (arith, is, c.section_length.ensures.some.0) in
    c.name_in.ensures ∙ name_is class c.args.byte_order c.args.headers.now (option_map (λ b. b.now) c.args.names) c.args.count c.args.index (c.args.index * c.section_length.result) _ c.in-Ok.section.name_offset some (omega (arith, c.if-index-from.false, c.from.ensures)) (ap (λ (n : ℕ). c.args.index * n) is) c.in-Ok.ensures.0
    (ap (λ (s : elf.Section). s.name_offset) c.in-Ok.ensures.1)

pub returns-in-Err : goal.returns-in-Err
returns-in-Err c =
    let class = class_of c.args.width in
    let is : c.section_length.result ≡ class.section_length = c.section_length.ensures.is in
    let some : 0 < class.section_length = omega (arith, is, c.section_length.ensures.some.0) in
    none_truncated class c.args.byte_order c.args.headers.now (option_map (λ b. b.now) c.args.names) c.args.count c.args.index (c.args.index * c.section_length.result) some (ap (λ (n : ℕ). c.args.index * n) is) c.in-Err.ensures
