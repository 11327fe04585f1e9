use Rattle.std.proofs.Common.{◌≡◌, ◌+◌, ◌-◌, ℕ, arith, length, ap, ap₂, sym, ◌∙◌}
use Rattle.std.specs.BTreeMap.{get}
use Rattle.std.specs.Ordering.{nat_cmp}
use Rattle.std.specs.Option.{option_map, option_or}
use Rattle.std.proofs.lemmas.Bool.{ne_eqb}
use Rattle.binfarce_elf_memory.specs.Versions.{definitions, definitions_from, name_offset}
use Rattle.binfarce_elf_memory.specs.machine.RawSelection.{definition_view}
use Rattle.binfarce_elf_memory.proofs.Defined.{no_more, last, further, none_left}
use Rattle.binfarce_elf_memory.proofs.versions.name_offsets.Goals as goal

pub returns-in_default : goal.returns-in_default
returns-in_default c = λ index small.
    let bytes = c.args.section.now in
    no_more c.args.byte_order bytes (length bytes - c.loop-passed._passed) c.loop-passed.start index (get nat_cmp c.loop-passed.offsets index) (name_offset (definitions c.args.byte_order bytes) index)
    (omega (arith, c.loop-passed-test.true)) (c.loop-passed.invariant index small) (sym c.definition_at.ensures.is ∙ ap (option_map definition_view) c.in_default.is)

pub returns-then-definition-eq0 : goal.returns-then-definition-eq0
returns-then-definition-eq0 c = λ index small.
    let bytes = c.args.section.now in
    last c.args.byte_order bytes (length bytes - c.loop-passed._passed) c.loop-passed.start index (get nat_cmp c.loop-passed.offsets index) (name_offset (definitions c.args.byte_order bytes) index)
    (omega (arith, c.loop-passed-test.true)) (c.loop-passed.invariant index small) (definition_view c.in-Some.definition) (get nat_cmp c.define.new.offsets index)
    (sym c.definition_at.ensures.is ∙ ap (option_map definition_view) c.in-Some.is) (c.in_ok-define.ensures index small) c.if-definition-eq0.true

pub loop-passed-preserved : goal.loop-passed-preserved
loop-passed-preserved c = λ index small.
    let bytes = c.args.section.now in
    let all = name_offset (definitions c.args.byte_order bytes) index in
    let left = length bytes - c.loop-passed._passed in
    let fewer : left - 1 ≡ length bytes - (c.loop-passed._passed + 1) = omega arith in
    ap₂ (λ (n next : ℕ). option_or (get nat_cmp c.define.new.offsets index) (name_offset (definitions_from c.args.byte_order bytes n (c.loop-passed.start + next)) index)) (sym fewer) c.from-start.ensures
    ∙ further c.args.byte_order bytes left c.loop-passed.start index (get nat_cmp c.loop-passed.offsets index) all
    (omega (arith, c.loop-passed-test.true)) (c.loop-passed.invariant index small) (definition_view c.in-Some.definition) (get nat_cmp c.define.new.offsets index)
    (sym c.definition_at.ensures.is ∙ ap (option_map definition_view) c.in-Some.is) (c.in_ok-define.ensures index small) (ne_eqb c.in-Some.definition.next 0 c.if-definition-eq0.false)

pub returns : goal.returns
returns c = λ index small.
    let bytes = c.args.section.now in
    none_left c.args.byte_order bytes (length bytes - c.loop-passed._passed) c.loop-passed.start index (get nat_cmp c.loop-passed.offsets index) (name_offset (definitions c.args.byte_order bytes) index)
    (omega (arith, c.loop-passed-test.false)) (c.loop-passed.invariant index small)
