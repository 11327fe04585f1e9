use Rattle.std.proofs.Common.{◌∙◌, Err, refl, sym, ap}
use Rattle.std.proofs.lemmas.Bool.{eq-eqb, ne_eqb}
use Rattle.binfarce_bytes.specs.Refusal.{section_is_missing}
use Rattle.binfarce_elf.specs.Elf.{walk}
use Rattle.binfarce_elf.specs.ElfViews.{section_view}
use Rattle.binfarce_elf.specs.machine.RawElf.{table_view}
use Rattle.binfarce_elf.proofs.Tables.{by_link}
use Rattle.binfarce_elf.proofs.symbols.table_sections.Goals as goal

pub returns-in_default-2 : goal.returns-in_default-2
returns-in_default-2 g c =
    let view = section_view g.C.Class.number_of in
    by_link view c.args.which (walk g.C.Class.table (table_view c.args.table)) _ c.in-Some.symbols _ _ c.section_type.ensures c.in_ok-symbols.ensures c.in-Some.is c.in_ok-strings.ensures
    ∙ rw c.in_default-2.is (ap (λ name. Err (section_is_missing name)) (sym c.strings_name.ensures))

pub returns-then-strings-ne-STRING_TABLE : goal.returns-then-strings-ne-STRING_TABLE
returns-then-strings-ne-STRING_TABLE g c =
    let view = section_view g.C.Class.number_of in
    by_link view c.args.which (walk g.C.Class.table (table_view c.args.table)) _ c.in-Some.symbols _ _ c.section_type.ensures c.in_ok-symbols.ensures c.in-Some.is c.in_ok-strings.ensures
    ∙ rw (c.in-Some-2.is, ne_eqb c.in-Some-2.strings.kind 3 c.if-strings-ne-STRING_TABLE.true) refl

pub returns : goal.returns
returns g c =
    let view = section_view g.C.Class.number_of in
    by_link view c.args.which (walk g.C.Class.table (table_view c.args.table)) _ c.in-Some.symbols _ _ c.section_type.ensures c.in_ok-symbols.ensures c.in-Some.is c.in_ok-strings.ensures
    ∙ rw (c.in-Some-2.is, eq-eqb c.in-Some-2.strings.kind 3 c.if-strings-ne-STRING_TABLE.false, c.widened.ensures, c.widened-2.ensures) refl
