use Rattle.std.proofs.Common.{◌≡◌, ℕ, ◌+◌, ◌-◌, ◌*◌, ◌^◌, ◌≤◌, ◌<◌, Bool, true, min, List, length, Option, None, Result, Ok, Err, IsErrAnd, is_some, sym, ap, subst, ◌∙◌, arith}
use Rattle.std.proofs.Math.Nat.{mul-le-mul}
use Rattle.std.specs.Global.{Vec}
use Rattle.binfarce.specs.Elf.{ElfClass}
use Rattle.binfarce_image.specs.declared.image.Image.{Image}
use Rattle.binfarce_image.specs.declared.image.ElfLayout.{ElfLayout}
use Rattle.binfarce_image.specs.declared.image.ImageError.{ImageError}
use Rattle.binfarce_image.specs.declared.image.ImageError.TheVariants.{OutOfMemory}
use Rattle.binfarce_image.specs.declared.image.Part.{Part}
use Rattle.binfarce.specs.Format.{format_of}
use Rattle.binfarce_image.specs.Image.{class_of, bodies_end}
use Rattle.binfarce_image.specs.ImageRefusal.{has_one_table, names_of, refusal_due, Refuses}
use Rattle.binfarce_image.specs.ImageSymbols.{ReadsBack}
use Rattle.binfarce_image.specs.machine.Views.{class_view}
use Rattle.binfarce_image.proofs.Lengths.{lengths}
use Rattle.binfarce_image.proofs.Refusing.{many_due, table_due, names_due, large_due, none_due, computes, long, short, ends}
use Rattle.binfarce_image.proofs.ReadsBack.{reads_back}
use Rattle.binfarce_image.proofs.Formats.{format_back}
use Rattle.binfarce_image.proofs.image.lay_out.Goals as goal

-- nothing but `OutOfMemory` is due where every test was passed
none : (image : Image) (layout : ElfLayout) (seen : ElfClass) (parts : List Part) (end whole : ℕ) (table names : Bool)
    → seen ≡ class_of layout → parts ≡ image.parts.items
    → end ≡ min (bodies_end seen seen.header_length parts) (2 ^ 64 - 1) → whole ≡ min (end + seen.section_length * length parts) (2 ^ 64 - 1)
    → length parts ≤ 65535 → table ≡ has_one_table parts → table ≡ true → names ≡ is_some (names_of image) → names ≡ true → whole < 2 ^ 32
    → refusal_due image layout ≡ None
none image layout seen parts end whole table names class items e w few t one n some small =
    none_due image layout (subst (λ (ps : List Part). length ps ≤ 65535) items few) (sym (ap has_one_table items) ∙ sym t ∙ one) (sym n ∙ some)
    (short image layout end whole (computes image layout seen parts end whole class items e w) small)

memory : (due : Option ImageError) (r : Result (Vec ℕ) ImageError) → IsErrAnd r (λ e. e ≡ OutOfMemory) → due ≡ None → Refuses due r
memory due (Ok file) h n = n
memory due (Err e) h n = subst (λ (e : ImageError). Refuses due (Err e)) (sym h) n

pub returns-then-parts-gt-MAX_SECTIONS-clause-refused : goal.returns-then-parts-gt-MAX_SECTIONS-clause-refused
returns-then-parts-gt-MAX_SECTIONS-clause-refused c =
    many_due c.args.image.now c.args.layout (subst (λ (parts : List Part). 65535 < length parts) c.as_slice-parts.ensures.value c.if-parts-gt-MAX_SECTIONS.true)

pub returns-then-not-has_one_table-clause-refused : goal.returns-then-not-has_one_table-clause-refused
returns-then-not-has_one_table-clause-refused c =
    let few = subst (λ (parts : List Part). length parts ≤ 65535) c.as_slice-parts.ensures.value c.if-parts-gt-MAX_SECTIONS.false in
    let table = sym (ap has_one_table c.as_slice-parts.ensures.value) ∙ sym c.has_one_table.ensures ∙ c.if-not-has_one_table.true in
    table_due c.args.image.now c.args.layout few table

pub returns-then-not-has_names-clause-refused : goal.returns-then-not-has_names-clause-refused
returns-then-not-has_names-clause-refused c =
    let few = subst (λ (parts : List Part). length parts ≤ 65535) c.as_slice-parts.ensures.value c.if-parts-gt-MAX_SECTIONS.false in
    let table = sym (ap has_one_table c.as_slice-parts.ensures.value) ∙ sym c.has_one_table.ensures ∙ c.if-not-has_one_table.false in
    names_due c.args.image.now c.args.layout few table (sym c.has_names.ensures ∙ c.if-not-has_names.true)

pub overflow_mul-class : goal.overflow_mul-class
overflow_mul-class c =
    let short : c.class-class.result.section_length ≤ 64 = omega (arith, ap (λ (class : ElfClass). class.section_length) c.class-class.ensures, (lengths c.args.layout).section) in
    let product : c.class-class.result.section_length * length c.as_slice-parts.result.now ≤ 64 * 65535 = mul-le-mul short c.if-parts-gt-MAX_SECTIONS.false in
    record { fits = omega (arith, product) }

pub returns-then-length-ge-TOO_LARGE-clause-refused : goal.returns-then-length-ge-TOO_LARGE-clause-refused
returns-then-length-ge-TOO_LARGE-clause-refused c =
    let image = c.args.image.now in
    let layout = c.args.layout in
    let few = subst (λ (parts : List Part). length parts ≤ 65535) c.as_slice-parts.ensures.value c.if-parts-gt-MAX_SECTIONS.false in
    let table = sym (ap has_one_table c.as_slice-parts.ensures.value) ∙ sym c.has_one_table.ensures ∙ c.if-not-has_one_table.false in
    let written_is = computes image layout (class_view c.class-class.result) c.as_slice-parts.result.now c.bodies_end-shoff.result c.saturating_add-length.result c.class-class.ensures c.as_slice-parts.ensures.value c.bodies_end-shoff.ensures c.saturating_add-length.ensures in
    large_due image layout few table (sym c.has_names.ensures ∙ c.if-not-has_names.false) (long image layout c.bodies_end-shoff.result c.saturating_add-length.result written_is c.if-length-ge-TOO_LARGE.true)

pub file-requires : goal.file-requires
file-requires c =
    let image = c.args.image.now in
    let layout = c.args.layout in
    let written_is = computes image layout (class_view c.class-class.result) c.as_slice-parts.result.now c.bodies_end-shoff.result c.saturating_add-length.result c.class-class.ensures c.as_slice-parts.ensures.value c.bodies_end-shoff.ensures c.saturating_add-length.ensures in
    let end = ends image layout c.bodies_end-shoff.result c.saturating_add-length.result written_is c.if-length-ge-TOO_LARGE.false in
    record { end = end.0; small = end.1 }

pub returns-in_err-file-clause-refused : goal.returns-in_err-file-clause-refused
returns-in_err-file-clause-refused c =
    let image = c.args.image.now in
    let layout = c.args.layout in
    memory (refusal_due image layout) c.from_residual.result c.from_residual.ensures.1
    (none image layout (class_view c.class-class.result) c.as_slice-parts.result.now c.bodies_end-shoff.result c.saturating_add-length.result c.has_one_table.result c.has_names.result
    c.class-class.ensures c.as_slice-parts.ensures.value c.bodies_end-shoff.ensures c.saturating_add-length.ensures c.if-parts-gt-MAX_SECTIONS.false c.has_one_table.ensures c.if-not-has_one_table.false c.has_names.ensures c.if-not-has_names.false c.if-length-ge-TOO_LARGE.false)

pub returns-clause-refused : goal.returns-clause-refused
returns-clause-refused c =
    let image = c.args.image.now in
    let layout = c.args.layout in
    none image layout (class_view c.class-class.result) c.as_slice-parts.result.now c.bodies_end-shoff.result c.saturating_add-length.result c.has_one_table.result c.has_names.result
    c.class-class.ensures c.as_slice-parts.ensures.value c.bodies_end-shoff.ensures c.saturating_add-length.ensures c.if-parts-gt-MAX_SECTIONS.false c.has_one_table.ensures c.if-not-has_one_table.false c.has_names.ensures c.if-not-has_names.false c.if-length-ge-TOO_LARGE.false

pub returns-clause-law : goal.returns-clause-law
returns-clause-law c =
    let image = c.args.image.now in
    let layout = c.args.layout in
    let due = none image layout (class_view c.class-class.result) c.as_slice-parts.result.now c.bodies_end-shoff.result c.saturating_add-length.result c.has_one_table.result c.has_names.result
    c.class-class.ensures c.as_slice-parts.ensures.value c.bodies_end-shoff.ensures c.saturating_add-length.ensures c.if-parts-gt-MAX_SECTIONS.false c.has_one_table.ensures c.if-not-has_one_table.false c.has_names.ensures c.if-not-has_names.false c.if-length-ge-TOO_LARGE.false in
    subst (λ (file : List ℕ). ReadsBack layout image file) (sym c.in_ok-file.ensures.file) (reads_back image layout c.in_ok-file.ensures.fits due)

pub returns-clause-format : goal.returns-clause-format
returns-clause-format c = ap format_of c.in_ok-file.ensures.file ∙ format_back c.args.image.now c.args.layout
