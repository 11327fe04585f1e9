use Rattle.std.proofs.Common.{◌≡◌, ℕ, ◌-◌, ◌^◌, List, [], ◌∷◌, ◌++◌, min, take, replicate, OnOk, ap, subst, ◌∙◌, arith}
use Rattle.binfarce.specs.Elf.{ElfClass}
use Rattle.binfarce.specs.declared.ByteOrder.{ByteOrder}
use Rattle.binfarce_image.specs.Structure.{filled}
use Rattle.binfarce_image.specs.Image.{class_of, order_of, name_offset, part_kind, part_link, body_length, entry_length, section_numbers, section_bytes}
use Rattle.binfarce_image.specs.machine.Views.{all_fit, class_view}
use Rattle.binfarce_image.proofs.Lengths.{lengths, take_zeros, section_fits}
use Rattle.binfarce_image.proofs.image.write.push_section_header.Goals as goal

pub push_structure-requires-clause-longest : goal.push_structure-requires-clause-longest
push_structure-requires-clause-longest c =
    let same : c.class-class.result.section_length ≡ (class_of c.args.layout).section_length = ap (λ (class : ElfClass). class.section_length) c.class-class.ensures in
    omega (arith, same, (lengths c.args.layout).section)

pub push_structure-requires-clause-fit : goal.push_structure-requires-clause-fit
push_structure-requires-clause-fit c = ap (λ (class : ElfClass). all_fit class.section_length (section_numbers class c.args.place c.args.part.now)) c.class-class.ensures ∙ section_fits c.args.layout c.args.place c.args.part.now

pub returns-clause-header : goal.returns-clause-header
unfolding section_bytes
returns-clause-header c =
    let layout = c.args.layout in
    let part = c.args.part.now in
    let place = c.args.place in
    let written : ByteOrder → ElfClass → ℕ → ℕ → ℕ → ℕ → ℕ → List ℕ = λ order class name kind size link entry.
    filled order (take class.section_length (replicate 64 0)) ((class.section.name, name) ∷ (class.section.kind, kind) ∷ (class.section.flags, 0) ∷ (class.section.addr, 0) ∷ (class.section.offset, place) ∷ (class.section.size, size) ∷ (class.section.link, link) ∷ (class.section.addralign, 1) ∷ (class.section.entry_size, entry) ∷ []) in
    let name : c.from.result ≡ name_offset part = c.from.ensures ∙ c.name.ensures in
    let kind : c.from-2.result ≡ part_kind part = c.from-2.ensures ∙ c.kind.ensures in
    let link : c.from-3.result ≡ part_link part = c.from-3.ensures ∙ c.link.ensures in
    let fits : min (body_length (class_of layout) part) (2 ^ 64 - 1) ≡ body_length (class_of layout) part = omega (arith, c.requires) in
    let size : c.body_length.result ≡ body_length (class_of layout) part = c.body_length.ensures ∙ ap (λ class. min (body_length class part) (2 ^ 64 - 1)) c.class-class.ensures ∙ fits in
    let entry : c.entry_length.result ≡ entry_length (class_of layout) part = c.entry_length.ensures ∙ ap (λ class. entry_length class part) c.class-class.ensures in
    let written_is : written c.order.result (class_view c.class-class.result) c.from.result c.from-2.result c.body_length.result c.from-3.result c.entry_length.result
    ≡ written (order_of layout) (class_of layout) (name_offset part) (part_kind part) (body_length (class_of layout) part) (part_link part) (entry_length (class_of layout) part) =
    λ i. written (c.order.ensures i) (c.class-class.ensures i) (name i) (kind i) (size i) (link i) (entry i) in
    let zeros = ap (λ blank. filled (order_of layout) blank (section_numbers (class_of layout) place part)) (take_zeros (class_of layout).section_length 64 (lengths layout).section) in
    subst (λ (bytes : List ℕ). OnOk c.push_structure.result (c.push_structure.new.file.items ≡ c.args.file.now.items ++ bytes)) (written_is ∙ zeros) c.push_structure.ensures
