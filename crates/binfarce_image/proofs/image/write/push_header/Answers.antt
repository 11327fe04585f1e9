use Rattle.std.proofs.Common.{◌≡◌, ℕ, List, [], ◌∷◌, ◌++◌, length, take, replicate, OnOk, ap, subst, ◌∙◌, arith}
use Rattle.binfarce.specs.Elf.{ElfClass}
use Rattle.binfarce.specs.declared.ByteOrder.{ByteOrder}
use Rattle.binfarce_image.specs.Structure.{filled}
use Rattle.binfarce_image.specs.Image.{class_of, order_of, bodies_end, identification, header_numbers, header_bytes}
use Rattle.binfarce_image.specs.machine.Views.{all_fit, class_view}
use Rattle.binfarce_image.proofs.Lengths.{lengths, take_blank, header_fits}
use Rattle.binfarce_image.proofs.image.write.push_header.Goals as goal

pub push_structure-requires-clause-longest : goal.push_structure-requires-clause-longest
push_structure-requires-clause-longest c =
    let same : c.class-class.result.header_length ≡ (class_of c.args.layout).header_length = ap (λ (class : ElfClass). class.header_length) c.class-class.ensures in
    omega (arith, same, (lengths c.args.layout).header)

pub push_structure-requires-clause-fit : goal.push_structure-requires-clause-fit
push_structure-requires-clause-fit c = ap (λ (class : ElfClass). all_fit class.header_length (header_numbers class c.args.image.now)) c.class-class.ensures ∙ header_fits c.args.layout c.args.image.now

pub returns : goal.returns
unfolding header_bytes
returns c =
    let layout = c.args.layout in
    let image = c.args.image.now in
    let written : ByteOrder → ElfClass → List ℕ → ℕ → ℕ → ℕ → List ℕ = λ order class blank shoff shnum shstrndx.
    filled order (take class.header_length blank) ((class.header.elf_type, 1) ∷ (class.header.version, 1) ∷ (class.header.shoff, shoff) ∷ (class.header.ehsize, class.header_length) ∷ (class.header.shentsize, class.section_length) ∷ (class.header.shnum, shnum) ∷ (class.header.shstrndx, shstrndx) ∷ []) in
    let count : c.len.result ≡ length image.parts.items = c.len.ensures ∙ image.parts.ok.0 in
    let written_is : written c.order.result (class_view c.class-class.result) c.identified.result c.args.shoff c.len.result c.from.result
    ≡ written (order_of layout) (class_of layout) (identification layout ++ replicate 48 0) (bodies_end (class_of layout) (class_of layout).header_length image.parts.items) (length image.parts.items) image.names_at =
    λ i. written (c.order.ensures i) (c.class-class.ensures i) (c.identified.ensures i) (c.requires i) (count i) (c.from.ensures i) in
    let blank = ap (λ bytes. filled (order_of layout) bytes (header_numbers (class_of layout) image)) (take_blank layout) in
    subst (λ (bytes : List ℕ). OnOk c.push_structure.result (c.push_structure.new.file.items ≡ c.args.file.now.items ++ bytes)) (written_is ∙ blank) c.push_structure.ensures
