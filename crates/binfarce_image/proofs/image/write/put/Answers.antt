use Rattle.std.proofs.Common.{◌≡◌, ℕ, ◌+◌, ◌-◌, ◌≤◌, List, length, take, drop, refl, sym, ap, ◌∙◌, true, arith}
use Rattle.std.proofs.lemmas.Bool.Decides.{nat_tests}
use Rattle.std.proofs.lemmas.List.{drop-drop, take_all}
use Rattle.binfarce.specs.declared.ByteOrder.{ByteOrder}
use Rattle.binfarce.specs.declared.ByteOrder.TheVariants.{BigEndian}
use Rattle.binfarce.specs.Field.{Field}
use Rattle.binfarce_image.specs.Structure.{number_bytes, put}
use Rattle.binfarce_image.specs.machine.Views.{field_view, fits}
use Rattle.binfarce_image.proofs.Bytes.{le_bytes, be_bytes, length-number_bytes}
use borrow.Rule.Slice.PartMut.{put_mid}
use Rattle.binfarce_image.proofs.image.write.put.Goals as goal

-- a write of a number's bytes into the field
written : (order : ByteOrder) (bytes : List ℕ) (f : Field) (n : ℕ) (others : List ℕ) → others ≡ number_bytes order f.width n → put_mid f.offset (f.offset + f.width - f.offset) bytes others ≡ put order bytes (f, n)
unfolding put
written order bytes f n others e =
    let same : f.offset + f.width - f.offset ≡ length (number_bytes order f.width n) = omega (arith, length-number_bytes order f.width n) in
    rw (e, same, drop-drop) refl

wide : (length_of : ℕ) (f : Field) → fits length_of f ≡ true → f.width ≤ 8
wide length_of f h = grind (arith, nat_tests)

pub returns-in-LittleEndian : goal.returns-in-LittleEndian
returns-in-LittleEndian c =
    let f = field_view c.args.field in
    let n = c.args.number in
    written c.args.order c.args.structure.now f n _
    (c.copy_from_slice.ensures.after ∙ ap (take f.width) c.to_le_bytes.ensures ∙ le_bytes f.width n (wide _ f c.requires) ∙ ap (λ order. number_bytes order f.width n) (sym c.in-LittleEndian.is))

pub returns-in-BigEndian : goal.returns-in-BigEndian
returns-in-BigEndian c =
    let f = field_view c.args.field in
    let n = c.args.number in
    let last : drop (8 - f.width) c.to_be_bytes.result ≡ number_bytes BigEndian f.width n = ap (drop (8 - f.width)) c.to_be_bytes.ensures ∙ be_bytes f.width n (wide _ f c.requires) in
    let some : f.width ≤ 8 = wide _ f c.requires in
    let all : take (8 - (8 - f.width)) (number_bytes BigEndian f.width n) ≡ number_bytes BigEndian f.width n = take_all (8 - (8 - f.width)) (number_bytes BigEndian f.width n) (omega (arith, length-number_bytes BigEndian f.width n)) in
    written c.args.order c.args.structure.now f n _
    (c.copy_from_slice-in-BigEndian.ensures.after ∙ ap (take (8 - (8 - f.width))) last ∙ all ∙ ap (λ order. number_bytes order f.width n) (sym c.in-BigEndian.is))
