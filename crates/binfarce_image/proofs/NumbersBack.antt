-- The bytes of a number read back to it.
use Rattle.std.proofs.Common.{◌≡◌, ℕ, zero, suc, ◌+◌, ◌*◌, ◌/◌, ◌%◌, ◌^◌, ◌<◌, ap, ◌∙◌, arith}
use Rattle.std.proofs.lemmas.List.{reverse-reverse}
use Rattle.std.proofs.lemmas.Nat.{div_below}
use Rattle.std.proofs.Math.Nat.{pow-suc}
use Rattle.binfarce.specs.declared.ByteOrder.{ByteOrder}
use Rattle.binfarce.specs.declared.ByteOrder.TheVariants.{LittleEndian, BigEndian}
use Rattle.binfarce.specs.Number.{little_endian, number}
use Rattle.binfarce_image.specs.Structure.{little_endian_bytes, number_bytes}

small_rest : (width n : ℕ) → n < 256 ^ suc width → n / 256 < 256 ^ width
small_rest width n small =
    let room : n < 256 ^ width * 256 = omega (arith, pow-suc 256 width) in
    div_below n 256 (256 ^ width) (omega arith) room

least_and_rest : (n m : ℕ) → m ≡ n / 256 → n % 256 + 256 * m ≡ n
least_and_rest n m e = omega arith

little_back : (width n : ℕ) → n < 256 ^ width → little_endian (little_endian_bytes width n) ≡ n
unfolding little_endian little_endian_bytes
little_back zero n small = omega arith
little_back (suc width) n small = least_and_rest n (little_endian (little_endian_bytes width (n / 256))) (little_back width (n / 256) (small_rest width n small))

-- the bytes of a number that they have room for hold it
pub number_back : (order : ByteOrder) (width n : ℕ) → n < 256 ^ width → number order (number_bytes order width n) ≡ n
unfolding number number_bytes
number_back LittleEndian width n small = little_back width n small
number_back BigEndian width n small = ap little_endian (reverse-reverse (little_endian_bytes width n)) ∙ little_back width n small
