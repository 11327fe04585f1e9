-- The bytes of a number, as the code's conversions give them.
use Rattle.std.proofs.Common.{◌≡◌, ℕ, zero, suc, ◌+◌, ◌-◌, ◌/◌, ◌%◌, ◌^◌, ◌≤◌, [], ◌∷◌, ◌++◌, length, take, drop, reverse, refl, sym, ap, ◌∙◌, arith}
use Rattle.std.proofs.lemmas.List.{length-reverse, reverse-append}
use Rattle.std.proofs.Math.Nat.{div-div-eq-div-mul, pow-suc, div-one}
use Rattle.std.specs.Int.{w64, to_le_bytes, to_be_bytes, bytes_low_first, bytes_high_first, byte_at}
use Rattle.binfarce.specs.declared.ByteOrder.{ByteOrder}
use Rattle.binfarce.specs.declared.ByteOrder.TheVariants.{LittleEndian, BigEndian}
use Rattle.binfarce_image.specs.Structure.{little_endian_bytes, number_bytes}

pub length-little_endian_bytes : (width n : ℕ) → length (little_endian_bytes width n) ≡ width
unfolding little_endian_bytes
length-little_endian_bytes zero n = refl
length-little_endian_bytes (suc width) n = omega (arith, length-little_endian_bytes width (n / 256))

pub length-number_bytes : (order : ByteOrder) (width n : ℕ) → length (number_bytes order width n) ≡ width
unfolding number_bytes
length-number_bytes LittleEndian width n = length-little_endian_bytes width n
length-number_bytes BigEndian width n = length-reverse (little_endian_bytes width n) ∙ length-little_endian_bytes width n

byte_at_is : (i n : ℕ) → byte_at i n ≡ n / 256 ^ i % 256
byte_at_is zero n = ap (λ m. m % 256) (sym (div-one n))
byte_at_is (suc i) n = refl

-- the standard library's bytes, from byte i upward
low_first : (i k n : ℕ) → bytes_low_first i k n ≡ little_endian_bytes k (n / 256 ^ i)
unfolding little_endian_bytes
low_first i zero n = refl
low_first i (suc k) n =
    let further : n / 256 ^ i / 256 ≡ n / 256 ^ suc i = div-div-eq-div-mul n (256 ^ i) 256 ∙ ap (λ m. n / m) (sym (pow-suc 256 i)) in
    rw (byte_at_is i n, low_first (suc i) k n, further) refl

-- the bytes of less width are the first of them
take_low : (width k n : ℕ) → width ≤ k → take width (little_endian_bytes k n) ≡ little_endian_bytes width n
unfolding little_endian_bytes
take_low zero k n h = refl
take_low (suc width) zero n h = absurd (omega arith)
take_low (suc width) (suc k) n h = ap (λ bytes. (n % 256) ∷ bytes) (take_low width k (n / 256) (omega arith))

snoc : (i k n : ℕ) → bytes_low_first i (suc k) n ≡ bytes_low_first i k n ++ byte_at (i + k) n ∷ []
snoc i zero n = ap (λ j. byte_at j n ∷ []) (omega arith)
snoc i (suc k) n =
    let place : suc i + k ≡ i + suc k = omega arith in
    ap (λ bytes. byte_at i n ∷ bytes) (snoc (suc i) k n ∙ ap (λ j. bytes_low_first (suc i) k n ++ byte_at j n ∷ []) place)

high_first : (k n : ℕ) → bytes_high_first k n ≡ reverse (bytes_low_first 0 k n)
high_first zero n = refl
high_first (suc k) n =
    let place : 0 + k ≡ k = omega arith in
    let last : bytes_low_first 0 (suc k) n ≡ bytes_low_first 0 k n ++ byte_at k n ∷ [] = snoc 0 k n ∙ ap (λ j. bytes_low_first 0 k n ++ byte_at j n ∷ []) place in
    ap (λ bytes. byte_at k n ∷ bytes) (high_first k n) ∙ sym (ap reverse last ∙ reverse-append (bytes_low_first 0 k n) (byte_at k n ∷ []))

drop_high : (j k width n : ℕ) → k ≡ j + width → drop j (bytes_high_first k n) ≡ bytes_high_first width n
drop_high zero k width n h = let same : k ≡ width = omega arith in ap (λ m. bytes_high_first m n) same
drop_high (suc j) zero width n h = absurd (omega arith)
drop_high (suc j) (suc k) width n h = drop_high j k width n (omega arith)

-- the first bytes that `to_le_bytes` gives, and the last that `to_be_bytes` gives
pub le_bytes : (width n : ℕ) → width ≤ 8 → take width (to_le_bytes w64 n) ≡ number_bytes LittleEndian width n
unfolding number_bytes
le_bytes width n h =
    let low : bytes_low_first 0 8 n ≡ little_endian_bytes 8 n = low_first 0 8 n ∙ ap (little_endian_bytes 8) (div-one n) in
    ap (take width) low ∙ take_low width 8 n h

pub be_bytes : (width n : ℕ) → width ≤ 8 → drop (8 - width) (to_be_bytes w64 n) ≡ number_bytes BigEndian width n
unfolding number_bytes
be_bytes width n h =
    let low : bytes_low_first 0 width n ≡ little_endian_bytes width n = low_first 0 width n ∙ ap (little_endian_bytes width) (div-one n) in
    drop_high (8 - width) 8 width n (omega arith) ∙ high_first width n ∙ ap reverse low
