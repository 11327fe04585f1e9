-- An escaped name is plain.
use Rattle.std.proofs.Common.{◌≡◌, ℕ, ◌+◌, ◌/◌, ◌%◌, ◌<◌, ◌≤◌, Bool, true, false, cond, ◌&&◌, List, [], ◌∷◌, All, refl, arith, nat_eq, nat_le, nat_lt}
use Rattle.std.specs.Fmt.{digit_glyph}
use Rattle.std.proofs.lemmas.Bool.Decides.{nat_tests}
use Rattle.std.proofs.lemmas.List.Elements.{All-nil, All-cons, All-append}
use Rattle.binfarce_chart.specs.Svg.{escaped, escaped_byte, hex_byte, IsPlain}

abbrev AllPlain : List ℕ → Type 0
AllPlain [] = Unit {0}
AllPlain (b ∷ others) = IsPlain b × AllPlain others

all_of : (text : List ℕ) → AllPlain text → All IsPlain text
all_of [] low = All-nil IsPlain
all_of (b ∷ others) low = All-cons IsPlain b others low.0 (all_of others low.1)

above : (b : ℕ) → 63 ≤ b → b ≤ 126 → IsPlain b
above b low high = (omega arith, high, (λ e. omega (arith, e)), (λ e. omega (arith, e)), (λ e. omega (arith, e)))

between : (b : ℕ) → 35 ≤ b → b ≤ 59 → IsPlain b
between b low high = (omega arith, omega arith, (λ e. omega (arith, e)), (λ e. omega (arith, e)), (λ e. omega (arith, e)))

digit_is_plain : (d : ℕ) → d < 16 → IsPlain (digit_glyph false d)
digit_is_plain d low = by_test (nat_lt d 10) refl
  where
    by_test : (t : Bool) → nat_lt d 10 ≡ t → IsPlain (cond t (48 + d) (87 + d))
    by_test true is = let under : d < 10 = grind (arith, nat_tests) in between (48 + d) (omega arith) (omega arith)
    by_test false is = above (87 + d) (omega arith) (omega arith)

hex_is_plain : (b : ℕ) → AllPlain (hex_byte b)
hex_is_plain b = (above 92 (omega arith) (omega arith), (above 120 (omega arith) (omega arith), (digit_is_plain (b / 16 % 16) (omega arith), (digit_is_plain (b % 16) (omega arith), tt))))

itself : (b : ℕ) → nat_eq b 60 ≡ false → nat_eq b 62 ≡ false → nat_eq b 34 ≡ false → (nat_le 32 b && nat_le b 126) ≡ true → IsPlain b
itself b p q r is = (grind (arith, nat_tests), grind (arith, nat_tests), (λ e. grind (arith, nat_tests, e)), (λ e. grind (arith, nat_tests, e)), (λ e. grind (arith, nat_tests, e)))

byte_is_plain : (b : ℕ) → AllPlain (escaped_byte b)
unfolding escaped_byte
byte_is_plain b = by_tests (nat_eq b 60) (nat_eq b 62) (nat_eq b 38) (nat_eq b 34) (nat_le 32 b && nat_le b 126) refl refl refl refl
  where
    amp : IsPlain 38
    amp = between 38 (omega arith) (omega arith)

    semicolon : IsPlain 59
    semicolon = between 59 (omega arith) (omega arith)

    char : (c : ℕ) → 97 ≤ c → c ≤ 122 → IsPlain c
    char c low high = above c (omega arith) (omega arith)

    by_tests : (lt gt and quote shown : Bool) → nat_eq b 60 ≡ lt → nat_eq b 62 ≡ gt → nat_eq b 34 ≡ quote → (nat_le 32 b && nat_le b 126) ≡ shown
        → AllPlain (cond lt (38 ∷ 108 ∷ 116 ∷ 59 ∷ []) (cond gt (38 ∷ 103 ∷ 116 ∷ 59 ∷ []) (cond and (38 ∷ 97 ∷ 109 ∷ 112 ∷ 59 ∷ []) (cond quote (38 ∷ 113 ∷ 117 ∷ 111 ∷ 116 ∷ 59 ∷ []) (cond shown (b ∷ []) (hex_byte b))))))
    by_tests true gt and quote shown p q r s = (amp, (char 108 (omega arith) (omega arith), (char 116 (omega arith) (omega arith), (semicolon, tt))))
    by_tests false true and quote shown p q r s = (amp, (char 103 (omega arith) (omega arith), (char 116 (omega arith) (omega arith), (semicolon, tt))))
    by_tests false false true quote shown p q r s = (amp, (char 97 (omega arith) (omega arith), (char 109 (omega arith) (omega arith), (char 112 (omega arith) (omega arith), (semicolon, tt)))))
    by_tests false false false true shown p q r s = (amp, (char 113 (omega arith) (omega arith), (char 117 (omega arith) (omega arith), (char 111 (omega arith) (omega arith), (char 116 (omega arith) (omega arith), (semicolon, tt))))))
    by_tests false false false false true p q r s = (itself b p q r s, tt)
    by_tests false false false false false p q r s = hex_is_plain b

pub all_plain : (name : List ℕ) → All IsPlain (escaped name)
unfolding escaped
all_plain [] = All-nil IsPlain
all_plain (b ∷ others) = All-append IsPlain (escaped_byte b) (escaped others) (all_of (escaped_byte b) (byte_is_plain b)) (all_plain others)
