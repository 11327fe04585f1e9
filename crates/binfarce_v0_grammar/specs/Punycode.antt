-- Punycode (RFC 3492) as v0 names use it: the digits are `a` to `z` and `0` to `9` alone, and a text has at most 128
-- characters. The comments begin with the RFC's sections. Numbers have no upper bound here, so nothing overflows (6.4).
use Rattle.std.specs.Prelude.{◌≡◌, ℕ, zero, suc, ◌+◌, ◌-◌, ◌*◌, ◌/◌, ◌%◌, min, max, Bool, ◌==◌, nat_lt, nat_le, List, [], ◌∷◌, length, insert, Option, Some, None, option_map, option_and_then, if◌then◌else◌, codes}
use Rattle.std.proofs.Common.{refl}
use Rattle.std.specs.Char.{is_ascii_digit, is_ascii_lowercase}
use Rattle.binfarce_text.specs.Letters.{'0', 'a'}
use Rattle.binfarce_text.specs.Characters.{is_scalar}

-- 5: the parameters
abbrev pub base : ℕ
base = 36

abbrev pub tmin : ℕ
tmin = 1

abbrev pub tmax : ℕ
tmax = 26

abbrev pub skew : ℕ
skew = 38

abbrev pub damp : ℕ
damp = 700

abbrev pub initial_bias : ℕ
initial_bias = 72

abbrev pub initial_n : ℕ
initial_n = 128

-- the most characters of a text
abbrev pub most_characters : ℕ
most_characters = 128

-- 5: `a` to `z` are the digits 0 to 25, and `0` to `9` the digits 26 to 35
unfoldable pub digit_of : ℕ → Option ℕ
digit_of byte =
    if is_ascii_lowercase byte then Some (byte - 'a')
    else (if is_ascii_digit byte then Some (byte - '0' + 26) else None)

-- 3.4: the threshold t(j), which is base * (j + 1) - bias, but at least tmin and at most tmax
abbrev pub threshold : (bias j : ℕ) → ℕ
threshold bias j = max (min (base * (j + 1) - bias) tmax) tmin

-- 3.3: the weight w(j)
unfoldable pub weight : (bias j : ℕ) → ℕ
weight bias zero = 1
weight bias (suc j) = weight bias j * (base - threshold bias j)

-- 3.3: the integer whose digits from number j on begin the code, with the code after it. It is the sum of each digit
-- times its weight, up to the first digit that is below its threshold
unfoldable pub integer : (bias j : ℕ) (code : List ℕ) → Option (ℕ × List ℕ)
integer bias j [] = None
integer bias j (byte ∷ code) =
    option_and_then
    (λ digit.
    let value = digit * weight bias j in
    let more = option_map (λ (sum, rest). (value + sum, rest)) (integer bias (suc j) code) in
    if nat_lt digit (threshold bias j) then Some (value, code) else more)
    (digit_of byte)

-- 6.1, from its loop on. The loop is bounded by a number of turns, for which delta is enough, since each turn lowers it
unfoldable pub scaled_bias : (turns delta : ℕ) → ℕ
scaled_bias zero delta = (base - tmin + 1) * delta / (delta + skew)
scaled_bias (suc turns) delta =
    let more = base + scaled_bias turns (delta / (base - tmin)) in
    if nat_lt ((base - tmin) * tmax / 2) delta then more else (base - tmin + 1) * delta / (delta + skew)

-- 6.1: the bias after a delta, where the text then has this many characters. The first delta is damped more than the others
unfoldable pub adapted_bias : (delta characters : ℕ) (first : Bool) → ℕ
adapted_bias delta characters first =
    let damped = if first then delta / damp else delta / 2 in
    let spread = damped + damped / characters in
    scaled_bias spread spread

-- 6.2: the decoder's variables between two insertions
pub record Decoder : Type 0 where
  pub n : ℕ
  pub i : ℕ
  pub bias : ℕ
  pub output : List ℕ

-- 6.2: delta moves i on. Each time that i would pass the end of the output, it begins again at the front, and n is one more. Then the character n is
-- inserted at i, and i moves past it. The RFC takes a delta for the first one where i was 0 before it; no later delta begins with 0
unfoldable pub decoder_after : Decoder → (delta : ℕ) → Decoder
decoder_after decoder delta =
    let characters = length decoder.output + 1 in
    let n = decoder.n + (decoder.i + delta) / characters in
    let i = (decoder.i + delta) % characters in
    record {
      n = n;
      i = i + 1;
      bias = adapted_bias delta characters (decoder.i == 0);
      output = insert decoder.output i n;
    }

-- 6.2: the text that the code's deltas make of the output, which has room for so many further characters
unfoldable pub text_of : (room : ℕ) → Decoder → (code : List ℕ) → Option (List ℕ)
text_of room decoder [] = Some decoder.output
text_of zero decoder (byte ∷ code) = None
text_of (suc room) decoder (byte ∷ code) =
    option_and_then
    (λ (delta, rest).
    let next = decoder_after decoder delta in
    let text = text_of room next rest in
    if is_scalar next.n then text else None)
    (integer decoder.bias 0 (byte ∷ code))

-- the text of an ASCII part, whose bytes are its first characters, and a code. There is none where some of the code isn't an integer, where a
-- character isn't a scalar value, and if there are too many characters
unfoldable pub punycode_decoded : (ascii code : List ℕ) → Option (List ℕ)
punycode_decoded ascii code =
    let start : Decoder = record { n = initial_n; i = 0; bias = initial_bias; output = ascii } in
    let text = text_of (most_characters - length ascii) start code in
    if nat_le (length ascii) most_characters then text else None

-- the code `kva` inserts `ü` into `bcher`
worked_word : punycode_decoded (codes "bcher") (codes "kva") ≡ Some (codes "bücher")
unfolding digit_of weight integer scaled_bias adapted_bias decoder_after text_of punycode_decoded
worked_word = refl
