-- One turn of each loop of Punycode's decoding.
use Rattle.std.proofs.Common.{◌≡◌, ℕ, zero, suc, ◌+◌, ◌-◌, ◌*◌, ◌/◌, ◌%◌, ◌<◌, ◌≤◌, Bool, true, false, cond, ◌==◌, nat_lt, nat_le, ◌⊎◌, List, [], ◌∷◌, ◌++◌, length, get_or, take, drop, insert, Option, Some, None, IfSome, option_map, refl, sym, ap, ◌∙◌, inl, inr, arith, lt-ltb, le-ltb, le-leb, length-drop}
use Rattle.std.proofs.lemmas.Bool.{cases_lt, cond-true, cond-false, lt-leb}
use Rattle.std.proofs.lemmas.Bool.Decides.{nat_tests}
use Rattle.std.proofs.lemmas.List.{drop_more, drop_all, nil_from_length, length-take-le, take-take, drop-take}
use Rattle.std.proofs.lemmas.List.Edits.{length-between}
use Rattle.std.proofs.lemmas.Slice.{take-put_mid}
use Rattle.std.specs.List.{between}
use borrow.Rule.Slice.PartMut.{put_mid}
use Rattle.std.proofs.lemmas.Nat.{mul-le, le-div}
use Rattle.std.proofs.lemmas.Option.{none-some}
use Rattle.binfarce_v0_grammar.specs.Punycode.{digit_of, threshold, weight, integer, scaled_bias, adapted_bias, Decoder, decoder_after, text_of, punycode_decoded}
use Rattle.binfarce_text.specs.Characters.{is_scalar}

-- ---- the loop of the adaptation

-- k and what is left of the loop make the bias
pub record Scales (delta k bias : ℕ) : Type 0 where
  pub turns : ℕ
  pub enough : delta ≤ turns
  pub gives : k + scaled_bias turns delta ≡ bias

scaled_bias-above : (turns delta : ℕ) → 455 < delta → scaled_bias (suc turns) delta ≡ 36 + scaled_bias turns (delta / 35)
unfolding scaled_bias
scaled_bias-above turns delta above = cond-true (nat_lt 455 delta) _ _ (lt-ltb 455 delta above)

scaled_bias-within : (turns delta : ℕ) → delta ≤ 455 → scaled_bias turns delta ≡ 36 * delta / (delta + 38)
unfolding scaled_bias
scaled_bias-within zero delta within = refl
scaled_bias-within (suc turns) delta within = cond-false (nat_lt 455 delta) _ _ (le-ltb 455 delta within)

pub Scales-more : {delta k bias : ℕ} → Scales delta k bias → 455 < delta → Scales (delta / 35) (k + 36) bias
Scales-more {delta} {k} {bias} s above =
    let turns : s.turns ≡ suc (s.turns - 1) = omega (arith, s.enough) in
    record {
      turns = s.turns - 1;
      enough = omega (arith, s.enough);
      gives = omega (arith, s.gives, ap (λ t. scaled_bias t delta) turns, scaled_bias-above (s.turns - 1) delta above);
    }

pub Scales-done : {delta k bias : ℕ} → Scales delta k bias → delta ≤ 455 → k + 36 * delta / (delta + 38) ≡ bias
Scales-done {delta} {k} s within = ap (λ x. k + x) (sym (scaled_bias-within s.turns delta within)) ∙ s.gives

pub Scales-start : (delta characters : ℕ) (first : Bool) (damped : ℕ) → damped ≡ cond first (delta / 700) (delta / 2) → Scales (damped + damped / characters) 0 (adapted_bias delta characters first)
unfolding adapted_bias
Scales-start delta characters first damped e =
    record {
      turns = damped + damped / characters;
      enough = omega arith;
      gives = omega (arith, ap (λ d. scaled_bias (d + d / characters) (d + d / characters)) e);
    }

-- ---- the digits of an integer

-- n more than an integer's sum
abbrev pub added : ℕ → ℕ × List ℕ → ℕ × List ℕ
added n (sum, rest) = (n + sum, rest)

pub integer-nil : (bias j : ℕ) → integer bias j [] ≡ None
unfolding integer
integer-nil bias j = refl

pub integer-no_digit : (bias j byte : ℕ) (code : List ℕ) → digit_of byte ≡ None → integer bias j (byte ∷ code) ≡ None
unfolding integer
integer-no_digit bias j byte code e = rw e

pub integer-last : (bias j byte digit : ℕ) (code : List ℕ) → digit_of byte ≡ Some digit → digit < threshold bias j → integer bias j (byte ∷ code) ≡ Some (digit * weight bias j, code)
unfolding integer
integer-last bias j byte digit code e below =
    rw e (cond-true (nat_lt digit (threshold bias j)) _ _ (lt-ltb digit (threshold bias j) below))

pub integer-more : (bias j byte digit : ℕ) (code : List ℕ) → digit_of byte ≡ Some digit → threshold bias j ≤ digit → integer bias j (byte ∷ code) ≡ option_map (added (digit * weight bias j)) (integer bias (suc j) code)
unfolding integer
integer-more bias j byte digit code e above =
    rw e (cond-false (nat_lt digit (threshold bias j)) _ _ (le-ltb digit (threshold bias j) above))

pub weight-suc : (bias j : ℕ) → weight bias (suc j) ≡ weight bias j * (36 - threshold bias j)
unfolding weight
weight-suc bias j = refl

pub weight-zero : (bias : ℕ) → weight bias zero ≡ 1
unfolding weight
weight-zero bias = refl

-- the cases of an optional value, with its equation
cases_Option : {A : Type 0} (o : Option A) → (o ≡ None) ⊎ ((x : A) × (o ≡ Some x))
cases_Option None = inl refl
cases_Option (Some x) = inr (x, refl)

added-zero : (o : Option (ℕ × List ℕ)) → option_map (added 0) o ≡ o
added-zero None = refl
added-zero (Some (sum, rest)) = let e : 0 + sum ≡ sum = omega arith in ap (λ n. Some (n, rest)) e

added-added : (m n : ℕ) (o : Option (ℕ × List ℕ)) → option_map (added m) (option_map (added n) o) ≡ option_map (added (m + n)) o
added-added m n None = refl
added-added m n (Some (sum, rest)) = let e : m + (n + sum) ≡ m + n + sum = omega arith in ap (λ x. Some (x, rest)) e

-- what the loop over the digits has read at the digit numbered j
pub record Reads (bias : ℕ) (code : List ℕ) (j delta scale k : ℕ) : Type 0 where
  pub reads : integer bias 0 code ≡ option_map (added delta) (integer bias j (drop j code))
  pub weighs : scale ≡ weight bias j
  pub steps : k ≡ 36 * (j + 1)
  pub fits : delta ≤ 0xFFFF_FFFF
  pub light : scale ≤ 35 * delta + 1
  pub heavy : j < scale

pub Reads-start : (bias : ℕ) (code : List ℕ) → Reads bias code 0 0 1 36
Reads-start bias code =
    record {
      reads = sym (added-zero (integer bias 0 code));
      weighs = sym (weight-zero bias);
      steps = refl;
      fits = omega arith;
      light = omega arith;
      heavy = omega arith;
    }

module _ {bias : ℕ} {code : List ℕ} {j delta scale k : ℕ} where
  Reads-at : Reads bias code j delta scale k → j < length code → integer bias 0 code ≡ option_map (added delta) (integer bias j (get_or code j 0 ∷ drop (j + 1) code))
  Reads-at r lt = r.reads ∙ ap (λ x. option_map (added delta) (integer bias j x)) (drop_more code j 0 lt)

  pub Reads-no_digit : Reads bias code j delta scale k → j < length code → digit_of (get_or code j 0) ≡ None → integer bias 0 code ≡ None
  Reads-no_digit r lt d = Reads-at r lt ∙ ap (option_map (added delta)) (integer-no_digit bias j _ _ d)

  pub Reads-end : Reads bias code j delta scale k → length code ≤ j → integer bias 0 code ≡ None
  Reads-end r le = r.reads ∙ ap (λ x. option_map (added delta) (integer bias j x)) (drop_all j code le) ∙ ap (option_map (added delta)) (integer-nil bias j)

  pub Reads-last : Reads bias code j delta scale k → (digit : ℕ) → j < length code → digit_of (get_or code j 0) ≡ Some digit → digit < threshold bias j → integer bias 0 code ≡ Some (delta + digit * scale, drop (j + 1) code)
  Reads-last r digit lt d below =
      Reads-at r lt ∙ ap (option_map (added delta)) (integer-last bias j _ digit _ d below) ∙ ap (λ w. Some (delta + digit * w, drop (j + 1) code)) (sym r.weighs)

  Reads-next : Reads bias code j delta scale k → (digit : ℕ) → j < length code → digit_of (get_or code j 0) ≡ Some digit → threshold bias j ≤ digit → integer bias 0 code ≡ option_map (added (delta + digit * scale)) (integer bias (suc j) (drop (j + 1) code))
  Reads-next r digit lt d above =
      Reads-at r lt ∙ ap (option_map (added delta)) (integer-more bias j _ digit _ d above)
      ∙ added-added delta (digit * weight bias j) _
      ∙ ap (λ w. option_map (added (delta + digit * w)) (integer bias (suc j) (drop (j + 1) code))) (sym r.weighs)

  pub Reads-more : Reads bias code j delta scale k → (digit t : ℕ) → j < length code → digit_of (get_or code j 0) ≡ Some digit → t ≡ threshold bias j → t ≤ digit → delta + digit * scale ≤ 0xFFFF_FFFF → Reads bias code (j + 1) (delta + digit * scale) (scale * (36 - t)) (k + 36)
  Reads-more r digit t lt d is above fits =
      let some : 1 * scale ≤ digit * scale = mul-le 1 scale digit scale (omega arith) (omega arith) in
      let most : scale * (36 - t) ≤ scale * 35 = mul-le scale (36 - t) scale 35 (omega arith) (omega arith) in
      let least : scale * 10 ≤ scale * (36 - t) = mul-le scale 10 scale (36 - t) (omega arith) (omega arith) in
      let next : suc j ≡ j + 1 = omega arith in
      record {
        reads =
            Reads-next r digit lt d (omega arith)
            ∙ ap (λ m. option_map (added (delta + digit * scale)) (integer bias m (drop (j + 1) code))) next;
        weighs = ap (λ x. scale * (36 - x)) is ∙ ap (λ w. w * (36 - threshold bias j)) r.weighs ∙ sym (weight-suc bias j) ∙ ap (weight bias) next;
        steps = omega (arith, r.steps);
        fits = fits;
        light = omega (arith, r.light);
        heavy = omega (arith, r.heavy);
      }

  -- where the sum is past the limit, so is the whole integer, if there is one
  pub Reads-past : Reads bias code j delta scale k → (digit : ℕ) → j < length code → digit_of (get_or code j 0) ≡ Some digit → 0xFFFF_FFFF < delta + digit * scale → IfSome (integer bias 0 code) (λ read. 0xFFFF_FFFF < read.0)
  Reads-past r digit lt d past =
      elim (cases_lt digit (threshold bias j)) [
        | inl below ↦ rw (Reads-last r digit lt d below) past
        | inr above ↦ rw (Reads-next r digit lt d above) (far _)
      ]
    where
      far : (o : Option (ℕ × List ℕ)) → IfSome (option_map (added (delta + digit * scale)) o) (λ read. 0xFFFF_FFFF < read.0)
      far None = tt
      far (Some (sum, rest)) = omega arith

-- ---- the insertions

pub text_of-nil : (room : ℕ) (decoder : Decoder) → text_of room decoder [] ≡ Some decoder.output
unfolding text_of
text_of-nil zero decoder = refl
text_of-nil (suc room) decoder = refl

text_of-full : (decoder : Decoder) (code : List ℕ) → 0 < length code → text_of zero decoder code ≡ None
unfolding text_of
text_of-full decoder [] some = absurd (omega arith)
text_of-full decoder (byte ∷ code) some = refl

text_of-invalid : (room : ℕ) (decoder : Decoder) (code : List ℕ) → 0 < length code → integer decoder.bias 0 code ≡ None → text_of room decoder code ≡ None
unfolding text_of
text_of-invalid room decoder [] some e = absurd (omega arith)
text_of-invalid zero decoder (byte ∷ code) some e = refl
text_of-invalid (suc room) decoder (byte ∷ code) some e = rw e

text_of-read : (room : ℕ) (decoder : Decoder) (code rest : List ℕ) (delta : ℕ) → integer decoder.bias 0 code ≡ Some (delta, rest) → text_of (suc room) decoder code ≡ cond (is_scalar (decoder_after decoder delta).n) (text_of room (decoder_after decoder delta) rest) None
unfolding text_of
text_of-read room decoder [] rest delta e = absurd (none-some _ (sym (integer-nil decoder.bias 0) ∙ e))
text_of-read room decoder (byte ∷ code) rest delta e = rw e

-- what the decoder holds
abbrev pub decoder_of : (n i bias : ℕ) (output : List ℕ) → Decoder
decoder_of n i bias output = record { n = n; i = i; bias = bias; output = output }

-- what is left of the code turns the first `count` characters into the answer
pub record Decodes (characters : List ℕ) (count n i bias : ℕ) (rest : List ℕ) (answer : Option (List ℕ)) : Type 0 where
  pub gives : text_of (128 - count) (decoder_of n i bias (take count characters)) rest ≡ answer
  pub full : length characters ≡ 128
  pub room : count ≤ 128
  pub within : i ≤ count
  pub small : n ≤ 0x10_FFFF

decoder_after-is : (n i bias delta count : ℕ) (output : List ℕ) → length output ≡ count → decoder_after (decoder_of n i bias output) delta ≡ decoder_of (n + (i + delta) / (count + 1)) ((i + delta) % (count + 1) + 1) (adapted_bias delta (count + 1) (i == 0)) (insert output ((i + delta) % (count + 1)) (n + (i + delta) / (count + 1)))
unfolding decoder_after
decoder_after-is n i bias delta count output e =
    ap (λ x. decoder_of (n + (i + delta) / (x + 1)) ((i + delta) % (x + 1) + 1) (adapted_bias delta (x + 1) (i == 0)) (insert output ((i + delta) % (x + 1)) (n + (i + delta) / (x + 1)))) e

pub punycode_decoded-long : (ascii code : List ℕ) → 128 < length ascii → punycode_decoded ascii code ≡ None
unfolding punycode_decoded
punycode_decoded-long ascii code long = cond-false (nat_le (length ascii) 128) _ None (lt-leb (length ascii) 128 long)

pub Decodes-start : (ascii code characters : List ℕ) → length ascii ≤ 128 → length characters ≡ 128 → take (length ascii) characters ≡ ascii → Decodes characters (length ascii) 128 0 72 code (punycode_decoded ascii code)
unfolding punycode_decoded
Decodes-start ascii code characters room full front =
    record {
      gives = ap (λ x. text_of (128 - length ascii) (decoder_of 128 0 72 x) code) front ∙ sym (cond-true (nat_le (length ascii) 128) _ None (le-leb (length ascii) 128 room));
      full = full;
      room = room;
      within = omega arith;
      small = omega arith;
    }

module _ {characters : List ℕ} {count n i bias : ℕ} {rest : List ℕ} {answer : Option (List ℕ)} where
  pub Decodes-done : Decodes characters count n i bias rest answer → length rest ≡ 0 → Some (take count characters) ≡ answer
  Decodes-done d none =
      sym (text_of-nil (128 - count) (decoder_of n i bias (take count characters)))
      ∙ ap (text_of (128 - count) (decoder_of n i bias (take count characters))) (sym (nil_from_length rest none))
      ∙ d.gives

  pub Decodes-full : Decodes characters count n i bias rest answer → count ≡ 128 → 0 < length rest → answer ≡ None
  Decodes-full d full some =
      let none : 128 - count ≡ 0 = omega arith in
      sym d.gives ∙ ap (λ room. text_of room (decoder_of n i bias (take count characters)) rest) none ∙ text_of-full _ rest some

  Decodes-read : Decodes characters count n i bias rest answer → count < 128 → (delta : ℕ) (tail : List ℕ) → integer bias 0 rest ≡ Some (delta, tail) → answer ≡ cond (is_scalar (n + (i + delta) / (count + 1))) (text_of (128 - (count + 1)) (decoder_of (n + (i + delta) / (count + 1)) ((i + delta) % (count + 1) + 1) (adapted_bias delta (count + 1) (i == 0)) (insert (take count characters) ((i + delta) % (count + 1)) (n + (i + delta) / (count + 1)))) tail) None
  Decodes-read d room delta tail e =
      let turn : 128 - count ≡ suc (128 - (count + 1)) = omega arith in
      let front = take count characters in
      let long : length front ≡ count = length-take-le count characters (omega (arith, d.full)) in
      sym d.gives ∙ ap (λ x. text_of x (decoder_of n i bias front) rest) turn
      ∙ text_of-read (128 - (count + 1)) (decoder_of n i bias front) rest tail delta e
      ∙ ap (λ (x : Decoder). cond (is_scalar x.n) (text_of (128 - (count + 1)) x tail) None) (decoder_after-is n i bias delta count front long)

  pub Decodes-not_scalar : Decodes characters count n i bias rest answer → count < 128 → (delta : ℕ) (tail : List ℕ) → integer bias 0 rest ≡ Some (delta, tail) → is_scalar (n + (i + delta) / (count + 1)) ≡ false → answer ≡ None
  Decodes-not_scalar d room delta tail e scalar = Decodes-read d room delta tail e ∙ cond-false _ _ None scalar

  pub Decodes-invalid : Decodes characters count n i bias rest answer → count < 128 → 0 < length rest → IfSome (integer bias 0 rest) (λ read. 0xFFFF_FFFF < read.0) → answer ≡ None
  Decodes-invalid d room some far =
      elim (cases_Option (integer bias 0 rest)) [
        | inl e ↦ sym d.gives ∙ text_of-invalid (128 - count) _ rest some e
        | inr read ↦
            let delta = read.0.0 in
            let past : 0xFFFF_FFFF < delta = rw read.1 at far in
            let moved : 0x11_0000 ≤ (i + delta) / (count + 1) = le-div 0x11_0000 (i + delta) (count + 1) (omega arith) (omega arith) in
            let beyond : 0x10_FFFF < n + (i + delta) / (count + 1) = omega arith in
            Decodes-not_scalar d room delta read.0.1 read.1 (outside _ beyond)
      ]
    where
      outside : (c : ℕ) → 0x10_FFFF < c → is_scalar c ≡ false
      outside c h = grind (arith, nat_tests)

  pub Decodes-more : Decodes characters count n i bias rest answer → count < 128 → (delta : ℕ) (tail written : List ℕ) → integer bias 0 rest ≡ Some (delta, tail) → is_scalar (n + (i + delta) / (count + 1)) ≡ true → length written ≡ 128 → take (count + 1) written ≡ insert (take count characters) ((i + delta) % (count + 1)) (n + (i + delta) / (count + 1)) → Decodes written (count + 1) (n + (i + delta) / (count + 1)) ((i + delta) % (count + 1) + 1) (adapted_bias delta (count + 1) (i == 0)) tail answer
  Decodes-more d room delta tail written e scalar full front =
      record {
        gives =
            ap (λ x. text_of (128 - (count + 1)) (decoder_of (n + (i + delta) / (count + 1)) ((i + delta) % (count + 1) + 1) (adapted_bias delta (count + 1) (i == 0)) x) tail) front
            ∙ sym (Decodes-read d room delta tail e ∙ cond-true _ _ None scalar);
        full = full;
        room = omega arith;
        within = omega arith;
        small = inside _ scalar;
      }
    where
      inside : (c : ℕ) → is_scalar c ≡ true → c ≤ 0x10_FFFF
      inside c h = grind (arith, nat_tests)

-- ---- an insertion into an array

-- the first count + 1 elements, where those from the position on went one further to make room
pub take-moved : (xs ys : List ℕ) (position count c : ℕ) → position ≤ count → count < length xs → ys ≡ c ∷ take (length (between position (count + 1) xs) - 1) (between position (count + 1) xs) → take (count + 1) (put_mid position (count + 1 - position) xs ys) ≡ insert (take count xs) position c
take-moved xs ys position count c within room e =
    let long : length (between position (count + 1) xs) ≡ count + 1 - position = length-between xs position (count + 1) (omega arith) in
    let moved : length (between position (count + 1) xs) - 1 ≡ count - position = omega arith in
    let ends : count ≡ position + (count - position) = omega arith in
    let part : take (count - position) (between position (count + 1) xs) ≡ drop position (take count xs) =
    take-take (count - position) (count + 1 - position) (drop position xs) (omega arith)
    ∙ sym (ap (λ x. drop position (take x xs)) ends ∙ drop-take position (count - position) xs) in
    let is : ys ≡ c ∷ drop position (take count xs) = e ∙ ap (λ x. c ∷ take x (between position (count + 1) xs)) moved ∙ ap (λ x. c ∷ x) part in
    let fits : count + 1 ≡ position + length ys = omega (arith, ap length is, length-drop position (take count xs), length-take-le count xs (omega arith)) in
    take-put_mid position (count + 1 - position) xs ys (count + 1) fits (omega arith)
    ∙ ap (λ x. take position xs ++ x) is
    ∙ ap (λ x. x ++ c ∷ drop position (take count xs)) (sym (take-take position count xs within))
