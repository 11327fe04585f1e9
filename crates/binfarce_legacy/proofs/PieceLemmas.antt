-- The pieces of a name from left to right, and which piece begins it.
use Rattle.std.proofs.Common.{◌≡◌, ℕ, zero, suc, ◌+◌, ◌-◌, ◌<◌, ◌≤◌, inl, inr, Bool, true, false, eqb, ltb, ◌&&◌, not, List, [], ◌∷◌, ◌++◌, length, get_or, drop, take, min, nat_eq, codes, Option, Some, None, refl, ap, sym, ◌∙◌, arith, length-take, append_assoc}
use Rattle.std.proofs.lemmas.Bool.{false≢true, cases_Bool, cases_eq, cases_lt, cond-true, cond-false, and_from, and_parts, eqb-true, eqb-false, eq-eqb, lt-ltb, ltb-true, not-true, false_from_ne_true}
use Rattle.std.proofs.lemmas.Bool.Decides.{nat_tests}
use Rattle.std.proofs.lemmas.Str.{encodes-append, encodes-IsAscii, IsAscii-take}
use Rattle.std.specs.Str.{IsAscii, encode_utf8_all}
use Rattle.std.proofs.lemmas.List.{drop_all, append-nil}
use Rattle.std.proofs.lemmas.List.Sums.{prefix_len-le-length}
use Rattle.std.specs.Option.{option_or}
use Rattle.std.specs.List.{prefix_len, flat_map, take_while, starts_with}
use Rattle.std.specs.Str.Parse.{digits_value}
use Rattle.binfarce_text.specs.Letters.{is_hex_digit}
use Rattle.binfarce_legacy.specs.Legacy.{Piece, is_printed, numbered_escape, named_escape, first_piece, pieces, name_chars}
use Rattle.binfarce_legacy.specs.machine.Reading.{is_plain, piece_or_all, chars_left}
use Rattle.binfarce_text.proofs.TextLemmas.{begins, begins-not, begins-from}

-- the pieces after the first k bytes are those of the rest
pub pieces-skip : (k : ℕ) (name : List ℕ) → pieces k name ≡ pieces 0 (drop k name)
pieces-skip zero name = refl
pieces-skip (suc k) [] = refl
pieces-skip (suc k) (b ∷ name) = pieces-skip k name

-- a name is its first piece, and the pieces after that
pub chars_left-step : (name : List ℕ) → 0 < length name → 0 < (first_piece name).len
    → chars_left name ≡ (first_piece name).chars ++ chars_left (drop (first_piece name).len name)
unfolding chars_left
chars_left-step [] some len = absurd (omega (arith, some))
chars_left-step (b ∷ name) some len =
    let p : Piece = first_piece (b ∷ name) in
    let e : p.len ≡ suc (p.len - 1) = omega (arith, len) in
    ap (λ (ps : List Piece). p.chars ++ flat_map (λ q. q.chars) ps) (pieces-skip (p.len - 1) name ∙ ap (λ k. pieces 0 (drop k (b ∷ name))) (sym e))

pub chars_left-nil : chars_left [] ≡ []
unfolding chars_left
chars_left-nil = refl

-- a plain byte is no `.` and no `$`
pub plain_is : (b : ℕ) → is_plain b ≡ true → (b ≡ 46 → ⊥) × (b ≡ 36 → ⊥)
plain_is b h =
    let both = and_parts (not (eqb b 46)) (not (eqb b 36)) h in
    (eqb-false b 46 (not-true _ both.0), eqb-false b 36 (not-true _ both.1))

-- the piece that begins a name
pub first_piece-plain : (name : List ℕ) → (get_or name 0 0 ≡ 46 → ⊥) → (get_or name 0 0 ≡ 36 → ⊥)
    → first_piece name ≡ record { len = 1; chars = take 1 name }
unfolding first_piece
first_piece-plain name dot dollar =
    cond-false (starts_with nat_eq name (codes "..")) _ _ (begins-not name (codes "..") dot (omega arith))
    ∙ cond-false (starts_with nat_eq name (codes "$")) _ _ (begins-not name (codes "$") dollar (omega arith))

pub first_piece-dots : (name : List ℕ) → starts_with nat_eq name (codes "..") ≡ true
    → first_piece name ≡ record { len = 2; chars = codes "::" }
unfolding first_piece
first_piece-dots name h = cond-true (starts_with nat_eq name (codes "..")) _ _ h

pub first_piece-dot : (name : List ℕ) → starts_with nat_eq name (codes "..") ≡ false → get_or name 0 0 ≡ 46
    → first_piece name ≡ record { len = 1; chars = take 1 name }
unfolding first_piece
first_piece-dot name h dot =
    cond-false (starts_with nat_eq name (codes "..")) _ _ h
    ∙ cond-false (starts_with nat_eq name (codes "$")) _ _ (begins-not name (codes "$") (λ e. absurd (omega (arith, e, dot))) (omega arith))

begins_dollar : (name : List ℕ) → get_or name 0 0 ≡ 36 → starts_with nat_eq name (codes "$") ≡ true
begins_dollar [] e = absurd (omega (arith, e))
begins_dollar (b ∷ name) e = begins-from (b ∷ name) (codes "$") name (ap (λ (x : ℕ). x ∷ name) e)

-- no escape that has a name begins with `$u`
named-none : (name : List ℕ) → starts_with nat_eq name (codes "$u") ≡ true → named_escape name ≡ None
unfolding named_escape
named-none name h = ap named_escape (begins name (codes "$u") h)

pub first_piece-numbered : (name : List ℕ) → get_or name 0 0 ≡ 36 → starts_with nat_eq name (codes "$u") ≡ true
    → first_piece name ≡ piece_or_all name (numbered_escape name)
unfolding first_piece
first_piece-numbered name dollar h =
    cond-false (starts_with nat_eq name (codes "..")) _ _ (begins-not name (codes "..") (λ e. absurd (omega (arith, e, dollar))) (omega arith))
    ∙ cond-true (starts_with nat_eq name (codes "$")) _ _ (begins_dollar name dollar)
    ∙ ap (λ (e : Option Piece). piece_or_all name (option_or e (numbered_escape name))) (named-none name h)

-- bytes that denote themselves, before anything else
pub chars_left-plain : (name : List ℕ) → chars_left name
    ≡ take (prefix_len is_plain name) name ++ chars_left (drop (prefix_len is_plain name) name)
chars_left-plain [] = refl
chars_left-plain (b ∷ name) = elim (cases_Bool (is_plain b)) [
  | inl plain ↦
      let k : ℕ = prefix_len is_plain name in
      let len : prefix_len is_plain (b ∷ name) ≡ suc k = cond-true (is_plain b) (1 + k) 0 plain ∙ omega arith in
      let p = first_piece-plain (b ∷ name) (plain_is b plain).0 (plain_is b plain).1 in
      let one : (first_piece (b ∷ name)).len ≡ 1 = ap (λ (q : Piece). q.len) p in
      let step : chars_left (b ∷ name) ≡ b ∷ chars_left name =
      chars_left-step (b ∷ name) (omega arith) (omega (arith, one))
      ∙ ap (λ (q : Piece). q.chars ++ chars_left (drop q.len (b ∷ name))) p in
      step ∙ ap (λ (x : List ℕ). b ∷ x) (chars_left-plain name)
      ∙ ap (λ n. take n (b ∷ name) ++ chars_left (drop n (b ∷ name))) (sym len)
  | inr special ↦
      let len : prefix_len is_plain (b ∷ name) ≡ 0 = cond-false (is_plain b) (1 + prefix_len is_plain name) 0 special in
      ap (λ n. take n (b ∷ name) ++ chars_left (drop n (b ∷ name))) (sym len)
]

-- a name is what is left of it after its dropped `_`
pub name_chars-marked : (name : List ℕ) → starts_with nat_eq name (codes "_$") ≡ true → name_chars name ≡ chars_left (drop 1 name)
unfolding name_chars chars_left
name_chars-marked name h =
    ap (λ k. flat_map (λ (p : Piece). p.chars) (pieces k name)) (cond-true (starts_with nat_eq name (codes "_$")) 1 0 h)
    ∙ ap (λ (ps : List Piece). flat_map (λ p. p.chars) ps) (pieces-skip 1 name)

pub name_chars-unmarked : (name : List ℕ) → starts_with nat_eq name (codes "_$") ≡ false → name_chars name ≡ chars_left name
unfolding name_chars chars_left
name_chars-unmarked name h =
    ap (λ k. flat_map (λ (p : Piece). p.chars) (pieces k name)) (cond-false (starts_with nat_eq name (codes "_$")) 1 0 h)

-- a name begins with a numbered escape
pub record IsNumbered (name : List ℕ) : Type 0 where
  pub begins : starts_with nat_eq name (codes "$u") ≡ true
  pub some : 0 < prefix_len is_hex_digit (drop 2 name)
  pub ends : get_or name (2 + prefix_len is_hex_digit (drop 2 name)) 0 ≡ 36
  pub printed : is_printed (digits_value 16 (take (prefix_len is_hex_digit (drop 2 name)) (drop 2 name))) ≡ true

len_of_run : (xs : List ℕ) → length (take (prefix_len is_hex_digit xs) xs) ≡ prefix_len is_hex_digit xs
len_of_run xs = omega (arith, length-take (prefix_len is_hex_digit xs) xs, prefix_len-le-length is_hex_digit xs)

-- the same as a test
abbrev is_numbered : List ℕ → Bool
is_numbered name =
    starts_with nat_eq name (codes "$u") && ltb 0 (length (take_while is_hex_digit (drop 2 name)))
    && eqb (get_or name (2 + length (take_while is_hex_digit (drop 2 name))) 0) 36
    && is_printed (digits_value 16 (take_while is_hex_digit (drop 2 name)))

pub numbered-some : (name : List ℕ) → IsNumbered name
    → numbered_escape name ≡ Some (record {
      len = 3 + prefix_len is_hex_digit (drop 2 name);
      chars = digits_value 16 (take (prefix_len is_hex_digit (drop 2 name)) (drop 2 name)) ∷ [];
    })
unfolding numbered_escape
numbered-some name is =
    let n : ℕ = prefix_len is_hex_digit (drop 2 name) in
    let len = len_of_run (drop 2 name) in
    cond-true _ _ _ (and_from _ _ (and_from _ _ (and_from _ _ is.begins (lt-ltb 0 _ (omega (arith, len, is.some))))
    (eq-eqb _ 36 (ap (λ k. get_or name (2 + k) 0) len ∙ is.ends))) is.printed)
    ∙ ap (λ (k : ℕ). Some (let p : Piece = record { len = 3 + k; chars = digits_value 16 (take n (drop 2 name)) ∷ [] } in p)) len

pub numbered-none : (name : List ℕ) → (IsNumbered name → ⊥) → numbered_escape name ≡ None
unfolding numbered_escape
numbered-none name lacks =
    let len = len_of_run (drop 2 name) in
    cond-false (is_numbered name) _ _ (false_from_ne_true (is_numbered name) (λ h.
    let ds : List ℕ = take_while is_hex_digit (drop 2 name) in
    let u : Bool = starts_with nat_eq name (codes "$u") in
    let some : Bool = ltb 0 (length ds) in
    let ends : Bool = eqb (get_or name (2 + length ds) 0) 36 in
    let abc = and_parts (u && some && ends) (is_printed (digits_value 16 ds)) h in
    let ab = and_parts (u && some) ends abc.0 in
    let a = and_parts u some ab.0 in
    lacks (record {
      begins = a.0;
      some = omega (arith, len, ltb-true 0 _ a.1);
      ends = ap (λ k. get_or name (2 + k) 0) (sym len) ∙ eqb-true _ 36 ab.1;
      printed = abc.1;
    })))

-- an escape that has a name, or none
or-none : (e : Option Piece) → option_or e None ≡ e
or-none None = refl
or-none (Some p) = refl

pub first_piece-named : (name : List ℕ) → get_or name 0 0 ≡ 36 → starts_with nat_eq name (codes "$u") ≡ false
    → first_piece name ≡ piece_or_all name (named_escape name)
unfolding first_piece
first_piece-named name dollar h =
    cond-false (starts_with nat_eq name (codes "..")) _ _ (begins-not name (codes "..") (λ e. absurd (omega (arith, e, dollar))) (omega arith))
    ∙ cond-true (starts_with nat_eq name (codes "$")) _ _ (begins_dollar name dollar)
    ∙ ap (λ (e : Option Piece). piece_or_all name (option_or (named_escape name) e)) (numbered-none name (λ is. false≢true (sym h ∙ is.begins)))
    ∙ ap (piece_or_all name) (or-none (named_escape name))

-- a number that is held at 0x110000 is printed where the number itself is
not_printed_past : (v : ℕ) → 0x110000 ≤ v → is_printed v ≡ false
not_printed_past v h = grind (arith, nat_tests)

pub printed_held : (v r : ℕ) → r ≡ min v 0x110000 → is_printed r ≡ true → v ≡ r
printed_held v r e h = elim (cases_eq r 0x110000) [
  | inl top ↦ absurd (false≢true (sym (ap is_printed top) ∙ h))
  | inr ne ↦ omega (arith, e, ne)
]

pub not_printed_held : (v r : ℕ) → r ≡ min v 0x110000 → is_printed r ≡ false → is_printed v ≡ false
not_printed_held v r e h = elim (cases_lt v 0x110000) [
  | inl below ↦ ap is_printed (let same : v ≡ r = omega (arith, e, below) in same) ∙ h
  | inr past ↦ not_printed_past v past
]

-- one round of the writer: the plain bytes at the front of what is left, and the piece after them
pub written_step : (u : List ℕ) (k n : ℕ) (w text more : List ℕ) → IsAscii u → k ≡ prefix_len is_plain u → w ≡ drop k u
    → 0 < length w → n ≡ (first_piece w).len → 0 < n
    → more ≡ (text ++ take k u) ++ encode_utf8_all (first_piece w).chars
    → more ++ encode_utf8_all (chars_left (drop n w)) ≡ text ++ encode_utf8_all (chars_left u)
written_step u k n w text more ascii run is some len pos wrote =
    let rest : List ℕ = chars_left (drop n w) in
    let step : chars_left w ≡ (first_piece w).chars ++ rest =
    chars_left-step w some (omega (arith, len, pos)) ∙ ap (λ j. (first_piece w).chars ++ chars_left (drop j w)) (sym len) in
    let all : chars_left u ≡ take k u ++ ((first_piece w).chars ++ rest) =
    chars_left-plain u ∙ ap (λ j. take j u ++ chars_left (drop j u)) (sym run)
    ∙ ap (λ (x : List ℕ). take k u ++ chars_left x) (sym is) ∙ ap (λ (x : List ℕ). take k u ++ x) step in
    let same : encode_utf8_all (chars_left u) ≡ take k u ++ (encode_utf8_all (first_piece w).chars ++ encode_utf8_all rest) =
    ap encode_utf8_all all ∙ encodes-append (take k u) ((first_piece w).chars ++ rest)
    ∙ ap (λ (x : List ℕ). x ++ encode_utf8_all ((first_piece w).chars ++ rest)) (encodes-IsAscii (take k u) (IsAscii-take u k ascii))
    ∙ ap (λ (x : List ℕ). take k u ++ x) (encodes-append (first_piece w).chars rest) in
    ap (λ (x : List ℕ). x ++ encode_utf8_all rest) wrote
    ∙ append_assoc (text ++ take k u) (encode_utf8_all (first_piece w).chars) (encode_utf8_all rest)
    ∙ append_assoc text (take k u) (encode_utf8_all (first_piece w).chars ++ encode_utf8_all rest)
    ∙ ap (λ (x : List ℕ). text ++ x) (sym same)

-- the last round: plain bytes alone
pub written_end : (u : List ℕ) (k : ℕ) → IsAscii u → k ≡ prefix_len is_plain u → length u ≤ k → take k u ≡ encode_utf8_all (chars_left u)
written_end u k ascii run past =
    let all : chars_left u ≡ take k u ++ [] =
    chars_left-plain u ∙ ap (λ j. take j u ++ chars_left (drop j u)) (sym run)
    ∙ ap (λ (x : List ℕ). take k u ++ chars_left x) (drop_all k u past) ∙ ap (λ (x : List ℕ). take k u ++ x) chars_left-nil in
    sym (ap encode_utf8_all (all ∙ append-nil (take k u)) ∙ encodes-IsAscii (take k u) (IsAscii-take u k ascii))
