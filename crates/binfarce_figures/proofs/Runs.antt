-- What is shown of a name, run after run.
use lib.Utf8.{encode}
use Rattle.std.proofs.Common.{◌≡◌, ◌⊎◌, inl, inr, ℕ, zero, suc, ◌+◌, ◌-◌, ◌<◌, ◌≤◌, true, false, eqb, leb, ltb, List, [], ◌∷◌, ◌++◌, length, take, drop, get_or, refl, sym, ap, subst, ◌∙◌, append-nil, append_assoc, arith, tests}
use Rattle.std.proofs.lemmas.Bool.{and_parts, and_right, both_ways, cases_lt, cond_both, false_from_ne_true, leb-true, ltb-false, ne_eqb, or_from, or_parts}
use Rattle.std.proofs.lemmas.List.{drop-take, drop_more, nil_from_length, take-append-drop, take-take}
use Rattle.std.proofs.lemmas.List.Folds.{list_any-append}
use Rattle.std.proofs.lemmas.Str.{IsCharBoundary-before_ascii, IsCharBoundary-end, IsUtf8-drop, IsUtf8-take, chars-append, chars_past_char, encode_ascii, encodes-append, encodes-chars}
use Rattle.std.specs.List.{list_any}
use Rattle.std.specs.Prelude.{encode_utf8, encode_utf8_all}
use Rattle.std.specs.Str.{IsCharBoundary, IsUtf8, chars}
use Rattle.binfarce_figures.specs.declared.generic.Shape.{Shape}
use Rattle.binfarce_figures.specs.declared.generic.Shape.TheVariants.{Generic, Stack}
use Rattle.binfarce_figures.specs.Generic.{closes, depth_after, is_of_path, opens, shown, shown_after}
use Rattle.binfarce_figures.specs.machine.Runs.{IsRun, is_mark, last_of, run_shown}

-- a mark is ASCII
pub mark_is_ascii : (depth c : ℕ) → is_mark depth c ≡ true → c < 128
mark_is_ascii zero c e = let below = leb-true c 61 (and_parts (leb 58 c) (leb c 61) e).1 in omega arith
mark_is_ascii (suc depth) c e = let below = leb-true c 62 (and_parts (leb 59 c) (leb c 62) e).1 in omega arith

past_ascii : (depth c : ℕ) → 128 ≤ c → is_mark depth c ≡ false
past_ascii depth c l = false_from_ne_true (is_mark depth c) (λ e. let below = mark_is_ascii depth c e in absurd (omega arith))

char_free : (depth c : ℕ) → (c < 128) ⊎ (128 ≤ c) → list_any (is_mark depth) (encode_utf8 c) ≡ false → is_mark depth c ≡ false
char_free depth c (inl l) e = (or_parts (is_mark depth c) false (ap (list_any (is_mark depth)) (sym (encode_ascii c l)) ∙ e)).0
char_free depth c (inr l) e = past_ascii depth c l

-- where no byte is a mark, no character is
chars_free : (depth : ℕ) (cs : List ℕ) → list_any (is_mark depth) (encode_utf8_all cs) ≡ false → list_any (is_mark depth) cs ≡ false
chars_free depth [] e = refl
chars_free depth (c ∷ cs) e =
    let parts = or_parts _ _ (sym (list_any-append (is_mark depth) (encode_utf8 c) (encode_utf8_all cs)) ∙ e) in
    or_from _ _ (char_free depth c (cases_lt c 128) parts.0) (chars_free depth cs parts.1)

unlike : (depth c mark : ℕ) → is_mark depth mark ≡ true → is_mark depth c ≡ false → eqb c mark ≡ false
unlike depth c mark marked plain = ne_eqb c mark (λ e. both_ways (is_mark depth c) plain (ap (is_mark depth) e ∙ marked))

one_shown : (shape : Shape) (depth before c : ℕ) → is_mark depth c ≡ false → shown shape depth before c ≡ run_shown shape depth (c ∷ [])
one_shown Generic zero before c plain = rw (unlike zero c 60 refl plain) refl
one_shown Generic (suc depth) before c plain = refl
one_shown Stack zero before c plain = rw (unlike zero c 59 refl plain, unlike zero c 58 refl plain) refl
one_shown Stack (suc depth) before c plain = rw (unlike (suc depth) c 59 refl plain, and_right (eqb c 58) (eqb (suc depth) 0) (ne_eqb (suc depth) 0 (λ e. absurd (omega arith)))) refl

one_depth : (shape : Shape) (depth before c : ℕ) → is_mark depth c ≡ false → depth_after shape depth before c ≡ depth
one_depth Generic zero before c plain = rw (unlike zero c 60 refl plain) refl
one_depth Stack zero before c plain = rw (unlike zero c 60 refl plain) refl
one_depth shape (suc depth) before c plain = rw (unlike (suc depth) c 60 refl plain, unlike (suc depth) c 62 refl plain) refl

shown_nil : (shape : Shape) (depth : ℕ) → run_shown shape depth [] ≡ []
shown_nil Generic zero = refl
shown_nil Generic (suc depth) = refl
shown_nil Stack depth = refl

shown_more : (shape : Shape) (depth c : ℕ) (cs : List ℕ) → run_shown shape depth (c ∷ []) ++ run_shown shape depth cs ≡ run_shown shape depth (c ∷ cs)
shown_more Generic zero c cs = refl
shown_more Generic (suc depth) c cs = refl
shown_more Stack depth c cs = refl

run : (shape : Shape) (depth before : ℕ) (cs others : List ℕ) → list_any (is_mark depth) cs ≡ false
    → shown_after shape depth before (cs ++ others) ≡ run_shown shape depth cs ++ shown_after shape depth (last_of before cs) others
run shape depth before [] others e = ap (λ (t : List ℕ). t ++ shown_after shape depth before others) (sym (shown_nil shape depth))
run shape depth before (c ∷ cs) others e =
    let plain = or_parts (is_mark depth c) (list_any (is_mark depth) cs) e in
    let front = run_shown shape depth (c ∷ []) in
    let rest = shown_after shape depth (last_of c cs) others in
    ap (λ (t : List ℕ). t ++ shown_after shape (depth_after shape depth before c) c (cs ++ others)) (one_shown shape depth before c plain.0)
    ∙ ap (λ (d : ℕ). front ++ shown_after shape d c (cs ++ others)) (one_depth shape depth before c plain.0)
    ∙ ap (λ (t : List ℕ). front ++ t) (run shape depth c cs others plain.1)
    ∙ sym (append_assoc front (run_shown shape depth cs) rest)
    ∙ ap (λ (t : List ℕ). t ++ rest) (shown_more shape depth c cs)

encoded : (shape : Shape) (depth : ℕ) (bytes : List ℕ) → IsUtf8 bytes → encode_utf8_all (run_shown shape depth (chars bytes)) ≡ run_shown shape depth bytes
encoded Generic zero bytes utf8 = encodes-chars bytes utf8
encoded Generic (suc depth) bytes utf8 = refl
encoded Stack depth bytes utf8 = encodes-chars bytes utf8

-- for what is shown after them, characters outside ASCII are alike
abbrev AreAlike : ℕ → ℕ → Type 0
AreAlike a b = (a ≡ b) ⊎ ((128 ≤ a) × (128 ≤ b))

past : (c mark : ℕ) → 128 ≤ c → mark < 128 → eqb c mark ≡ false
past c mark l small = ne_eqb c mark (λ e. absurd (omega arith))

has_arguments : (c : ℕ) → 128 ≤ c → is_of_path c ≡ true
has_arguments c l = grind (arith, tests)

shown_past : (shape : Shape) (depth before c : ℕ) → 128 ≤ before → shown shape depth before c ≡ shown shape depth 128 c
shown_past Generic zero before c l = rw (has_arguments before l) refl
shown_past Generic (suc depth) before c l = refl
shown_past Stack depth before c l = rw (past before 58 l (omega arith)) refl

depth_past : (shape : Shape) (depth before c : ℕ) → 128 ≤ before → depth_after shape depth before c ≡ depth_after shape depth 128 c
depth_past Generic zero before c l = rw (has_arguments before l) refl
depth_past Stack zero before c l = refl
depth_past shape (suc depth) before c l = rw (past before 45 l (omega arith)) refl

after_past : (shape : Shape) (depth before : ℕ) (cs : List ℕ) → 128 ≤ before → shown_after shape depth before cs ≡ shown_after shape depth 128 cs
after_past shape depth before [] l = refl
after_past shape depth before (c ∷ cs) l = rw (shown_past shape depth before c l, depth_past shape depth before c l) refl

after_alike : (shape : Shape) (depth a b : ℕ) (cs : List ℕ) → AreAlike a b → shown_after shape depth a cs ≡ shown_after shape depth b cs
after_alike shape depth a b cs (inl e) = ap (λ (n : ℕ). shown_after shape depth n cs) e
after_alike shape depth a b cs (inr l) = after_past shape depth a cs l.0 ∙ sym (after_past shape depth b cs l.1)

alike_then : (a b c : ℕ) → AreAlike a b → AreAlike b c → AreAlike a c
alike_then a b c (inl e) (inl f) = inl (e ∙ f)
alike_then a b c (inl e) (inr l) = inr (omega arith, l.1)
alike_then a b c (inr l) (inl f) = inr (l.0, omega arith)
alike_then a b c (inr l) (inr m) = inr (l.0, m.1)

last_alike : (a b : ℕ) (cs : List ℕ) → AreAlike a b → AreAlike (last_of a cs) (last_of b cs)
last_alike a b [] h = h
last_alike a b (c ∷ cs) h = inl refl

last_append : (before : ℕ) (xs ys : List ℕ) → last_of before (xs ++ ys) ≡ last_of (last_of before xs) ys
last_append before [] ys = refl
last_append before (x ∷ xs) ys = last_append x xs ys

-- the last byte of a character
last_of_char : (before c : ℕ) → AreAlike (last_of before (encode_utf8 c)) c
unfolding encode
last_of_char before c =
    cond_both (ltb c 128) (c ∷ []) _ (λ (bytes : List ℕ). AreAlike (last_of before bytes) c) (λ _. inl refl)
    (λ large. let far = ltb-false c 128 large in
    cond_both (ltb c 2048) _ _ (λ (bytes : List ℕ). AreAlike (last_of before bytes) c) (λ _. inr (omega arith, far))
    (λ _. cond_both (ltb c 65536) _ _ (λ (bytes : List ℕ). AreAlike (last_of before bytes) c) (λ _. inr (omega arith, far)) (λ _. inr (omega arith, far))))

last_of_chars : (before : ℕ) (cs : List ℕ) → AreAlike (last_of before (encode_utf8_all cs)) (last_of before cs)
last_of_chars before [] = inl refl
last_of_chars before (c ∷ cs) =
    let at = last_of before (encode_utf8 c) in
    subst (λ (n : ℕ). AreAlike n (last_of c cs)) (sym (last_append before (encode_utf8 c) (encode_utf8_all cs)))
    (alike_then _ _ _ (last_of_chars at cs) (last_alike at c cs (last_of_char before c)))

-- what is shown of a run, and then of the characters after it
pub run_comes_first : (shape : Shape) (depth before : ℕ) (text bytes others : List ℕ) → IsUtf8 bytes → list_any (is_mark depth) bytes ≡ false
    → (text ++ run_shown shape depth bytes) ++ encode_utf8_all (shown_after shape depth (last_of before bytes) others)
    ≡ text ++ encode_utf8_all (shown_after shape depth before (chars bytes ++ others))
run_comes_first shape depth before text bytes others utf8 plain =
    let cs = chars bytes in
    let first = run_shown shape depth cs in
    let rest = shown_after shape depth (last_of before cs) others in
    let spelled : encode_utf8_all cs ≡ bytes = encodes-chars bytes utf8 in
    let alike : AreAlike (last_of before bytes) (last_of before cs) = subst (λ (t : List ℕ). AreAlike (last_of before t) (last_of before cs)) spelled (last_of_chars before cs) in
    let free : list_any (is_mark depth) cs ≡ false = chars_free depth cs (ap (list_any (is_mark depth)) spelled ∙ plain) in
    ap (λ (t : List ℕ). (text ++ run_shown shape depth bytes) ++ encode_utf8_all t) (after_alike shape depth (last_of before bytes) (last_of before cs) others alike)
    ∙ ap (λ (t : List ℕ). (text ++ t) ++ encode_utf8_all rest) (sym (encoded shape depth bytes utf8))
    ∙ append_assoc text (encode_utf8_all first) (encode_utf8_all rest)
    ∙ ap (λ (t : List ℕ). text ++ t) (sym (encodes-append first rest) ∙ ap encode_utf8_all (sym (run shape depth before cs others free)))

last_by_index : (before b d : ℕ) (bytes : List ℕ) → last_of before (b ∷ bytes) ≡ get_or (b ∷ bytes) (length bytes) d
last_by_index before b d [] = refl
last_by_index before b d (c ∷ bytes) = last_by_index b c d bytes

-- the last byte, by its index
pub last_is : (before d : ℕ) (bytes : List ℕ) → 0 < length bytes → last_of before bytes ≡ get_or bytes (length bytes - 1) d
last_is before d [] some = absurd (omega arith)
last_is before d (b ∷ bytes) some = last_by_index before b d bytes ∙ ap (λ (k : ℕ). get_or (b ∷ bytes) k d) (omega arith)

-- no mark in the next bytes
pub more_plain : (depth len width k : ℕ) (bytes : List ℕ) → k ≡ width → list_any (is_mark depth) (take len bytes) ≡ false → list_any (is_mark depth) (take k (drop len bytes)) ≡ false
    → list_any (is_mark depth) (take (len + width) bytes) ≡ false
more_plain depth len width k bytes e before next =
    let all = take (len + width) bytes in
    let front : take len all ≡ take len bytes = take-take len (len + width) bytes (omega arith) in
    let back : drop len all ≡ take k (drop len bytes) = drop-take len width bytes ∙ ap (λ (n : ℕ). take n (drop len bytes)) (sym e) in
    ap (list_any (is_mark depth)) (sym (take-append-drop len all)) ∙ list_any-append (is_mark depth) (take len all) (drop len all)
    ∙ or_from _ _ (ap (list_any (is_mark depth)) front ∙ before) (ap (list_any (is_mark depth)) back ∙ next)

-- the characters of a text, where a run of n bytes comes first
pub chars_of_run : (bytes : List ℕ) (n : ℕ) → IsUtf8 bytes → IsCharBoundary bytes n → chars bytes ≡ chars (take n bytes) ++ chars (drop n bytes)
chars_of_run bytes n utf8 boundary = ap chars (sym (take-append-drop n bytes)) ∙ chars-append (take n bytes) (drop n bytes) (IsUtf8-take bytes n utf8 boundary)

-- a mark is shown after the run
pub past_mark : (shape : Shape) (all text new : List ℕ) (depth before c : ℕ) (rest : List ℕ) → new ≡ text ++ encode_utf8_all (shown shape depth before c)
    → text ++ encode_utf8_all (shown_after shape depth before (c ∷ rest)) ≡ all → new ++ encode_utf8_all (shown_after shape (depth_after shape depth before c) c rest) ≡ all
past_mark shape all text new depth before c rest grown due =
    let here = shown shape depth before c in
    let others = shown_after shape (depth_after shape depth before c) c rest in
    ap (λ (t : List ℕ). t ++ encode_utf8_all others) grown ∙ append_assoc text (encode_utf8_all here) (encode_utf8_all others) ∙ ap (λ (t : List ℕ). text ++ t) (sym (encodes-append here others)) ∙ due

ends : (depth : ℕ) (rest : List ℕ) (n : ℕ) → IsRun depth rest n → (n < length rest) ⊎ (length rest ≤ n) → IsCharBoundary rest n
ends depth rest n is (inl l) = IsCharBoundary-before_ascii rest n l (mark_is_ascii depth (get_or rest n 0) (is.mark l))
ends depth rest n is (inr l) = let within = is.within in subst (IsCharBoundary rest) (omega arith) (IsCharBoundary-end rest)

module _ (depth : ℕ) (rest : List ℕ) (n : ℕ) (is : IsRun depth rest n) where
  -- a text may be cut after a run
  pub run_ends : IsCharBoundary rest n
  run_ends = ends depth rest n is (cases_lt n (length rest))

  pub after_run : (shape : Shape) (before : ℕ) (text new all : List ℕ) → IsUtf8 rest → new ≡ text ++ run_shown shape depth (take n rest)
      → text ++ encode_utf8_all (shown_after shape depth before (chars rest)) ≡ all
      → new ++ encode_utf8_all (shown_after shape depth (last_of before (take n rest)) (chars (drop n rest))) ≡ all
  after_run shape before text new all utf8 grown due =
      let others = chars (drop n rest) in
      ap (λ (t : List ℕ). t ++ encode_utf8_all (shown_after shape depth (last_of before (take n rest)) others)) grown
      ∙ run_comes_first shape depth before text (take n rest) others (IsUtf8-take rest n utf8 run_ends) is.plain
      ∙ ap (λ (cs : List ℕ). text ++ encode_utf8_all (shown_after shape depth before cs)) (sym (chars_of_run rest n utf8 run_ends))
      ∙ due

  -- the characters after a run, where a mark comes next
  pub mark_comes : n < length rest → IsUtf8 rest → chars (drop n rest) ≡ get_or rest n 0 ∷ chars (drop (n + 1) rest)
  mark_comes l utf8 =
      let c = get_or rest n 0 in
      chars_past_char (drop n rest) (drop (n + 1) rest) c (IsUtf8-drop rest n utf8 run_ends) (drop_more rest n 0 l ∙ ap (λ (t : List ℕ). t ++ drop (n + 1) rest) (sym (encode_ascii c (mark_is_ascii depth c (is.mark l)))))

-- where no byte is left, the text is whole
pub all_shown : (shape : Shape) (depth before : ℕ) (text all rest : List ℕ) → length rest ≡ 0 → text ++ encode_utf8_all (shown_after shape depth before (chars rest)) ≡ all → text ≡ all
unfolding chars
all_shown shape depth before text all rest none due =
    sym (append-nil text) ∙ ap (λ (bytes : List ℕ). text ++ encode_utf8_all (shown_after shape depth before (chars bytes))) (sym (nil_from_length rest none)) ∙ due

-- a character opens one bracket at most
pub depth_grows : (shape : Shape) (depth before c : ℕ) → depth_after shape depth before c ≤ depth + 1
depth_grows shape zero before c = cond_both (opens shape before c) 1 0 (λ (n : ℕ). n ≤ 1) (λ _. omega arith) (λ _. omega arith)
depth_grows shape (suc depth) before c =
    let P : ℕ → Type 0 = λ n. n ≤ suc depth + 1 in
    cond_both (eqb c 60) _ _ P (λ _. omega arith) (λ _. cond_both (closes before c) depth (suc depth) P (λ _. omega arith) (λ _. omega arith))
