-- Counted elements: what a text that reads as them begins with, and that it reads so in one way.
use Rattle.std.proofs.Common.{◌≡◌, ℕ, ◌+◌, Bool, true, List, [], ◌∷◌, ◌++◌, length, get_or, drop, take, refl, ap, sym, ◌∙◌, arith, length-drop, length-append}
use Rattle.std.proofs.lemmas.Bool.{false≢true}
use Rattle.std.proofs.lemmas.List.{take-append-drop, take-take, drop-drop, drop-take, drop_at, take_at, length-take-le}
use Rattle.std.proofs.lemmas.List.Sums.{prefix_len-le-length, prefix_len_passes}
use Rattle.std.specs.Char.{is_ascii_digit}
use Rattle.std.specs.List.{prefix_len, take_while}
use Rattle.std.specs.Str.Parse.{digits_value}
use Rattle.binfarce_legacy.specs.Legacy.{Element, IsCounted, Reads, ends_in_hash, is_hash, mangled}
use Rattle.binfarce_legacy.specs.machine.Reading.{name_start, name_end, HasElement}

-- the element that a text begins with
unfoldable pub first : List ℕ → Element
first text = record {
  digits = take (name_start text) text;
  name = take (digits_value 10 (take (name_start text) text)) (drop (name_start text) text);
}

-- a counted element at the start of a text is that one
pub record IsFirst (text : List ℕ) (e : Element) (after : List ℕ) : Type 0 where
  pub fits : HasElement text
  pub digits : e.digits ≡ take (name_start text) text
  pub name : e.name ≡ take (digits_value 10 (take (name_start text) text)) (drop (name_start text) text)
  pub after_is : after ≡ drop (name_end text) text

pub first_is : (text : List ℕ) (e : Element) (after : List ℕ) → IsCounted e after
    → text ≡ e.digits ++ (e.name ++ after) → IsFirst text e after
unfolding name_start name_end
first_is text e after counted is =
    let n : ℕ = prefix_len is_ascii_digit text in
    let ds : e.digits ≡ take n text = counted.longest ∙ ap (take_while is_ascii_digit) (sym is) in
    let len : length e.digits ≡ n = ap length ds ∙ length-take-le n text (prefix_len-le-length is_ascii_digit text) in
    let rest : drop n text ≡ e.name ++ after = ap (drop n) is ∙ drop_at e.digits (e.name ++ after) n len in
    let v : length e.name ≡ digits_value 10 (take n text) = counted.counts ∙ ap (digits_value 10) ds in
    let all : length text ≡ length e.digits + (length e.name + length after) =
    ap length is ∙ length-append e.digits (e.name ++ after) ∙ ap (λ k. length e.digits + k) (length-append e.name after) in
    record {
      fits = (omega (arith, counted.not_empty, len), omega (arith, all, len, v));
      digits = ds;
      name = sym (ap (take (digits_value 10 (take n text))) rest ∙ take_at e.name after (digits_value 10 (take n text)) v);
      after_is = sym (sym (drop-drop (digits_value 10 (take n text)) n text) ∙ ap (drop (digits_value 10 (take n text))) rest ∙ drop_at e.name after (digits_value 10 (take n text)) v);
    }

-- the text after a first element reads as the others
pub reads_after : (text : List ℕ) (e : Element) (elements : List Element) (rest : List ℕ)
    → Reads text (e ∷ elements) rest → Reads (drop (name_end text) text) elements rest
reads_after text e elements rest r =
    (r.0.1, sym (first_is text e (mangled elements rest) r.0.0 r.1).after_is)

pub reads_fits : (text : List ℕ) (e : Element) (elements : List Element) (rest : List ℕ)
    → Reads text (e ∷ elements) rest → HasElement text
reads_fits text e elements rest r = (first_is text e (mangled elements rest) r.0.0 r.1).fits

pub reads_name : (text : List ℕ) (e : Element) (elements : List Element) (rest : List ℕ)
    → Reads text (e ∷ elements) rest
    → e.name ≡ take (digits_value 10 (take (name_start text) text)) (drop (name_start text) text)
reads_name text e elements rest r = (first_is text e (mangled elements rest) r.0.0 r.1).name

-- with a first element before them, elements read as one more
pub reads_more : (text : List ℕ) (elements : List Element) (rest : List ℕ) → HasElement text
    → Reads (drop (name_end text) text) elements rest → Reads text (first text ∷ elements) rest
unfolding name_start name_end first
reads_more text elements rest fits r =
    let n : ℕ = prefix_len is_ascii_digit text in
    let v : ℕ = digits_value 10 (take n text) in
    let after : drop v (drop n text) ≡ mangled elements rest = drop-drop v n text ∙ r.1 in
    let is : text ≡ take n text ++ (take v (drop n text) ++ mangled elements rest) =
    sym (take-append-drop n text) ∙ ap (λ (x : List ℕ). take n text ++ x) (sym (take-append-drop v (drop n text)) ∙ ap (λ (x : List ℕ). take v (drop n text) ++ x) after) in (
      (
        record {
          longest = ap (take_while is_ascii_digit) is;
          not_empty = omega (arith, fits.0, length-take-le n text (prefix_len-le-length is_ascii_digit text));
          counts = length-take-le v (drop n text) (omega (arith, fits.1, length-drop n text));
        },
        r.0,
      ),
      is,
    )

-- an `E` is no digit, and begins no element
pub not_digit : (x : ℕ) → x ≡ 69 → is_ascii_digit x ≡ true → ⊥
not_digit x e h = false≢true (sym (ap is_ascii_digit e) ∙ h)

pub reads_end : (text : List ℕ) (elements : List Element) (rest : List ℕ) → get_or text 0 0 ≡ 69
    → Reads text elements rest → (elements ≡ []) × (rest ≡ drop 1 text)
unfolding name_start
reads_end text [] rest e r = (refl, sym (ap (drop 1) r.1))
reads_end text (x ∷ elements) rest e r =
    absurd (not_digit (get_or text 0 0) e (prefix_len_passes is_ascii_digit text 0 0 (reads_fits text x elements rest r).0))

pub reads_end_from : (text : List ℕ) → get_or text 0 0 ≡ 69 → Reads text [] (drop 1 text)
reads_end_from [] e = absurd (omega (arith, e))
reads_end_from (b ∷ text) e = (tt, ap (λ (x : ℕ). x ∷ text) e)

-- with no `E` in its position there is an element
pub reads_element : (text : List ℕ) (elements : List Element) (rest : List ℕ) → (get_or text 0 0 ≡ 69 → ⊥)
    → Reads text elements rest → HasElement text
reads_element text [] rest ne r = absurd (ne (ap (λ (x : List ℕ). get_or x 0 0) r.1))
reads_element text (x ∷ elements) rest ne r = reads_fits text x elements rest r

-- nothing reads as elements without their `E`
pub reads_nil : (elements : List Element) (rest : List ℕ) → Reads [] elements rest → ⊥
unfolding name_start
reads_nil elements rest r = let h = reads_element [] elements rest (λ e. absurd (omega (arith, e))) r in absurd (omega (arith, h.0))

same_element : (x y : Element) → x.digits ≡ y.digits → x.name ≡ y.name → x ≡ y
same_element x y d n =
    let make : List ℕ → List ℕ → Element = λ ds ns. record { digits = ds; name = ns } in
    ap (λ ds. make ds x.name) d ∙ ap (λ ns. make y.digits ns) n

-- a text has only one list of elements, and one rest after them
pub reads_one_way : (text : List ℕ) (xs ys : List Element) (r s : List ℕ) → Reads text xs r → Reads text ys s → (xs ≡ ys) × (r ≡ s)
reads_one_way text [] ys r s a b =
    let e = reads_end text ys s (ap (λ (x : List ℕ). get_or x 0 0) a.1) b in
    (sym e.0, sym (ap (drop 1) a.1) ∙ sym e.1)
reads_one_way text (x ∷ xs) [] r s a b =
    let e = reads_end text (x ∷ xs) r (ap (λ (x : List ℕ). get_or x 0 0) b.1) a in cc
reads_one_way text (x ∷ xs) (y ∷ ys) r s a b =
    let others = reads_one_way (drop (name_end text) text) xs ys r s (reads_after text x xs r a) (reads_after text y ys s b) in
    let fx = first_is text x (mangled xs r) a.0.0 a.1 in
    let fy = first_is text y (mangled ys s) b.0.0 b.1 in
    let same : x ≡ y = same_element x y (fx.digits ∙ sym fy.digits) (fx.name ∙ sym fy.name) in
    (cc, others.1)

-- after a first element the others are read
pub reads_tail : (text : List ℕ) (elements : List Element) (rest : List ℕ) → (get_or text 0 0 ≡ 69 → ⊥)
    → Reads text elements rest → (others : List Element) × Reads (drop (name_end text) text) others rest
reads_tail text [] rest ne r = absurd (ne (ap (λ (x : List ℕ). get_or x 0 0) r.1))
reads_tail text (x ∷ elements) rest ne r = (elements, reads_after text x elements rest r)

-- as it is written, that element is the text up to its end
pub first_written : (text : List ℕ) → (first text).digits ++ (first text).name ≡ take (name_end text) text
unfolding name_start name_end first
first_written text =
    let n : ℕ = prefix_len is_ascii_digit text in
    let v : ℕ = digits_value 10 (take n text) in
    sym (sym (take-append-drop n (take (n + v) text)) ∙ ap (λ (x : List ℕ). x ++ drop n (take (n + v) text)) (take-take n (n + v) text (omega arith)) ∙ ap (λ (x : List ℕ). take n text ++ x) (drop-take n v text))

-- of an element as it is written and the elements after it, the last is a hash
abbrev pub last_is_hash : List ℕ → List Element → Bool
last_is_hash written [] = is_hash written
last_is_hash written (e ∷ elements) = last_is_hash (e.digits ++ e.name) elements

pub ends_as_last : (elements : List Element) → ends_in_hash elements ≡ last_is_hash [] elements
ends_as_last [] = refl
ends_as_last (e ∷ []) = refl
ends_as_last (e ∷ (f ∷ elements)) = ends_as_last (f ∷ elements)
