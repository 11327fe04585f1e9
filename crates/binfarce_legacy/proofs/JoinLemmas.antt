-- Elements that are written one after the other, joined by `::`.
use Rattle.std.proofs.Common.{◌≡◌, ℕ, ◌+◌, ◌-◌, ◌<◌, true, cond, eqb, nat_eq, inl, inr, List, [], ◌∷◌, ◌++◌, get_or, drop, take, codes, ap, sym, ◌∙◌, arith, append_assoc, refl}
use Rattle.std.proofs.lemmas.Bool.{cases_eq, cond-true, cond-false, eq-eqb, ne_eqb}
use Rattle.std.proofs.lemmas.List.{drop-drop, append-nil}
use Rattle.std.proofs.lemmas.List.Sums.{prefix_len_passes}
use Rattle.std.proofs.lemmas.Str.{encodes-append, encodes-IsAscii}
use Rattle.std.proofs.lemmas.Str.Ascii.{IsAscii-cons, IsAscii-nil}
use Rattle.std.specs.Char.{is_ascii_digit}
use Rattle.std.specs.List.{flat_map, starts_with}
use Rattle.std.specs.Str.{encode_utf8_all}
use Rattle.std.specs.Str.Parse.{digits_value}
use Rattle.binfarce_legacy.specs.Legacy.{Element, Reads, first_piece, named_escape, pieces, name_chars, legacy_chars, IsFront}
use Rattle.binfarce_legacy.specs.machine.Reading.{name_start, name_end, HasElement}
use Rattle.binfarce_legacy.proofs.Left.{joined_left, IsLeft}
use Rattle.binfarce_legacy.proofs.ElementLemmas.{not_digit, reads_fits, reads_name, reads_after}
use Rattle.binfarce_text.proofs.TextLemmas.{begins}

-- what is written before an element: nothing before the first, `::` before any other
abbrev pub separator : ℕ → List ℕ
separator at = cond (eqb at 0) [] (codes "::")

pub separator-first : (at : ℕ) → at ≡ 0 → separator at ≡ []
separator-first at e = cond-true (eqb at 0) [] (codes "::") (eq-eqb at 0 e)

pub separator-later : (at : ℕ) → 0 < at → separator at ≡ codes "::"
separator-later at l = cond-false (eqb at 0) [] (codes "::") (ne_eqb at 0 (λ z. absurd (omega (arith, z, l))))

separator_ascii : (at : ℕ) → encode_utf8_all (separator at) ≡ separator at
separator_ascii at = elim (cases_eq at 0) [
  | inl e ↦ ap (λ b. encode_utf8_all (cond b [] (codes "::"))) (eq-eqb at 0 e) ∙ sym (ap (λ b. cond b [] (codes "::")) (eq-eqb at 0 e))
  | inr ne ↦ ap (λ b. encode_utf8_all (cond b [] (codes "::"))) (ne_eqb at 0 ne)
      ∙ encodes-IsAscii (codes "::") (IsAscii-cons 58 (58 ∷ []) (omega arith) (IsAscii-cons 58 [] (omega arith) IsAscii-nil))
      ∙ sym (ap (λ b. cond b [] (codes "::")) (ne_eqb at 0 ne))
]

-- what is left is its first element, and what is left after that
joined_left-step : (at end : ℕ) (e : Element) (others : List Element) → 0 < end
    → joined_left at (e ∷ others) ≡ separator at ++ (name_chars e.name ++ joined_left end others)
unfolding joined_left legacy_chars
joined_left-step at end e others pos =
    let more : List ℕ = flat_map (λ y. codes "::" ++ name_chars y.name) others in
    let rest : joined_left end others ≡ more = cond-false (eqb end 0) _ _ (ne_eqb end 0 (λ z. absurd (omega (arith, z, pos)))) in
    elim (cases_eq at 0) [
      | inl z ↦ cond-true (eqb at 0) _ _ (eq-eqb at 0 z)
          ∙ ap (λ (x : List ℕ). name_chars e.name ++ x) (sym rest)
          ∙ sym (ap (λ b. cond b [] (codes "::") ++ (name_chars e.name ++ joined_left end others)) (eq-eqb at 0 z))
      | inr ne ↦ cond-false (eqb at 0) _ _ (ne_eqb at 0 ne)
          ∙ append_assoc (codes "::") (name_chars e.name) more
          ∙ ap (λ (x : List ℕ). codes "::" ++ (name_chars e.name ++ x)) (sym rest)
          ∙ sym (ap (λ b. cond b [] (codes "::") ++ (name_chars e.name ++ joined_left end others)) (ne_eqb at 0 ne))
    ]

joined_left-nil : (at : ℕ) → joined_left at [] ≡ []
unfolding joined_left legacy_chars
joined_left-nil at = elim (cases_eq at 0) [
  | inl z ↦ cond-true (eqb at 0) _ _ (eq-eqb at 0 z)
  | inr ne ↦ cond-false (eqb at 0) _ _ (ne_eqb at 0 ne)
]

-- before the first element, all are left
pub left_at_start : (part before : List ℕ) (elements : List Element) (rest : List ℕ) → Reads part elements rest → IsLeft part 0 before before elements rest elements
unfolding joined_left
left_at_start part before elements rest r = record { ahead = r; printed_is = ([], sym (append-nil before)); joined = refl }

-- an element is written
pub left_step : (part : List ℕ) (at end : ℕ) (before printed more name : List ℕ) (elements : List Element) (rest : List ℕ) (left : List Element)
    → IsLeft part at before printed elements rest left → HasElement (drop at part) → end ≡ at + name_end (drop at part)
    → name ≡ take (digits_value 10 (take (name_start (drop at part)) (drop at part))) (drop (name_start (drop at part)) (drop at part))
    → more ≡ (printed ++ separator at) ++ encode_utf8_all (name_chars name)
    → (others : List Element) × IsLeft part end before more elements rest others
unfolding name_start name_end
left_step part at end before printed more name elements rest [] is has ends named wrote =
    absurd (not_digit (get_or (drop at part) 0 0) (ap (λ (x : List ℕ). get_or x 0 0) is.ahead.1) (prefix_len_passes is_ascii_digit (drop at part) 0 0 has.0))
left_step part at end before printed more name elements rest (e ∷ others) is has ends named wrote =
    let u : List ℕ = drop at part in
    let after = reads_after u e others rest is.ahead in
    let same : e.name ≡ name = reads_name u e others rest is.ahead ∙ sym named in
    let next : drop end part ≡ drop (name_end u) u = ap (λ k. drop k part) ends ∙ sym (drop-drop (name_end u) at part) in
    let later : List ℕ = joined_left end others in
    let step : encode_utf8_all (joined_left at (e ∷ others)) ≡ separator at ++ (encode_utf8_all (name_chars name) ++ encode_utf8_all later) =
    ap encode_utf8_all (joined_left-step at end e others (omega (arith, ends, has.0)) ∙ ap (λ (x : List ℕ). separator at ++ (name_chars x ++ later)) same)
    ∙ encodes-append (separator at) (name_chars name ++ later)
    ∙ ap (λ (x : List ℕ). x ++ encode_utf8_all (name_chars name ++ later)) (separator_ascii at)
    ∙ ap (λ (x : List ℕ). separator at ++ x) (encodes-append (name_chars name) later) in (
      others,
      record {
        ahead = (after.0, next ∙ after.1);
        printed_is = (
          is.printed_is.0 ++ (separator at ++ name_chars name),
          wrote ∙ append_assoc printed (separator at) (encode_utf8_all (name_chars name))
              ∙ ap (λ (x : List ℕ). x ++ (separator at ++ encode_utf8_all (name_chars name))) is.printed_is.1
              ∙ append_assoc before (encode_utf8_all is.printed_is.0) (separator at ++ encode_utf8_all (name_chars name))
              ∙ ap (λ (x : List ℕ). before ++ (encode_utf8_all is.printed_is.0 ++ (x ++ encode_utf8_all (name_chars name)))) (sym (separator_ascii at))
              ∙ ap (λ (x : List ℕ). before ++ (encode_utf8_all is.printed_is.0 ++ x)) (sym (encodes-append (separator at) (name_chars name)))
              ∙ ap (λ (x : List ℕ). before ++ x) (sym (encodes-append is.printed_is.0 (separator at ++ name_chars name))),
        );
        joined = ap (λ (x : List ℕ). x ++ encode_utf8_all later) wrote
            ∙ append_assoc (printed ++ separator at) (encode_utf8_all (name_chars name)) (encode_utf8_all later)
            ∙ append_assoc printed (separator at) (encode_utf8_all (name_chars name) ++ encode_utf8_all later)
            ∙ ap (λ (x : List ℕ). printed ++ x) (sym step)
            ∙ is.joined;
      },
    )

-- with no element left, all is written
pub left_at_end : (part : List ℕ) (at : ℕ) (before printed : List ℕ) (elements : List Element) (rest : List ℕ) (left : List Element)
    → IsLeft part at before printed elements rest left → (HasElement (drop at part) → ⊥) → printed ≡ before ++ encode_utf8_all (legacy_chars elements)
left_at_end part at before printed elements rest [] is no_more =
    sym (append-nil printed) ∙ ap (λ (x : List ℕ). printed ++ encode_utf8_all x) (sym (joined_left-nil at)) ∙ is.joined
left_at_end part at before printed elements rest (e ∷ others) is no_more = absurd (no_more (reads_fits (drop at part) e others rest is.ahead))

-- with no element, nothing is written
pub front_of_none : (part : List ℕ) (elements : List Element) (rest : List ℕ) → Reads part elements rest → (HasElement part → ⊥) → IsFront [] (encode_utf8_all (legacy_chars elements))
front_of_none part elements rest r none =
    inl (left_at_end part 0 [] [] elements rest elements (left_at_start part [] elements rest r) none)

-- the first element is written
first_left : (part : List ℕ) (end : ℕ) (printed name : List ℕ) (elements : List Element) (rest : List ℕ) → Reads part elements rest → HasElement part → end ≡ name_end part
    → name ≡ take (digits_value 10 (take (name_start part) part)) (drop (name_start part) part) → printed ≡ encode_utf8_all (name_chars name)
    → (others : List Element) × IsLeft part end [] printed elements rest others
unfolding name_end name_start
first_left part end printed name elements rest r has ends named wrote =
    left_step part 0 end [] [] printed name elements rest elements (left_at_start part [] elements rest r) has (ends ∙ omega arith) named wrote

-- the first element's name, as it is sliced
pub first_name : (part bytes : List ℕ) (start end : ℕ) (name : List ℕ) → bytes ≡ part → ◌≡◌ {A = ℕ × ℕ} (start, end) (0 + name_start bytes, 0 + name_end bytes) → name ≡ take (end - start) (drop start part)
    → (end ≡ name_end part) × (name ≡ take (digits_value 10 (take (name_start part) part)) (drop (name_start part) part))
unfolding name_end
first_name part bytes start end name same at slice =
    let first : start ≡ name_start part = omega (arith, ap (λ (p : ℕ × ℕ). p.0) at, ap name_start same) in
    let last : end ≡ name_end part = omega (arith, ap (λ (p : ℕ × ℕ). p.1) at, ap name_end same) in
    let v : ℕ = digits_value 10 (take (name_start part) part) in
    let len : end - start ≡ v = omega (arith, first, last) in
    (last, slice ∙ ap (λ j. take j (drop start part)) len ∙ ap (λ j. take v (drop j part)) first)

-- and is all that there is
pub front_of_one : (part : List ℕ) (end : ℕ) (printed name : List ℕ) (elements : List Element) (rest : List ℕ) → Reads part elements rest → HasElement part → end ≡ name_end part
    → name ≡ take (digits_value 10 (take (name_start part) part)) (drop (name_start part) part) → printed ≡ encode_utf8_all (name_chars name)
    → (HasElement (drop end part) → ⊥) → IsFront printed (encode_utf8_all (legacy_chars elements))
front_of_one part end printed name elements rest r has ends named wrote none =
    let left = first_left part end printed name elements rest r has ends named wrote in
    inl (left_at_end part end [] printed elements rest left.0 left.1 none)

before_another : (part : List ℕ) (end : ℕ) (printed : List ℕ) (elements : List Element) (rest : List ℕ) (left : List Element) → IsLeft part end [] printed elements rest left
    → 0 < end → HasElement (drop end part) → IsFront (printed ++ codes "::") (encode_utf8_all (legacy_chars elements))
unfolding name_start
before_another part end printed elements rest [] is pos has =
    absurd (not_digit (get_or (drop end part) 0 0) (ap (λ (x : List ℕ). get_or x 0 0) is.ahead.1) (prefix_len_passes is_ascii_digit (drop end part) 0 0 has.0))
before_another part end printed elements rest (e ∷ others) is pos has =
    let later : List ℕ = name_chars e.name ++ joined_left end others in
    let step : encode_utf8_all (joined_left end (e ∷ others)) ≡ codes "::" ++ encode_utf8_all later =
    ap encode_utf8_all (joined_left-step end end e others pos) ∙ encodes-append (separator end) later
    ∙ ap (λ (x : List ℕ). x ++ encode_utf8_all later) (separator_ascii end ∙ separator-later end pos) in
    inr (inl (printed, encode_utf8_all later, refl, sym is.joined ∙ ap (λ (x : List ℕ). printed ++ x) step ∙ sym (append_assoc printed (codes "::") (encode_utf8_all later))))

-- a name that begins with an escaped `<`
less_chars : (more : List ℕ) → name_chars (codes "_$LT$" ++ more) ≡ codes "<" ++ flat_map (λ p. p.chars) (pieces 0 more)
unfolding name_chars first_piece named_escape
less_chars more = refl

less_first : (name : List ℕ) → starts_with nat_eq name (codes "_$LT$") ≡ true → (more : List ℕ) × (encode_utf8_all (name_chars name) ≡ codes "<" ++ more)
less_first name less =
    let chars : List ℕ = flat_map (λ p. p.chars) (pieces 0 (drop 5 name)) in (
      encode_utf8_all chars,
      ap (λ (x : List ℕ). encode_utf8_all (name_chars x)) (begins name (codes "_$LT$") less)
          ∙ ap encode_utf8_all (less_chars (drop 5 name)) ∙ encodes-append (codes "<") chars
          ∙ ap (λ (x : List ℕ). x ++ encode_utf8_all chars) (encodes-IsAscii (codes "<") (IsAscii-cons 60 [] (omega arith) IsAscii-nil)),
    )

pub front_of_less : (part : List ℕ) (end : ℕ) (name : List ℕ) (elements : List Element) (rest : List ℕ) → Reads part elements rest → HasElement part → end ≡ name_end part
    → name ≡ take (digits_value 10 (take (name_start part) part)) (drop (name_start part) part) → starts_with nat_eq name (codes "_$LT$") ≡ true
    → IsFront (codes "<") (encode_utf8_all (legacy_chars elements))
front_of_less part end name elements rest r has ends named less =
    let left = first_left part end (encode_utf8_all (name_chars name)) name elements rest r has ends named refl in
    let begun = less_first name less in
    let later : List ℕ = encode_utf8_all (joined_left end left.0) in
    inr (inr (refl, (begun.0 ++ later, sym left.1.joined ∙ ap (λ (x : List ℕ). x ++ later) begun.1 ∙ append_assoc (codes "<") begun.0 later)))

-- and another one follows
pub front_of_more : (part : List ℕ) (end : ℕ) (printed name : List ℕ) (elements : List Element) (rest : List ℕ) → Reads part elements rest → HasElement part → end ≡ name_end part
    → name ≡ take (digits_value 10 (take (name_start part) part)) (drop (name_start part) part) → printed ≡ encode_utf8_all (name_chars name)
    → HasElement (drop end part) → IsFront (printed ++ codes "::") (encode_utf8_all (legacy_chars elements))
unfolding name_end
front_of_more part end printed name elements rest r has ends named wrote more =
    let left = first_left part end printed name elements rest r has ends named wrote in
    before_another part end printed elements rest left.0 left.1 (omega (arith, ends, has.0)) more
