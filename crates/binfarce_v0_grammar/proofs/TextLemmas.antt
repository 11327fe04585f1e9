-- Where an ASCII text may be split, and where a Punycode identifier is.
use Rattle.std.proofs.Common.{◌≡◌, ℕ, ◌-◌, ◌<◌, ◌≤◌, List, length, take, drop, Some, None, true, false, not, ◌==◌, slice_range, refl, arith}
use Rattle.std.specs.List.{suffix_len}
use Rattle.std.proofs.lemmas.Grind.{common_steps}
use Rattle.std.proofs.lemmas.Bool.Decides.{nat_tests}
use Rattle.std.proofs.lemmas.List.Sums.{suffix_len-le-length}
use Rattle.std.proofs.lemmas.Str.{IsCharBoundary-after_ascii, IsCharBoundary-from_ascii, IsAscii-take, IsAscii-drop}
use Rattle.binfarce_v0_grammar.specs.Identifiers.{identifier_of, is_empty}

pub ruleset ascii_parts = (IsCharBoundary-from_ascii, IsAscii-take, IsAscii-drop)

abbrev punycode_at : List ℕ → ℕ
punycode_at text = length text - suffix_len (λ x. not (x == 95)) text

is_empty_none : (l : List ℕ) → length l ≡ 0 → is_empty l ≡ true
is_empty_none l h = grind (arith, nat_tests)

is_empty_some : (l : List ℕ) → 0 < length l → is_empty l ≡ false
is_empty_some l h = grind (arith, nat_tests)

pub identifier_unsplit : (text : List ℕ) (n : ℕ) → n ≡ punycode_at text → n ≡ length text → identifier_of true text ≡ None
unfolding identifier_of
identifier_unsplit text n e h =
    let none : length (drop (punycode_at text) text) ≡ 0 = grind (arith, common_steps) in
    rw (is_empty_none (drop (punycode_at text) text) none) refl

pub identifier_split : (text : List ℕ) (n : ℕ) → n ≡ punycode_at text → (n ≡ length text → ⊥) → identifier_of true text ≡ Some (record { ascii = slice_range text 0 (n - 1); punycode = slice_range text n (length text) })
unfolding identifier_of
identifier_split text n e h =
    let le : n ≤ length text = omega (arith, suffix_len-le-length (λ x. not (x == 95)) text) in
    let some : 0 < length (drop (punycode_at text) text) = grind (arith, common_steps) in
    let whole : take (length text - n) (drop n text) ≡ drop n text = grind (arith, common_steps) in
    let front : take (n - 1 - 0) text ≡ take (n - 1) text = grind (arith, common_steps) in
    rw (is_empty_some (drop (punycode_at text) text) some) (rw (whole, front, e) refl)
