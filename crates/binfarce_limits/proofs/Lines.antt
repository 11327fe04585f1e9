-- The limits of lines, line after line.
use Rattle.std.proofs.Common.{◌≡◌, ◌∙◌, ℕ, suc, ◌+◌, ◌<◌, ◌≤◌, Bool, List, [], ◌∷◌, map, length, drop, get_or, Result, Ok, Err, refl, sym, ap, add-one, drop-cons, Bor}
use Rattle.std.proofs.Math.ListN.{drop_of_length-le}
use Rattle.binfarce_limits.specs.Reading.{Refused, and_then, limits_after, limits_of, line_of, with_line}
use Rattle.binfarce_limits.specs.ReadingViews.{IsUnread}
use Rattle.binfarce_limits.specs.Rows.{NameLimit}
use Rattle.binfarce_limits.specs.declared.reading.Unread.{Unread}
use Rattle.binfarce_limits.specs.declared.reading.Unread.TheVariants.{NoLimit, BadLimit, OnlyGrowth, Twice, OutOfMemory}

abbrev pub texts : List (Bor (List ℕ)) → List (List ℕ)
texts lines = map (λ l. l.now) lines

-- the limits so far, and those of the lines that are left, are those of all
abbrev pub Reads : (compares : Bool) → List (Bor (List ℕ)) → ℕ → List NameLimit → Type 0
Reads compares lines i before = limits_of compares (texts lines) ≡ limits_after compares before (i + 1) (texts (drop i lines))

pub begun : (compares : Bool) (lines : List (Bor (List ℕ))) → Reads compares lines 0 []
begun compares lines = refl

-- no line is left
pub all_read : (compares : Bool) (lines : List (Bor (List ℕ))) (i : ℕ) (before : List NameLimit) → length lines ≤ i → Reads compares lines i before → limits_of compares (texts lines) ≡ Ok before
all_read compares lines i before le reads = reads ∙ ap (λ (ls : List (Bor (List ℕ))). limits_after compares before (i + 1) (texts ls)) (drop_of_length-le lines le)

module _ (compares : Bool) (lines : List (Bor (List ℕ))) (i : ℕ) (d : Bor (List ℕ)) (before : List NameLimit) (lt : i < length lines) (reads : Reads compares lines i before) where
  abbrev answer : Result (List NameLimit) Refused
  answer = with_line before (i + 1) (line_of compares (get_or lines i d).now)

  at_line : limits_of compares (texts lines) ≡ and_then answer (λ more. limits_after compares more (suc (i + 1)) (texts (drop (i + 1) lines)))
  at_line =
      let next : texts (drop i lines) ≡ (get_or lines i d).now ∷ texts (drop (i + 1) lines) = rw (add-one, drop-cons lines i d) refl in
      reads ∙ ap (limits_after compares before (i + 1)) next

  -- a line is taken
  pub goes_on : (more : List NameLimit) → answer ≡ Ok more → Reads compares lines (i + 1) more
  goes_on more is =
      at_line ∙ ap (λ (r : Result (List NameLimit) Refused). and_then r (λ more. limits_after compares more (suc (i + 1)) (texts (drop (i + 1) lines)))) is
      ∙ ap (λ (n : ℕ). limits_after compares more n (texts (drop (i + 1) lines))) (sym (add-one (i + 1)))

  stops : (refused : Refused) → answer ≡ Err refused → limits_of compares (texts lines) ≡ Err refused
  stops refused is = at_line ∙ ap (λ (r : Result (List NameLimit) Refused). and_then r (λ more. limits_after compares more (suc (i + 1)) (texts (drop (i + 1) lines)))) is

  -- a line can't be taken
  pub unread : (e : Unread) → IsUnread answer e → IsUnread (limits_of compares (texts lines)) e
  unread (NoLimit number) is = stops _ is
  unread (BadLimit number word) is = stops _ is
  unread (OnlyGrowth number word) is = stops _ is
  unread (Twice number name) is = stops _ is
  unread OutOfMemory is = tt
