-- The bytes that entries add, one entry after the other.
use Rattle.std.proofs.Common.{◌≡◌, ℕ, suc, ◌+◌, ◌<◌, ◌≤◌, Bool, not, ◌&&◌, ◌||◌, List, [], ◌∷◌, ◌++◌, length, drop, get_or, nat_le, nat_lt, refl, sym, ap, subst, ◌∙◌, arith, append-nil, append_assoc}
use Rattle.std.specs.List.{list_any}
use Rattle.binfarce.specs.SectionEntries.{SectionEntry}
use Rattle.binfarce_figures.specs.Claims.{claimed, claimed_after, has, new_bytes, place_of, with_size}
use Rattle.binfarce_figures.specs.declared.claims.Span.{Span}
use Rattle.binfarce_figures.specs.machine.Falling.{Falls}
use Rattle.binfarce_figures.specs.machine.Spans.{Ascend, CoverMore, covers, gaps}
use Rattle.binfarce_figures.proofs.Spans.{gaps_are, lower}

-- no entry begins after the one before it, and the first begins no later than a place
abbrev pub Fall : ℕ → List SectionEntry → Type 0
Fall low [] = Unit {0}
Fall low (row ∷ others) = (place_of row ≤ low) × Fall (place_of row) others

fall_from : (low : ℕ) (rows : List SectionEntry) → Falls rows → ((d : SectionEntry) → 0 < length rows → place_of (get_or rows 0 d) ≤ low) → Fall low rows
fall_from low [] down first = tt
fall_from low (row ∷ others) down first =
    (first row (omega arith), fall_from (place_of row) others (λ k d lt. down (suc k) d (omega (arith, lt))) (λ d lt. down 0 d (omega (arith, lt))))

-- the entries up to an index were claimed; these spans cover their bytes
pub record Claimed (rows claims : List SectionEntry) (i : ℕ) (spans : List Span) : Type 0 where
  pub before : List SectionEntry
  pub low : ℕ
  pub reach : (at : ℕ) → list_any (has at) before ≡ covers spans at
  pub rises : Ascend low spans
  pub falls : Fall low (drop i rows)
  pub are : claims ++ claimed_after before (drop i rows) ≡ claimed rows

pub begun : (rows : List SectionEntry) → Falls rows → Claimed rows [] 0 []
begun [] down = record { before = []; low = 0; reach = λ at. refl; rises = tt; falls = tt; are = refl }
begun (row ∷ others) down = record { before = []; low = place_of row; reach = λ at. refl; rises = tt; falls = fall_from (place_of row) (row ∷ others) down (λ d lt. omega arith); are = refl }

module _ (rows claims : List SectionEntry) (spans : List Span) (i : ℕ) (row : SectionEntry) (split : drop i rows ≡ row ∷ drop (i + 1) rows) (w : Claimed rows claims i spans) where
  falls : Fall w.low (row ∷ drop (i + 1) rows)
  falls = subst (Fall w.low) split w.falls

  -- the next entry's place is before those of the spans
  pub rises_from : Ascend (place_of row) spans
  rises_from = lower (place_of row) w.low spans falls.0 w.rises

  -- what they leave out of it are its new bytes
  pub new_are : gaps spans (place_of row) (place_of row + row.entry.size) ≡ new_bytes w.before row
  new_are =
      let none : place_of row + 0 ≡ place_of row = omega arith in
      let test = λ (n : ℕ). not (list_any (has (place_of row + n)) w.before) in
      let all = gaps_are test (place_of row) 0 row.entry.size spans (omega arith) (subst (λ (p : ℕ). Ascend p spans) (sym none) rises_from) (λ n le. ap not (w.reach (place_of row + n))) in
      omega (arith, all, ap (λ (p : ℕ). gaps spans p (place_of row + row.entry.size)) none)

  -- the next entry was claimed
  pub one_more : (new_claims : List SectionEntry) (new : List Span) (place end added : ℕ) → place ≡ place_of row → end ≡ place + row.entry.size → added ≡ gaps spans place end → Ascend place new → CoverMore place end spans new
      → new_claims ≡ claims ++ with_size row added ∷ [] → Claimed rows new_claims (i + 1) new
  one_more new_claims new place end added at to adds rises more grown =
      let others = claimed_after (row ∷ w.before) (drop (i + 1) rows) in
      let to_is : end ≡ place_of row + row.entry.size = to ∙ ap (λ (p : ℕ). p + row.entry.size) at in
      let size : added ≡ new_bytes w.before row = adds ∙ (λ j. gaps spans (at j) (to_is j)) ∙ new_are in
      record {
        before = row ∷ w.before;
        low = place_of row;
        reach = λ p. ap (λ (b : Bool). has p row || b) (w.reach p) ∙ (λ j. (nat_le (sym at j) p && nat_lt p (sym to_is j)) || covers spans p) ∙ sym (more p);
        rises = subst (λ (p : ℕ). Ascend p new) at rises;
        falls = falls.1;
        are = ap (λ (rs : List SectionEntry). rs ++ others) grown
            ∙ append_assoc claims (with_size row added ∷ []) others
            ∙ ap (λ (n : ℕ). claims ++ with_size row n ∷ others) size
            ∙ ap (λ (rs : List SectionEntry). claims ++ claimed_after w.before rs) (sym split)
            ∙ w.are;
      }

pub ended : (rows claims : List SectionEntry) (i : ℕ) (spans : List Span) → drop i rows ≡ [] → Claimed rows claims i spans → claims ≡ claimed rows
ended rows claims i spans none w = sym (append-nil claims) ∙ ap (λ (rs : List SectionEntry). claims ++ claimed_after w.before rs) (sym none) ∙ w.are
