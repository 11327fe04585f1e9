-- The rows of the first shares, and that of all others.
use Rattle.std.proofs.Common.{◌≡◌, ℕ, ◌<◌, ◌≤◌, Bool, true, false, not, cond, List, [], ◌∷◌, ◌++◌, length, map, take, drop, get_or, ◌+◌, ◌-◌, codes, Option, refl, sym, ap, ◌∙◌, append-nil, append_assoc, nat_lt}
use Rattle.std.specs.List.{flat_map}
use Rattle.std.specs.Prelude.{if◌then◌else◌}
use Rattle.std.proofs.lemmas.Bool.{lt-ltb, le-ltb}
use Rattle.std.proofs.lemmas.List.{drop-map, drop_more, length-map, take-map}
use Rattle.binfarce_rows.specs.Json.{Style}
use Rattle.binfarce_rows.specs.Columns.{count_of}
use Rattle.binfarce_sections.specs.declared.sums.Share as code_share
use Rattle.binfarce_sections.specs.Section.{Section}
use Rattle.binfarce_sections.specs.Sums.{FileSums, active, is_inactive, end_row, others_row, plain_row, rest_row, share_row, share_rows, sums_text, total}
use Rattle.binfarce_sections.specs.Views.{share_view}

taken : (n : ℕ) (xs : List code_share.Share) → take n (map share_view xs) ≡ map share_view (take n xs)
taken n xs = take-map share_view n xs

rows_are : (style : Style) (first : Option ℕ) (xs : List code_share.Share) (n : ℕ) (last : List ℕ) → n ≡ count_of first (length xs)
    → last ≡ (if nat_lt n (length xs) then others_row style (map share_view (drop n xs)) else [])
    → flat_map (share_row style) (map share_view (take n xs)) ++ last ≡ share_rows style first (map share_view xs)
rows_are style first xs n last is last_is =
    let long : length (map share_view xs) ≡ length xs = length-map xs share_view in
    let count : n ≡ count_of first (length (map share_view xs)) = is ∙ ap (count_of first) (sym long) in
    rw (sym count, long, taken n xs, drop-map share_view n xs, last_is) refl

-- where there are others
pub split_rows : (style : Style) (first : Option ℕ) (xs : List code_share.Share) (n : ℕ) (old mid new : List ℕ) → n ≡ count_of first (length xs) → n < length xs
    → mid ≡ old ++ flat_map (share_row style) (map share_view (take n xs)) → new ≡ mid ++ others_row style (map share_view (drop n xs)) → new ≡ old ++ share_rows style first (map share_view xs)
split_rows style first xs n old mid new is lt shown others =
    others
    ∙ ap (λ (t : List ℕ). t ++ others_row style (map share_view (drop n xs))) shown
    ∙ append_assoc old (flat_map (share_row style) (map share_view (take n xs))) (others_row style (map share_view (drop n xs)))
    ∙ ap (λ (t : List ℕ). old ++ t) (rows_are style first xs n (others_row style (map share_view (drop n xs))) is (rw (lt-ltb n (length xs) lt) refl))

-- if there are none
pub whole_rows : (style : Style) (first : Option ℕ) (xs : List code_share.Share) (n : ℕ) (old new : List ℕ) → n ≡ count_of first (length xs) → length xs ≤ n
    → new ≡ old ++ flat_map (share_row style) (map share_view (take n xs)) → new ≡ old ++ share_rows style first (map share_view xs)
whole_rows style first xs n old new is le shown =
    shown
    ∙ ap (λ (t : List ℕ). old ++ t) (sym (append-nil (flat_map (share_row style) (map share_view (take n xs)))) ∙ rows_are style first xs n [] is (rw (le-ltb n (length xs) le) refl))

-- the active ones of a section and others
kept_by : (b : Bool) (s : Section) (rest : List Section) → cond b (s ∷ rest) rest ≡ cond b (s ∷ []) [] ++ rest
kept_by true s rest = refl
kept_by false s rest = refl

pub kept_more : (old new : List Section) (s : Section) (rest : List Section) → new ≡ old ++ active (s ∷ []) → new ++ active rest ≡ old ++ active (s ∷ rest)
kept_more old new s rest is =
    ap (λ (xs : List Section). xs ++ active rest) is
    ∙ append_assoc old (active (s ∷ [])) (active rest)
    ∙ ap (λ (xs : List Section). old ++ xs) (sym (kept_by (not (is_inactive s.kind)) s (active rest)))

-- the next row of all
pub row_more : (style : Style) (xs : List code_share.Share) (i : ℕ) (d : code_share.Share) (old new all : List ℕ) → i < length xs → new ≡ old ++ share_row style (share_view (get_or xs i d))
    → old ++ flat_map (share_row style) (map share_view (drop i xs)) ≡ all → new ++ flat_map (share_row style) (map share_view (drop (i + 1) xs)) ≡ all
row_more style xs i d old new all lt is before =
    let row = share_row style (share_view (get_or xs i d)) in
    let others = flat_map (share_row style) (map share_view (drop (i + 1) xs)) in
    ap (λ (t : List ℕ). t ++ others) is
    ∙ append_assoc old row others
    ∙ ap (λ (rest : List code_share.Share). old ++ flat_map (share_row style) (map share_view rest)) (sym (drop_more xs i d lt))
    ∙ before

-- no row is left
pub rows_done : (style : Style) (xs : List code_share.Share) (i : ℕ) (old all : List ℕ) → drop i xs ≡ [] → old ++ flat_map (share_row style) (map share_view (drop i xs)) ≡ all → old ≡ all
rows_done style xs i old all none before =
    sym (append-nil old) ∙ ap (λ (rest : List code_share.Share). old ++ flat_map (share_row style) (map share_view rest)) (sym none) ∙ before

-- the rows, that of the rest, and the end
pub sums_are : (style : Style) (first : Option ℕ) (sums : FileSums) (t0 t1 t2 t3 : List ℕ) (rest : ℕ) → t0 ≡ [] → t1 ≡ t0 ++ share_rows style first sums.shares
    → t2 ≡ t1 ++ plain_row style (codes "[headers and gaps]") rest 0 → t3 ≡ t2 ++ end_row style sums.file_length → rest ≡ sums.file_length - total sums.shares → t3 ≡ sums_text style first sums
sums_are style first sums t0 t1 t2 t3 rest none rows plain last is =
    let shown = share_rows style first sums.shares in
    let others = rest_row style sums in
    let end = end_row style sums.file_length in
    let one : t1 ≡ shown = rows ∙ ap (λ (t : List ℕ). t ++ shown) none in
    let two : t2 ≡ shown ++ others = plain ∙ ap (λ (n : ℕ). t1 ++ plain_row style (codes "[headers and gaps]") n 0) is ∙ ap (λ (t : List ℕ). t ++ others) one in
    last ∙ ap (λ (t : List ℕ). t ++ end) two ∙ append_assoc shown others end
