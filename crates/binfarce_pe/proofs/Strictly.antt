-- The numbers of the rows that end sizes rise, so their arrangement rises strictly.
use Rattle.std.proofs.Common.{◌≡◌, ℕ, zero, suc, ◌<◌, ◌≤◌, Bool, true, false, cond, List, [], ◌∷◌, All, Option, Some, None, Result, Ok, refl, sym, ap, subst, ◌∙◌, arith, nat_lt}
use Rattle.std.specs.List.{filter_map, cons_option}
use Rattle.std.proofs.lemmas.List.Elements.{All-nil, All-cons, All-weaker}
use Rattle.binfarce_bytes.specs.Refusal.{◌>>=◌, Refusal}
use Rattle.binfarce_bytes.specs.Sizes.{RowAddress, arranged}
use Rattle.binfarce_bytes.specs.Entries.{Listed}
use Rattle.binfarce_pe.specs.Pe.{Section}
use Rattle.binfarce_pe.specs.PeSymbols.{CoffTable, record_count, rows_from, symbol_table, kept_rows, entries_of, pe_answer, ArrangesRows}
use Rattle.binfarce_pe.specs.PeRules.{SectionRules, text_rules, ending_row, ending_rows}
use Rattle.binfarce_bytes.proofs.Arrangement.{Rising, arrangement_of}
use Rattle.binfarce_pe.proofs.Rows.{after, row_number}
use Rattle.binfarce_pe.proofs.TextRules.{kept_rows_are}

-- those that end sizes from row k on, by n steps
abbrev ending_by : CoffTable → SectionRules → ℕ → ℕ → List RowAddress
ending_by table rules n k = filter_map (ending_row table rules) (rows_from table n k)

from_on : (table : CoffTable) (rules : SectionRules) (n k : ℕ) → All (λ r. k ≤ r.row) (ending_by table rules n k) × Rising (ending_by table rules n k)
unfolding rows_from
from_on table rules zero k = (All-nil (λ r. k ≤ r.row), tt)
from_on table rules (suc n) k = by_test (nat_lt k (record_count table)) (from_on table rules n (after table k))
  where
    rest : List RowAddress
    rest = ending_by table rules n (after table k)

    by_row : (o : Option RowAddress) → ending_row table rules k ≡ o → All (λ r. after table k ≤ r.row) rest × Rising rest → All (λ r. k ≤ r.row) (cons_option o rest) × Rising (cons_option o rest)
    by_row None is up = (All-weaker (λ r. after table k ≤ r.row) (λ r. k ≤ r.row) (λ r le. omega arith) rest up.0, up.1)
    by_row (Some r) is up =
        let here : r.row ≡ k = row_number table rules k r is in (
          All-cons (λ s. k ≤ s.row) r rest (omega arith) (All-weaker (λ s. after table k ≤ s.row) (λ s. k ≤ s.row) (λ s le. omega arith) rest up.0),
          (All-weaker (λ s. after table k ≤ s.row) (λ s. r.row < s.row) (λ s le. omega arith) rest up.0, up.1),
        )

    by_test : (b : Bool) → All (λ r. after table k ≤ r.row) rest × Rising rest → All (λ r. k ≤ r.row) (filter_map (ending_row table rules) (cond b (k ∷ rows_from table n (after table k)) [])) × Rising (filter_map (ending_row table rules) (cond b (k ∷ rows_from table n (after table k)) []))
    by_test true up = by_row (ending_row table rules k) refl up
    by_test false up = (All-nil (λ r. k ≤ r.row), tt)

-- the numbers of the rows that end sizes rise
pub ending_rise : (table : CoffTable) (rules : SectionRules) → Rising (ending_rows table rules)
unfolding ending_rows
ending_rise table rules = (from_on table rules (record_count table) 0).1

-- so do those of the kept rows
kept_rise : (table : CoffTable) (index text_size : ℕ) → Rising (kept_rows table index)
kept_rise table index text_size = subst Rising (kept_rows_are table index text_size) (ending_rise table (text_rules index text_size))

-- the law of the order
pub rows_arranged : (file : List ℕ) → ArrangesRows file
unfolding pe_answer entries_of
rows_arranged file text table listed found read answer =
    let rows = kept_rows table text.index in
    let listing : Section → CoffTable → Listed = λ text table. record { entries = entries_of table text.index text.size_of_raw_data; section_size = text.size_of_raw_data } in
    let same : Ok (listing text table) ≡ Ok listed =
    sym (ap (λ (r : Result Section Refusal). r >>= λ text. symbol_table file >>= λ table. Ok (listing text table)) found
    ∙ ap (λ (r : Result CoffTable Refusal). r >>= λ table. Ok (listing text table)) read) ∙ answer in
    let listed_is : listing text table ≡ listed = cc in
    record { in_order = arranged rows; arrangement = arrangement_of rows (kept_rise table text.index text.size_of_raw_data); given = ap (λ (l : Listed). l.entries) (sym listed_is) }
