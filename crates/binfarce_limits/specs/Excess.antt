-- What is more than a limit.
use Rattle.std.specs.Prelude.{ℕ, ◌-◌, ◌*◌, ◌/◌, ◌%◌, Bool, List, ◌++◌, codes, nat_lt, Option, Some, None, if◌then◌else◌}
use Rattle.std.specs.Fmt.{decimal}
use Rattle.binfarce_rows.specs.Columns.{hundredths}
use Rattle.binfarce_words.specs.declared.takes.Limit.{Limit}
use Rattle.binfarce_words.specs.declared.takes.Limit.TheVariants.{Bytes, Percent}
use Rattle.binfarce_limits.specs.declared.excess.Counted.{Counted}
use Rattle.binfarce_limits.specs.declared.excess.Counted.TheVariants.{Size, Growth}
use Rattle.binfarce_limits.specs.declared.excess.Excess.{Excess}
use Rattle.binfarce_limits.specs.declared.excess.Excess.TheVariants.{Has, Grew, GrewBy}

-- the growth of a sum by so many bytes is more than so many bytes, or so many per cent of the old sum
abbrev pub is_above : (old by : ℕ) → Limit → Bool
is_above old by (Bytes most) = nat_lt most by
is_above old by (Percent most) = nat_lt (most * old) (100 * by)

-- what is said of growth by so many bytes: where the limit is in per cent of an old sum, also by how many hundredths of a per cent
abbrev pub grew : (old by : ℕ) → Limit → Excess
grew old by (Percent most) = if nat_lt 0 old then GrewBy by (hundredths by old) else Grew by
grew old by (Bytes most) = Grew by

abbrev pub by_growth : (old by : ℕ) → Limit → Option Excess
by_growth old by limit = if is_above old by limit then Some (grew old by limit) else None

-- a size is more than so many bytes; a limit in per cent is one on growth. A sum grew by more than its limit
abbrev pub excess_of : Counted → Limit → Option Excess
excess_of (Size sum) (Bytes most) = if nat_lt most sum then Some (Has sum) else None
excess_of (Size sum) (Percent most) = None
excess_of (Growth old new) limit = by_growth old (new - old) limit

-- the printed words
abbrev pub excess_words : Excess → List ℕ
excess_words (Has sum) = codes "has " ++ (decimal sum ++ codes " bytes")
excess_words (Grew by) = codes "grew by " ++ (decimal by ++ codes " bytes")
excess_words (GrewBy by n) =
    codes "grew by " ++ (decimal by ++ (codes " bytes (" ++ (decimal (n / 100) ++ (codes "." ++ (decimal (n / 10 % 10) ++ (decimal (n % 10) ++ codes "%)"))))))
