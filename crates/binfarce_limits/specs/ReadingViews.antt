-- What the values of the code say of lines with limits.
use Rattle.std.specs.Prelude.{◌≡◌, ℕ, List, ◌++◌, codes, Result, Err}
use Rattle.std.specs.Fmt.{decimal}
use Rattle.binfarce_limits.specs.Reading as reading
use Rattle.binfarce_limits.specs.Reading.{Refused}
use Rattle.binfarce_limits.specs.Rows.{NameLimit, limit_view}
use Rattle.binfarce_limits.specs.declared.reading.Line.{Line}
use Rattle.binfarce_limits.specs.declared.reading.Line.TheVariants as lines
use Rattle.binfarce_limits.specs.declared.reading.Unread.{Unread}
use Rattle.binfarce_limits.specs.declared.reading.Unread.TheVariants.{NoLimit, BadLimit, OnlyGrowth, Twice, OutOfMemory}

-- what a line says
abbrev pub line_view : Line → reading.Line
line_view lines.Nothing = reading.nothing
line_view lines.NoLimit = reading.wrong reading.no_limit
line_view (lines.BadLimit word) = reading.wrong (reading.bad_limit word.now)
line_view (lines.OnlyGrowth word) = reading.wrong (reading.only_growth word.now)
line_view (lines.Limits limit) = reading.limits (limit_view limit)

-- an allocation failed, or the answer is that this line can't be taken, for this reason
abbrev pub IsUnread : Result (List NameLimit) Refused → Unread → Type 0
IsUnread answer (NoLimit number) = answer ≡ Err (number, reading.no_limit)
IsUnread answer (BadLimit number word) = answer ≡ Err (number, reading.bad_limit word.now)
IsUnread answer (OnlyGrowth number word) = answer ≡ Err (number, reading.only_growth word.now)
IsUnread answer (Twice number name) = answer ≡ Err (number, reading.twice name.now)
IsUnread answer OutOfMemory = Unit {0}

-- the printed words
abbrev pub unread_words : Unread → List ℕ
unread_words (NoLimit number) = codes "line " ++ (decimal number ++ codes " has no limit; a line is the name of a row, a blank and a limit")
unread_words (BadLimit number word) =
    codes "line " ++ (decimal number ++ (codes ": a limit is a number of bytes, also as 600k or 2M, or of diff one of per cent as 2%, and not " ++ word.now))
unread_words (OnlyGrowth number word) = codes "line " ++ (decimal number ++ (codes ": " ++ (word.now ++ codes " is for diff; size takes a number of bytes")))
unread_words (Twice number name) = codes "line " ++ (decimal number ++ (codes ": a line before it has " ++ (name.now ++ codes ", too")))
unread_words OutOfMemory = codes "out of memory"
