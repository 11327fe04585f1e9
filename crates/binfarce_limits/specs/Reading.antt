-- A text with limits: a line for each row.
use Rattle.std.specs.Prelude.{◌==◌, ℕ, suc, Bool, not, ◌&&◌, ◌||◌, List, [], ◌∷◌, ◌++◌, codes, length, nat_eq, Option, Some, None, Result, Ok, Err, if◌then◌else◌}
use Rattle.std.specs.List.{list_any, slice_split, starts_with}
use Rattle.std.specs.Str.{bytes_eq, trim}
use Rattle.binfarce_words.specs.Words.{is_percent, limit_in}
use Rattle.binfarce_words.specs.declared.takes.Limit.{Limit}
use Rattle.binfarce_limits.specs.Rows.{NameLimit}

-- why a line can't be taken: it has no limit after a name, or what is none; a limit on growth, where files aren't compared; or a name that a line before it has
pub data Why : Type 0 where
  no_limit : Why
  bad_limit : (word : List ℕ) → Why
  only_growth : (word : List ℕ) → Why
  twice : (name : List ℕ) → Why

-- what a line says
pub data Line : Type 0 where
  nothing : Line
  wrong : (why : Why) → Line
  limits : (limit : NameLimit) → Line

-- the parts before and after the last such byte of a text, if it has one
abbrev pub behind : (c first : ℕ) → (others : List ℕ) → (found : Option (List ℕ × List ℕ)) → Option (List ℕ × List ℕ)
behind c first others (Some (front, back)) = Some (first ∷ front, back)
behind c first others None = if first == c then Some ([], others) else None

abbrev pub split_last : (c : ℕ) → (text : List ℕ) → Option (List ℕ × List ℕ)
split_last c [] = None
split_last c (first ∷ others) = behind c first others (split_last c others)

-- those before and after the last tab of a line, or if it has none its last blank
abbrev pub or_else : {X : Type 0} → (one other : Option X) → Option X
or_else (Some x) other = Some x
or_else None other = other

abbrev pub line_parts : (line : List ℕ) → Option (List ℕ × List ℕ)
line_parts line = or_else (split_last 9 line) (split_last 32 line)

-- what a name and a word after it say: the word is a limit, in per cent only if files are compared
abbrev pub limit_line : (compares : Bool) → (name word : List ℕ) → Option Limit → Line
limit_line compares name word None = wrong (bad_limit word)
limit_line compares name word (Some limit) = if is_percent (Some limit) && not compares then wrong (only_growth word) else limits (record { name = name; limit = limit })

abbrev pub parts_line : (compares : Bool) → Option (List ℕ × List ℕ) → Line
parts_line compares None = wrong no_limit
parts_line compares (Some (name, word)) = limit_line compares (trim name) (trim word) (limit_in (trim word))

-- a line that is blank, or begins with `#`, says nothing
abbrev pub trimmed_line : (compares : Bool) → (line : List ℕ) → Line
trimmed_line compares line = if nat_eq (length line) 0 || starts_with nat_eq line (codes "#") then nothing else parts_line compares (line_parts line)

abbrev pub line_of : (compares : Bool) → (line : List ℕ) → Line
line_of compares line = trimmed_line compares (trim line)

-- one of the limits has this name
abbrev pub is_named : List NameLimit → (name : List ℕ) → Bool
is_named before name = list_any (λ l. bytes_eq l.name name) before

-- the number of a line, from 1 on, and why it can't be taken
abbrev pub Refused : Type 0
Refused = ℕ × Why

-- the limits after this line, which has this number
abbrev pub with_line : (before : List NameLimit) → (number : ℕ) → Line → Result (List NameLimit) Refused
with_line before number nothing = Ok before
with_line before number (wrong why) = Err (number, why)
with_line before number (limits limit) = if is_named before limit.name then Err (number, twice limit.name) else Ok (before ++ limit ∷ [])

-- steps that end at the first line that can't be taken
abbrev pub and_then : Result (List NameLimit) Refused → (List NameLimit → Result (List NameLimit) Refused) → Result (List NameLimit) Refused
and_then (Ok before) f = f before
and_then (Err refused) f = Err refused

-- the limits of lines after these, of which the first one has this number
abbrev pub limits_after : (compares : Bool) → (before : List NameLimit) → (number : ℕ) → List (List ℕ) → Result (List NameLimit) Refused
limits_after compares before number [] = Ok before
limits_after compares before number (line ∷ others) = and_then (with_line before number (line_of compares line)) (λ more. limits_after compares more (suc number) others)

abbrev pub limits_of : (compares : Bool) → List (List ℕ) → Result (List NameLimit) Refused
limits_of compares lines = limits_after compares [] 1 lines

-- the limits in a text, whose lines are between line feeds; or the first line that can't be taken
abbrev pub limits_in : (compares : Bool) → (text : List ℕ) → Result (List NameLimit) Refused
limits_in compares text = limits_of compares (slice_split (λ b. b == 10) text)
