-- The frames of call chains in a text of perf-script(1).
use Rattle.std.specs.Prelude.{◌≡◌, ℕ, Bool, true, List, [], ◌∷◌, ◌&&◌, ◌||◌, ◌++◌, codes, drop, length, nat_eq, nat_lt, slice_index, take, if◌then◌else◌}
use Rattle.std.proofs.Common.{refl}
use Rattle.std.specs.Char.{is_ascii_hexdigit}
use Rattle.std.specs.Int.{is_in_range}
use Rattle.std.specs.List.{ends_with, list_any, prefix_len}

-- a blank or a tab
abbrev pub is_blank : ℕ → Bool
is_blank b = nat_eq b 32 || nat_eq b 9

-- of a line so many bytes are looked at; a longer one is no frame
abbrev pub longest : ℕ
longest = 4096

-- what follows the blanks and tabs at the beginning of a line
abbrev pub unindented : (line : List ℕ) → List ℕ
unindented line = drop (prefix_len is_blank line) line

-- a line of perf-script(1) that begins so is a frame, as `\t%16lx %s` writes it: a tab, blanks, a hexadecimal number of 1 to 16 digits, and a blank
abbrev pub digits_len : (text : List ℕ) → ℕ
digits_len text = prefix_len is_ascii_hexdigit text

abbrev pub begins_frame : (line : List ℕ) → Bool
begins_frame line =
    let rest = unindented line in
    nat_lt (length line) longest && (nat_eq (slice_index line 0) 9 && (is_in_range 1 16 (digits_len rest) && is_blank (slice_index rest (digits_len rest))))

-- its number
abbrev pub number_in : (line : List ℕ) → List ℕ
number_in line = let rest = unindented line in take (digits_len rest) rest

-- the line ends before this text
abbrev pub is_line_end : (text : List ℕ) → Bool
is_line_end [] = true
is_line_end (b ∷ text) = nat_eq b 10

-- a line ends with the name of one of these files
abbrev pub is_of : (names : List (List ℕ)) → (line : List ℕ) → Bool
is_of names line = list_any (λ name. ends_with nat_eq line name) names

-- what comes before a parenthesis, before which this is in the line: where it ends a frame in one of these files, the number as an offset, behind the file's name, which is in parentheses there
abbrev pub offset_in : (names : List (List ℕ)) → (line : List ℕ) → (is_end : Bool) → List ℕ
offset_in names line is_end = if is_end && (begins_frame line && is_of names line) then codes "+0x" ++ number_in line else []

-- and what comes before any byte, after which this text comes
abbrev pub inserted : (names : List (List ℕ)) → (line : List ℕ) → (b : ℕ) → (text : List ℕ) → List ℕ
inserted names line b text = if nat_eq b 41 then offset_in names line (is_line_end text) else []

-- the line before what follows this byte: none behind a line feed
abbrev pub line_after : (line : List ℕ) → (b : ℕ) → List ℕ
line_after line b = if nat_eq b 10 then [] else if nat_lt (length line) longest then line ++ b ∷ [] else line

-- a text, before which this is in the line, with the offset of each frame behind its file, if that is one of these
unfoldable pub framed : (names : List (List ℕ)) → (line text : List ℕ) → List ℕ
framed names line [] = []
framed names line (b ∷ text) = inserted names line b text ++ b ∷ framed names (line_after line b) text

-- of perf 6
worked_frame : framed (codes "app" ∷ []) [] (codes "\t           18b23 main+0x12 (/x/app)\n") ≡ codes "\t           18b23 main+0x12 (/x/app+0x18b23)\n"
unfolding framed
worked_frame = refl

-- of another file
worked_other : framed (codes "app" ∷ []) [] (codes "\t           2724a n+0x7a (/lib/c.so)\n") ≡ codes "\t           2724a n+0x7a (/lib/c.so)\n"
unfolding framed
worked_other = refl

-- the name of a program, in the line of a sample, is no number
worked_sample : framed (codes "dd" ∷ []) [] (codes "              dd  1234 2.5:  1f cycles: (/bin/dd)\n") ≡ codes "              dd  1234 2.5:  1f cycles: (/bin/dd)\n"
unfolding framed
worked_sample = refl
