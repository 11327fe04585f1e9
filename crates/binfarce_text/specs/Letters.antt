-- The letters, digits and other characters that have a meaning in names, each by its byte. `slice_index` gives 0 past the end of a text. None of
-- these is 0, so a position with such a letter lies within the text.
use Rattle.std.specs.Prelude.{ℕ, Bool, ◌||◌}
use Rattle.std.specs.Int.{is_in_range}

abbrev pub '$' : ℕ
'$' = 36

-- "." and "@", which can't be in the name of a definition
abbrev pub dot : ℕ
dot = 46

abbrev pub at_sign : ℕ
at_sign = 64

abbrev pub '-' : ℕ
'-' = 45

abbrev pub ':' : ℕ
':' = 58

abbrev pub '0' : ℕ
'0' = 48

abbrev pub '9' : ℕ
'9' = 57

abbrev pub 'A' : ℕ
'A' = 65

abbrev pub 'B' : ℕ
'B' = 66

abbrev pub 'C' : ℕ
'C' = 67

abbrev pub 'D' : ℕ
'D' = 68

abbrev pub 'E' : ℕ
'E' = 69

abbrev pub 'F' : ℕ
'F' = 70

abbrev pub 'G' : ℕ
'G' = 71

abbrev pub 'I' : ℕ
'I' = 73

abbrev pub 'K' : ℕ
'K' = 75

abbrev pub 'L' : ℕ
'L' = 76

abbrev pub 'M' : ℕ
'M' = 77

abbrev pub 'N' : ℕ
'N' = 78

abbrev pub 'O' : ℕ
'O' = 79

abbrev pub 'P' : ℕ
'P' = 80

abbrev pub 'Q' : ℕ
'Q' = 81

abbrev pub 'R' : ℕ
'R' = 82

abbrev pub 'S' : ℕ
'S' = 83

abbrev pub 'T' : ℕ
'T' = 84

abbrev pub 'U' : ℕ
'U' = 85

abbrev pub 'X' : ℕ
'X' = 88

abbrev pub 'Y' : ℕ
'Y' = 89

abbrev pub 'a' : ℕ
'a' = 97

abbrev pub 'b' : ℕ
'b' = 98

abbrev pub 'c' : ℕ
'c' = 99

abbrev pub 'd' : ℕ
'd' = 100

abbrev pub 'e' : ℕ
'e' = 101

abbrev pub 'f' : ℕ
'f' = 102

abbrev pub 'h' : ℕ
'h' = 104

abbrev pub 'i' : ℕ
'i' = 105

abbrev pub 'j' : ℕ
'j' = 106

abbrev pub 'l' : ℕ
'l' = 108

abbrev pub 'm' : ℕ
'm' = 109

abbrev pub 'n' : ℕ
'n' = 110

abbrev pub 'o' : ℕ
'o' = 111

abbrev pub 'p' : ℕ
'p' = 112

abbrev pub 's' : ℕ
's' = 115

abbrev pub 't' : ℕ
't' = 116

abbrev pub 'u' : ℕ
'u' = 117

abbrev pub 'v' : ℕ
'v' = 118

abbrev pub 'x' : ℕ
'x' = 120

abbrev pub 'y' : ℕ
'y' = 121

abbrev pub 'z' : ℕ
'z' = 122

abbrev pub '_' : ℕ
'_' = 95

-- a lower-case hexadecimal digit
abbrev pub is_hex_digit : (byte : ℕ) → Bool
is_hex_digit byte = is_in_range '0' '9' byte || is_in_range 'a' 'f' byte
