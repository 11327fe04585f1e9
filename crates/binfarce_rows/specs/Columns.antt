-- The columns of rows: numbers, changes, and shares in per cent.
use Rattle.std.specs.Prelude.{ℕ, zero, suc, ◌+◌, ◌-◌, ◌*◌, ◌/◌, ◌%◌, Bool, true, false, List, [], ◌++◌, length, replicate, min, nat_lt, Option, Some, None, codes, if◌then◌else◌}
use Rattle.std.specs.Fmt.{decimal, digits}

-- a text, padded on the left to a width
abbrev pub pad_left : ℕ → ℕ → List ℕ → List ℕ
pad_left fill width text = replicate (width - length text) fill ++ text

-- 16 hexadecimal digits: zeros before them
abbrev pub address_text : ℕ → List ℕ
address_text address = pad_left 48 16 (digits 16 false address)

-- decimal, to the right of 10 columns: blanks before it
abbrev pub size_text : ℕ → List ℕ
size_text size = pad_left 32 10 (decimal size)

-- `{n:>10} `
abbrev pub size_column : ℕ → List ℕ
size_column n = size_text n ++ codes " "

-- `{address:016x} {size:>10} `, the text before a name
abbrev pub line_head : ℕ → ℕ → List ℕ
line_head address size = address_text address ++ (codes " " ++ (size_text size ++ codes " "))

-- how many of all rows are shown, where the first ones are asked for
abbrev pub count_of : (first : Option ℕ) → (all : ℕ) → ℕ
count_of None all = all
count_of (Some n) all = min n all

-- the distance of two numbers
abbrev pub difference : (old new : ℕ) → ℕ
difference old new = (old - new) + (new - old)

abbrev pub sign : (old new : ℕ) → List ℕ
sign old new = if nat_lt new old then codes "-" else codes "+"

-- the sign of a number
abbrev pub minus : (old new : ℕ) → List ℕ
minus old new = if nat_lt new old then codes "-" else []

-- `{change:>11} `, with its sign
abbrev pub change_column : (old new : ℕ) → List ℕ
change_column old new = pad_left 32 11 (sign old new ++ decimal (difference old new)) ++ codes " "

-- the share of a number in a whole, in hundredths of a per cent, rounded down
abbrev pub hundredths : (part whole : ℕ) → ℕ
hundredths part whole = (10000 * part) / whole

-- `{}.{:02}%`, of hundredths
abbrev pub percent_digits : ℕ → List ℕ
percent_digits n = decimal (n / 100) ++ (codes "." ++ (decimal (n / 10 % 10) ++ (decimal (n % 10) ++ codes "%")))

-- the change in per cent of the old number, rounded toward zero, with its sign; `new` if there was nothing
abbrev pub growth_text : (old new : ℕ) → List ℕ
growth_text zero new = codes "new"
growth_text (suc n) new = sign (suc n) new ++ percent_digits (hundredths (difference (suc n) new) (suc n))

-- that to the right of 10 columns, and a blank, if it is wanted
abbrev pub growth_column : (has_percent : Bool) → (old new : ℕ) → List ℕ
growth_column true old new = pad_left 32 10 (growth_text old new) ++ codes " "
growth_column false old new = []

-- a JSON member whose value is a change
abbrev pub signed_member : (name : List ℕ) → (old new : ℕ) → List ℕ
signed_member name old new = codes ",\"" ++ (name ++ (codes "\":" ++ (minus old new ++ decimal (difference old new))))

-- the member of a number of hundredths of a per cent, with its sign
abbrev pub percent_member : (sign : List ℕ) → ℕ → List ℕ
percent_member sign n = codes ",\"percent\":" ++ (sign ++ (decimal (n / 100) ++ (codes "." ++ (decimal (n / 10 % 10) ++ decimal (n % 10)))))

-- the change in per cent of the old number; `null` if there was nothing
abbrev pub growth_number : (old new : ℕ) → List ℕ
growth_number zero new = codes ",\"percent\":null"
growth_number (suc n) new = percent_member (minus (suc n) new) (hundredths (difference (suc n) new) (suc n))

-- that, if it is wanted
abbrev pub growth_member : (has_percent : Bool) → (old new : ℕ) → List ℕ
growth_member true old new = growth_number old new
growth_member false old new = []
