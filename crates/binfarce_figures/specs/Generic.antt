-- A name without its generic arguments, or as a stack.
use Rattle.std.specs.Prelude.{ℕ, zero, suc, Bool, not, ◌&&◌, ◌||◌, List, [], ◌∷◌, ◌++◌, nat_eq, nat_le, codes, encode_utf8_all, if◌then◌else◌}
use Rattle.std.specs.Str.{chars}
use Rattle.binfarce_figures.specs.declared.generic.Shape.{Shape}
use Rattle.binfarce_figures.specs.declared.generic.Shape.TheVariants.{Generic, Stack}

-- a character of a name: `_`, a digit, a letter, or any outside ASCII
abbrev pub is_of_name : (c : ℕ) → Bool
is_of_name c = nat_eq c 95 || (nat_le 48 c && nat_le c 57) || (nat_le 65 c && nat_le c 90) || (nat_le 97 c && nat_le c 122) || nat_le 128 c

-- a character of a path: one of a name, or a colon; generic arguments may follow it
abbrev pub is_of_path : (c : ℕ) → Bool
is_of_path c = nat_eq c 58 || is_of_name c

-- a bracket that counts, after a character: one that opens generic arguments, or in a stack any
abbrev pub opens : Shape → (before c : ℕ) → Bool
opens Generic before c = nat_eq c 60 && is_of_path before
opens Stack before c = nat_eq c 60

-- a bracket that closes others: not that of `->`
abbrev pub closes : (before c : ℕ) → Bool
closes before c = nat_eq c 62 && not (nat_eq before 45)

-- how many brackets are open after a character; those that open none aren't counted outside
abbrev pub depth_after : Shape → (depth before c : ℕ) → ℕ
depth_after shape zero before c = if opens shape before c then 1 else 0
depth_after shape (suc depth) before c = if nat_eq c 60 then suc (suc depth) else (if closes before c then depth else suc depth)

-- what is shown of a character in a stack: outside of brackets the second colon of two as `;`, and no other; a `;` as a colon
abbrev pub part : (depth before c : ℕ) → List ℕ
part depth before c =
    if nat_eq c 59 then codes ":" else (if nat_eq c 58 && nat_eq depth 0 then (if nat_eq before 58 then codes ";" else []) else c ∷ [])

-- what is shown in place of a character: of generic arguments `<..>`
abbrev pub shown : Shape → (depth before c : ℕ) → List ℕ
shown Generic zero before c = if opens Generic before c then codes "<..>" else c ∷ []
shown Generic (suc depth) before c = []
shown Stack depth before c = part depth before c

-- what is shown of characters, with so many brackets open and a character before them
abbrev pub shown_after : Shape → (depth before : ℕ) → List ℕ → List ℕ
shown_after shape depth before [] = []
shown_after shape depth before (c ∷ others) = shown shape depth before c ++ shown_after shape (depth_after shape depth before c) c others

-- a name with `<..>` in place of its generic arguments, or with `;` between its parts
abbrev pub rewritten : Shape → (name : List ℕ) → List ℕ
rewritten shape name = encode_utf8_all (shown_after shape 0 32 (chars name))
