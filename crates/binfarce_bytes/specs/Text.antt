-- Texts in a file's bytes. A name is stored in one of three ways, and is UTF-8 in each:
-- `text_at`: in a string table (gABI, "String Table"); a NUL ends it and has to be there, and it isn't empty;
-- `padded_name`: in a field of its own, padded with NULs where it doesn't fill it, and not empty (Mach-O's sections);
-- `padded_text`: in such a field, where it may be empty (PE's sections and short names).
use Rattle.std.specs.Prelude.{ℕ, ◌≡◌, ◌≢◌, [], ◌∷◌, ◌++◌, List, length, take, drop, All, Option, Some, None, unwrap_or, nat_lt, nat_eq, if◌then◌else◌, position}
use Rattle.std.specs.Option.{option_and_then}
use Rattle.std.specs.Str.{IsUtf8, is_utf8}

-- the position of the first NUL
abbrev pub nul_at : List ℕ → Option ℕ
nul_at bytes = position (λ b. nat_eq b 0) bytes

-- the bytes up to the first NUL, or all if there is none
abbrev pub up_to_nul : List ℕ → List ℕ
up_to_nul bytes = take (unwrap_or (nul_at bytes) (length bytes)) bytes

-- the bytes, where they are UTF-8
abbrev pub utf8_of : List ℕ → Option (List ℕ)
utf8_of bytes = if is_utf8 bytes then Some bytes else None

-- the bytes, where they are a text: not empty, and UTF-8
abbrev pub text_of : List ℕ → Option (List ℕ)
text_of bytes = if nat_lt 0 (length bytes) then utf8_of bytes else None

-- the bytes from an offset up to the first NUL, if there is a NUL and they are a text
unfoldable pub text_at : List ℕ → ℕ → Option (List ℕ)
text_at bytes start = option_and_then (λ n. text_of (take n (drop start bytes))) (nul_at (drop start bytes))

-- a field's bytes up to the first NUL, or all if there is none, where they are a text
unfoldable pub padded_name : List ℕ → Option (List ℕ)
padded_name bytes = text_of (up_to_nul bytes)

-- the same, where it may be empty
unfoldable pub padded_text : List ℕ → Option (List ℕ)
padded_text bytes = utf8_of (up_to_nul bytes)

-- text is at the offset: a non-empty UTF-8 text without NUL, and a NUL after it
pub record IsTextAt (bytes : List ℕ) (start : ℕ) (text : List ℕ) : Type 0 where
  pub occurs : (rest : List ℕ) × (drop start bytes ≡ text ++ 0 ∷ rest)
  pub no_nul : All (λ b. b ≢ 0) text
  pub utf8 : IsUtf8 text
  pub not_empty : text ≢ []

-- what is found is the text at the offset; where nothing is found, there is no text
abbrev pub FindsText : List ℕ → ℕ → Option (List ℕ) → Type 0
FindsText bytes start None = (text : List ℕ) → ¬ (IsTextAt bytes start text)
FindsText bytes start (Some text) = IsTextAt bytes start text
