-- Where addresses may begin in a text, and what decides them.
use Rattle.std.specs.Prelude.{◌≡◌, ℕ, Bool, true, List, [], ◌++◌, nat_eq, if◌then◌else◌}
use Rattle.std.specs.Char.{is_ascii_hexdigit}
use Rattle.binfarce_logs.specs.Word.{address_len}

-- an address may begin with this byte
abbrev pub may_begin : (bare : Bool) → ℕ → Bool
may_begin bare b = if bare then is_ascii_hexdigit b else nat_eq b 48

-- after the last text comes nothing, and after another text whatever may come
abbrev pub MayFollow : (is_last : Bool) (more : List ℕ) → Type 0
MayFollow is_last more = is_last ≡ true → more ≡ []

-- the address that the text begins with, or that it begins with none, stays whatever may come after it
abbrev pub IsDecided : (bare is_last : Bool) (text : List ℕ) → Type 0
IsDecided bare is_last text = (before more : List ℕ) → MayFollow is_last more → address_len bare before (text ++ more) ≡ address_len bare before text
