-- What is left to print of a mangling's elements.
use Rattle.std.specs.Prelude.{◌≡◌, ℕ, List, ◌++◌, ◌==◌, drop, if◌then◌else◌, codes}
use Rattle.std.specs.List.{flat_map}
use Rattle.std.specs.Str.{encode_utf8_all}
use Rattle.binfarce_legacy.specs.Legacy.{Element, Reads, name_chars, legacy_chars}

-- the characters of the elements that are left after the first `at` bytes
unfoldable pub joined_left : ℕ → List Element → List ℕ
joined_left at elements =
    if at == 0 then legacy_chars elements
    else flat_map (λ e. codes "::" ++ name_chars e.name) elements

-- after `at` bytes, `left` are the elements to print after what was printed since `before`
pub record IsLeft (part : List ℕ) (at : ℕ) (before printed : List ℕ) (elements : List Element) (rest : List ℕ) (left : List Element) : Type 0 where
  pub ahead : Reads (drop at part) left rest
  pub printed_is : (chars : List ℕ) × (printed ≡ before ++ encode_utf8_all chars)
  pub joined : printed ++ encode_utf8_all (joined_left at left) ≡ before ++ encode_utf8_all (legacy_chars elements)
