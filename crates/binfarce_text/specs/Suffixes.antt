-- The suffixes that LLVM adds to a mangled name: `.llvm.` with a number, and other words that begin with `.`.
use Rattle.std.specs.Prelude.{◌≡◌, ℕ, Bool, true, ◌&&◌, ◌||◌, List, [], ◌∷◌, if◌then◌else◌, ◌==◌, nat_eq, codes, drop}
use Rattle.std.proofs.Common.{refl}
use Rattle.std.specs.List.{list_all, starts_with}
use Rattle.std.specs.Char.{is_ascii_digit, is_ascii_graphic}
use Rattle.std.specs.Int.{is_in_range}
use Rattle.binfarce_text.specs.Letters.{dot, at_sign, 'A', 'F'}

-- a byte of the number after `.llvm.`: `0` to `9`, `A` to `F` or `@`
abbrev pub is_llvm_digit : (byte : ℕ) → Bool
is_llvm_digit byte = is_ascii_digit byte || is_in_range 'A' 'F' byte || byte == at_sign

-- the text without its `.llvm.` suffix: the first `.llvm.` and all after it are left out where only such bytes, or none, follow it. A later `.llvm.`
-- isn't considered
unfoldable pub without_llvm : (text : List ℕ) → List ℕ
without_llvm [] = []
without_llvm (b ∷ text) =
    if starts_with nat_eq (b ∷ text) (codes ".llvm.")
    then (if list_all is_llvm_digit (drop 6 (b ∷ text)) then [] else b ∷ text)
    else b ∷ without_llvm text

-- what may follow a mangling: nothing, or printable ASCII without spaces that begins with `.`
unfoldable pub is_allowed_rest : (rest : List ℕ) → Bool
is_allowed_rest [] = true
is_allowed_rest (b ∷ rest) = b == dot && list_all is_ascii_graphic (b ∷ rest)

-- of two names that differ in the case of a digit, one loses its suffix, and the other has an allowed rest
worked_suffix : without_llvm (codes "_ZN4testE.llvm.1F") ≡ codes "_ZN4testE"
unfolding without_llvm
worked_suffix = refl

worked_lower_case : without_llvm (codes "_ZN4testE.llvm.1f") ≡ codes "_ZN4testE.llvm.1f"
unfolding without_llvm
worked_lower_case = refl

worked_rest : is_allowed_rest (codes ".llvm.1f") ≡ true
unfolding is_allowed_rest
worked_rest = refl
