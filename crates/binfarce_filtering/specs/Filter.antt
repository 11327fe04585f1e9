-- A text in which mangled names are made readable.
use Rattle.std.specs.Prelude.{◌≡◌, ℕ, ◌+◌, Bool, true, false, not, ◌&&◌, ◌||◌, ◌==◌, nat_eq, nat_lt, List, [], ◌∷◌, ◌++◌, length, take, drop, slice_index, codes, if◌then◌else◌}
use Rattle.std.specs.Char.{is_ascii_alphanumeric, is_ascii_digit, is_control}
use Rattle.std.specs.List.{list_all, list_any, prefix_len, starts_with}
use Rattle.std.specs.Str.{byte, bytes_eq, chars}
use Rattle.binfarce_text.specs.Suffixes.{is_llvm_digit}
use Rattle.binfarce_legacy.specs.Legacy.{Element, Reads, ends_in_hash}
use Rattle.binfarce_names.specs.Name.{Name, text_of}
use Rattle.binfarce_names.specs.Named.{IsNamed}
use Rattle.binfarce_filtering.specs.declared.filter.TheConstants.{MAX_RUN, MAX_TEXT}

-- `.`
abbrev pub is_dot : (b : ℕ) → Bool
is_dot b = b == byte "."

-- a byte of a run: an ASCII letter or digit, `_`, `$` or `.`
abbrev pub is_run_byte : (b : ℕ) → Bool
is_run_byte b = is_ascii_alphanumeric b || b == byte "_" || b == byte "$" || is_dot b

-- a run: a `_`, and bytes of a run after it; or nothing
abbrev pub is_run : (run : List ℕ) → Bool
is_run [] = true
is_run (b ∷ run) = b == byte "_" && list_all is_run_byte run

-- a run ends before this text: the text is empty, or begins with a byte that no run has
abbrev pub ends_run : (text : List ℕ) → Bool
ends_run [] = true
ends_run (b ∷ text) = not (is_run_byte b)

-- a legacy name may begin here: `_ZN` and a digit
abbrev pub begins_legacy : (run : List ℕ) → Bool
begins_legacy run = starts_with nat_eq run (codes "_ZN") && is_ascii_digit (slice_index run 3)

-- a v0 name may begin here: `_R` and the letter of a path that is more than a crate root
abbrev pub begins_v0 : (run : List ℕ) → Bool
begins_v0 run = starts_with nat_eq run (codes "_R") && list_any (λ letter. slice_index run 2 == letter) (codes "NIMXY")

-- a name may begin here
abbrev pub begins_symbol : (run : List ℕ) → Bool
begins_symbol run = begins_legacy run || begins_v0 run

-- the same, or first in its run after the `_` that some platforms put before each symbol
abbrev pub begins_name : (first : Bool) (run : List ℕ) → Bool
begins_name first run = begins_symbol run || (first && begins_symbol (drop 1 run))

-- a name ends before this rest of its run: the rest is empty, or begins with `.`
abbrev pub ends_name : (rest : List ℕ) → Bool
ends_name [] = true
ends_name (b ∷ rest) = is_dot b

-- the first n bytes of the run are a legacy mangling whose last element is a hash, as `rustc` writes it and C++ compilers don't; and a name ends there
abbrev pub IsLegacyUpTo : (run : List ℕ) (n : ℕ) → Type 0
IsLegacyUpTo run n = (elements : List Element) × Reads (drop 3 run) elements (drop n run) × (ends_in_hash elements ≡ true) × (ends_name (drop n run) ≡ true)

-- the length of the name at the front of the run. A v0 name ends before the first `.`, and a legacy name after its `E`
abbrev pub IsSymbolLength : (is_v0 : Bool) (run : List ℕ) (n : ℕ) → Type 0
IsSymbolLength true run n = n ≡ prefix_len (λ b. not (is_dot b)) run
IsSymbolLength false run n = IsLegacyUpTo run n

-- how many `_` a platform has added before the symbol at the front of a run
abbrev pub added : (run : List ℕ) → ℕ
added run = if begins_symbol run then 0 else 1

-- the same length, with the `_` that a platform has added
abbrev pub IsNameLength : (run : List ℕ) (n : ℕ) → Type 0
IsNameLength run n = (len : ℕ) × (n ≡ added run + len) × IsSymbolLength (begins_v0 (drop (added run) run)) (drop (added run) run) len

-- the length of the `.llvm.` and the number that LLVM adds to a name, or 0
abbrev pub llvm_length : (rest : List ℕ) → ℕ
llvm_length rest =
    let n = 6 + prefix_len is_llvm_digit (drop 6 rest) in
    if starts_with nat_eq rest (codes ".llvm.") && ends_name (drop n rest) then n else 0

-- a character of the text is a control character: U+0000 to U+001F or U+007F to U+009F
abbrev pub has_control : (text : List ℕ) → Bool
has_control text = list_any is_control (chars text)

-- a text that isn't shown: it has more than `MAX_TEXT` bytes, or a control character
abbrev pub is_hidden : (text : List ℕ) → Bool
is_hidden text = nat_lt MAX_TEXT (length text) || has_control text

-- the readable form of a name: the text of its answer, or the name itself where that isn't shown
abbrev pub IsReadable : (full : Bool) (name shown : List ℕ) → Type 0
IsReadable full name shown = (answer : Name) × IsNamed name answer × (shown ≡ (if is_hidden (text_of full answer) then name else text_of full answer))

-- how many bytes behind a name are dropped: of `.llvm.` and a number behind a name that changes, and none behind one that stays
abbrev pub dropped : (name readable rest : List ℕ) → ℕ
dropped name readable rest = if bytes_eq readable name then 0 else llvm_length rest

-- shown replaces a run, or its rest, from left to right: each name by its readable form, what is dropped behind it by nothing, and each other byte by
-- itself. Where a name may begin and none does, all of the rest stays
pub data IsRead (full : Bool) : (first : Bool) (run shown : List ℕ) → Type 0 where
  no_more : (first : Bool) → IsRead full first [] []
  byte_then : (first : Bool) (b : ℕ) (run shown : List ℕ) → begins_name first (b ∷ run) ≡ false → IsRead full false run shown → IsRead full first (b ∷ run) (b ∷ shown)
  name_then : (first : Bool) (run : List ℕ) (n : ℕ) (readable shown : List ℕ) → begins_name first run ≡ true → IsNameLength run n → IsReadable full (take n run) readable
      → IsRead full false (drop (dropped (take n run) readable (drop n run)) (drop n run)) shown → IsRead full first run (readable ++ shown)
  rest_stays : (first : Bool) (run : List ℕ) → begins_name first run ≡ true → ((n : ℕ) → ¬ (IsNameLength run n)) → IsRead full first run run

-- a run of more than `MAX_RUN` bytes
abbrev pub is_too_long : (run : List ℕ) → Bool
is_too_long run = nat_lt MAX_RUN (length run)

-- shown replaces a run; a run that is too long is unchanged
abbrev pub IsShownIf : (too_long full : Bool) (run shown : List ℕ) → Type 0
IsShownIf true full run shown = shown ≡ run
IsShownIf false full run shown = IsRead full true run shown

abbrev pub IsShown : (full : Bool) (run shown : List ℕ) → Type 0
IsShown full run shown = IsShownIf (is_too_long run) full run shown

-- filtered replaces the text: each run, from a `_` to the next byte that no run has, by its replacement, and each other byte by itself
pub data IsFiltered (full : Bool) : (text filtered : List ℕ) → Type 0 where
  nothing : IsFiltered full [] []
  other_then : (b : ℕ) (text filtered : List ℕ) → (b == byte "_") ≡ false → IsFiltered full text filtered → IsFiltered full (b ∷ text) (b ∷ filtered)
  run_then : (run shown text filtered : List ℕ) → is_run run ≡ true → IsShown full run shown → ends_run text ≡ true → IsFiltered full text filtered → IsFiltered full (run ++ text) (shown ++ filtered)
