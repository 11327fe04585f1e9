-- The runs of a name that is rewritten, and the marks between them.
use Rattle.std.specs.Prelude.{◌≡◌, ℕ, zero, suc, ◌<◌, ◌≤◌, Bool, true, false, ◌&&◌, List, [], ◌∷◌, length, nat_le, slice_index, take}
use Rattle.std.specs.List.{list_any}
use Rattle.binfarce_figures.specs.declared.generic.Shape.{Shape}
use Rattle.binfarce_figures.specs.declared.generic.Shape.TheVariants.{Generic, Stack}

-- a character that is looked at by itself: outside of brackets `:`, `;`, `<` or `=`, and within them `;`, `<`, `=` or `>`. Any other opens and closes no
-- bracket, and is shown as it is, unless all of the brackets is left out
abbrev pub is_mark : (depth c : ℕ) → Bool
is_mark zero c = nat_le 58 c && nat_le c 61
is_mark (suc depth) c = nat_le 59 c && nat_le c 62

-- the first n bytes are a run: those before the first mark, or all
pub record IsRun (depth : ℕ) (bytes : List ℕ) (n : ℕ) : Type 0 where
  pub within : n ≤ length bytes
  pub plain : list_any (is_mark depth) (take n bytes) ≡ false
  pub mark : n < length bytes → is_mark depth (slice_index bytes n) ≡ true

-- what is shown of a run: generic arguments are left out
abbrev pub run_shown : Shape → (depth : ℕ) → List ℕ → List ℕ
run_shown Generic zero run = run
run_shown Generic (suc depth) run = []
run_shown Stack depth run = run

-- the last of bytes, or what is before them if there are none
abbrev pub last_of : (before : ℕ) → List ℕ → ℕ
last_of before [] = before
last_of before (c ∷ others) = last_of c others
