-- The output of a `TextFilter` for a text that comes in parts.
use Rattle.std.specs.Prelude.{◌≡◌, ℕ, Bool, true, false, List, [], ◌++◌, if◌then◌else◌}
use Rattle.binfarce_filtering.specs.Continued.{Continues}
use Rattle.binfarce_filtering.specs.Filter.{IsFiltered, IsShown, is_run, is_too_long}
use Rattle.binfarce_filtering.specs.declared.filter.TextFilter.{TextFilter}

-- the output so far for the run at the end of a text: the run itself where it is too long, whatever follows it
abbrev pub shown_so_far : (run : List ℕ) → List ℕ
shown_so_far run = if is_too_long run then run else []

-- shown is the output for a text that ends in this run: all for the part before the run, and for the run its output so far
pub record HasShown (full : Bool) (text run shown : List ℕ) : Type 0 where
  pub before : List ℕ
  pub written : List ℕ
  pub text_is : text ≡ before ++ run
  pub is_run : is_run run ≡ true
  pub continues : Continues full before written
  pub shown_is : shown ≡ written ++ shown_so_far run

-- a filter keeps all of the run, unless that is too long
abbrev pub IsKeptIf : (too_long : Bool) (kept run : List ℕ) → Type 0
IsKeptIf true kept run = is_too_long run ≡ true
IsKeptIf false kept run = kept ≡ run

abbrev pub IsKept : (kept run : List ℕ) → Type 0
IsKept kept run = IsKeptIf (is_too_long kept) kept run

-- a filter with these names (`own`) that keeps this of the run has read this text, and has written this output for it
pub record HasTaken (own : Bool) (kept : List ℕ) (full : Bool) (text shown : List ℕ) : Type 0 where
  pub run : List ℕ
  pub full_is : own ≡ full
  pub is_kept : IsKept kept run
  pub has_shown : HasShown full text run shown

abbrev pub Holds : (full : Bool) (filter : TextFilter) (text shown : List ℕ) → Type 0
Holds full filter text shown = HasTaken filter.full filter.run.items full text shown

-- a filter reads the next part of its text, and writes more
abbrev pub Goes : (old new : TextFilter) (part more : List ℕ) → Type 0
Goes old new part more = (full : Bool) (text shown : List ℕ) → Holds full old text shown → Holds full new (text ++ part) (shown ++ more)

-- with this, the output of a filter is complete
abbrev pub IsDone : (filter : TextFilter) (more : List ℕ) → Type 0
IsDone filter more = (full : Bool) (text shown : List ℕ) → Holds full filter text shown → IsFiltered full text (shown ++ more)

-- the text so far ends in no run
abbrev pub IsBetweenRuns : (filter : TextFilter) → Type 0
IsBetweenRuns filter = filter.run.items ≡ []

-- where the run ends with these bytes, and more is written, the output for the run is complete
abbrev pub Shows : (filter : TextFilter) (bytes more : List ℕ) → Type 0
Shows filter bytes more =
    (run : List ℕ) → IsKept filter.run.items run → (shown : List ℕ) × IsShown filter.full (run ++ bytes) shown × (shown_so_far run ++ more ≡ shown)

-- a filter replaces names by their complete text
abbrev pub is_full : (filter : TextFilter) → Bool
is_full filter = filter.full
