-- Limits on sums, and what work on files came to.
use Rattle.std.specs.Prelude.{ℕ, Bool, List, ◌&&◌, ◌||◌, nat_eq, Option, Some, None, if◌then◌else◌}
use Rattle.binfarce_jobs.specs.declared.hint.Hint.{Hint}
use Rattle.binfarce_jobs.specs.declared.hint.Hint.TheVariants.{Excess, Nothing}
use Rattle.binfarce_figures.specs.declared.diff.Growth.{Growth}
use Rattle.std.specs.List.{list_any}
use Rattle.binfarce_limits.specs.Excess.{excess_of}
use Rattle.binfarce_limits.specs.Rows.{Found, is_found_above}
use Rattle.binfarce_limits.specs.declared.excess.Counted.TheVariants as counts
use Rattle.binfarce_limits.specs.declared.excess.Excess as excesses
use Rattle.binfarce_words.specs.declared.takes.Limit.{Limit}
use Rattle.binfarce_words.specs.declared.takes.Limit.TheVariants.{Bytes}
use Rattle.binfarce_jobs.specs.declared.limit.Verdict.{Verdict}

-- what work and other work came to: all is done where both are, and a sum exceeds its limit where one does in either
abbrev pub and_then : Verdict → Verdict → Verdict
and_then a b = record { is_done = a.is_done && b.is_done; is_above = a.is_above || b.is_above }

-- the hint on what is more than a limit, if anything is
abbrev pub exceeded : (more : Option excesses.Excess) → Limit → Option Hint
exceeded (Some more) limit = Some (Excess more limit)
exceeded None limit = None

-- a sum is more than this limit, or it is 0: where nothing is counted no limit is held. A limit in per cent is one on growth
abbrev pub above : (sum : ℕ) → (limit : Option Limit) → Option Hint
above sum (Some (Bytes most)) = if nat_eq sum 0 then Some Nothing else exceeded (excess_of (counts.Size sum) (Bytes most)) (Bytes most)
above sum limit = None

-- growth without an excess, where the new sum is 0
abbrev pub nothing_or : (new : ℕ) → (more : Option excesses.Excess) → Limit → Option Hint
nothing_or new (Some more) limit = Some (Excess more limit)
nothing_or new None limit = if nat_eq new 0 then Some Nothing else None

-- a sum grew by more than this limit, or the new one is 0
abbrev pub grown : Growth → (limit : Option Limit) → Option Hint
grown growth (Some limit) = nothing_or growth.new (excess_of (counts.Growth growth.old growth.new) limit) limit
grown growth None = None

-- a row is above its limit
abbrev pub are_above : List Found → Bool
are_above found = list_any is_found_above found
