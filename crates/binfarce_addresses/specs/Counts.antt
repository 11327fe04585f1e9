-- How many addresses were asked for, and how many of them a function symbol holds.
use Rattle.std.specs.Prelude.{◌≡◌, ℕ, ◌-◌, ◌^◌, ◌++◌, min, Bool, true, false, List, map, Option, Some, None, is_some}
use Rattle.std.specs.List.{count_by}
use Rattle.binfarce.specs.Symbol.{Entry}
use Rattle.binfarce_addresses.specs.Lookup.{found_at}
use Rattle.binfarce_addresses.specs.declared.counts.Counts.{Counts}
use Rattle.binfarce_addresses.specs.declared.counts.Reply.{Reply}
use Rattle.binfarce_addresses.specs.declared.counts.Reply.TheVariants.{Unasked, Unclear, Held}
use Rattle.binfarce_addresses.specs.declared.lookup.Lookup.{Lookup}

-- the reply isn't asked for: it is one to a line without an address, or to an offset in a text into another file or a function
abbrev pub is_unasked : Reply → Bool
is_unasked Unasked = true
is_unasked reply = false

abbrev pub is_asked : Reply → Bool
is_asked Unasked = false
is_asked reply = true

-- the reply is that a function symbol holds the address
abbrev pub is_yes : Reply → Bool
is_yes (Held held) = held
is_yes reply = false

-- the reply is that several files have the name before an offset
abbrev pub is_unclear : Reply → Bool
is_unclear Unclear = true
is_unclear reply = false

-- the counts of replies, each at most 2^64 - 1
pub record AreCountsOf (replies : List Reply) (counts : Counts) : Type 0 where
  pub asked : counts.asked ≡ min (count_by is_asked replies) (2 ^ 64 - 1)
  pub found : counts.found ≡ min (count_by is_yes replies) (2 ^ 64 - 1)
  pub unclear : counts.unclear ≡ min (count_by is_unclear replies) (2 ^ 64 - 1)
  pub missing : counts.missing ≡ min (count_by is_unasked replies) (2 ^ 64 - 1)

-- the counts grow by those of more replies
abbrev pub AddsUp : (old new : Counts) (replies : List Reply) → Type 0
AddsUp old new replies = (before : List Reply) → AreCountsOf before old → AreCountsOf (before ++ replies) new

-- whether a function symbol holds an address
abbrev pub is_held : List Entry → Lookup → ℕ → Bool
is_held entries lookup address = is_some (found_at entries lookup address)

-- the reply to a line with this address, or with none
abbrev pub reply_to : List Entry → Lookup → Option ℕ → Reply
reply_to entries lookup None = Unasked
reply_to entries lookup (Some address) = Held (is_held entries lookup address)

-- the replies to addresses
abbrev pub answers_at : List Entry → Lookup → List ℕ → List Reply
answers_at entries lookup addresses = map (λ address. Held (is_held entries lookup address)) addresses

-- the replies to lines with these addresses, or with none
abbrev pub answers_to : List Entry → Lookup → List (Option ℕ) → List Reply
answers_to entries lookup addresses = map (reply_to entries lookup) addresses
