-- What is answered to lines: their addresses, and what these symbolize to.
use Rattle.std.specs.Prelude.{◌≡◌, ℕ, ◌<◌, List, length, slice_index_or, Option, Some, None, is_some}
use Rattle.binfarce.specs.Symbol.{Entry}
use Rattle.binfarce_addresses.specs.declared.counts.Reply.{Reply}
use Rattle.binfarce_addresses.specs.declared.counts.Reply.TheVariants.{Unasked, Held}
use Rattle.binfarce_addresses.specs.declared.lookup.Lookup.{Lookup}
use Rattle.binfarce_addresses.specs.declared.names.Answer.{Answer}
use Rattle.binfarce_addresses.specs.machine.Places.{IsFoundFor}

-- the answer is that to a line with its address, or with none
abbrev pub IsAnswerTo : List Entry → Lookup → Answer → Type 0
IsAnswerTo entries lookup answer = IsFoundFor entries lookup answer.address answer.found

-- what is replied to a line with the address, for which this is found
abbrev pub reply_by : (address : Option ℕ) (found : Option (ℕ × ℕ)) → Reply
reply_by None found = Unasked
reply_by (Some address) found = Held (is_some found)

abbrev pub reply_of : Answer → Reply
reply_of answer = reply_by answer.address answer.found

abbrev pub no_answer : Answer
no_answer = record { address = None; found = None }

-- the answers are those to lines with the addresses, or with none
abbrev pub AreAnswersTo : List Entry → Lookup → List (Option ℕ) → List Answer → Type 0
AreAnswersTo entries lookup addresses answers =
    (length answers ≡ length addresses)
    × ((k : ℕ) → k < length addresses → ((slice_index_or answers k no_answer).address ≡ slice_index_or addresses k None) × IsAnswerTo entries lookup (slice_index_or answers k no_answer))
