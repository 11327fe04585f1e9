-- The answers to the lines of a text.
use Rattle.std.specs.Prelude.{◌≡◌, ◌≤◌, ℕ, List, ◌++◌, length, drop, Option}
use Rattle.binfarce.specs.Symbol.{Entry}
use Rattle.binfarce_addresses.specs.declared.lookup.Lookup.{Lookup}
use Rattle.binfarce_addresses.specs.declared.stream.Answered.{Answered}
use Rattle.binfarce_addresses.specs.Counts.{AreCountsOf, answers_to}
use Rattle.binfarce_addresses.specs.Stream.{AreAnswersOf, Begins, HasNoLineFeed}

-- the answers of the text's whole lines were written; the rest has no line feed
pub record AnswersOf (entries : List Entry) (lookup : Lookup) (text old new : List ℕ) (answered : Answered) : Type 0 where
  pub within : answered.len ≤ length text
  pub addresses : List (Option ℕ)
  pub begins : Begins text addresses (drop answered.len text)
  pub part : HasNoLineFeed (drop answered.len text)
  pub answers : List ℕ
  pub are : AreAnswersOf entries lookup addresses answers
  pub written : new ≡ old ++ answers
  pub counts : AreCountsOf (answers_to entries lookup addresses) answered.counts
