-- The steps of answering lines.
use Rattle.std.specs.Prelude.{◌≡◌, ◌≤◌, ℕ, Bool, true, false, List, [], ◌++◌, length, drop, Option}
use Rattle.binfarce.specs.Symbol.{Entry}
use Rattle.binfarce_addresses.specs.declared.lookup.Lookup.{Lookup}
use Rattle.binfarce_addresses.specs.Counts.{AreCountsOf, answers_to, AddsUp}
use Rattle.binfarce_addresses.specs.declared.counts.Counts.{Counts}
use Rattle.binfarce_addresses.specs.declared.stream.Lines.{Lines}
use Rattle.binfarce_addresses.specs.Stream.{line_address, AnswersAll, AnswersSome, AnswersWhole, AreAnswersOf, Begins, HasNoLineFeed}

-- the whole lines of a text have these addresses, or none; the rest has no line feed
pub record AreAddressesOf (text : List ℕ) (addresses : List (Option ℕ)) (len : ℕ) : Type 0 where
  pub within : len ≤ length text
  pub begins : Begins text addresses (drop len text)
  pub part : HasNoLineFeed (drop len text)

-- the answers of the whole lines of a text, of this length, follow an old text, and are counted
pub record AnswersLines (entries : List Entry) (lookup : Lookup) (text old new : List ℕ) (before after : Counts) (len : ℕ) : Type 0 where
  pub addresses : List (Option ℕ)
  pub are : AreAddressesOf text addresses len
  pub answers : List ℕ
  pub answer : AreAnswersOf entries lookup addresses answers
  pub written : new ≡ old ++ answers
  pub counts : AddsUp before after (answers_to entries lookup addresses)

-- the first part of a line is kept as another text, without a line feed if the part has none: whatever follows, both have the same address; and both
-- are empty, or neither is
pub record IsKeptOf (line kept : List ℕ) : Type 0 where
  pub same : (more : List ℕ) → line_address (kept ++ more) ≡ line_address (line ++ more)
  pub part : HasNoLineFeed line → HasNoLineFeed kept
  pub none : kept ≡ [] → line ≡ []
  pub some : line ≡ [] → kept ≡ []

-- the whole lines of a text are answered and counted, and this is kept of the rest
pub record HasAnswered (entries : List Entry) (lookup : Lookup) (kept : List ℕ) (counts : Counts) (text answers : List ℕ) : Type 0 where
  pub rest : List ℕ
  pub addresses : List (Option ℕ)
  pub is_kept : IsKeptOf rest kept
  pub begins : Begins text addresses rest
  pub part : HasNoLineFeed rest
  pub are : AreAnswersOf entries lookup addresses answers
  pub counted : AreCountsOf (answers_to entries lookup addresses) counts

-- the next part of a text is answered, of which this was kept: its lines are counted, and this is kept now
pub record AnswersPart (entries : List Entry) (lookup : Lookup) (kept part next : List ℕ) (before after : Counts) (more : List ℕ) : Type 0 where
  pub rest : List ℕ
  pub addresses : List (Option ℕ)
  pub is_kept : IsKeptOf rest next
  pub begins : Begins (kept ++ part) addresses rest
  pub feedless : HasNoLineFeed rest
  pub are : AreAnswersOf entries lookup addresses more
  pub counted : AddsUp before after (answers_to entries lookup addresses)

abbrev pub Holds : (first now : Lines) (text made : List ℕ) → Type 0
Holds first now text made = (now.names ≡ first.names) × HasAnswered first.names.0 first.names.1 now.line.items now.counts text made

abbrev pub IsDone : (first now : Lines) (ended : Bool) (text made : List ℕ) → Type 0
IsDone first now true text made = AnswersAll first.names.0 first.names.1 now.counts text made
IsDone first now false text made = AnswersWhole first.names.0 first.names.1 text made

abbrev pub MayBreakOff : (first : Lines) (text made : List ℕ) → Type 0
MayBreakOff first text made = AnswersSome first.names.0 first.names.1 text made

abbrev pub Answers : (old new : Lines) (part more : List ℕ) → Type 0
Answers old new part more = (new.names ≡ old.names) × AnswersPart old.names.0 old.names.1 old.line.items part new.line.items old.counts new.counts more
