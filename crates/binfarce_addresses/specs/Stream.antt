-- The lines of a text, their addresses, and the answers to them.
use Rattle.std.specs.Prelude.{◌≡◌, ◌≢◌, ◌⊎◌, ℕ, ◌-◌, List, [], ◌∷◌, ◌++◌, All, codes, length, take, drop, Option, Some, None, Result}
use Rattle.std.specs.Char.{is_ascii_whitespace}
use Rattle.std.specs.List.{AllZip, concat, flat_map, prefix_len, suffix_len}
use Rattle.binfarce.specs.Symbol.{Entry}
use Rattle.binfarce_addresses.specs.declared.lookup.Lookup.{Lookup}
use Rattle.binfarce_rows.specs.Address.{address_of}
use Rattle.binfarce_addresses.specs.Counts.{AreCountsOf, answers_to}
use Rattle.binfarce_addresses.specs.declared.counts.Counts.{Counts}
use Rattle.binfarce_addresses.specs.Lines.{IsLineIn, answer_object}
use Rattle.binfarce_rows.specs.Json as json
use Rattle.binfarce_rows.specs.Json.{Style, style_of}
use Rattle.binfarce_text.specs.Streams as streams
use Rattle.binfarce_text.specs.declared.streams.StreamError.{StreamError}

-- a text without the white space that it begins with
abbrev pub trim_start : List ℕ → List ℕ
trim_start text = drop (prefix_len is_ascii_whitespace text) text

-- a text without the white space that it ends with
abbrev pub trim_end : List ℕ → List ℕ
trim_end text = take (length text - suffix_len is_ascii_whitespace text) text

-- the address in a line, without the white space at both ends: blanks, tabs, and a carriage return before its line feed
abbrev pub line_address : List ℕ → Option ℕ
line_address line = address_of (trim_end (trim_start line))

-- a text has no line feed
abbrev pub HasNoLineFeed : List ℕ → Type 0
HasNoLineFeed text = All (λ byte. byte ≢ 10) text

-- the line has this address, or none
abbrev pub Writes : List ℕ → Option ℕ → Type 0
Writes line address = HasNoLineFeed line × (line_address line ≡ address)

-- lines, each with its line feed
abbrev pub with_line_feeds : List (List ℕ) → List ℕ
with_line_feeds lines = flat_map (λ line. line ++ 10 ∷ []) lines

-- a text is whole lines with these addresses, or none, and then a rest
pub record Begins (text : List ℕ) (addresses : List (Option ℕ)) (left : List ℕ) : Type 0 where
  pub lines : List (List ℕ)
  pub each : AllZip Writes lines addresses
  pub are : text ≡ with_line_feeds lines ++ left

-- the last line of a text has no line feed: these are the addresses of all
abbrev pub EndsIn : List ℕ → List (Option ℕ) → Type 0
EndsIn text addresses =
    (front : List (Option ℕ)) × (last : List ℕ) × Begins text front last × HasNoLineFeed last × (last ≢ []) × (addresses ≡ front ++ line_address last ∷ [])

-- a text is lines with these addresses, or none, and then a rest; the last line of the text may have no line feed
abbrev pub Reads : List ℕ → List (Option ℕ) → List ℕ → Type 0
Reads text addresses left = Begins text addresses left ⊎ (EndsIn text addresses × (left ≡ []))

-- the answer in this style to a line: that of its address, or, if it has none, `??`, or an object without an address
abbrev pub IsAnswerIn : Style → List Entry → Lookup → Option ℕ → List ℕ → Type 0
IsAnswerIn json.lines entries lookup None answer = answer ≡ codes "??\n"
IsAnswerIn (json.objects file section) entries lookup None answer = answer ≡ answer_object file None None
IsAnswerIn style entries lookup (Some address) answer = IsLineIn style entries lookup address answer

-- the same in the style of the lookup
abbrev pub IsAnswerOf : List Entry → Lookup → Option ℕ → List ℕ → Type 0
IsAnswerOf entries lookup address answer = IsAnswerIn (style_of lookup.form) entries lookup address answer

-- text is the answers to lines with these addresses, in their order
abbrev pub AreAnswersOf : List Entry → Lookup → List (Option ℕ) → List ℕ → Type 0
AreAnswersOf entries lookup addresses text = (answers : List (List ℕ)) × AllZip (IsAnswerOf entries lookup) addresses answers × (text ≡ concat answers)

-- all lines of a text are answered, and these are the counts of their answers
abbrev pub AnswersAll : List Entry → Lookup → (counts : Counts) (text answers : List ℕ) → Type 0
AnswersAll entries lookup counts text answers =
    (addresses : List (Option ℕ)) × Reads text addresses [] × AreAnswersOf entries lookup addresses answers × AreCountsOf (answers_to entries lookup addresses) counts

-- the whole lines of a text are answered
abbrev pub AnswersWhole : List Entry → Lookup → (text answers : List ℕ) → Type 0
AnswersWhole entries lookup text answers =
    (addresses : List (Option ℕ)) × (rest : List ℕ) × Begins text addresses rest × HasNoLineFeed rest × AreAnswersOf entries lookup addresses answers

-- written is a beginning of the answers to some lines of a text
abbrev pub AnswersSome : List Entry → Lookup → (text written : List ℕ) → Type 0
AnswersSome entries lookup text written =
    (addresses : List (Option ℕ)) × (rest : List ℕ) × (others : List ℕ) × Reads text addresses rest × AreAnswersOf entries lookup addresses (written ++ others)

-- what was read and written: all lines were answered; or the reader failed, and the whole lines before were answered; or a write or an allocation
-- failed, and a beginning was written
abbrev pub Streams : List Entry → Lookup → (given left old new : Option (List ℕ)) → Result Counts StreamError → Type 0
Streams entries lookup given left old new result = streams.Streams (AnswersAll entries lookup) (AnswersWhole entries lookup) (AnswersSome entries lookup) given left old new result
