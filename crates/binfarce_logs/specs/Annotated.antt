-- A text in which each address is followed by its symbol, by the function symbols of some files.
use Rattle.std.specs.Prelude.{◌≡◌, ◌<◌, ℕ, Bool, ◌&&◌, List, [], ◌∷◌, ◌++◌, codes, drop, take, flat_map, map, max, nat_eq, Option, Some, None, is_some, Result, Ok, Err, if◌then◌else◌}
use Rattle.std.specs.List.{filter}
use Rattle.std.specs.Option.{option_or}
use Rattle.binfarce.specs.Symbol.{Entry}
use Rattle.binfarce_rows.specs.Address.{address_of}
use Rattle.binfarce_addresses.specs.Counts.{AreCountsOf}
use Rattle.binfarce_addresses.specs.Lines.{IsPlaceOf}
use Rattle.binfarce_addresses.specs.Lookup.{at_offset, found_at, found_in, has_symbol}
use Rattle.binfarce_logs.specs.Maps.{name_of}
use Rattle.binfarce_logs.specs.Module.{ends_with_plus, name_len, names_symbol}
use Rattle.binfarce_logs.specs.Word.{address_len}
use Rattle.binfarce_addresses.specs.declared.counts.Counts.{Counts}
use Rattle.binfarce_addresses.specs.declared.counts.Reply.{Reply}
use Rattle.binfarce_addresses.specs.declared.counts.Reply.TheVariants.{Unasked, Unclear, Held}
use Rattle.binfarce_addresses.specs.declared.lookup.Lookup.{Lookup}
use Rattle.binfarce_logs.specs.declared.modules.Module as code
use Rattle.binfarce_text.specs.Streams.{Streams}
use Rattle.binfarce_text.specs.declared.streams.StreamError.{StreamError}

-- a file that addresses may be in: its function symbols, and how an address is looked up among them
abbrev pub File : Type 0
File = List Entry × Lookup

-- the files that a call is given
abbrev pub files_of : List code.Module → List File
files_of modules = map (λ (m : code.Module). (m.places.now, m.lookup)) modules

-- what is found at an address: in the first file with a function symbol that holds it
abbrev pub found_among : List File → ℕ → Option (Entry × ℕ)
found_among [] address = None
found_among (file ∷ files) address = option_or (found_at file.0 file.1 address) (found_among files address)

-- a function symbol of the file has the name behind the last `/` of its path
abbrev pub has_own_name : File → Bool
has_own_name file = has_symbol file.0 (name_of file.1.path.now)

-- how many bytes the name of this file has that comes before an offset, at the end of `before`. 0 if none is there, and where it may be that of a
-- function of the file
abbrev pub name_before : File → (before : List ℕ) → ℕ
name_before file before = if has_own_name file && names_symbol (name_of file.1.path.now) before then 0 else name_len file.1.path.now before

-- how many bytes the longest name of a file has that comes before an offset, at the end of `before`. 0 if no file's name is there
abbrev pub longest_name : List File → (before : List ℕ) → ℕ
longest_name [] before = 0
longest_name (file ∷ files) before = max (name_before file before) (longest_name files before)

-- the files whose name there is so long
abbrev pub named_by : (len : ℕ) → List File → (before : List ℕ) → List File
named_by len files before = filter (λ (file : File). nat_eq (name_before file before) len) files

-- what is found at an offset in these files: one file answers, and none of several
abbrev pub found_in_one : List File → (offset : ℕ) → Result (Option (Entry × ℕ)) Reply
found_in_one [] offset = Err Unasked
found_in_one (file ∷ []) offset = Ok (found_in file.0 file.1.is_return (at_offset file.1 offset))
found_in_one (file ∷ other ∷ files) offset = Err Unclear

-- what is found at an offset that comes after `before`: in the file that has the longest name there. Where no file's name is there, the offset is one of
-- another file or into a function, and not asked for
abbrev pub found_behind : List File → (before : List ℕ) → (offset : ℕ) → Result (Option (Entry × ℕ)) Reply
found_behind files before offset = if nat_eq (longest_name files before) 0 then Err Unasked else found_in_one (named_by (longest_name files before) files before) offset

-- what is found for a number that comes after `before`: behind `+` it is an offset, and else an address
abbrev pub found_for : List File → (before : List ℕ) → (number : ℕ) → Result (Option (Entry × ℕ)) Reply
found_for files before number = if ends_with_plus before then found_behind files before number else Ok (found_among files number)

-- what is found for a word: nothing, where it writes no number
abbrev pub found_by : List File → (before : List ℕ) → (number : Option ℕ) → Result (Option (Entry × ℕ)) Reply
found_by files before None = Err Unasked
found_by files before (Some number) = found_for files before number

-- what is added for what is found: ` <{name}+0x{offset:x}>`, or nothing
abbrev pub IsAddedFor : (found : Result (Option (Entry × ℕ)) Reply) (added : List ℕ) → Type 0
IsAddedFor (Err reply) added = added ≡ []
IsAddedFor (Ok None) added = added ≡ []
IsAddedFor (Ok (Some (entry, offset))) added = (place : List ℕ) × IsPlaceOf entry offset place × (added ≡ codes " <" ++ (place ++ codes ">"))

-- a piece of the annotated text: its bytes, and the replies to the numbers in it
abbrev pub Piece : Type 0
Piece = List ℕ × List Reply

-- a byte with which no address begins
abbrev pub other : ℕ → Piece
other b = (b ∷ [], [])

-- the reply for what is found
abbrev pub reply_for : Result (Option (Entry × ℕ)) Reply → Reply
reply_for (Err reply) = reply
reply_for (Ok found) = Held (is_some found)

-- the piece of a word for which this is found: the word, and what is added
abbrev pub IsPieceFor : (found : Result (Option (Entry × ℕ)) Reply) (word : List ℕ) (piece : Piece) → Type 0
IsPieceFor found word piece = (added : List ℕ) × IsAddedFor found added × (piece.0 ≡ word ++ added) × (piece.1 ≡ reply_for found ∷ [])

-- the piece of an address that comes after `before`
abbrev pub IsPieceOf : List File → (before word : List ℕ) → Piece → Type 0
IsPieceOf files before word piece = IsPieceFor (found_by files before (address_of word)) word piece

-- the pieces of a text, which comes after `before`, from left to right: its addresses, and each other byte by itself
pub data ArePiecesAfter (files : List File) (bare : Bool) : (before text : List ℕ) (pieces : List Piece) → Type 0 where
  nothing : (before : List ℕ) → ArePiecesAfter files bare before [] []
  other_then : (before : List ℕ) (b : ℕ) (text : List ℕ) (pieces : List Piece) → address_len bare before (b ∷ text) ≡ 0
      → ArePiecesAfter files bare (before ++ b ∷ []) text pieces → ArePiecesAfter files bare before (b ∷ text) (other b ∷ pieces)
  address_then : (before text : List ℕ) (piece : Piece) (pieces : List Piece) → 0 < address_len bare before text → IsPieceOf files before (take (address_len bare before text) text) piece
      → ArePiecesAfter files bare (before ++ take (address_len bare before text) text) (drop (address_len bare before text) text) pieces
      → ArePiecesAfter files bare before text (piece ∷ pieces)

-- the bytes of pieces
abbrev pub text_of : List Piece → List ℕ
text_of pieces = flat_map (λ (piece : Piece). piece.0) pieces

-- the replies to the numbers in them
abbrev pub answers_of : List Piece → List Reply
answers_of pieces = flat_map (λ (piece : Piece). piece.1) pieces

-- annotated is the text with its symbols
abbrev pub IsAnnotated : (files : List File) (bare : Bool) (text annotated : List ℕ) → Type 0
IsAnnotated files bare text annotated = (pieces : List Piece) × ArePiecesAfter files bare [] text pieces × (annotated ≡ text_of pieces)

-- the same, and these are the counts of the replies
abbrev pub IsCounted : (files : List File) (bare : Bool) (counts : Counts) (text annotated : List ℕ) → Type 0
IsCounted files bare counts text annotated = (pieces : List Piece) × ArePiecesAfter files bare [] text pieces × (annotated ≡ text_of pieces) × AreCountsOf (answers_of pieces) counts

-- written is a prefix of the annotated text
abbrev pub IsPrefixOf : (files : List File) (bare : Bool) (text written : List ℕ) → Type 0
IsPrefixOf files bare text written = (more : List ℕ) × IsAnnotated files bare text (written ++ more)

-- what was read and written: all was annotated and counted; or the reader failed, and all before was annotated; or a write or an allocation failed, and
-- a beginning was written
abbrev pub AnnotatesAll : (files : List File) (bare : Bool) (given left old new : Option (List ℕ)) (result : Result Counts StreamError) → Type 0
AnnotatesAll files bare given left old new result = Streams (IsCounted files bare) (IsAnnotated files bare) (IsPrefixOf files bare) given left old new result
