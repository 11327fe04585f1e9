-- The steps of annotating a text.
use Rattle.std.specs.Prelude.{◌≡◌, ◌≤◌, ◌<◌, ◌⊎◌, ℕ, ◌+◌, max, Bool, true, false, List, [], ◌∷◌, ◌++◌, drop, length, take, slice_index_or, Option, Some, None, MatchOption, Result, Ok, Err}
use Rattle.binfarce.specs.Symbol.{Entry}
use Rattle.binfarce_logs.specs.Annotated.{ArePiecesAfter, File, IsCounted, IsPrefixOf, Piece, answers_of, text_of}
use Rattle.binfarce_addresses.specs.Counts.{AreCountsOf, AddsUp}
use Rattle.binfarce_logs.specs.Word.{address_len}
use Rattle.binfarce_logs.specs.declared.annotate.Annotating.{Annotating}
use Rattle.binfarce_logs.specs.declared.annotate.Files.{Files}
use Rattle.binfarce_addresses.specs.declared.counts.Counts.{Counts}
use Rattle.binfarce_addresses.specs.declared.counts.Reply.{Reply}
use Rattle.binfarce_addresses.specs.Places.{IsAtPlace}
use Rattle.binfarce_logs.specs.machine.Words.{MayFollow}

-- how many bytes before an address can matter: the longest path, and what may come before and after it
abbrev pub reach : List File → ℕ
reach [] = 5
reach (file ∷ files) = max (length file.1.path.now + 5) (reach files)

-- the files stay, and what an address is
abbrev pub IsSame : (old new : Files) → Type 0
IsSame old new = (new.names.items ≡ old.names.items) × (new.is_bare ≡ old.is_bare)

-- the entry is at the place in the file at a place
abbrev pub IsAtFile : List File → (at place : ℕ) → Entry → Type 0
IsAtFile files at place entry = (at < length files) × ((d : File) → IsAtPlace (slice_index_or files at d).0 place entry)

-- this is found: the place of a file, the place of an entry there, and the offset into it
abbrev pub IsFoundHere : List File → Option (Entry × ℕ) → Option (ℕ × (ℕ × ℕ)) → Type 0
IsFoundHere files found here = MatchOption here (found ≡ None) (λ h. (entry : Entry) × (found ≡ Some (entry, h.1.1)) × IsAtFile files h.0 h.1.0 entry)

-- the same, where it is asked for and clear
abbrev pub IsFoundBy : List File → Result (Option (Entry × ℕ)) Reply → Result (Option (ℕ × (ℕ × ℕ))) Reply → Type 0
IsFoundBy files found (Err reply) = found ≡ Err reply
IsFoundBy files found (Ok here) = (f : Option (Entry × ℕ)) × (found ≡ Ok f) × IsFoundHere files f here

-- all of the text before a position, which comes after `front`, is kept, or enough of it
abbrev pub IsEnough : List File → (front : List ℕ) (at : ℕ) → Type 0
IsEnough files front at = (front ≡ []) ⊎ (reach files ≤ at)

-- the pieces of the first n bytes of a text after `before`, which are these unless what follows the text changes the address that it begins with
abbrev pub Shows : (files : List File) (bare : Bool) (before text : List ℕ) (n : ℕ) (shown : List Piece) → Type 0
Shows files bare before text n shown =
    (more : List ℕ) (pieces : List Piece) → address_len bare before (text ++ more) ≡ address_len bare before text
    → ArePiecesAfter files bare (before ++ take n text) (drop n text ++ more) pieces → ArePiecesAfter files bare before (text ++ more) (shown ++ pieces)

-- old has grown by the bytes of pieces, and the counts by their answers
abbrev pub Grows : (shown : List Piece) (old new : List ℕ) (before after : Counts) → Type 0
Grows shown old new before after = (new ≡ old ++ text_of shown) × AddsUp before after (answers_of shown)

-- old has grown by the first n bytes of a text, of which this comes before, or ends what does
abbrev pub ShowsFirst : (files : List File) (bare : Bool) (before text : List ℕ) (n : ℕ) (old new : List ℕ) (counts after : Counts) → Type 0
ShowsFirst files bare before text n old new counts after =
    (shown : List Piece) × ((front : List ℕ) → IsEnough files front (length before) → Shows files bare (front ++ before) text n shown) × Grows shown old new counts after

-- made, and then the pieces of what is left and of what may follow, are those of the whole text
abbrev pub Leaves : (files : List File) (bare is_last : Bool) (gone left : List ℕ) (made : List Piece) → Type 0
Leaves files bare is_last gone left made =
    (more : List ℕ) (pieces : List Piece) → MayFollow is_last more → ArePiecesAfter files bare gone (left ++ more) pieces → ArePiecesAfter files bare [] (gone ++ (left ++ more)) (made ++ pieces)

-- so for a text that comes after `front`, and of which the bytes before a position are gone
abbrev pub LeavesAt : (files : List File) (bare is_last : Bool) (front text : List ℕ) (at : ℕ) (made : List Piece) → Type 0
LeavesAt files bare is_last front text at made = Leaves files bare is_last (front ++ take at text) (drop at text) made

-- old has grown by the text between two positions
abbrev pub ShowsTo : (files : List File) (bare is_last : Bool) (text : List ℕ) (from at : ℕ) (old new : List ℕ) (counts after : Counts) → Type 0
ShowsTo files bare is_last text from at old new counts after =
    (shown : List Piece)
    × ((front : List ℕ) (made : List Piece) → IsEnough files front from → LeavesAt files bare is_last front text from made → LeavesAt files bare is_last front text at (made ++ shown))
    × Grows shown old new counts after

-- of a text the end is kept, and all before a position in that was shown
pub record HasShown (files : List File) (bare is_last : Bool) (text kept : List ℕ) (at : ℕ) (made : List Piece) : Type 0 where
  pub front : List ℕ
  pub are : text ≡ front ++ kept
  pub within : at ≤ length kept
  pub enough : IsEnough files front at
  pub leaves : LeavesAt files bare is_last front kept at made

-- made is what was shown of a text, and counted
abbrev pub HasMade : (files : List File) (bare is_last : Bool) (text kept : List ℕ) (at : ℕ) (counts : Counts) (made : List ℕ) → Type 0
HasMade files bare is_last text kept at counts made = (pieces : List Piece) × HasShown files bare is_last text kept at pieces × (made ≡ text_of pieces) × AreCountsOf (answers_of pieces) counts

abbrev pub Holds : (first now : Annotating) (text made : List ℕ) → Type 0
Holds first now text made = IsSame first.files now.files × HasMade first.files.names.items first.files.is_bare false text now.kept.items now.from now.files.counts made

abbrev pub IsDone : (first now : Annotating) (ended : Bool) (text made : List ℕ) → Type 0
IsDone first now ended text made = IsCounted first.files.names.items first.files.is_bare now.files.counts text made

abbrev pub MayBreakOff : (first : Annotating) (text made : List ℕ) → Type 0
MayBreakOff first text made = IsPrefixOf first.files.names.items first.files.is_bare text made

-- the next part is shown, at the text's end all of it
abbrev pub Annotates : (old new : Annotating) (is_last : Bool) (part more : List ℕ) → Type 0
Annotates old new is_last part more =
    IsSame old.files new.files
    × ((text made : List ℕ) → HasMade old.files.names.items old.files.is_bare false text old.kept.items old.from old.files.counts made
    → HasMade old.files.names.items old.files.is_bare is_last (text ++ part) new.kept.items new.from new.files.counts (made ++ more))
    × (is_last ≡ true → new.from ≡ length new.kept.items)
