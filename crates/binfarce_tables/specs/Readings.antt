-- A reading of a file, step by step: what it comes to, and which bytes of the file it takes.
use Rattle.std.specs.Prelude.{ℕ, ◌+◌, ◌^◌, Bool, List, [], ◌∷◌, length, Result, Ok, Err, IfErr, ◌≢◌, nat_le, if◌then◌else◌}
use Rattle.binfarce_bytes.specs.Number.{bytes_at}
use Rattle.binfarce_bytes.specs.Part.{Part, PartSet, part}
use Rattle.binfarce_bytes.specs.Refusal.{Refusal, if_as_long_as}
use Rattle.binfarce_bytes.specs.Source.{PartLog, ReadsOnly}
use Rattle.binfarce_tables.specs.Reading.{Reads}
use Rattle.binfarce_tables.specs.declared.error.ReadError.{ReadError}
use Rattle.binfarce_tables.specs.declared.error.ReadError.TheVariants.{Unreadable}

-- a reading: its answer, or so many bytes from an offset on, which have to lie in the file, and the reading that follows by them
pub data Reading (Y : Type 0) : Type 0 where
  answered : Result Y Refusal → Reading Y
  with_part : (offset size : ℕ) → (List ℕ → Reading Y) → Reading Y

-- what it comes to in a file
unfoldable pub answer_of : {Y : Type 0} → List ℕ → Reading Y → Result Y Refusal
answer_of file (answered answer) = answer
answer_of file (with_part offset size after) = if_as_long_as (offset + size) file (answer_of file (after (bytes_at file offset size)))

-- the parts of a file that it reads; one that doesn't lie in the file is the last
unfoldable pub parts_of : {Y : Type 0} → List ℕ → Reading Y → List Part
parts_of file (answered answer) = []
parts_of file (with_part offset size after) =
    part offset size ∷ (if nat_le (offset + size) (length file) then parts_of file (after (bytes_at file offset size)) else [])

-- the reading of these bytes alone
abbrev pub part_reading : (offset size : ℕ) → Reading (List ℕ)
part_reading offset size = with_part offset size (λ bytes. answered (Ok bytes))

-- a reading, and then another one by what that comes to, for `do`
infixl 10 ◌>>=◌
unfoldable pub ◌>>=◌ : {X Y : Type 0} → Reading X → (X → Reading Y) → Reading Y
(answered (Ok x)) >>= f = f x
(answered (Err refusal)) >>= f = answered (Err refusal)
(with_part offset size after) >>= f = with_part offset size (λ bytes. after bytes >>= f)

-- a call did this reading of a file: through a view it returned its answer, or why the source didn't give it, and read no other parts
pub record Does {X Y : Type 0} (view : X → Y) (may_fail : Bool) (sure : PartSet) (before after : PartLog) (file : List ℕ) (reading : Reading Y) (result : Result X ReadError) : Type 0 where
  pub answer : Reads may_fail view (answer_of file reading) result
  pub only : ReadsOnly sure before after (parts_of file reading) (IfErr result (λ e. e ≢ Unreadable))
