-- The steps of a reading.
use Rattle.std.proofs.Common.{◌≡◌, ◌≤◌, ◌+◌, ℕ, Bool, true, false, cond, leb, List, [], length, Option, Vec, Global, Result, Ok, Err, refl, subst, inl, inr}
use Rattle.std.proofs.lemmas.Bool.{cases_lt, le-ltb, lt-ltb, le-leb}
use Rattle.std.proofs.lemmas.List.Elements.{All-head, All-tail}
use Rattle.std.specs.Prelude.{◌≢◌, All}
use Rattle.std.specs.Option.{option_map}
use Rattle.std.specs.Result.{IsErr, IsErrAnd}
use Rattle.binfarce_bytes.specs.Number.{bytes_at}
use Rattle.binfarce_bytes.specs.Part.{Part, PartSet, part, whole_part}
use Rattle.binfarce_bytes.specs.Refusal.{Refusal, if_as_long_as, unexpected_eof}
use Rattle.binfarce_bytes.specs.Source.{PartLog, ReadsOnly}
use Rattle.binfarce_tables.specs.Reading.{Reads}
use Rattle.binfarce_tables.specs.declared.error.ReadError.{ReadError}
use Rattle.binfarce_tables.specs.declared.error.ReadError.TheVariants.{Unreadable}
use Rattle.binfarce_tables.proofs.Readings.{as_long_as, held, instead, passed}
use Rattle.binfarce_tables.proofs.Sure.{in_any, within, next, passed_only}
use Rattle.binfarce_identity.specs.Identity.{identity_view}
use Rattle.binfarce_tables.specs.Readings.{with_part, answer_of, parts_of}
use Rattle.binfarce_identity.specs.Reading.{Reading, Does}
use Rattle.binfarce_identity.specs.declared.identity.Identity as code

-- a part that was read lies in the file
lies : {A : Type 0} (least : ℕ) (file : List ℕ) (a b : A) → Path (Result A Refusal) (if_as_long_as least file (Ok a)) (Ok b) → least ≤ length file
lies least file a b reads = elim (cases_lt (length file) least) [
  | inl short ↦
      let refused : Path (Result _ Refusal) (Err unexpected_eof) (Ok b) = subst (λ (t : Bool). Path (Result _ Refusal) (cond t (Err unexpected_eof) (Ok a)) (Ok b)) (lt-ltb (length file) least short) reads in
      absurd cc
  | inr whole ↦ whole
]

-- the bytes of a part, as they are read
abbrev pub part_in : List ℕ → ℕ → ℕ → Result (List ℕ) Refusal
part_in file offset size = if_as_long_as (offset + size) file (Ok (bytes_at file offset size))

abbrev items : Vec ℕ Global → List ℕ
items v = v.items

-- what a reading returns
abbrev pub Identities : Type 0
Identities = Result (Option code.Identity) ReadError

-- the parts that follow, where the part lies in the file
rest_if : (P : Part → Type 0) (fits : Bool) (others : List Part) → fits ≡ true → All P (cond fits others []) → All P others
rest_if P true others is all = all
rest_if P false others is all = absurd cc

module _ (file : List ℕ) (offset size : ℕ) (after : List ℕ → Reading) where
  first_part : (P : Part → Type 0) → All P (parts_of file (with_part offset size after)) → All P (whole_part file offset size)
  unfolding parts_of
  first_part P all = in_any P file offset size (All-head P (part offset size) _ all)

  later_parts : (P : Part → Type 0) → offset + size ≤ length file → All P (parts_of file (with_part offset size after)) → All P (parts_of file (after (bytes_at file offset size)))
  unfolding parts_of
  later_parts P inside all =
      rest_if P (leb (offset + size) (length file)) (parts_of file (after (bytes_at file offset size))) (le-leb (offset + size) (length file) inside) (All-tail P (part offset size) _ all)

  later_answer : offset + size ≤ length file → answer_of file (with_part offset size after) ≡ answer_of file (after (bytes_at file offset size))
  unfolding answer_of
  later_answer inside = rw (le-ltb (length file) (offset + size) inside) refl

  first_answer : (fails : Bool) (e : ReadError) → Reads fails items (part_in file offset size) (Err e) → Reads fails (option_map identity_view) (answer_of file (with_part offset size after)) (Err e)
  unfolding answer_of
  first_answer fails e reads = as_long_as fails items (option_map identity_view) (offset + size) file (bytes_at file offset size) (answer_of file (after (bytes_at file offset size))) e reads

  -- the part that is read first wasn't read
  pub part_failed : {fails : Bool} {sure : PartSet} {old new : PartLog} {e : ReadError} (r : Identities)
      → Reads fails items (part_in file offset size) (Err e) → ReadsOnly sure old new (whole_part file offset size) (e ≢ Unreadable) → (IsErr r × IsErrAnd r (λ x. x ≡ e))
      → Does fails sure old new file (with_part offset size after) r
  part_failed {fails = fails} {e = e} r reads only error = record {
    answer = passed fails (option_map identity_view) (answer_of file (with_part offset size after)) e r error (first_answer fails e reads);
    only = passed_only r (within (λ P all. first_part P all) only) error;
  }

  -- it was read, and the reading that follows was done
  pub part_taken : {fails : Bool} {sure : PartSet} {old between new : PartLog} {Q : Type 0} {r : Identities} (bytes : List ℕ)
      → Path (Result (List ℕ) Refusal) (part_in file offset size) (Ok bytes) → ReadsOnly sure old between (whole_part file offset size) Q → Does fails sure between new file (after bytes) r
      → Does fails sure old new file (with_part offset size after) r
  part_taken {fails = fails} {sure = sure} {between = between} {new = new} {r = r} bytes reads only does =
      let inside : offset + size ≤ length file = lies (offset + size) file (bytes_at file offset size) bytes reads in
      let is : bytes ≡ bytes_at file offset size = held (offset + size) file (bytes_at file offset size) bytes reads in
      let then = subst (λ (b : List ℕ). Does fails sure between new file (after b) r) is does in record {
        answer = instead fails (option_map identity_view) (answer_of file (with_part offset size after)) (answer_of file (after (bytes_at file offset size))) r (later_answer inside) then.answer;
        only = next (within (λ P all. first_part P all) only) (within (λ P all. later_parts P inside all) then.only);
      }

-- so of a part that is read at an offset and with a size that are these
module _ {fails : Bool} {sure : PartSet} {old new : PartLog} (file : List ℕ) {offset size : ℕ} (after : List ℕ → Reading) {o s : ℕ} where
  at : {r : Identities} → o ≡ offset → s ≡ size → Does fails sure old new file (with_part o s after) r → Does fails sure old new file (with_part offset size after) r
  at {r = r} begins long does =
      subst (λ (n : ℕ). Does fails sure old new file (with_part n size after) r) begins (subst (λ (n : ℕ). Does fails sure old new file (with_part o n after) r) long does)

  pub failed_at : {e : ReadError} (r : Identities) → o ≡ offset → s ≡ size
      → Reads fails items (part_in file o s) (Err e) → ReadsOnly sure old new (whole_part file o s) (e ≢ Unreadable) → (IsErr r × IsErrAnd r (λ x. x ≡ e))
      → Does fails sure old new file (with_part offset size after) r
  failed_at r begins long reads only error = at begins long (part_failed file o s after r reads only error)

  pub taken_at : {between : PartLog} {Q : Type 0} {r : Identities} (bytes : List ℕ) → o ≡ offset → s ≡ size
      → Path (Result (List ℕ) Refusal) (part_in file o s) (Ok bytes) → ReadsOnly sure old between (whole_part file o s) Q → Does fails sure between new file (after bytes) r
      → Does fails sure old new file (with_part offset size after) r
  taken_at bytes begins long reads only does = at begins long (part_taken file o s after bytes reads only does)
