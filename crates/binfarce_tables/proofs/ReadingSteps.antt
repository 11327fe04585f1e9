-- The steps of a reading.
use Rattle.std.proofs.Common.{◌≡◌, ◌≤◌, ◌+◌, ℕ, Bool, true, false, cond, leb, ltb, List, [], ◌∷◌, length, Vec, Global, Result, Ok, Err, refl, sym, subst, ap, ◌∙◌, inl, inr}
use Rattle.std.proofs.lemmas.Bool.{cases_lt, lt-ltb, le-leb}
use Rattle.std.proofs.lemmas.List.Elements.{All-nil, All-cons, All-head, All-tail}
use Rattle.std.specs.Prelude.{◌≢◌, All, IfErr}
use Rattle.std.specs.Result.{IsErr, IsErrAnd}
use Rattle.binfarce_bytes.specs.Number.{bytes_at}
use Rattle.binfarce_bytes.specs.Part.{Part, PartSet, part, whole_part}
use Rattle.binfarce_bytes.specs.Refusal.{◌>>=◌ as ◌>>>◌, Refusal, if_as_long_as, refusal_of, unexpected_eof}
use Rattle.binfarce_bytes.specs.Source.{PartLog, ReadsOnly}
use Rattle.binfarce_bytes.specs.declared.error.ParseError.{ParseError}
use Rattle.binfarce_tables.specs.Reading.{Reads}
use Rattle.binfarce_tables.specs.Readings.{Reading, answered, with_part, answer_of, parts_of, part_reading, ◌>>=◌, Does}
use Rattle.binfarce_tables.specs.declared.error.ReadError.{ReadError}
use Rattle.binfarce_tables.specs.declared.error.ReadError.TheVariants.{Refused, Unreadable}
use Rattle.binfarce_tables.proofs.Readings.{after_err, converted, from_memory, instead, memory_readable, passed}
use Rattle.binfarce_tables.proofs.Sure.{converted_surely, in_any, within, next, nothing, passed_only}

cut : {X Y : Type 0} (short : Bool) (a : Result X Refusal) (b : Result Y Refusal) (f : X → Result Y Refusal) → b ≡ a >>> f → cond short (Err unexpected_eof) b ≡ (cond short (Err unexpected_eof) a >>> f)
cut true a b f is = refl
cut false a b f is = is

-- what a reading and the one that follows come to
answers : {X Y : Type 0} (file : List ℕ) (this : Reading X) (f : X → Reading Y) → answer_of file (this >>= f) ≡ (answer_of file this >>> λ x. answer_of file (f x))
unfolding answer_of ◌>>=◌
answers file (answered (Ok x)) f = refl
answers file (answered (Err e)) f = refl
answers file (with_part offset size after) f =
    cut (ltb (length file) (offset + size)) (answer_of file (after (bytes_at file offset size))) (answer_of file (after (bytes_at file offset size) >>= f)) (λ x. answer_of file (f x)) (answers file (after (bytes_at file offset size)) f)

both : (P : Part → Type 0) (fits : Bool) (p : Part) (more some : List Part) → (All P more → All P some) → All P (p ∷ cond fits more []) → All P (p ∷ cond fits some [])
both P true p more some fewer all = All-cons P p some (All-head P p more all) (fewer (All-tail P p more all))
both P false p more some fewer all = all

-- what is true of the parts of both is true of those of the first one
these : {X Y : Type 0} (P : Part → Type 0) (file : List ℕ) (this : Reading X) (f : X → Reading Y) → All P (parts_of file (this >>= f)) → All P (parts_of file this)
unfolding parts_of ◌>>=◌
these P file (answered (Ok x)) f all = All-nil P
these P file (answered (Err e)) f all = all
these P file (with_part offset size after) f all =
    both P (leb (offset + size) (length file)) (part offset size) (parts_of file (after (bytes_at file offset size) >>= f)) (parts_of file (after (bytes_at file offset size)))
    (these P file (after (bytes_at file offset size)) f) all

rest : (P : Part → Type 0) (fits : Bool) (p : Part) (more : List Part) → fits ≡ true → All P (p ∷ cond fits more []) → All P more
rest P true p more is all = All-tail P p more all
rest P false p more is all = absurd cc

fits_if : {X : Type 0} (offset size : ℕ) (file : List ℕ) (answer : Result X Refusal) (x : X) → cond (ltb (length file) (offset + size)) (Err unexpected_eof) answer ≡ Ok x → (offset + size ≤ length file) × (answer ≡ Ok x)
fits_if {X = X} offset size file answer x is = go (ltb (length file) (offset + size)) refl is
  where
    go : (t : Bool) → ltb (length file) (offset + size) ≡ t → Path (Result X Refusal) (cond t (Err unexpected_eof) answer) (Ok x) → (offset + size ≤ length file) × (answer ≡ Ok x)
    go true e is = let never : Path (Result X Refusal) (Err unexpected_eof) (Ok x) = is in absurd cc
    go false e is = (
      elim (cases_lt (length file) (offset + size)) [
        | inl lt ↦ let never : true ≡ false = sym (lt-ltb (length file) (offset + size) lt) ∙ e in absurd cc
        | inr le ↦ le
      ],
      is,
    )

-- and of those of the one that follows, where the first one comes to this
those : {X Y : Type 0} (P : Part → Type 0) (file : List ℕ) (this : Reading X) (f : X → Reading Y) (x : X) → answer_of file this ≡ Ok x → All P (parts_of file (this >>= f)) → All P (parts_of file (f x))
unfolding answer_of parts_of ◌>>=◌
those {X = X} P file (answered (Ok y)) f x is all = let same : y ≡ x = taken y x is in subst (λ (z : X). All P (parts_of file (f z))) same all
  where
    taken : (y x : X) → Path (Result X Refusal) (Ok y) (Ok x) → y ≡ x
    taken y x e = cc
those {X = X} P file (answered (Err e)) f x is all = let never : Path (Result X Refusal) (Err e) (Ok x) = is in absurd cc
those P file (with_part offset size after) f x is all =
    let inside = fits_if offset size file (answer_of file (after (bytes_at file offset size))) x is in
    those P file (after (bytes_at file offset size)) f x inside.1
    (rest P (leb (offset + size) (length file)) (part offset size) (parts_of file (after (bytes_at file offset size) >>= f)) (le-leb (offset + size) (length file) inside.0) all)

-- a reading, and the one that follows
module _ {A B X Z : Type 0} {view : X → A} {then : Z → B} {fails : Bool} {sure : PartSet} (file : List ℕ) (this : Reading A) (f : A → Reading B) where
  -- it was done, and so was the one that follows
  pub followed : {old between new : PartLog} {r : Result Z ReadError} (x : X) → Does view fails sure old between file this (Ok x) → Does then fails sure between new file (f (view x)) r → Does then fails sure old new file (this >>= f) r
  followed {r = r} x does others = record {
    answer = instead fails then (answer_of file (this >>= f)) (answer_of file (f (view x))) r (answers file this f ∙ ap (λ (a : Result A Refusal). a >>> λ y. answer_of file (f y)) does.answer) others.answer;
    only = next (within (λ P all. these P file this f all) does.only) (within (λ P all. those P file this f (view x) does.answer all) others.only);
  }

  -- it failed
  pub stopped : {old new : PartLog} {e : ReadError} (r : Result Z ReadError) → Does view fails sure old new file this (Err e) → (IsErr r × IsErrAnd r (λ x. x ≡ e)) → Does then fails sure old new file (this >>= f) r
  stopped {e = e} r does error = record {
    answer = passed fails then (answer_of file (this >>= f)) e r error
        (instead fails then (answer_of file (this >>= f)) (answer_of file this >>> λ y. answer_of file (f y)) (Err e) (answers file this f)
        (after_err fails view then (answer_of file this) (λ y. answer_of file (f y)) e does.answer));
    only = passed_only r (within (λ P all. these P file this f all) does.only) error;
  }

abbrev items : Vec ℕ Global → List ℕ
items v = v.items

-- the bytes of a part were read, or not
pub part_done : {fails : Bool} {sure : PartSet} {old new : PartLog} (file : List ℕ) (offset size : ℕ) (r : Result (Vec ℕ Global) ReadError)
    → Reads fails items (if_as_long_as (offset + size) file (Ok (bytes_at file offset size))) r → ReadsOnly sure old new (whole_part file offset size) (IfErr r (λ e. e ≢ Unreadable))
    → Does items fails sure old new file (part_reading offset size) r
unfolding answer_of parts_of
part_done file offset size r reads only = record {
  answer = reads;
  only = within (λ P all. in_any P file offset size (All-head P (part offset size) _ all)) only;
}

-- an answer by bytes in memory
pub done : {X Y : Type 0} {view : X → Y} {fails : Bool} {sure : PartSet} {log : PartLog} (file : List ℕ) (answer : Result Y Refusal) (r : Result X ReadError)
    → Reads false view answer r → Does view fails sure log log file (answered answer) r
unfolding answer_of parts_of
done {view = view} {fails = fails} file answer r reads = record {
  answer = from_memory fails view answer r reads;
  only = nothing (memory_readable view answer r reads);
}

-- a refusal of a reader, as `?` converts it
pub refused : {X Y : Type 0} {view : X → Y} {fails : Bool} {sure : PartSet} {log : PartLog} (file : List ℕ) (answer : Result Y Refusal) (p : ParseError) (r : Result X ReadError)
    → (IsErr r × IsErrAnd r (λ e. e ≡ Refused p)) → answer ≡ Err (refusal_of p) → Does view fails sure log log file (answered answer) r
unfolding answer_of parts_of
refused {view = view} {fails = fails} file answer p r error is = record {
  answer = converted fails view answer p r error is;
  only = nothing (converted_surely p r error);
}

-- so of a reading that is the same
pub same : {X Y : Type 0} {view : X → Y} {fails : Bool} {sure : PartSet} {old new : PartLog} {r : Result X ReadError} (file : List ℕ) {a b : Reading Y} → a ≡ b → Does view fails sure old new file a r → Does view fails sure old new file b r
same {Y = Y} {view = view} {fails = fails} {sure = sure} {old = old} {new = new} {r = r} file is does = subst (λ (reading : Reading Y). Does view fails sure old new file reading r) is does
