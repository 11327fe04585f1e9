-- A reading, and another one where it finds no identity.
use Rattle.std.proofs.Common.{◌≡◌, ◌≤◌, ◌+◌, ℕ, Bool, true, false, cond, leb, ltb, List, [], ◌∷◌, length, Option, Some, None, Ok, Err, refl, sym, subst, ap, ◌∙◌, inl, inr}
use Rattle.std.proofs.lemmas.Bool.{cases_lt, lt-ltb, le-leb}
use Rattle.std.proofs.lemmas.List.Elements.{All-nil, All-cons, All-head, All-tail}
use Rattle.std.specs.Prelude.{All}
use Rattle.std.specs.Option.{is_some, option_map}
use Rattle.std.specs.Result.{IsErr, IsErrAnd}
use Rattle.binfarce_bytes.specs.Number.{bytes_at}
use Rattle.binfarce_bytes.specs.Part.{Part, PartSet, part, HasAll}
use Rattle.binfarce_bytes.specs.Refusal.{unexpected_eof}
use Rattle.binfarce_bytes.specs.Source.{PartLog, HasLog, ReadsOnly}
use Rattle.binfarce_tables.specs.Reading.{Reads}
use Rattle.binfarce_tables.specs.declared.error.ReadError.{ReadError}
use Rattle.binfarce_tables.specs.declared.error.ReadError.TheVariants.{Refused, Unreadable, OutOfMemory}
use Rattle.binfarce_tables.proofs.Readings.{instead, passed}
use Rattle.binfarce_tables.proofs.Sure.{passed_only}
use Rattle.binfarce_identity.specs.Identity.{Answer, identity_view}
use Rattle.binfarce_tables.specs.Readings.{answered, with_part, answer_of, parts_of}
use Rattle.binfarce_identity.specs.Reading.{Reading, or_else, Does}
use Rattle.binfarce_identity.specs.declared.identity.Identity as code
use Rattle.binfarce_identity.proofs.Steps.{Identities}

-- an answer, or another one where it has no identity
abbrev or_answer : Answer → Answer → Answer
or_answer (Ok None) other = other
or_answer answer other = answer

cut : (short : Bool) (a b other : Answer) → a ≡ or_answer b other → cond short (Err unexpected_eof) a ≡ or_answer (cond short (Err unexpected_eof) b) other
cut true a b other is = refl
cut false a b other is = is

answers : (file : List ℕ) (this others : Reading) → answer_of file (or_else this others) ≡ or_answer (answer_of file this) (answer_of file others)
unfolding answer_of or_else
answers file (answered (Ok None)) others = refl
answers file (answered (Ok (Some x))) others = refl
answers file (answered (Err e)) others = refl
answers file (with_part offset size after) others =
    cut (ltb (length file) (offset + size)) (answer_of file (or_else (after (bytes_at file offset size)) others)) (answer_of file (after (bytes_at file offset size))) (answer_of file others)
    (answers file (after (bytes_at file offset size)) others)

both : (P : Part → Type 0) (fits : Bool) (p : Part) (more some : List Part) → (All P more → All P some) → All P (p ∷ cond fits more []) → All P (p ∷ cond fits some [])
both P true p more some fewer all = All-cons P p some (All-head P p more all) (fewer (All-tail P p more all))
both P false p more some fewer all = all

-- what is true of the parts of both is true of those of the first one
these : (P : Part → Type 0) (file : List ℕ) (this others : Reading) → All P (parts_of file (or_else this others)) → All P (parts_of file this)
unfolding parts_of or_else
these P file (answered (Ok None)) others all = All-nil P
these P file (answered (Ok (Some x))) others all = all
these P file (answered (Err e)) others all = all
these P file (with_part offset size after) others all =
    both P (leb (offset + size) (length file)) (part offset size) (parts_of file (or_else (after (bytes_at file offset size)) others)) (parts_of file (after (bytes_at file offset size)))
    (these P file (after (bytes_at file offset size)) others) all

rest : (P : Part → Type 0) (fits : Bool) (p : Part) (more : List Part) → fits ≡ true → All P (p ∷ cond fits more []) → All P more
rest P true p more is all = All-tail P p more all
rest P false p more is all = absurd cc

fits_if : (offset size : ℕ) (file : List ℕ) (answer : Answer) → cond (ltb (length file) (offset + size)) (Err unexpected_eof) answer ≡ Ok None → (offset + size ≤ length file) × (answer ≡ Ok None)
fits_if offset size file answer is = go (ltb (length file) (offset + size)) refl is
  where
    short : (t : Bool) → t ≡ true → Path Answer (cond t (Err unexpected_eof) answer) (Ok None) → Path Answer (Err unexpected_eof) (Ok None)
    short t e is = subst (λ (b : Bool). Path Answer (cond b (Err unexpected_eof) answer) (Ok None)) e is

    go : (t : Bool) → ltb (length file) (offset + size) ≡ t → cond t (Err unexpected_eof) answer ≡ Ok None → (offset + size ≤ length file) × (answer ≡ Ok None)
    go true e is = let never : Path Answer (Err unexpected_eof) (Ok None) = is in absurd cc
    go false e is = (
      elim (cases_lt (length file) (offset + size)) [
        | inl lt ↦ let never : true ≡ false = sym (lt-ltb (length file) (offset + size) lt) ∙ e in absurd cc
        | inr le ↦ le
      ],
      is,
    )

-- and of those of the others, where the first one has no identity
those : (P : Part → Type 0) (file : List ℕ) (this others : Reading) → answer_of file this ≡ Ok None → All P (parts_of file (or_else this others)) → All P (parts_of file others)
unfolding answer_of parts_of or_else
those P file (answered (Ok None)) others none all = all
those P file (answered (Ok (Some x))) others none all = absurd cc
those P file (answered (Err e)) others none all = absurd cc
those P file (with_part offset size after) others none all =
    let is = fits_if offset size file (answer_of file (after (bytes_at file offset size))) none in
    those P file (after (bytes_at file offset size)) others is.1
    (rest P (leb (offset + size) (length file)) (part offset size) (parts_of file (or_else (after (bytes_at file offset size)) others)) (le-leb (offset + size) (length file) is.0) all)

-- from a log to a later one a beginning of a reading was done, and this one is left
pub record Progress (before now : PartLog) (file : List ℕ) (whole left : Reading) : Type 0 where
  pub is : answer_of file whole ≡ answer_of file left
  pub asked : (set : PartSet) → HasAll set (parts_of file whole) → HasLog set before → HasLog set now
  pub kept : (set : PartSet) → HasAll set (parts_of file whole) → HasAll set (parts_of file left)

pub begun : (log : PartLog) (file : List ℕ) (whole : Reading) → Progress log log file whole whole
begun log file whole = record { is = refl; asked = λ set all before. before; kept = λ set all. all }

err_answer : (fails : Bool) (a other : Answer) (e : ReadError) → Reads fails (option_map identity_view) a (Err e) → Reads fails (option_map identity_view) (or_answer a other) (Err e)
err_answer fails a other (Refused p) is = ap (λ (x : Answer). or_answer x other) is
err_answer fails a other Unreadable is = is
err_answer fails a other OutOfMemory is = tt

-- a reading that is left is the same as another one
pub left_is : {before now : PartLog} (file : List ℕ) (whole : Reading) {a b : Reading} → a ≡ b → Progress before now file whole a → Progress before now file whole b
left_is {before = before} {now = now} file whole is progress = subst (λ (left : Reading). Progress before now file whole left) is progress

only_these : {sure : PartSet} {before now new : PartLog} {Q : Type 0} (file : List ℕ) (whole this others : Reading)
    → Progress before now file whole (or_else this others) → ReadsOnly sure now new (parts_of file this) Q → ReadsOnly sure before new (parts_of file whole) Q
only_these {sure = sure} file whole this others progress only = record {
  asked = λ set all has. only.asked set (these (λ p. set p ≡ true) file this others (progress.kept set all)) (progress.asked set all has);
  given = λ all. only.given (these (λ p. sure p ≡ true) file this others (progress.kept sure all));
}

module _ {fails : Bool} {sure : PartSet} {before now new : PartLog} (file : List ℕ) (whole this others : Reading) where
  -- the first one is done, and has no identity
  pub passed_by : (o : Option code.Identity) → is_some o ≡ false → Progress before now file whole (or_else this others) → Does fails sure now new file this (Ok o) → Progress before new file whole others
  passed_by (Some x) none progress does = absurd cc
  passed_by None none progress does = record {
    is = progress.is ∙ answers file this others ∙ ap (λ (x : Answer). or_answer x (answer_of file others)) does.answer;
    asked = λ set all has. does.only.asked set (these (λ p. set p ≡ true) file this others (progress.kept set all)) (progress.asked set all has);
    kept = λ set all. those (λ p. set p ≡ true) file this others does.answer (progress.kept set all);
  }

  -- it fails
  pub stopped : {e : ReadError} (r : Identities) → Progress before now file whole (or_else this others) → Does fails sure now new file this (Err e) → (IsErr r × IsErrAnd r (λ x. x ≡ e))
      → Does fails sure before new file whole r
  stopped {e = e} r progress does error = record {
    answer = passed fails (option_map identity_view) (answer_of file whole) e r error
        (instead fails (option_map identity_view) (answer_of file whole) (or_answer (answer_of file this) (answer_of file others)) (Err e) (progress.is ∙ answers file this others)
        (err_answer fails (answer_of file this) (answer_of file others) e does.answer));
    only = passed_only r (only_these file whole this others progress does.only) error;
  }

  -- it has an identity
  pub found : (o : Option code.Identity) → is_some o ≡ true → Progress before now file whole (or_else this others) → Does fails sure now new file this (Ok o) → Does fails sure before new file whole (Ok o)
  found None some progress does = absurd cc
  found (Some x) some progress does = record {
    answer = progress.is ∙ answers file this others ∙ ap (λ (a : Answer). or_answer a (answer_of file others)) does.answer;
    only = only_these file whole this others progress does.only;
  }

-- nothing is left, and there is none
pub ended : {fails : Bool} {sure : PartSet} {before now : PartLog} (file : List ℕ) (whole : Reading) → Progress before now file whole (answered (Ok None)) → Does fails sure before now file whole (Ok None)
unfolding answer_of
ended file whole progress = record { answer = progress.is; only = record { asked = progress.asked; given = λ all. tt } }
