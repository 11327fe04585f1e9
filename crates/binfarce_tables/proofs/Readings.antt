-- The steps of a reading.
use Rattle.std.proofs.Common.{◌≡◌, ◌⊎◌, ◌+◌, ◌≤◌, ◌<◌, ℕ, Bool, true, false, cond, ltb, arith, List, length, Option, Some, Result, Ok, Err, refl, sym, subst, ap, ◌∙◌, inl, inr}
use Rattle.std.specs.Prelude.{◌≢◌, IfSome, IfErr}
use Rattle.std.specs.Result.{IsErr, IsErrAnd}
use Rattle.binfarce_bytes.specs.Number.{bytes_at}
use Rattle.std.specs.declared.io.ErrorKind.{ErrorKind}
use Rattle.std.specs.declared.io.ErrorKind.TheVariants as kinds
use Rattle.binfarce_bytes.specs.Source.{IsPart, MayMiss}
use Rattle.binfarce_bytes.specs.declared.error.ParseError.{ParseError}
use Rattle.binfarce_bytes.specs.Refusal.{◌>>=◌, Refusal, if_as_long_as, refusal_of, unexpected_eof}
use Rattle.binfarce_tables.specs.declared.error.ReadError.{ReadError}
use Rattle.binfarce_tables.specs.declared.error.ReadError.TheVariants.{Refused, Unreadable, OutOfMemory}
use Rattle.binfarce_tables.specs.Errors.{read_error}
use Rattle.binfarce_tables.specs.BeginningReading.{ReadsBeginning}
use Rattle.binfarce_tables.specs.Reading.{Reads}
use Rattle.binfarce_tables.specs.declared.beginning.Beginning.{Beginning}

-- a step that ended the reading
pub after_err : {X Y Z W : Type 0} (fails : Bool) (view : X → Y) (next : Z → W) (a : Result Y Refusal) (f : Y → Result W Refusal) (e : ReadError)
    → Reads fails view a (Err e) → Reads fails next (a >>= f) (Err e)
after_err fails view next a f (Refused e) step = ap (λ y. y >>= f) step
after_err fails view next a f Unreadable step = step
after_err fails view next a f OutOfMemory step = tt

-- what follows a test
pub after_test : {X Y : Type 0} (refused : Bool) (why : Refusal) (x : X) (f : X → Result Y Refusal) → cond refused (Err why) (f x) ≡ (cond refused (Err why) (Ok x) >>= f)
after_test true why x f = refl
after_test false why x f = refl

-- a reading of what is the same
pub instead : {X Y : Type 0} (fails : Bool) (view : X → Y) (a b : Result Y Refusal) (r : Result X ReadError) → a ≡ b → Reads fails view b r → Reads fails view a r
instead fails view a b r same reads = subst (λ (answer : Result _ Refusal). Reads fails view answer r) (sym same) reads

-- an error as `?` passes it on, by a property of errors
pub err_is : {X E : Type 0} (P : Result X E → Type 0) (r : Result X E) (e : E) → (IsErr r × IsErrAnd r (λ x. x ≡ e)) → P (Err e) → P r
err_is P (Ok x) e is holds = let never : false ≡ true = is.0 in absurd cc
err_is P (Err x) e is holds = subst (λ (error : _). P (Err error)) (sym is.1) holds

-- a source that may fail
by_kind : {X Y : Type 0} (fails : Bool) (view : X → Y) (answer : Result Y Refusal) (kind : ErrorKind) → fails ≡ true → Reads fails view answer (Err (read_error kind))
by_kind fails view answer kinds.OutOfMemory may = tt
by_kind fails view answer kind may = may

not_refused : (kind : ErrorKind) → (read_error kind ≡ Unreadable) ⊎ (read_error kind ≡ OutOfMemory)
not_refused kinds.OutOfMemory = inr refl
not_refused kind = inl refl

-- an error of a source, as `?` converts it, is no refusal
pub no_refusal : {X : Type 0} (kind : ErrorKind) (r : Result X ReadError)
    → (IsErr r × IsErrAnd r (λ e. e ≡ read_error kind)) → IfErr r (λ e. (e ≡ Unreadable) ⊎ (e ≡ OutOfMemory))
no_refusal kind r is = err_is (λ (x : Result _ ReadError). IfErr x (λ e. (e ≡ Unreadable) ⊎ (e ≡ OutOfMemory))) r (read_error kind) is (not_refused kind)

-- why a part that is there wasn't read
pub unread : {X Y : Type 0} (fails : Bool) (view : X → Y) (answer : Result Y Refusal) (known : Option (List ℕ)) (file : List ℕ) (offset size : ℕ) (kind : ErrorKind) (r : Result X ReadError)
    → known ≡ Some file → offset + size ≤ length file → (kind ≡ kinds.OutOfMemory) ⊎ MayMiss fails known offset size
    → (IsErr r × IsErrAnd r (λ e. e ≡ read_error kind)) → Reads fails view answer r
unread fails view answer known file offset size kind r is inside is_known error = elim is_known [
  | inl out ↦ err_is (Reads fails view answer) r (read_error kind) error (subst (λ (k : ErrorKind). Reads fails view answer (Err (read_error k))) (sym out) tt)
  | inr (inl may) ↦ err_is (Reads fails view answer) r (read_error kind) error (by_kind fails view answer kind may)
  | inr (inr past) ↦
      let short : length file < offset + size = subst (λ (o : Option (List ℕ)). IfSome o (λ bytes. length bytes < offset + size)) is past in
      absurd (omega (arith, inside, short))
]

-- a part that was read is the file's
pub part_read : (known : Option (List ℕ)) (file items : List ℕ) (offset size : ℕ) → known ≡ Some file → IsPart known offset items → length items ≡ size
    → Path (Result (List ℕ) Refusal) (Ok (bytes_at file offset size)) (Ok items)
part_read known file items offset size is part long =
    let held : IsPart (Some file) offset items = subst (λ (o : Option (List ℕ)). IsPart o offset items) is part in
    ap Ok (ap (λ n. bytes_at file offset n) (sym long) ∙ sym held.1)

-- no part that ends past the file's end was read
pub none_past : (known : Option (List ℕ)) (file items : List ℕ) (offset size : ℕ) → known ≡ Some file → IsPart known offset items → length items ≡ size → length file < offset + size → ⊥
none_past known file items offset size is part long past =
    let held : IsPart (Some file) offset items = subst (λ (o : Option (List ℕ)). IsPart o offset items) is part in
    omega (arith, held.0, long, past)

-- what a source says of its length is the file's
pub length_known : (known : Option (List ℕ)) (file : List ℕ) (len : ℕ) → known ≡ Some file → IfSome known (λ all. len ≡ length all) → len ≡ length file
length_known known file len is is_known = subst (λ (o : Option (List ℕ)). IfSome o (λ all. len ≡ length all)) is is_known

-- what was read is there
pub taken : {Y : Type 0} {a b : Y} → Path (Result Y Refusal) (Ok a) (Ok b) → b ≡ a
taken step = cc

-- a refusal of a reader, as `?` converts it
pub converted : {X Y : Type 0} (fails : Bool) (view : X → Y) (answer : Result Y Refusal) (p : ParseError) (r : Result X ReadError)
    → (IsErr r × IsErrAnd r (λ e. e ≡ Refused p)) → answer ≡ Err (refusal_of p) → Reads fails view answer r
converted fails view answer p r is is_known = err_is (Reads fails view answer) r (Refused p) is is_known

-- an error of a step, as `?` passes it on
pub passed : {X Y : Type 0} (fails : Bool) (view : X → Y) (answer : Result Y Refusal) (e : ReadError) (r : Result X ReadError)
    → (IsErr r × IsErrAnd r (λ x. x ≡ e)) → Reads fails view answer (Err e) → Reads fails view answer r
passed fails view answer e r is step = err_is (Reads fails view answer) r e is step

known_kind : (kind : ErrorKind) → kind ≡ kinds.OutOfMemory → read_error kind ≢ Unreadable
known_kind kind out unreadable = let never : OutOfMemory ≡ Unreadable = sym (ap read_error out) ∙ unreadable in absurd cc

-- a part that is surely given is not unreadable
pub surely : {X : Type 0} (sure : Bool) (kind : ErrorKind) (r : Result X ReadError) → sure ≡ true → (kind ≡ kinds.OutOfMemory) ⊎ (sure ≡ false)
    → (IsErr r × IsErrAnd r (λ e. e ≡ read_error kind)) → IfErr r (λ e. e ≢ Unreadable)
surely sure kind r is (inl out) error = err_is (λ (x : Result _ ReadError). IfErr x (λ e. e ≢ Unreadable)) r (read_error kind) error (known_kind kind out)
surely sure kind r is (inr not) error = let never : true ≡ false = sym is ∙ not in absurd cc

-- what was read of a file that is long enough
held_if : {Y : Type 0} (short : Bool) (a b : Y) → Path (Result Y Refusal) (cond short (Err unexpected_eof) (Ok a)) (Ok b) → b ≡ a
held_if true a b step = let e : Path (Result _ Refusal) (Err unexpected_eof) (Ok b) = step in absurd cc
held_if false a b step = cc

pub held : {Y : Type 0} (least : ℕ) (file : List ℕ) (a b : Y) → Path (Result Y Refusal) (if_as_long_as least file (Ok a)) (Ok b) → b ≡ a
held least file a b step = held_if (ltb (length file) least) a b step

-- an error of a step that refuses the files that the answer refuses
pub as_long_as : {X Y Z W : Type 0} (fails : Bool) (view : X → Y) (next : Z → W) (least : ℕ) (file : List ℕ) (x : Y) (answer : Result W Refusal) (e : ReadError)
    → Reads fails view (if_as_long_as least file (Ok x)) (Err e) → Reads fails next (if_as_long_as least file answer) (Err e)
as_long_as fails view next least file x answer e step =
    instead fails next (if_as_long_as least file answer) (if_as_long_as least file (Ok x) >>= λ y. answer) (Err e)
    (after_test (ltb (length file) least) unexpected_eof x (λ y. answer)) (after_err fails view next (if_as_long_as least file (Ok x)) (λ y. answer) e step)

-- a file that is long enough has the answer that follows the test
past_test : {Y W : Type 0} (short : Bool) (a b : Y) (answer : Result W Refusal) → Path (Result Y Refusal) (cond short (Err unexpected_eof) (Ok a)) (Ok b) → cond short (Err unexpected_eof) answer ≡ answer
past_test true a b answer step = let e : Path (Result _ Refusal) (Err unexpected_eof) (Ok b) = step in absurd cc
past_test false a b answer step = refl

pub long_enough : {Y W : Type 0} (least : ℕ) (file : List ℕ) (a b : Y) (answer : Result W Refusal) → Path (Result Y Refusal) (if_as_long_as least file (Ok a)) (Ok b) → if_as_long_as least file answer ≡ answer
long_enough least file a b answer step = past_test (ltb (length file) least) a b answer step

-- an error that ends the reading of a beginning
begins_err : {Y : Type 0} (fails : Bool) (sections : List ℕ → Result Y Refusal) (file : List ℕ) (e : ReadError) → Reads fails (λ (y : Y). y) (sections file) (Err e) → ReadsBeginning fails sections file (Err e)
begins_err fails sections file (Refused e) reads = reads
begins_err fails sections file Unreadable reads = reads
begins_err fails sections file OutOfMemory reads = tt

pub no_beginning : {Y : Type 0} (fails : Bool) (sections : List ℕ → Result Y Refusal) (file : List ℕ) (e : ReadError) (r : Result Beginning ReadError)
    → (IsErr r × IsErrAnd r (λ x. x ≡ e)) → Reads fails (λ (y : Y). y) (sections file) (Err e) → ReadsBeginning fails sections file r
no_beginning fails sections file e r is reads = err_is (ReadsBeginning fails sections file) r e is (begins_err fails sections file e reads)

-- a reading of bytes in memory
pub from_memory : {X Y : Type 0} (fails : Bool) (view : X → Y) (answer : Result Y Refusal) (r : Result X ReadError) → Reads false view answer r → Reads fails view answer r
from_memory fails view answer (Ok x) reads = reads
from_memory fails view answer (Err (Refused p)) reads = reads
from_memory fails view answer (Err Unreadable) reads = absurd cc
from_memory fails view answer (Err OutOfMemory) reads = tt

pub memory_readable : {X Y : Type 0} (view : X → Y) (answer : Result Y Refusal) (r : Result X ReadError) → Reads false view answer r → IfErr r (λ e. e ≢ Unreadable)
memory_readable view answer (Ok x) reads = tt
memory_readable view answer (Err (Refused p)) reads = λ unreadable. cc
memory_readable view answer (Err Unreadable) reads = absurd cc
memory_readable view answer (Err OutOfMemory) reads = λ unreadable. cc
