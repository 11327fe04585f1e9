-- What is read and written part after part.
use Rattle.std.proofs.Common.{◌≡◌, ◌≢◌, ◌⊎◌, ◌∙◌, inl, inr, ℕ, ◌+◌, List, [], ◌++◌, length, length-append, take, drop, ◌-◌, length-drop, Option, Some, None, Result, Ok, Err, IsErrAnd, ◌≤◌, append_assoc, append-nil, refl, sym, ap, subst, arith}
use Rattle.std.specs.Global.{Vec}
use Rattle.std.specs.Prelude.{IfSome}
use Rattle.std.specs.Io.KnownBytes.{append_known, Appends, Consumes, IsAtEnd, Keeps}
use Rattle.std.proofs.KnownBytes.{append_known-moved}
use Rattle.std.proofs.lemmas.List.{length-take, take-append-drop, take-take, take_all}
use Rattle.std.proofs.Math.Seq.{drop-drop, take-append_seam}
use Rattle.binfarce_bytes.specs.Format.{format_of}
use Rattle.binfarce_bytes.specs.declared.format.Format.TheVariants.{Unknown}
use Rattle.binfarce_tables.proofs.FirstBytes.{format_of_first}
use Rattle.binfarce_foreign.specs.Foreign.{first_bytes, foreign_in, named_by}
use Rattle.binfarce_io.specs.Input.{IsForeign, IsJudged, IsUnread, Judges, ReadsFirst, ReadsJudged, ReadsNoMore, ReadsRest}
use Rattle.binfarce_io.specs.declared.fault.Fault.{Fault}

-- what of a heading was written is no longer left of it
pub moved_part : (old new : Option (List ℕ)) (heading items : List ℕ) (done n : ℕ) → items ≡ heading → Appends old new (take n (take (length items - done) (drop done items)))
    → Keeps (append_known old (drop done heading)) (append_known new (drop (done + n) heading))
moved_part old new heading items done n are is =
    let left = drop done heading in
    let whole : take (length items - done) (drop done items) ≡ left = take_all (length items - done) (drop done items) (omega (arith, length-drop done items)) ∙ ap (drop done) are in
    append_known-moved old new (take n left) (drop (done + n) heading) left (subst (λ xs. Appends old new (take n xs)) whole is)
    (sym (take-append-drop n left) ∙ ap (λ (z : List ℕ). take n left ++ z) (drop-drop n done heading))

-- 512 bytes that were read are the first ones
pub first_are : (old new : Option (List ℕ)) (bytes : List ℕ) → length bytes ≡ 512 → Consumes old new bytes → IfSome old (λ file. bytes ≡ first_bytes file)
first_are None new bytes all is = tt
first_are (Some xs) None bytes all is = absurd is
first_are (Some xs) (Some ys) bytes all is =
    sym (take-append_seam bytes ys) ∙ ap (λ (n : ℕ). take n (bytes ++ ys)) all ∙ ap (take 512) (sym is)

-- fewer that were read up to the end are all
pub short_are : (old mid new : Option (List ℕ)) (bytes : List ℕ) → length bytes ≤ 512 → Consumes old mid bytes → Consumes mid new [] → IsAtEnd new → IfSome old (λ file. bytes ≡ first_bytes file) × Consumes old new bytes
short_are None mid new bytes short read none end = (tt, tt)
short_are (Some xs) None new bytes short read none end = absurd read
short_are (Some xs) (Some ys) None bytes short read none end = absurd none
short_are (Some xs) (Some ys) (Some zs) bytes short read none end =
    let file : xs ≡ bytes = read ∙ ap (λ (z : List ℕ). bytes ++ z) (none ∙ end) ∙ append-nil bytes in
    (sym (take_all 512 bytes short) ∙ ap (take 512) (sym file), read ∙ ap (λ (z : List ℕ). bytes ++ z) none)

-- more bytes are read
pub bytes_more : (old mid new : Option (List ℕ)) (bytes part items : List ℕ) → Consumes old mid bytes → Consumes mid new part → items ≡ bytes ++ part → Consumes old new items
bytes_more None mid new bytes part items read got is = tt
bytes_more (Some xs) None new bytes part items read got is = absurd read
bytes_more (Some xs) (Some ys) None bytes part items read got is = absurd got
bytes_more (Some xs) (Some ys) (Some zs) bytes part items read got is =
    read ∙ ap (λ (z : List ℕ). bytes ++ z) got ∙ sym (append_assoc bytes part zs) ∙ ap (λ (z : List ℕ). z ++ zs) (sym is)

-- the first bytes name the file's format
pub format_of_beginning : (file : List ℕ) → format_of (first_bytes file) ≡ format_of file
format_of_beginning file = sym (format_of_first (first_bytes file)) ∙ ap format_of (take-take 8 512 file (omega arith)) ∙ format_of_first file

-- of a file whose first bytes name no format, and nothing that no reader reads, these are what is read
pub unknown_read : (old : Option (List ℕ)) (bytes : List ℕ) → Unknown ≡ format_of bytes → named_by bytes ≡ None → IfSome old (λ file. bytes ≡ first_bytes file) → IfSome old (λ file. IsJudged file bytes × (foreign_in file ≡ None))
unknown_read None bytes is native first = tt
unknown_read (Some file) bytes is native first = (inr (sym (is ∙ ap format_of first ∙ format_of_beginning file), first), ap named_by (sym first) ∙ native)

-- of another file that a reader reads, all is
pub all_read : (old mid : Option (List ℕ)) (bytes items : List ℕ) → format_of bytes ≢ Unknown → named_by bytes ≡ None → IfSome old (λ file. bytes ≡ first_bytes file) → Consumes old mid bytes → IfSome mid (λ rest. items ≡ bytes ++ rest)
    → IfSome old (λ file. IsJudged file items × (foreign_in file ≡ None))
all_read None mid bytes items known native first is rest = tt
all_read (Some file) None bytes items known native first is rest = absurd is
all_read (Some file) (Some others) bytes items known native first is rest =
    (inl ((λ unknown. known (ap format_of first ∙ format_of_beginning file ∙ unknown)), rest ∙ sym is), ap named_by (sym first) ∙ native)

-- the rest of it is read after them
pub rest_read : (old mid new : Option (List ℕ)) (bytes : List ℕ) (result : Result (Vec ℕ) Fault) → format_of bytes ≢ Unknown → named_by bytes ≡ None → IfSome old (λ file. bytes ≡ first_bytes file) → Consumes old mid bytes → ReadsRest mid new bytes result → ReadsJudged old new result
rest_read None mid new bytes (Ok v) known native first read rest = (tt, tt)
rest_read (Some xs) None new bytes (Ok v) known native first read rest = absurd read
rest_read (Some xs) (Some ys) None bytes (Ok v) known native first read (items, consumed, end) = absurd consumed
rest_read (Some xs) (Some ys) (Some zs) bytes (Ok v) known native first read (items, consumed, end) =
    (all_read (Some xs) (Some ys) bytes v.items known native first read items, read ∙ sym items ∙ sym (append-nil v.items) ∙ ap (λ (z : List ℕ). v.items ++ z) (sym end))
rest_read None mid new bytes (Err e) known native first read rest = tt
rest_read (Some xs) mid new bytes (Err e) known native first read rest = inr rest

-- a reader that is refused for what it is was read for its first bytes alone
pub foreign_read : (old new : Option (List ℕ)) (bytes : List ℕ) (e : Fault) (result : Result (Vec ℕ) Fault) → IfSome old (λ file. bytes ≡ first_bytes file) → Consumes old new bytes → Judges (named_by bytes) (Err e) → IsErrAnd result (λ f. f ≡ e) → ReadsJudged old new result
foreign_read old new bytes e (Ok v) first read judges is = absurd is
foreign_read None new bytes e (Err f) first read judges is = tt
foreign_read (Some file) new bytes e (Err f) first read judges is =
    subst (λ (f : Fault). (IsForeign file f × Consumes (Some file) new (first_bytes file)) ⊎ IsUnread f) (sym is)
    (inl (subst (λ (bs : List ℕ). Judges (named_by bs) (Err e)) first judges, subst (Consumes (Some file) new) first read))

-- where its first bytes alone are read of a reader, no more are
pub few_read : (old new : Option (List ℕ)) (bytes : List ℕ) → IfSome old (λ file. bytes ≡ first_bytes file) → Consumes old new bytes → ReadsNoMore old new
few_read None new bytes first read = tt
few_read (Some file) new bytes first read = λ why. (bytes, omega (arith, ap length first, length-take 512 file), read)

-- of one that a reader reads, by its first bytes, all may be read
pub some_read : (old new : Option (List ℕ)) (bytes : List ℕ) → format_of bytes ≢ Unknown → named_by bytes ≡ None → IfSome old (λ file. bytes ≡ first_bytes file)
    → ReadsNoMore old new
some_read None new bytes known native first = tt
some_read (Some file) new bytes known native first = λ why. absurd (elim why [
  | inl unknown ↦ known (ap format_of first ∙ format_of_beginning file ∙ unknown)
  | inr foreign ↦ foreign (ap named_by (sym first) ∙ native)
])

-- an allocation failed for bytes that were read among the first ones
pub stopped : (old mid new : Option (List ℕ)) (bytes part items : List ℕ) (e : Fault) (result : Result (Unit {0}) Fault) → length bytes + length part ≤ 512
    → Consumes old mid bytes → Consumes mid new part → IsUnread e → IsErrAnd result (λ f. f ≡ e) → ReadsFirst old new items result
stopped old mid new bytes part items e (Ok x) fits read got unread is = absurd is
stopped old mid new bytes part items e (Err f) fits read got unread is = (
  subst IsUnread (sym is) unread,
  (bytes ++ part, omega (arith, fits, length-append bytes part), bytes_more old mid new bytes part (bytes ++ part) read got refl),
)
