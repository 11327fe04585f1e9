-- The bytes of an input, of which some are in memory.
use Rattle.std.proofs.Common.{◌≡◌, ◌∙◌, ◌⊎◌, inl, inr, ℕ, suc, zero, ◌+◌, ◌-◌, ◌<◌, ◌≤◌, min, Bool, true, false, ◌&&◌, nat_eq, List, [], ◌++◌, length, take, drop}
use Rattle.std.proofs.Common.{length-append, length-drop, Option, Some, None, if◌then◌else◌, append-nil, refl, sym, ap, subst, arith}
use Rattle.std.specs.Prelude.{Result, Ok, Err, is_ok, IfErr, OnOk, IfSome, option_and_then}
use Rattle.std.specs.Cmp.Lexicographic.{other_text, pointwise, same_text}
use Rattle.std.proofs.lemmas.Bool.{eqb-true, eq-eqb}
use Rattle.std.proofs.lemmas.List.{drop_all, drop-take, take_all, take_min, length-take, length-take-le, take-take}
use Rattle.std.proofs.Math.Seq.{drop-drop, take-add}
use borrow.Rule.Slice.PartMut.{post_of}
use Rattle.binfarce_bytes.specs.Format.{begins}
use Rattle.binfarce_bytes.specs.Source.{IsPart, MayMiss}
use Rattle.binfarce_foreign.specs.Foreign.{first_bytes}
use Rattle.binfarce_io.specs.Input.{HoldsFirst, bytes_or, is_beginning_of, is_whole, may_or}
use Rattle.binfarce_io.specs.declared.input.Held.{Held}

-- bytes of a file that lie among its first ones
within : (first file : List ℕ) (offset size : ℕ) → first ≡ take (length first) file → offset + size ≤ length first
    → take size (drop offset first) ≡ take size (drop offset file)
within first file offset size is inside =
    let left : ℕ = length first - offset in
    let split : length first ≡ offset + left = omega (arith, inside) in
    ap (λ (z : List ℕ). take size (drop offset z)) is
    ∙ ap (λ (n : ℕ). take size (drop offset (take n file))) split
    ∙ ap (take size) (drop-take offset left file)
    ∙ take-take size left (drop offset file) (omega (arith, inside))

-- of none it doesn't matter where
within_left : (first file : List ℕ) (offset size : ℕ) → first ≡ take (length first) file → size ≤ length first - offset
    → take size (drop offset first) ≡ take size (drop offset file)
within_left first file offset zero is inside = refl
within_left first file offset (suc size) is inside = within first file offset (suc size) is (omega arith)

-- a buffer whose first bytes were copied, and whose others were read
abbrev filled : (copied rest : List ℕ) (count : ℕ) → List ℕ
filled copied rest count = take count copied ++ (rest ++ post_of count (length copied - count) copied)

filled_is : (copied rest : List ℕ) (count : ℕ) → filled copied rest count ≡ take count copied ++ rest
filled_is copied rest count =
    let none : post_of count (length copied - count) copied ≡ [] = drop_all (length copied - count) (drop count copied) (omega (arith, length-drop count copied)) in
    ap (λ (z : List ℕ). take count copied ++ (rest ++ z)) none ∙ ap (λ (z : List ℕ). take count copied ++ z) (append-nil rest)

-- two tests that hold
both : (a b : Bool) → (a && b) ≡ true → (a ≡ true) × (b ≡ true)
both true true is = (refl, refl)
both true false is = absurd cc
both false b is = absurd cc

same_bytes : (xs ys : List ℕ) → xs ≡ ys → pointwise nat_eq xs ys ≡ true
same_bytes xs ys is = by (pointwise nat_eq xs ys) refl
  where
    by : (b : Bool) → pointwise nat_eq xs ys ≡ b → b ≡ true
    by true test = refl
    by false test = absurd (other_text xs ys (sym test) is)

module _ (held : Held) where
  abbrev items : List ℕ
  items = held.bytes.items

  begun : (file : List ℕ) → is_beginning_of held file ≡ true → (held.file_length ≡ length file) × (items ≡ take (length items) file)
  begun file is =
      let tests = both (nat_eq held.file_length (length file)) (begins file items) is in
      (eqb-true held.file_length (length file) tests.0, same_text items (take (length items) file) (sym tests.1))

  begins_so : (file : List ℕ) → items ≡ first_bytes file → held.file_length ≡ length file → is_beginning_of held file ≡ true
  begins_so file first long =
      let count : length items ≡ min 512 (length file) = ap length first ∙ length-take 512 file in
      let same : items ≡ take (length items) file = first ∙ sym (take_min 512 file) ∙ ap (λ (n : ℕ). take n file) (sym count) in
      ap (λ (b : Bool). b && begins file items) (eq-eqb held.file_length (length file) long) ∙ same_bytes items (take (length items) file) same

  -- a fact of those in memory, where they are all, and of a file that begins with them, is one of the bytes
  by_bytes : (P : List ℕ → Type 0) (known : Option (List ℕ)) → (is_whole held ≡ true → P items)
      → ((file : List ℕ) → known ≡ Some file → is_beginning_of held file ≡ true → is_whole held ≡ false → P file) → IfSome (bytes_or known (Some held)) P
  by_bytes P known all some = by_whole (is_whole held) refl
    where
      from_file : (maybe : Option (List ℕ)) → known ≡ maybe → is_whole held ≡ false
          → IfSome (option_and_then (λ file. if is_beginning_of held file then Some file else None) maybe) P
      from_file None same is = tt
      from_file (Some file) same is = by_test (is_beginning_of held file) refl
        where
          by_test : (b : Bool) → is_beginning_of held file ≡ b → IfSome (if b then Some file else None) P
          by_test true begins = some file same begins is
          by_test false begins = tt

      by_whole : (b : Bool) → is_whole held ≡ b
          → IfSome (if b then Some items else option_and_then (λ file. if is_beginning_of held file then Some file else None) known) P
      by_whole true is = all is
      by_whole false is = from_file known refl is

  -- there are as many as are stated
  pub length_of : (known : Option (List ℕ)) → IfSome (bytes_or known (Some held)) (λ all. held.file_length ≡ length all)
  length_of known = by_bytes (λ all. held.file_length ≡ length all) known (λ is. sym (eqb-true (length items) held.file_length is)) (λ file known begins is. (begun file begins).0)

  -- a part of those in memory is one of the bytes
  held_part : (known : Option (List ℕ)) (offset : ℕ) (part : List ℕ) → IsPart (Some items) offset part → IsPart (bytes_or known (Some held)) offset part
  held_part known offset part (inside, is) = by_bytes (λ all. (offset + length part ≤ length all) × (part ≡ take (length part) (drop offset all))) known
      (λ whole. (inside, is))
      (λ file known begins whole.
      let first = (begun file begins).1 in
      (omega (arith, inside, ap length first, length-take (length items) file), is ∙ within items file offset (length part) first inside))

  -- where they are all, no other part is there
  held_misses : (may_fail : Bool) (known : Option (List ℕ)) (offset size : ℕ) → is_whole held ≡ true → MayMiss false (Some items) offset size
      → MayMiss (may_or may_fail (Some held)) (bytes_or known (Some held)) offset size
  held_misses may_fail known offset size whole (inl never) = absurd cc
  held_misses may_fail known offset size whole (inr past) = inr (by_bytes (λ all. length all < offset + size) known (λ is. past) (λ file known begins is. absurd cc))

  -- a part whose first bytes are in memory, and whose others are read, is one of the bytes
  crossing : (known : Option (List ℕ)) (offset count : ℕ) (copied rest : List ℕ) → is_whole held ≡ false → count ≤ length copied → count ≤ length items - offset
      → take count copied ≡ take count (drop offset items) → IsPart known (offset + count) rest → IsPart (bytes_or known (Some held)) offset (filled copied rest count)
  crossing known offset count copied rest whole fits inside is part =
      by_bytes (λ all. (offset + length part_of ≤ length all) × (part_of ≡ take (length part_of) (drop offset all))) known
      (λ other. absurd cc)
      (λ file same begins not_all.
      let read : IsPart (Some file) (offset + count) rest = subst (λ (o : Option (List ℕ)). IsPart o (offset + count) rest) same part in
      let first : take count copied ≡ take count (drop offset file) = is ∙ within_left items file offset count (begun file begins).1 inside in
      let others : rest ≡ take (length rest) (drop count (drop offset file)) = read.1 ∙ ap (take (length rest)) (sym (drop-drop count offset file)) in
      let all : part_of ≡ take (count + length rest) (drop offset file) =
      filled_is copied rest count
      ∙ ap (λ (z : List ℕ). z ++ rest) first
      ∙ ap (λ (z : List ℕ). take count (drop offset file) ++ z) others
      ∙ sym (take-add count (length rest) (drop offset file)) in
      (omega (arith, long, read.0), all ∙ ap (λ (n : ℕ). take n (drop offset file)) (sym long)))
    where
      part_of : List ℕ
      part_of = filled copied rest count

      long : length part_of ≡ count + length rest
      long =
          ap length (filled_is copied rest count)
          ∙ length-append (take count copied) rest
          ∙ ap (λ (n : ℕ). n + length rest) (length-take-le count copied fits)

module _ (may_fail : Bool) (known : Option (List ℕ)) (maybe : Option Held) where
  module _ {E : Type 0} (held : Held) (bytes : List ℕ) (offset : ℕ) (is : maybe ≡ Some held) (same : bytes ≡ held.bytes.items) where
    -- a part is read of those in memory
    pub held_read : (part : List ℕ) (r : Result (Unit {0}) E) → OnOk r (IsPart (Some bytes) offset part) → OnOk r (IsPart (bytes_or known maybe) offset part)
    held_read part (Err e) read = tt
    held_read part (Ok x) read =
        subst (λ (m : Option Held). IsPart (bytes_or known m) offset part) (sym is)
        (held_part held known offset part (subst (λ (b : List ℕ). IsPart (Some b) offset part) same read))

    -- it isn't there
    pub held_failed : (size : ℕ) (r : Result (Unit {0}) E) → (is_ok r ≡ true) ⊎ (is_whole held ≡ true) → IfErr r (λ _. MayMiss false (Some bytes) offset size)
        → IfErr r (λ _. MayMiss (may_or may_fail maybe) (bytes_or known maybe) offset size)
    held_failed size (Ok x) why misses = tt
    held_failed size (Err e) (inl never) misses = absurd cc
    held_failed size (Err e) (inr whole) misses =
        subst (λ (m : Option Held). MayMiss (may_or may_fail m) (bytes_or known m) offset size) (sym is)
        (held_misses held may_fail known offset size whole (subst (λ (b : List ℕ). MayMiss false (Some b) offset size) same misses))

    -- its first bytes are in memory, and the others are read
    pub crossed : (count : ℕ) (copied rest : List ℕ) (read result : Result (Unit {0}) E) → is_whole held ≡ false → count ≡ min (length bytes - offset) (length copied)
        → take count copied ≡ take count (drop offset bytes) → is_ok result ≡ is_ok read → OnOk read (IsPart known (offset + count) rest)
        → OnOk result (IsPart (bytes_or known maybe) offset (filled copied rest count))
    crossed count copied rest read (Err e) whole inside first ok part = tt
    crossed count copied rest (Err e) (Ok x) whole inside first ok part = absurd cc
    crossed count copied rest (Ok y) (Ok x) whole inside first ok part =
        subst (λ (m : Option Held). IsPart (bytes_or known m) offset (filled copied rest count)) (sym is)
        (crossing held known offset count copied rest whole (omega (arith, inside)) (omega (arith, inside, ap length same))
        (subst (λ (b : List ℕ). take count copied ≡ take count (drop offset b)) same first) part)

  -- a file whose first bytes are in memory has its bytes
  pub held_file : (held : Held) (file : List ℕ) → known ≡ Some file → maybe ≡ Some held → HoldsFirst may_fail file maybe → bytes_or known maybe ≡ Some file
  held_file held file is some first =
      let of_held : HoldsFirst may_fail file (Some held) = subst (HoldsFirst may_fail file) some first in
      ap (bytes_or known) some ∙ ap (λ (o : Option (List ℕ)). bytes_or o (Some held)) is ∙ by of_held.0 of_held.1 (is_whole held) refl
    where
      by : held.bytes.items ≡ first_bytes file → held.file_length ≡ length file → (b : Bool) → is_whole held ≡ b
          → (if b then Some held.bytes.items else (if is_beginning_of held file then Some file else None)) ≡ Some file
      by first long true whole =
          let count : length held.bytes.items ≡ length file = eqb-true (length held.bytes.items) held.file_length whole ∙ long in
          ap Some (first ∙ take_all 512 file (omega (arith, count, ap length first, length-take 512 file)))
      by first long false whole = ap (λ (b : Bool). if b then Some file else None) (begins_so held file first long)

-- it may fail to be read only if the file may
pub more_held : (may_fail : Bool) (maybe : Option Held) → may_or may_fail maybe ≡ true → may_fail ≡ true
more_held may_fail None may = may
more_held may_fail (Some held) may = by (is_whole held) may
  where
    by : (b : Bool) → (if b then false else may_fail) ≡ true → may_fail ≡ true
    by true may = absurd cc
    by false may = may

-- where it can't be read at offsets, it may fail to be read, or has no byte
pub not_at_offsets : (may_fail : Bool) (known : Option (List ℕ)) (maybe : Option Held) (file : List ℕ) → known ≡ Some file → HoldsFirst may_fail file maybe
    → ((held : Held) → maybe ≡ Some held → IfSome (bytes_or known maybe) (λ bytes. (bytes ≡ []) ⊎ (may_or may_fail maybe ≡ true)))
    → (may_fail ≡ true) ⊎ (file ≡ [])
not_at_offsets may_fail known None file is may why = inl may
not_at_offsets may_fail known (Some held) file is first why =
    let all : bytes_or known (Some held) ≡ Some file = held_file may_fail known (Some held) held file is refl first in
    let told : (file ≡ []) ⊎ (may_or may_fail (Some held) ≡ true) =
    subst (λ (o : Option (List ℕ)). IfSome o (λ bytes. (bytes ≡ []) ⊎ (may_or may_fail (Some held) ≡ true))) all (why held refl) in
    elim told [
      | inl none ↦ inr none
      | inr may ↦ inl (more_held may_fail (Some held) may)
    ]

-- all bytes of a file are in memory
pub whole_bytes : (known : Option (List ℕ)) (held : Held) → held.file_length ≡ length held.bytes.items → bytes_or known (Some held) ≡ Some held.bytes.items
whole_bytes known held all =
    ap (λ (b : Bool). if b then Some held.bytes.items else option_and_then (λ file. if is_beginning_of held file then Some file else None) known)
    (eq-eqb (length held.bytes.items) held.file_length (sym all))

pub whole_may : (may_fail : Bool) (held : Held) → held.file_length ≡ length held.bytes.items → may_or may_fail (Some held) ≡ false
whole_may may_fail held all = ap (λ (b : Bool). if b then false else may_fail) (eq-eqb (length held.bytes.items) held.file_length (sym all))
