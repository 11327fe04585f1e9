-- Texts that grow, and are cut back where a text before them ends.
use Rattle.std.proofs.Common.{◌≡◌, ℕ, ◌+◌, ◌≤◌, Bool, true, false, List, [], ◌++◌, Result, Ok, Err, length, take, drop, sym, ap, subst, ◌∙◌, arith, append_assoc, append-nil, length-append}
use Rattle.std.specs.Prelude.{OnOk, if◌then◌else◌}
use Rattle.std.specs.Result.{is_ok}
use Rattle.std.specs.Str.{IsUtf8, IsCharBoundary}
use Rattle.std.specs.String.Boundary.{IsSplitPoint}
use Rattle.std.proofs.lemmas.Str.{IsUtf8-append, IsCharBoundary-from_take}
use Rattle.std.proofs.Math.Seq.{take-append_seam, take-append-add, drop-append_seam}
use Rattle.binfarce_legacy.specs.machine.Reading.{Grows}

pub same : (text : List ℕ) → Grows text text
same text = ([], sym (append-nil text))

-- what a push leaves, whether it succeeds or not
pub pushed : (b : Bool) (old new part : List ℕ) → new ≡ (if b then old ++ part else old) → Grows old new
pushed true old new part is = (part, is)
pushed false old new part is = ([], is ∙ sym (append-nil old))

pub grown : (first mid last : List ℕ) → Grows first mid → Grows mid last → Grows first last
grown first mid last a b = (a.0 ++ b.0, b.1 ∙ ap (λ (t : List ℕ). t ++ b.0) a.1 ∙ append_assoc first a.0 b.0)

-- a text that grew can be cut where it began to grow
pub seam : (old new : List ℕ) → Grows old new → IsUtf8 old → IsUtf8 new → IsCharBoundary new (length old)
seam old new grows was is =
    let front : take (length old) new ≡ old = ap (take (length old)) grows.1 ∙ take-append_seam old grows.0 in
    IsCharBoundary-from_take new (length old) is (omega (arith, ap length grows.1, length-append old grows.0)) (subst IsUtf8 (sym front) was)

pub back : (old new : List ℕ) → Grows old new → take (length old) new ≡ old
back old new grows = ap (take (length old)) grows.1 ∙ take-append_seam old grows.0

-- and after a part of what it grew by
pub front : (old more kept : List ℕ) (new : List ℕ) → new ≡ old ++ more → kept ≡ take (length kept) more → take (length old + length kept) new ≡ old ++ kept
front old more kept new is part = ap (take (length old + length kept)) is ∙ take-append-add old more (length kept) ∙ ap (λ (t : List ℕ). old ++ t) (sym part)

pub boundary : (old more kept new : List ℕ) → new ≡ old ++ more → kept ≡ take (length kept) more → length kept ≤ length more → IsUtf8 old → IsUtf8 kept → IsUtf8 new → IsCharBoundary new (length old + length kept)
boundary old more kept new is part within was text whole =
    IsCharBoundary-from_take new (length old + length kept) whole (omega (arith, ap length is, length-append old more, within))
    (subst IsUtf8 (sym (front old more kept new is part)) (IsUtf8-append old kept was text))

pub split_point : (text : List ℕ) (n : ℕ) → IsCharBoundary text n → IsSplitPoint text n
split_point text n at = (at.0, λ _. at.1)

-- what a text grew by
pub rest_is : (old more new : List ℕ) → new ≡ old ++ more → drop (length old) new ≡ more
rest_is old more new is = ap (drop (length old)) is ∙ drop-append_seam old more

-- what a push that succeeds leaves
pub push_ok : {T E : Type 0} (r : Result T E) (old new part : List ℕ) (Q : Type 0) → (new ≡ old ++ part → Q) → new ≡ (if is_ok r then old ++ part else old) → OnOk r Q
push_ok (Ok x) old new part Q f h = f h
push_ok (Err e) old new part Q f h = tt
