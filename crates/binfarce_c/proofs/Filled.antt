-- Sections that are put into an array, one after the other.
use Rattle.std.proofs.Common.{◌≡◌, ℕ, suc, ◌+◌, ◌-◌, ◌^◌, ◌<◌, ◌≤◌, min, List, [], ◌∷◌, ◌++◌, length, length-append, append_assoc, Option, Some, None, Ok, Err, refl, sym, ap, subst, ◌∙◌, arith}
use Rattle.std.specs.List.{AllZip, slice_set}
use Rattle.std.proofs.lemmas.List.{append-nil, set_past}
use Rattle.std.proofs.Math.Seq.{take-nil, drop-nil}
use Rattle.binfarce.specs.Refusal.{Refusal}
use Rattle.binfarce.specs.Walk.{Walk, ahead_of, ended}
use Rattle.binfarce_sections.specs.Section as seen
use Rattle.binfarce_sections.specs.Views.{Opens, sections_left}
use Rattle.binfarce_sections.specs.declared.error.SectionError.{SectionError}
use Rattle.binfarce_sections.specs.declared.sections.Sections as code
use Rattle.binfarce_c.specs.declared.sections.Section.{Section}
use Rattle.binfarce_c.specs.declared.sections.Sections.{Sections}
use Rattle.binfarce_c.specs.Buffer.{put}
use Rattle.binfarce_c.specs.Sections.{GivesSections, GivesWalk, IsSection, count_of, end_status}
use Rattle.binfarce_c.specs.machine.Filled.{IsFilled, OneMore}
use Rattle.binfarce_c.specs.machine.SectionErrors.{error_status}

-- one more has its place behind those before it, if there is one
put-append : {X : Type 0} (was given : List X) (x : X) → put was (given ++ x ∷ []) ≡ slice_set (put was given) (length given) x
put-append [] given x = rw (drop-nil (length (given ++ x ∷ [])), drop-nil (length given)) refl
put-append (w ∷ was) [] x = rw (take-nil (length was)) refl
put-append {X} (w ∷ was) (g ∷ given) x = ap (λ (xs : List X). g ∷ xs) (put-append was given x)

length-put : {X : Type 0} (was given : List X) → length (put was given) ≡ length was
length-put [] given = ap length (drop-nil (length given))
length-put (w ∷ was) [] = ap (λ (xs : List _). length (xs ++ w ∷ was)) (take-nil (suc (length was)))
length-put (w ∷ was) (g ∷ given) = ap suc (length-put was given)

module _ (was sections old new : List Section) (section : Section) (count next : ℕ) (filled : IsFilled was sections old count) (goes : next ≡ min (count + 1) (2 ^ 64 - 1)) where
  next_is : next ≡ count_of (sections ++ section ∷ [])
  next_is = omega (arith, goes, filled.1, length-append sections (section ∷ []))

  -- there is room for one more
  pub with_room : count < length old → length old < 2 ^ 64 → new ≡ slice_set old count section → IsFilled was (sections ++ section ∷ []) new next
  with_room room short is =
      let at : count ≡ length sections = omega (arith, filled.1) in
      (is ∙ ap (λ (n : ℕ). slice_set old n section) at ∙ ap (λ (xs : List Section). slice_set xs (length sections) section) filled.0 ∙ sym (put-append was sections section), next_is)

  -- there is none
  pub without_room : length old ≤ count → new ≡ old → IsFilled was (sections ++ section ∷ []) new next
  without_room full is =
      let long : length (put was sections) ≤ length sections = omega (arith, filled.1, full, ap (length {A = Section}) filled.0) in
      (is ∙ filled.0 ∙ sym (set_past (put was sections) (length sections) section long) ∙ sym (put-append was sections section), next_is)

put_none : (xs : List Section) → xs ≡ put xs []
put_none xs = sym (ap (λ (ys : List Section). ys ++ xs) (take-nil (length xs)))

-- the sections that were put so far, and those that are left of a walk
pub record HasFilled (whole left : Walk seen.Section) (was now : List Section) (count : ℕ) : Type 0 where
  pub before : List seen.Section
  pub sections : List Section
  pub are : AllZip IsSection before sections
  pub whole_is : whole ≡ record { items = before ++ left.items; refusal = left.refusal }
  pub filled : IsFilled was sections now count

-- none was put yet
pub starts : (whole left : Walk seen.Section) (was : List Section) → whole ≡ left → HasFilled whole left was was 0
starts whole left was same = record { before = []; sections = []; are = tt; whole_is = same; filled = (put_none was, refl) }

push : (before : List seen.Section) (sections : List Section) (item : seen.Section) (section : Section) → AllZip IsSection before sections → IsSection item section → AllZip IsSection (before ++ item ∷ []) (sections ++ section ∷ [])
push [] [] item section are is = (is, tt)
push [] (s ∷ sections) item section are is = absurd are
push (b ∷ before) [] item section are is = absurd are
push (b ∷ before) (s ∷ sections) item section are is = (are.0, push before sections item section are.1 is)

-- one section more was put
pub goes : (whole left after : Walk seen.Section) (was now new : List Section) (count next : ℕ) (item : seen.Section) (section : Section)
    → HasFilled whole left was now count → left ≡ ahead_of item after → IsSection item section → OneMore section count now new next → HasFilled whole after was new next
goes whole left after was now new count next item section so step is more = record {
  before = so.before ++ item ∷ [];
  sections = so.sections ++ section ∷ [];
  are = push so.before so.sections item section so.are is;
  whole_is = so.whole_is ∙ ap (λ (w : Walk seen.Section). record { items = so.before ++ w.items; refusal = w.refusal }) step
      ∙ ap (λ (items : List seen.Section). record { items = items; refusal = after.refusal }) (sym (append_assoc so.before (item ∷ []) after.items));
  filled = more was so.sections so.filled;
}

-- and no more comes
pub finished : (whole left : Walk seen.Section) (was now : List Section) (count : ℕ) (end : Option Refusal) (given : Sections)
    → HasFilled whole left was now count → left ≡ ended end → given ≡ record { status = end_status end; count = count } → GivesWalk whole was now given
finished whole left was now count end given so is given_is =
    let walk : whole ≡ record { items = so.before; refusal = end } =
    so.whole_is ∙ ap (λ (w : Walk seen.Section). record { items = so.before ++ w.items; refusal = w.refusal }) is
    ∙ ap (λ (items : List seen.Section). record { items = items; refusal = end }) (append-nil so.before) in
    subst (λ (w : Walk seen.Section). GivesWalk w was now given) (sym walk) (record {
      sections = so.sections;
      are = so.are;
      given_is = given_is ∙ ap (λ (n : ℕ). record { status = end_status end; count = n }) so.filled.1;
      new_is = so.filled.0;
    })

-- the sections of a file that was opened
pub opened : (answer : Option (Walk seen.Section)) (sections : code.Sections) (old new : List Section) (given : Sections)
    → Opens answer (Ok sections) → GivesWalk (sections_left sections) old new given → GivesSections None answer old new given
opened (Some walk) sections old new given is gives = subst (λ (w : Walk seen.Section). GivesWalk w old new given) is gives
opened None sections old new given is gives = absurd is

-- and of one that wasn't
pub refused : (answer : Option (Walk seen.Section)) (e : SectionError) (old : List Section) (given : Sections)
    → Opens answer (Err e) → given ≡ record { status = error_status e; count = 0 } → GivesSections None answer old old given
refused (Some walk) e old given (p, is, e_is) given_is =
    subst (λ (w : Walk seen.Section). GivesWalk w old old given) (sym is) (record {
      sections = [];
      are = tt;
      given_is = given_is ∙ ap (λ (why : SectionError). record { status = error_status why; count = 0 }) e_is;
      new_is = put_none old;
    })
refused None e old given is given_is = (given_is ∙ ap (λ (why : SectionError). record { status = error_status why; count = 0 }) is, refl)
