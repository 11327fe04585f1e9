-- The bytes of changes by their names, change after change.
use Rattle.std.proofs.Common.{◌≡◌, ◌∙◌, ℕ, ◌+◌, ◌<◌, ◌≤◌, ◌^◌, Bool, true, false, ◌||◌, cond, List, [], ◌∷◌, ◌++◌, Option, Some, None, Result, Ok, Err, IfOk, BTreeMap, Bor, get_or, length, map, take, drop, refl, sym, ap, ap₂, subst, arith, add-zero, take-append-drop}
use Rattle.std.proofs.lemmas.List.{take_more}
use Rattle.std.proofs.lemmas.List.Folds.{list_any-append}
use Rattle.std.proofs.lemmas.List.Sums.{sum_by-append, sum_by-cons}
use Rattle.std.specs.Cmp.Lexicographic.{bytes_decides}
use Rattle.std.specs.List.{list_any, sum_by}
use Rattle.std.specs.Map.{update}
use Rattle.std.specs.Prelude.{if◌then◌else◌}
use Rattle.std.specs.Str.{bytes_eq}
use Rattle.binfarce_sections.specs.declared.changes.Change.{Change}
use Rattle.binfarce_sections.specs.ByName.{at_name, bytes_at}
use Rattle.binfarce_sections.specs.Changes.{Part, Row, new_row, old_row, row_view, sum_named}
use Rattle.binfarce_sections.specs.machine.Added.{bytes_in, or_none, sum_in}
use Rattle.binfarce_sections.specs.machine.Changed.{Fit}
use Rattle.binfarce_sections.proofs.Joined.{given_any, given_row}

abbrev pub Names : Type 0
Names = BTreeMap (Bor (List ℕ)) (ℕ × ℕ)

alike : (x y : Bool) → (x ≡ true → y ≡ true) → (y ≡ true → x ≡ true) → x ≡ y
alike true true one other = refl
alike false false one other = refl
alike true false one other = sym (one refl)
alike false true one other = other refl

symmetric : (a b : List ℕ) → bytes_eq a b ≡ bytes_eq b a
symmetric a b = alike (bytes_eq a b) (bytes_eq b a) (λ e. (bytes_decides b a).1 (sym ((bytes_decides a b).0 e))) (λ e. (bytes_decides a b).1 (sym ((bytes_decides b a).0 e)))

or_first : (a b : Bool) → (a || b) ≡ false → a ≡ false
or_first true b is = is
or_first false b is = refl

or_second : (a b : Bool) → (a || b) ≡ false → b ≡ false
or_second true b is = absurd cc
or_second false b is = is

-- without a change of a name its sums are 0
no_sum : (number : Change → ℕ) (name : List ℕ) (changes : List Change) → list_any (λ c. bytes_eq name c.name.now) changes ≡ false → sum_in number name changes ≡ 0
no_sum number name [] none = refl
no_sum number name (c ∷ changes) none =
    let here : bytes_eq c.name.now name ≡ false = symmetric c.name.now name ∙ or_first (bytes_eq name c.name.now) _ none in
    omega (
      arith,
      sum_by-cons (λ (x : Change). if bytes_eq x.name.now name then number x else 0) c changes,
      ap (λ (b : Bool). if b then number c else 0) here,
      no_sum number name changes (or_second (bytes_eq name c.name.now) _ none),
    )

sum_le : (number : Change → ℕ) (name : List ℕ) (changes : List Change) → sum_in number name changes ≤ sum_by number changes
sum_le number name [] = omega arith
sum_le number name (c ∷ changes) =
    omega (arith, sum_by-cons (λ (x : Change). if bytes_eq x.name.now name then number x else 0) c changes, sum_by-cons number c changes, sum_le number name changes, one_le (bytes_eq c.name.now name) (number c))
  where
    one_le : (b : Bool) (n : ℕ) → (if b then n else 0) ≤ n
    one_le true n = omega arith
    one_le false n = omega arith

-- the sums of a name, 0 if it has none
named : (name : List ℕ) (changes : List Change) (any : Bool) → list_any (λ c. bytes_eq name c.name.now) changes ≡ any
    → or_none (if any then Some (sum_in (λ c. c.old) name changes, sum_in (λ c. c.new) name changes) else None) ≡ (sum_in (λ c. c.old) name changes, sum_in (λ c. c.new) name changes)
named name changes true is = refl
named name changes false is = ap₂ (λ (a b : ℕ). (a, b)) (sym (no_sum (λ c. c.old) name changes is)) (sym (no_sum (λ c. c.new) name changes is))

pub sums_at : (name : List ℕ) (changes : List Change) → or_none (bytes_in changes name) ≡ (sum_in (λ c. c.old) name changes, sum_in (λ c. c.new) name changes)
sums_at name changes = named name changes (list_any (λ c. bytes_eq name c.name.now) changes) refl

or_true : (x : Bool) → (x || (true || false)) ≡ true
or_true true = refl
or_true false = refl

or_false : (x : Bool) → (x || (false || false)) ≡ x
or_false true = refl
or_false false = refl

-- one change more: of this name, or of another
chosen : (b any : Bool) (a c x y : ℕ) (found : Option (ℕ × ℕ)) (v : ℕ × ℕ) → found ≡ (if any then Some (a, c) else None) → (b ≡ true → v ≡ (a + x, c + y))
    → cond b (Some v) found ≡ (if any || (b || false) then Some (a + (if b then x else 0), c + (if b then y else 0)) else None)
chosen true any a c x y found v is more = ap (λ (p : ℕ × ℕ). Some p) (more refl) ∙ ap (λ (o : Bool). if o then Some (a + x, c + y) else None) (sym (or_true any))
chosen false any a c x y found v is more =
    is ∙ ap₂ (λ (m n : ℕ). if any then Some (m, n) else None) (sym (add-zero a)) (sym (add-zero c))
    ∙ ap (λ (o : Bool). if o then Some (a + 0, c + 0) else None) (sym (or_false any))

module _ (changes : List Change) (i : ℕ) (d : Change) (lt : i < length changes) where
  abbrev here : Change
  here = get_or changes i d

  abbrev before : List Change
  before = take i changes

  sum_more : (number : Change → ℕ) (name : List ℕ) → sum_in number name (take (i + 1) changes) ≡ sum_in number name before + (if bytes_eq here.name.now name then number here else 0)
  sum_more number name =
      let w = λ (x : Change). if bytes_eq x.name.now name then number x else 0 in
      omega (arith, ap (λ (cs : List Change). sum_by w cs) (take_more changes i d lt), sum_by-append w before (here ∷ []), sum_by-cons w here [])

  any_more : (name : List ℕ) → list_any (λ c. bytes_eq name c.name.now) (take (i + 1) changes) ≡ (list_any (λ c. bytes_eq name c.name.now) before || (bytes_eq here.name.now name || false))
  any_more name =
      let test = λ (c : Change). bytes_eq name c.name.now in
      ap (list_any test) (take_more changes i d lt) ∙ list_any-append test before (here ∷ []) ∙ ap (λ (b : Bool). list_any test before || (b || false)) (symmetric name here.name.now)

  -- the sums fit
  room : (number : Change → ℕ) → sum_by number changes < 2 ^ 64 → sum_in number here.name.now before + number here < 2 ^ 64
  room number fits =
      let w = number in
      omega (
        arith,
        fits,
        sum_le number here.name.now before,
        ap (λ (cs : List Change). sum_by w cs) (sym (take-append-drop (i + 1) changes)),
        sum_by-append w (take (i + 1) changes) (drop (i + 1) changes),
        ap (λ (cs : List Change). sum_by w cs) (take_more changes i d lt),
        sum_by-append w before (here ∷ []),
        sum_by-cons w here [],
      )

  module _ (fit : Fit changes) (old new : Names) (are : (name : List ℕ) → at_name old name ≡ bytes_in before name) where
    at_here : or_none (at_name old here.name.now) ≡ (sum_in (λ c. c.old) here.name.now before, sum_in (λ c. c.new) here.name.now before)
    at_here = ap or_none (are here.name.now) ∙ sums_at here.name.now before

    pub old_fits : (or_none (at_name old here.name.now)).0 + here.old < 2 ^ 64
    old_fits = subst (λ (p : ℕ × ℕ). p.0 + here.old < 2 ^ 64) (sym at_here) (room (λ c. c.old) fit.0)

    pub new_fits : (or_none (at_name old here.name.now)).1 + here.new < 2 ^ 64
    new_fits = subst (λ (p : ℕ × ℕ). p.1 + here.new < 2 ^ 64) (sym at_here) (room (λ c. c.new) fit.1)

    pub one_more : ((name : List ℕ) → at_name new name ≡ update bytes_eq (at_name old) here.name.now (Some ((or_none (at_name old here.name.now)).0 + here.old, (or_none (at_name old here.name.now)).1 + here.new)) name)
        → (name : List ℕ) → at_name new name ≡ bytes_in (take (i + 1) changes) name
    one_more added name =
        let of_name : bytes_eq here.name.now name ≡ true
        → Path (ℕ × ℕ) ((or_none (at_name old here.name.now)).0 + here.old, (or_none (at_name old here.name.now)).1 + here.new) (sum_in (λ c. c.old) name before + here.old, sum_in (λ c. c.new) name before + here.new) =
        λ is. ap (λ (p : ℕ × ℕ). (p.0 + here.old, p.1 + here.new)) (at_here ∙ ap (λ (n : List ℕ). (sum_in (λ c. c.old) n before, sum_in (λ c. c.new) n before)) ((bytes_decides here.name.now name).0 is)) in
        added name
        ∙ chosen (bytes_eq here.name.now name) (list_any (λ c. bytes_eq name c.name.now) before) (sum_in (λ c. c.old) name before) (sum_in (λ c. c.new) name before) here.old here.new (at_name old name) _ (are name) of_name
        ∙ ap (λ (o : Bool). if o then Some (sum_in (λ c. c.old) name before + (if bytes_eq here.name.now name then here.old else 0), sum_in (λ c. c.new) name before + (if bytes_eq here.name.now name then here.new else 0)) else None) (sym (any_more name))
        ∙ ap₂ (λ (m n : ℕ). if list_any (λ c. bytes_eq name c.name.now) (take (i + 1) changes) then Some (m, n) else None) (sym (sum_more (λ c. c.old) name)) (sym (sum_more (λ c. c.new) name))

-- of changes that parts make alone
pub given_bytes : (given : List Change) (old new : List Part) → map row_view given ≡ map old_row old ++ map new_row new → (name : List ℕ) → bytes_in given name ≡ bytes_at old new name
given_bytes given old new is name =
    ap (λ (r : Row). if list_any (λ c. bytes_eq name c.name.now) given then Some (r.old, r.new) else None) (given_row given old new is name)
    ∙ ap (λ (b : Bool). if b then Some (sum_named (λ p. p.bytes) name old, sum_named (λ p. p.bytes) name new) else None) (given_any given old new is name)

pub by_names : {E : Type 0} (given changes : List Change) (old new : List Part) (made : Result Names E) → changes ≡ given → map row_view given ≡ map old_row old ++ map new_row new
    → IfOk made (λ rows. (name : List ℕ) → at_name rows name ≡ bytes_in changes name) → IfOk made (λ rows. (name : List ℕ) → at_name rows name ≡ bytes_at old new name)
by_names given changes old new (Err e) same is are = are
by_names given changes old new (Ok rows) same is are = λ name. are name ∙ ap (λ (cs : List Change). bytes_in cs name) same ∙ given_bytes given old new is name
