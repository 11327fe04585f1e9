-- Names that are kept in one text.
use Rattle.std.proofs.Common.{◌≡◌, ℕ, zero, suc, ◌+◌, ◌-◌, List, ◌++◌, Option, Some, None, MatchOption, length, drop, take, get_or, set, replicate, refl, sym, ap, subst, ◌∙◌, arith, inl, inr, length-append, length-drop}
use Rattle.std.specs.Prelude.{IfSome}
use Rattle.std.proofs.Math.ListN.{get_or-eq_default, length-set}
use Rattle.std.proofs.Math.Seq.{drop-append-add}
use Rattle.std.proofs.lemmas.Bool.{cases_eq, cases_lt}
use Rattle.std.proofs.lemmas.Grind.{get_or-set_at}
use Rattle.std.proofs.lemmas.List.{drop-append-le, get_or_default, get_or-set_other, take-append-le, take_all}
use Rattle.binfarce.specs.Named.{IsShown}
use Rattle.binfarce.specs.Symbol.{Entry}
use Rattle.binfarce_addresses.specs.Places.{IsAtPlace, IsNamedAt}
use Rattle.binfarce_addresses.specs.machine.Places.{AreKept}

-- the name of an entry that is at the place
pub named : (entries : List Entry) (place : ℕ) (entry : Entry) (name : List ℕ) → IsAtPlace entries place entry → IsShown entry.name name → IsNamedAt entries place name
named entries place entry name at is other here =
    let same : entry ≡ other = sym at.1 ∙ get_or_default entries place entry other at.0 ∙ here.1 in
    (name, subst (λ (e : Entry). IsShown e.name name) same is, refl)

-- none
pub none_kept : (entries : List Entry) (text : List ℕ) (room : ℕ) → AreKept entries text (replicate room (0, 0))
none_kept entries text room place from to is lt = let same : Path (ℕ × ℕ) (0, 0) (from, to) = sym (none room place) ∙ is in absurd (omega (arith, lt, ap (λ (p : ℕ × ℕ). p.0) same, ap (λ (p : ℕ × ℕ). p.1) same))
  where
    none : (n i : ℕ) → Path (ℕ × ℕ) (get_or (replicate n (0, 0)) i (0, 0)) (0, 0)
    none zero i = refl
    none (suc n) zero = refl
    none (suc n) (suc i) = none n i

-- the text grows
pub more_text : (entries : List Entry) (text more : List ℕ) (kept : List (ℕ × ℕ)) → AreKept entries text kept → AreKept entries (text ++ more) kept
more_text entries text more kept are place from to is lt =
    let old = are place from to is lt in
    let same : take (to - from) (drop from (text ++ more)) ≡ take (to - from) (drop from text) =
    ap (take (to - from)) (drop-append-le from text more (omega (arith, lt, old.0))) ∙ take-append-le (to - from) (drop from text) more (omega (arith, old.0, length-drop from text)) in
    (omega (arith, old.0, length-append text more), subst (IsNamedAt entries place) (sym same) old.1)

-- the end of the text is kept as the name at a place, if there is room
pub one_kept : (entries : List Entry) (text : List ℕ) (kept : List (ℕ × ℕ)) (place from to : ℕ) → AreKept entries text kept → to ≡ length text → IsNamedAt entries place (drop from text)
    → AreKept entries text (set kept place (from, to))
one_kept entries text kept place from to are end name i a b is lt = elim (cases_eq i place) [
  | inr other ↦ are i a b (sym (get_or-set_other kept place i (from, to) (0, 0) other) ∙ is) lt
  | inl here ↦ elim (cases_lt place (length kept)) [
    | inr out ↦
        let count : length (set kept place (from, to)) ≡ length kept = rw length-set refl in
        let none : Path (ℕ × ℕ) (0, 0) (a, b) = sym (get_or-eq_default (set kept place (from, to)) (0, 0) {n = i} (omega (arith, out, here, count))) ∙ is in
        absurd (omega (arith, lt, ap (λ (p : ℕ × ℕ). p.0) none, ap (λ (p : ℕ × ℕ). p.1) none))
    | inl within ↦
        let same : Path (ℕ × ℕ) (from, to) (a, b) = sym (get_or-set_at kept place i (from, to) (0, 0) here within) ∙ is in
        let first : a ≡ from = ap (λ (p : ℕ × ℕ). p.0) (sym same) in
        let last : b ≡ to = ap (λ (p : ℕ × ℕ). p.1) (sym same) in
        let all : take (b - a) (drop a text) ≡ drop from text = ap (λ n. take (b - n) (drop n text)) first ∙ take_all (b - from) (drop from text) (omega (arith, last, end, length-drop from text)) in
        (omega (arith, last, end), subst (λ k. IsNamedAt entries k (take (b - a) (drop a text))) (sym here) (subst (IsNamedAt entries place) (sym all) name))
  ]
]

-- what the text has grown by
pub behind : (text front shown new : List ℕ) → front ≡ text → new ≡ text ++ shown → drop (length front) new ≡ shown
behind text front shown new same is =
    let end : length front ≡ length text + 0 = omega (arith, ap (length {A = ℕ}) same) in
    ap (drop (length front)) is ∙ ap (λ n. drop n (text ++ shown)) end ∙ drop-append-add text shown 0

pub if_some : {T : Type 0} (r : Option T) (P : Type 0) (Q R : T → Type 0) → MatchOption r P Q → ((x : T) → Q x → R x) → IfSome r R
if_some None P Q R m f = tt
if_some (Some x) P Q R m f = f x m
