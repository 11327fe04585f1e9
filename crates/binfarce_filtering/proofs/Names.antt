-- Names in a run, and what is shown of a run up to a position.
use Rattle.std.proofs.Common.{◌≡◌, ℕ, ◌+◌, ◌<◌, ◌≤◌, Bool, true, false, cond, inl, inr, nat_lt, if◌then◌else◌, not, ◌&&◌, ◌||◌, ◌==◌, List, [], ◌∷◌, ◌++◌, length, drop, take, get_or, refl, sym, ◌∙◌, ap, subst, arith, append_assoc, append-nil}
use Rattle.std.proofs.lemmas.Bool.{cases_lt, false≢true}
use Rattle.std.proofs.lemmas.Bool.Decides.{nat_tests}
use Rattle.std.proofs.lemmas.List.{drop-drop, drop_all}
use Rattle.std.specs.Cmp.Derive.{both_true}
use Rattle.std.specs.Str.{bytes_eq}
use Rattle.binfarce_legacy.specs.Legacy.{Element, Reads, ends_in_hash}
use Rattle.binfarce_legacy.proofs.ElementLemmas.{reads_one_way}
use Rattle.binfarce_names.specs.Name.{short_or}
use Rattle.binfarce_names.proofs.Trimmed.{either}
use Rattle.binfarce_filtering.specs.Filter.{IsLegacyUpTo, IsNameLength, IsRead, IsReadable, IsSymbolLength, begins_name, begins_v0, byte_then, ends_name, has_control, dropped, llvm_length, name_then, no_more, rest_stays}

-- where no v0 name begins, the length of a symbol is that of a legacy name
pub no_symbol : (run : List ℕ) → begins_v0 run ≡ false → ((n : ℕ) → ¬ (IsLegacyUpTo run n)) → (n : ℕ) → ¬ (IsSymbolLength (begins_v0 run) run n)
no_symbol run is none n len = let P : Bool → Type 0 = λ x. IsSymbolLength x run n in none n (subst P is len)

-- the last of the elements is no hash, or no name ends after them
pub legacy_other : (run part rest : List ℕ) (end : ℕ) (hash : Bool) → part ≡ drop 3 run → (elements : List Element) × Reads part elements (drop end part) × (hash ≡ ends_in_hash elements)
    → rest ≡ drop (3 + end) run → hash && ends_name rest ≡ false → (k : ℕ) → ¬ (IsLegacyUpTo run k)
legacy_other run part rest end hash from found behind other k is =
    let P : List ℕ → Type 0 = λ x. Reads x found.0 (drop end x) in
    let Q : List ℕ → Type 0 = λ x. Reads (drop 3 run) found.0 x in
    let here : Reads (drop 3 run) found.0 (drop (3 + end) run) = subst Q (drop-drop end 3 run) (subst P from found.1) in
    let same = reads_one_way (drop 3 run) found.0 is.0 (drop (3 + end) run) (drop k run) here is.1 in
    false≢true (sym other ∙ both_true (found.2 ∙ ap ends_in_hash same.0 ∙ is.2) (ap ends_name (behind ∙ same.1) ∙ is.3))

-- a byte where no name begins stays
pub byte_read : (full first : Bool) (run rest : List ℕ) → 0 < length run → begins_name first run ≡ false → IsRead full false (drop 1 run) rest → IsRead full first run (get_or run 0 0 ∷ rest)
byte_read full first [] rest some none is = absurd (omega (arith, some))
byte_read full first (b ∷ run) rest some none is = byte_then first b run rest none is

not_true : (t : Bool) → not t ≡ true → t ≡ false
not_true true is = absurd (false≢true is)
not_true false is = refl

not_false : (t : Bool) → not t ≡ false → t ≡ true
not_false true is = refl
not_false false is = absurd (false≢true (sym is))

-- behind a name that changes, a number of LLVM is dropped
pub drops_number : (name readable rest part : List ℕ) (n : ℕ) (changes : Bool) → changes ≡ true → changes ≡ not (bytes_eq readable name) → part ≡ rest → n ≡ llvm_length part → n ≡ dropped name readable rest
drops_number name readable rest part n changes is by from len = len ∙ ap llvm_length from ∙ sym (ap (λ t. cond t 0 (llvm_length rest)) (not_true (bytes_eq readable name) (sym by ∙ is)))

-- and nothing behind one that stays
pub drops_nothing : (name readable rest : List ℕ) (changes : Bool) → changes ≡ false → changes ≡ not (bytes_eq readable name) → 0 ≡ dropped name readable rest
drops_nothing name readable rest changes is by = sym (ap (λ t. cond t 0 (llvm_length rest)) (not_false (bytes_eq readable name) (sym by ∙ is)))

-- a name is replaced, and n bytes behind it are dropped
pub name_read : (full first : Bool) (run readable rest : List ℕ) (len n to : ℕ) → begins_name first run ≡ true → IsNameLength run len → IsReadable full (take len run) readable
    → n ≡ dropped (take len run) readable (drop len run) → to ≡ len + n → IsRead full false (drop to run) rest → IsRead full first run (readable ++ rest)
name_read full first run readable rest len n to begins length readable_is is ends more =
    let P : List ℕ → Type 0 = λ x. IsRead full false x rest in
    let same : drop (dropped (take len run) readable (drop len run)) (drop len run) ≡ drop to run =
    ap (λ k. drop k (drop len run)) (sym is) ∙ drop-drop n len run ∙ ap (λ k. drop k run) (sym ends) in
    name_then first run len readable rest begins length readable_is (subst P (sym same) more)

-- nothing is shown of an empty run
pub none_read : (full first : Bool) (run shown : List ℕ) → IsRead full first run shown → run ≡ [] → shown ≡ []
none_read full first _ _ (no_more _) is = refl
none_read full first _ _ (byte_then _ b run shown begins rest) is = absurd cc
none_read full first _ _ (name_then _ run n readable shown begins len name rest) is = absurd (no_name first (sym (ap (begins_name first) is) ∙ begins))
  where
    no_name : (first : Bool) → begins_name first [] ≡ true → ⊥
    no_name true begins = absurd cc
    no_name false begins = absurd cc
none_read full first _ _ (rest_stays _ run begins none) is = is

-- where no name is, the rest stays
pub rest_read : (full first : Bool) (run rest : List ℕ) → begins_name first run ≡ true → ((n : ℕ) → ¬ (IsNameLength run n)) → IsRead full false (drop (length run) run) rest → IsRead full first run (run ++ rest)
rest_read full first run rest begins none read =
    let P : List ℕ → Type 0 = λ x. IsRead full first run x in
    subst P (sym (ap (λ (x : List ℕ). run ++ x) (none_read full false (drop (length run) run) rest read (drop_all (length run) run (omega arith))) ∙ append-nil run)) (rest_stays first run begins none)

-- what was written after old is what is shown of a run before a position
abbrev pub ReadsTo : Bool → List ℕ → ℕ → List ℕ → List ℕ → Type 0
ReadsTo full run at old new = (shown : List ℕ) × ((rest : List ℕ) → IsRead full (at == 0) (drop at run) rest → IsRead full true run (shown ++ rest)) × (new ≡ old ++ shown)

not_first : (at len : ℕ) → 0 < len → (at + len == 0) ≡ false
not_first at len some = grind (arith, nat_tests)

-- a name or a byte more
pub reads_more : (full : Bool) (run part : List ℕ) (at len : ℕ) (shown old out new : List ℕ) → ReadsTo full run at old out → part ≡ drop at run → 0 < len
    → ((rest : List ℕ) → IsRead full false (drop len part) rest → IsRead full (at == 0) part (shown ++ rest)) → new ≡ out ++ shown → ReadsTo full run (at + len) old new
reads_more full run part at len shown old out new before from some goes more = (
  before.0 ++ shown,
  λ rest is.
      let P : Bool → Type 0 = λ t. IsRead full t (drop (at + len) run) rest in
      let Q : List ℕ → Type 0 = λ x. IsRead full false x rest in
      let R : List ℕ → Type 0 = λ x. IsRead full (at == 0) x (shown ++ rest) in
      let S : List ℕ → Type 0 = λ x. IsRead full true run x in
      let here : drop len part ≡ drop (at + len) run = ap (drop len) from ∙ drop-drop len at run in
      subst S (sym (append_assoc before.0 shown rest)) (before.1 (shown ++ rest) (subst R from (goes rest (subst Q (sym here) (subst P (not_first at len some) is))))),
  more ∙ ap (λ (x : List ℕ). x ++ shown) before.2 ∙ append_assoc old before.0 shown,
)

-- at its end all of a run is shown
pub reads_all : (full : Bool) (run : List ℕ) (at : ℕ) (old new : List ℕ) → ReadsTo full run at old new → length run ≤ at → (shown : List ℕ) × IsRead full true run shown × (new ≡ old ++ shown)
reads_all full run at old new before all =
    let P : List ℕ → Type 0 = λ x. IsRead full (at == 0) x [] in
    let Q : List ℕ → Type 0 = λ x. IsRead full true run x in
    (before.0, subst Q (append-nil before.0) (before.1 [] (subst P (sym (drop_all at run all)) (no_more (at == 0)))), before.2)

-- a text that isn't shown, by what is made of it
pub readable_is : (n : ℕ) (name text : List ℕ) → (if has_control (short_or (n + 1) name text) then name else short_or (n + 1) name text) ≡ (if nat_lt n (length text) || has_control text then name else text)
readable_is n name text = elim (cases_lt n (length text)) [
  | inl long ↦
      let made : nat_lt (length text) (n + 1) ≡ false = grind (arith, nat_tests, long) in
      let is : nat_lt n (length text) ≡ true = grind (arith, nat_tests, long) in
      rw (made, is) (either (has_control name) name)
  | inr short ↦
      let made : nat_lt (length text) (n + 1) ≡ true = grind (arith, nat_tests, short) in
      let is : nat_lt n (length text) ≡ false = grind (arith, nat_tests, short) in
      rw (made, is) refl
]
