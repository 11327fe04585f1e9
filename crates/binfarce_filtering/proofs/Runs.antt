-- Runs, and texts up to one.
use Rattle.std.proofs.Common.{◌≡◌, ℕ, ◌+◌, ◌-◌, ◌<◌, Bool, true, false, not, ◌==◌, List, [], ◌∷◌, ◌++◌, length, take, drop, get_or, refl, sym, ◌∙◌, ap, subst, arith, append_assoc, append-nil, length-drop, length-take}
use Rattle.std.proofs.Math.Seq.{take-add}
use Rattle.std.proofs.lemmas.Bool.{and_from, and_parts}
use Rattle.std.proofs.lemmas.Bool.Decides.{nat_tests}
use Rattle.std.proofs.lemmas.List.{get_or-drop, get_or-take, take-append-drop, take_all, take_more}
use Rattle.std.proofs.lemmas.List.Elements.{All-drop, All-take, All-weaker}
use Rattle.std.proofs.lemmas.List.Sums.{AllPass-from_list_all, list_all-from_AllPass}
use Rattle.std.proofs.lemmas.Str.{IsUtf8-from_ascii}
use Rattle.std.proofs.lemmas.Str.Ascii.{IsAscii-from_all}
use Rattle.std.specs.List.{list_all}
use Rattle.std.specs.Str.{IsUtf8}
use Rattle.binfarce_filtering.specs.Filter.{IsFiltered, IsShown, is_run, is_run_byte, nothing, other_then, run_then}
use Rattle.binfarce_filtering.specs.Continued.{Continues}

byte_is_ascii : (b : ℕ) → is_run_byte b ≡ true → b < 128
byte_is_ascii b is = grind (arith, nat_tests)

-- run bytes are ASCII, and so text
pub run_is_utf8 : (run : List ℕ) → list_all is_run_byte run ≡ true → IsUtf8 run
run_is_utf8 run is =
    IsUtf8-from_ascii run (IsAscii-from_all run (All-weaker (λ b. is_run_byte b ≡ true) (λ b. b < 128) byte_is_ascii run (AllPass-from_list_all is_run_byte run is)))

-- what run bytes begin with is run bytes
pub beginning_is_run : (run : List ℕ) (n : ℕ) → list_all is_run_byte run ≡ true → list_all is_run_byte (take n run) ≡ true
beginning_is_run run n is = list_all-from_AllPass is_run_byte (take n run) (All-take (λ b. is_run_byte b ≡ true) n run (AllPass-from_list_all is_run_byte run is))

-- and so is what they end in
pub end_is_run : (run : List ℕ) (n : ℕ) → list_all is_run_byte run ≡ true → list_all is_run_byte (drop n run) ≡ true
end_is_run run n is = list_all-from_AllPass is_run_byte (drop n run) (All-drop (λ b. is_run_byte b ≡ true) n run (AllPass-from_list_all is_run_byte run is))

-- run bytes that begin with `_` are a run
pub run_from : (run : List ℕ) → list_all is_run_byte run ≡ true → (0 < length run → get_or run 0 0 ≡ 95) → is_run run ≡ true
run_from [] is begins = refl
run_from (b ∷ run) is begins = let first : b ≡ 95 = begins (omega arith) in let P : ℕ → Type 0 = λ x. (x == 95) ≡ true in and_from (b == 95) (list_all is_run_byte run) (subst P (sym first) refl) (and_parts (is_run_byte b) (list_all is_run_byte run) is).1

-- a run is run bytes
pub run_bytes : (run : List ℕ) → is_run run ≡ true → list_all is_run_byte run ≡ true
run_bytes [] is = refl
run_bytes (b ∷ run) is =
    let parts = and_parts (b == 95) (list_all is_run_byte run) is in
    and_from (is_run_byte b) (list_all is_run_byte run) (underscore b parts.0) parts.1
  where
    underscore : (b : ℕ) → (b == 95) ≡ true → is_run_byte b ≡ true
    underscore b is = grind (arith, nat_tests)

-- a byte that no run has is no `_`
pub no_underscore : (b : ℕ) → is_run_byte b ≡ false → (b == 95) ≡ false
no_underscore b is = grind (arith, nat_tests)

pub one_byte : (b : ℕ) → is_run_byte b ≡ true → list_all is_run_byte (b ∷ []) ≡ true
one_byte b is = and_from (is_run_byte b) true is refl

regroup : (x run : List ℕ) (b : ℕ) (more : List ℕ) → x ++ (run ++ b ∷ more) ≡ (x ++ (run ++ b ∷ [])) ++ more
regroup x run b more = ap (λ (y : List ℕ). x ++ y) (sym (append_assoc run (b ∷ []) more)) ∙ sym (append_assoc x (run ++ b ∷ []) more)

-- equal texts are filtered alike
pub filtered_same : (full : Bool) (text other filtered also : List ℕ) → text ≡ other → filtered ≡ also → IsFiltered full text filtered → IsFiltered full other also
filtered_same full text other filtered also same both is =
    let P : List ℕ → Type 0 = λ x. IsFiltered full x also in
    subst P same (subst (λ (x : List ℕ). IsFiltered full text x) both is)

-- a run, and a byte that no run has after it
pub run_and_byte : (full : Bool) (run readable : List ℕ) (b : ℕ) (more filtered : List ℕ) → is_run run ≡ true → IsShown full run readable → is_run_byte b ≡ false
    → IsFiltered full more filtered → IsFiltered full (run ++ b ∷ more) (readable ++ b ∷ filtered)
run_and_byte full run readable b more filtered is_run is_shown is_other is =
    run_then run readable (b ∷ more) (b ∷ filtered) is_run is_shown (ap not is_other) (other_then b more filtered (no_underscore b is_other) is)

-- a run alone
pub run_alone : (full : Bool) (run readable : List ℕ) → is_run run ≡ true → IsShown full run readable → IsFiltered full run readable
run_alone full run readable is_run is_shown = filtered_same full _ _ _ _ (append-nil run) (append-nil readable) (run_then run readable [] [] is_run is_shown refl nothing)

-- one more run, and the byte after it
pub continues_run : (full : Bool) (text shown run readable : List ℕ) (b : ℕ) → Continues full text shown → is_run run ≡ true → IsShown full run readable → is_run_byte b ≡ false
    → Continues full (text ++ (run ++ b ∷ [])) (shown ++ (readable ++ b ∷ []))
continues_run full text shown run readable b before is_run is_shown is_other more filtered is =
    filtered_same full _ _ _ _ (regroup text run b more) (regroup shown readable b filtered)
    (before (run ++ b ∷ more) (readable ++ b ∷ filtered) (run_and_byte full run readable b more filtered is_run is_shown is_other is))

-- one text after another
pub continues_both : (full : Bool) (text shown after written : List ℕ) → Continues full text shown → Continues full after written → Continues full (text ++ after) (shown ++ written)
continues_both full text shown after written first second more filtered is =
    filtered_same full _ _ _ _ (sym (append_assoc text after more)) (sym (append_assoc shown written filtered)) (first (after ++ more) (written ++ filtered) (second more filtered is))

-- what was written after old replaces the text before a position
abbrev pub Reaches : Bool → List ℕ → ℕ → List ℕ → List ℕ → Type 0
Reaches full text at old new = (shown : List ℕ) × Continues full (take at text) shown × (new ≡ old ++ shown)

-- a part of a text from a position on
pub from_here : (text : List ℕ) (at : ℕ) → take (length text - at) (drop at text) ≡ drop at text
from_here text at = take_all (length text - at) (drop at text) (omega (arith, length-drop at text))

-- a position after one more run and the byte after it
pub one_run : (full : Bool) (text rest : List ℕ) (at len b : ℕ) (shown old out more new : List ℕ) → rest ≡ drop at text → Reaches full text at old out
    → is_run (take len rest) ≡ true → IsShown full (take len rest) shown → len < length rest → b ≡ get_or rest len 0 → is_run_byte b ≡ false
    → more ≡ out ++ shown → new ≡ more ++ b ∷ [] → Reaches full text (at + (len + 1)) old new
one_run full text rest at len b shown old out more new from before is_run is_shown within here is_other first second =
    let run = take len rest in
    let added = shown ++ b ∷ [] in
    let some : take (len + 1) rest ≡ run ++ b ∷ [] = take_more rest len 0 within ∙ ap (λ (x : ℕ). run ++ x ∷ []) (sym here) in
    let whole : take at text ++ (run ++ b ∷ []) ≡ take (at + (len + 1)) text =
    ap (λ (x : List ℕ). take at text ++ x) (sym some ∙ ap (take (len + 1)) from) ∙ sym (take-add at (len + 1) text) in (
      before.0 ++ added,
      let P : List ℕ → Type 0 = λ x. Continues full x (before.0 ++ added) in subst P whole (continues_run full (take at text) before.0 run shown b before.1 is_run is_shown is_other),
      second ∙ ap (λ (x : List ℕ). x ++ b ∷ []) (first ∙ ap (λ (x : List ℕ). x ++ shown) before.2) ∙ append_assoc (old ++ before.0) shown (b ∷ []) ∙ append_assoc old before.0 added,
    )

-- a position after what stays as it is
pub plain_reaches : (full : Bool) (text rest : List ℕ) (at plain : ℕ) (old out new : List ℕ) → rest ≡ drop at text → Reaches full text at old out
    → Continues full (take plain rest) (take plain rest) → new ≡ out ++ take plain rest → Reaches full text (at + plain) old new
plain_reaches full text rest at plain old out new from before stays more =
    let some = take plain rest in
    let whole : take at text ++ some ≡ take (at + plain) text = ap (λ (x : List ℕ). take at text ++ take plain x) from ∙ sym (take-add at plain text) in (
      before.0 ++ some,
      let P : List ℕ → Type 0 = λ x. Continues full x (before.0 ++ some) in subst P whole (continues_both full (take at text) before.0 some some before.1 stays),
      more ∙ ap (λ (x : List ℕ). x ++ some) before.2 ∙ append_assoc old before.0 some,
    )

-- the run bytes at a position where `_` is are a run
pub run_here : (rest run : List ℕ) (plain len : ℕ) → (plain < length rest → get_or rest plain 0 ≡ 95) → run ≡ drop plain rest → list_all is_run_byte (take len run) ≡ true → is_run (take len run) ≡ true
run_here rest run plain len begins from bytes = run_from (take len run) bytes first
  where
    first : 0 < length (take len run) → get_or (take len run) 0 0 ≡ 95
    first some =
        let n : 0 < len = omega (arith, some, length-take len run) in
        let more : plain < length rest = omega (arith, some, length-take len run, length-drop plain rest, ap length from) in
        let same : plain + 0 ≡ plain = omega arith in
        get_or-take len run 0 0 n ∙ ap (λ (x : List ℕ). get_or x 0 0) from ∙ get_or-drop plain rest 0 0 ∙ ap (λ (k : ℕ). get_or rest k 0) same ∙ begins more

-- the run that a text ends in
pub ends_in_run : (text rest : List ℕ) (at len : ℕ) → rest ≡ drop at text → is_run (take len rest) ≡ true → len ≡ length rest → is_run (drop at text) ≡ true
ends_in_run text rest at len from is all = let P : List ℕ → Type 0 = λ x. is_run x ≡ true in subst P (take_all len rest (omega (arith, all)) ∙ from) is

-- with the last run all is shown
pub all_runs : (full : Bool) (text shown run readable : List ℕ) (at : ℕ) → Continues full (take at text) shown → run ≡ drop at text → is_run run ≡ true → IsShown full run readable → IsFiltered full text (shown ++ readable)
all_runs full text shown run readable at before from is_run is_shown =
    filtered_same full _ _ _ _ (ap (λ (x : List ℕ). take at text ++ x) from ∙ take-append-drop at text) refl (before run readable (run_alone full run readable is_run is_shown))
