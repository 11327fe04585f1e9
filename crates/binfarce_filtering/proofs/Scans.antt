-- Texts in which no name begins.
use Rattle.std.proofs.Common.{◌≡◌, ℕ, ◌-◌, ◌+◌, ◌<◌, ◌≤◌, Bool, true, false, not, ◌&&◌, ◌||◌, ◌==◌, List, [], ◌∷◌, ◌++◌, length, take, get_or, zero, suc, refl, sym, ◌∙◌, ap, subst, arith, append_assoc, length-append}
use Rattle.std.proofs.lemmas.Bool.{and_from, and_parts, true≢false}
use Rattle.std.proofs.lemmas.Bool.Decides.{nat_tests}
use Rattle.std.proofs.lemmas.List.{take_more}
use Rattle.std.proofs.lemmas.List.Folds.{list_all-append}
use Rattle.std.specs.List.{list_all}
use Rattle.binfarce_filtering.specs.Filter.{IsFiltered, IsRead, IsShown, IsShownIf, begins_name, begins_symbol, byte_then, is_run, is_run_byte, is_too_long, no_more, other_then}
use Rattle.binfarce_filtering.specs.Continued.{Continues}
use Rattle.binfarce_filtering.specs.machine.Scan.{IsOutside, ends_after, ends_inside, goes_inside, is_mark, is_plain}
use Rattle.binfarce_filtering.proofs.Runs.{filtered_same, run_and_byte}

-- the text was plain before its last byte, which is no `Z` or `R` behind a `_`
pub plain_more : (after : Bool) (text : List ℕ) (b : ℕ) → is_plain after text ≡ true → (ends_after after text && is_mark b) ≡ false → is_plain after (text ++ b ∷ []) ≡ true
plain_more after [] b is goes = and_from (not (after && is_mark b)) true (ap not goes) refl
plain_more after (a ∷ text) b is goes =
    let parts = and_parts (not (after && is_mark a)) (is_plain (95 == a) text) is in
    and_from (not (after && is_mark a)) (is_plain (95 == a) (text ++ b ∷ [])) parts.0 (plain_more (95 == a) text b parts.1 goes)

-- what a plain text begins with is plain
pub plain_front : (after : Bool) (n : ℕ) (text : List ℕ) → is_plain after text ≡ true → is_plain after (take n text) ≡ true
plain_front after zero text is = refl
plain_front after (suc n) [] is = refl
plain_front after (suc n) (a ∷ text) is =
    let parts = and_parts (not (after && is_mark a)) (is_plain (95 == a) text) is in
    and_from (not (after && is_mark a)) (is_plain (95 == a) (take n text)) parts.0 (plain_front (95 == a) n text parts.1)

-- the last byte decides whether it is a `_`
pub after_more : (after : Bool) (text : List ℕ) (b : ℕ) → ends_after after (text ++ b ∷ []) ≡ (95 == b)
after_more after [] b = refl
after_more after (a ∷ text) b = after_more (95 == a) text b

-- and with what came before it, whether the text ends in a run
pub inside_more : (inside : Bool) (text : List ℕ) (b : ℕ) → ends_inside inside (text ++ b ∷ []) ≡ goes_inside (ends_inside inside text) b
inside_more inside [] b = refl
inside_more inside (a ∷ text) b = inside_more (goes_inside inside a) text b

last_is : (text : List ℕ) (at : ℕ) → 0 < at → at ≤ length text → take at text ≡ take (at - 1) text ++ get_or text (at - 1) 0 ∷ []
last_is text at some within = subst (λ (n : ℕ). take n text ≡ take (at - 1) text ++ get_or text (at - 1) 0 ∷ []) (omega (arith, some)) (take_more text (at - 1) 0 (omega (arith, some, within)))

-- so at a position of a text, by the byte before it
pub after_here : (text : List ℕ) (at : ℕ) → 0 < at → at ≤ length text → ends_after false (take at text) ≡ (95 == get_or text (at - 1) 0)
after_here text at some within = ap (ends_after false) (last_is text at some within) ∙ after_more false (take (at - 1) text) (get_or text (at - 1) 0)

inside_here : (text : List ℕ) (at : ℕ) → 0 < at → at ≤ length text → ends_inside false (take at text) ≡ goes_inside (ends_inside false (take (at - 1) text)) (get_or text (at - 1) 0)
inside_here text at some within = ap (ends_inside false) (last_is text at some within) ∙ inside_more false (take (at - 1) text) (get_or text (at - 1) 0)

same_test : (b : ℕ) → (b == 95) ≡ false → (95 == b) ≡ false
same_test b is = grind (arith, nat_tests)

pub other_test : (b : ℕ) → ¬ (b ≡ 95) → (95 == b) ≡ false
other_test b is = grind (arith, nat_tests)

-- bytes after other bytes than `_` are plain
pub plain_on : (text : List ℕ) (at n : ℕ) → 0 < at → at + n ≤ length text → is_plain false (take at text) ≡ true → ((k : ℕ) → k < n → ¬ (get_or text (at - 1 + k) 0 ≡ 95)) → is_plain false (take (at + n) text) ≡ true
plain_on text at zero some within plain others = let P : ℕ → Type 0 = λ m. is_plain false (take m text) ≡ true in subst P (omega arith) plain
plain_on text at (suc n) some within plain others =
    let P : ℕ → Type 0 = λ m. is_plain false (take m text) ≡ true in
    let Q : List ℕ → Type 0 = λ x. is_plain false x ≡ true in
    let fits : at + n < length text = omega (arith, within) in
    let last : at + n - 1 ≡ at - 1 + n = omega (arith, some) in
    let before = plain_on text at n some (omega (arith, within)) plain (λ k under. others k (omega (arith, under))) in
    let other : ends_after false (take (at + n) text) ≡ false =
    after_here text (at + n) (omega (arith, some)) (omega (arith, fits)) ∙ ap (λ (k : ℕ). 95 == get_or text k 0) last ∙ other_test (get_or text (at - 1 + n) 0) (others n (omega arith)) in
    subst P (omega arith)
    (subst Q (sym (take_more text (at + n) 0 fits)) (plain_more false (take (at + n) text) (get_or text (at + n) 0) before (ap (λ (t : Bool). t && is_mark (get_or text (at + n) 0)) other)))

none_goes : (inside : Bool) (b : ℕ) → is_run_byte b ≡ false → goes_inside inside b ≡ false
none_goes inside b is = ap (λ (t : Bool). t && (inside || 95 == b)) is

-- no run goes on past a byte that no run has
pub outside_after : (text : List ℕ) (at : ℕ) → 0 < at → at ≤ length text → is_run_byte (get_or text (at - 1) 0) ≡ false → IsOutside (take at text)
outside_after text at some within is = inside_here text at some within ∙ none_goes (ends_inside false (take (at - 1) text)) (get_or text (at - 1) 0) is

other_goes : (b : ℕ) → ¬ (b ≡ 95) → goes_inside false b ≡ false
other_goes b is = grind (arith, nat_tests)

-- and none begins with another byte than `_`
pub outside_on : (text : List ℕ) (at : ℕ) → 0 < at → at ≤ length text → ¬ (get_or text (at - 1) 0 ≡ 95) → IsOutside (take (at - 1) text) → IsOutside (take at text)
outside_on text at some within other before =
    inside_here text at some within ∙ ap (λ (t : Bool). goes_inside t (get_or text (at - 1) 0)) before ∙ other_goes (get_or text (at - 1) 0) other

-- no name begins with a byte where no `Z` or `R` comes behind the next `_`
no_symbol : (b : ℕ) (run : List ℕ) → is_plain (95 == b) run ≡ true → begins_symbol (b ∷ run) ≡ false
no_symbol b [] plain = grind (arith, nat_tests)
no_symbol b (c ∷ run) plain = grind (arith, nat_tests)

no_name : (first : Bool) (b : ℕ) (run : List ℕ) → is_plain (95 == b) run ≡ true → begins_name first (b ∷ run) ≡ false
no_name first b run plain = rw (no_symbol b run plain) (behind first b run plain)
  where
    behind : (first : Bool) (b : ℕ) (run : List ℕ) → is_plain (95 == b) run ≡ true → (first && begins_symbol run) ≡ false
    behind false b run plain = refl
    behind true b [] plain = refl
    behind true b (c ∷ run) plain = no_symbol c run (and_parts (not ((95 == b) && is_mark c)) (is_plain (95 == c) run) plain).1

-- a plain run stays as it is
plain_read : (full first after : Bool) (run : List ℕ) → is_plain after run ≡ true → IsRead full first run run
plain_read full first after [] plain = no_more first
plain_read full first after (b ∷ run) plain =
    let rest = (and_parts (not (after && is_mark b)) (is_plain (95 == b) run) plain).1 in
    byte_then first b run run (no_name first b run rest) (plain_read full false (95 == b) run rest)

plain_shown : (full : Bool) (run : List ℕ) → is_plain false run ≡ true → IsShown full run run
plain_shown full run plain = either (is_too_long run) full run plain
  where
    either : (t full : Bool) (run : List ℕ) → is_plain false run ≡ true → IsShownIf t full run run
    either true full run plain = refl
    either false full run plain = plain_read full true false run plain

-- run bytes after a run that has begun
pub run_grows : (run bytes : List ℕ) → is_run run ≡ true → 0 < length run → list_all is_run_byte bytes ≡ true → is_run (run ++ bytes) ≡ true
run_grows [] bytes is some more = absurd (omega (arith, some))
run_grows (b ∷ run) bytes is some more =
    let parts = and_parts (b == 95) (list_all is_run_byte run) is in
    and_from (b == 95) (list_all is_run_byte (run ++ bytes)) parts.0 (list_all-append is_run_byte run bytes ∙ and_from (list_all is_run_byte run) (list_all is_run_byte bytes) parts.1 more)

-- a plain run so far, or none
abbrev Starts : Bool → List ℕ → Type 0
Starts true run = (is_run run ≡ true) × (0 < length run) × (is_plain false run ≡ true)
Starts false run = run ≡ []

first_in_run : (b : ℕ) → goes_inside false b ≡ true → is_run (b ∷ []) ≡ true
first_in_run b goes = grind (arith, nat_tests)

more_in_run : (b : ℕ) → goes_inside true b ≡ true → list_all is_run_byte (b ∷ []) ≡ true
more_in_run b goes = and_from (is_run_byte b) true (and_parts (is_run_byte b) true goes).0 refl

starts_more : (inside : Bool) (run : List ℕ) (b : ℕ) → Starts inside run → goes_inside inside b ≡ true → (ends_after false run && is_mark b) ≡ false → Starts true (run ++ b ∷ [])
starts_more true run b starts goes no_mark = (run_grows run (b ∷ []) starts.0 starts.1 (more_in_run b goes), omega (arith, length-append run (b ∷ [])), plain_more false run b starts.2 no_mark)
starts_more false run b starts goes no_mark =
    let P : List ℕ → Type 0 = λ r. Starts true (r ++ b ∷ []) in
    subst P (sym starts) (first_in_run b goes, omega arith, refl)

-- what is left is filtered alike after any run
abbrev Again : Bool → List ℕ → List ℕ → List ℕ → Type 0
Again full text more filtered = (inside : Bool) (run : List ℕ) → Starts inside run → is_plain (ends_after false run) text ≡ true → ends_inside inside text ≡ false
    → IsFiltered full (run ++ (text ++ more)) (run ++ (text ++ filtered))

outside_byte : (inside : Bool) (b : ℕ) → goes_inside inside b ≡ false → (b == 95) ≡ false
outside_byte true b goes = grind (arith, nat_tests)
outside_byte false b goes = grind (arith, nat_tests)

ends_here : (b : ℕ) → goes_inside true b ≡ false → is_run_byte b ≡ false
ends_here b goes = grind (arith, nat_tests)

one_more : (full inside : Bool) (run : List ℕ) (b : ℕ) (text more filtered : List ℕ) (t : Bool) → goes_inside inside b ≡ t → Starts inside run → (ends_after false run && is_mark b) ≡ false
    → is_plain (95 == b) text ≡ true → ends_inside (goes_inside inside b) text ≡ false → Again full text more filtered → IsFiltered full (run ++ (b ∷ (text ++ more))) (run ++ (b ∷ (text ++ filtered)))
one_more full inside run b text more filtered true t starts no_mark plain ends again =
    let longer : List ℕ = run ++ b ∷ [] in
    let P : Bool → Type 0 = λ x. is_plain x text ≡ true in
    let Q : Bool → Type 0 = λ x. ends_inside x text ≡ false in
    filtered_same full _ _ _ _ (append_assoc run (b ∷ []) (text ++ more)) (append_assoc run (b ∷ []) (text ++ filtered))
    (again true longer (starts_more inside run b starts t no_mark) (subst P (sym (after_more false run b)) plain) (subst Q t ends))
one_more full true run b text more filtered false t starts no_mark plain ends again =
    let P : Bool → Type 0 = λ x. is_plain x text ≡ true in
    let Q : Bool → Type 0 = λ x. ends_inside x text ≡ false in
    run_and_byte full run run b (text ++ more) (text ++ filtered) starts.0 (plain_shown full run starts.2) (ends_here b t)
    (again false [] refl (subst P (same_test b (outside_byte true b t)) plain) (subst Q t ends))
one_more full false run b text more filtered false t starts no_mark plain ends again =
    let P : Bool → Type 0 = λ x. is_plain x text ≡ true in
    let Q : Bool → Type 0 = λ x. ends_inside x text ≡ false in
    let R : List ℕ → Type 0 = λ r. IsFiltered full (r ++ (b ∷ (text ++ more))) (r ++ (b ∷ (text ++ filtered))) in
    subst R (sym starts) (other_then b (text ++ more) (text ++ filtered) (outside_byte false b t) (again false [] refl (subst P (same_test b (outside_byte false b t)) plain) (subst Q t ends)))

stays : (full inside : Bool) (run text more filtered : List ℕ) → Starts inside run → is_plain (ends_after false run) text ≡ true → ends_inside inside text ≡ false
    → IsFiltered full more filtered → IsFiltered full (run ++ (text ++ more)) (run ++ (text ++ filtered))
stays full true run [] more filtered starts plain ends is = absurd (true≢false ends)
stays full false run [] more filtered starts plain ends is =
    let P : List ℕ → Type 0 = λ r. IsFiltered full (r ++ more) (r ++ filtered) in subst P (sym starts) is
stays full inside run (b ∷ text) more filtered starts plain ends is =
    let parts = and_parts (not (ends_after false run && is_mark b)) (is_plain (95 == b) text) plain in
    one_more full inside run b text more filtered (goes_inside inside b) refl starts (unmarked (ends_after false run && is_mark b) parts.0) parts.1 ends
    (λ next longer s p e. stays full next longer text more filtered s p e is)
  where
    unmarked : (t : Bool) → not t ≡ true → t ≡ false
    unmarked true is = absurd (true≢false (sym is))
    unmarked false is = refl

-- a plain text that ends in no run stays as it is, whatever comes after it
pub plain_stays : (text : List ℕ) → is_plain false text ≡ true → IsOutside text → (full : Bool) → Continues full text text
plain_stays text plain outside full more filtered is = stays full false [] text more filtered refl plain outside is
