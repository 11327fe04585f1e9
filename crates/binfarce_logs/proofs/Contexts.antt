-- What comes before a text matters by its end alone.
use Rattle.std.proofs.Common.{◌≡◌, ℕ, Bool, true, false, ◌+◌, ◌-◌, ◌<◌, ◌≤◌, List, ◌++◌, length, take, drop, get_or, refl, sym, ◌∙◌, ap, arith, length-append, length-drop, length-take, reverse}
use Rattle.std.specs.Prelude.{◌&&◌, ◌||◌, codes, nat_eq, if◌then◌else◌}
use Rattle.std.specs.Cmp.Lexicographic.{pointwise}
use Rattle.std.specs.List.{ends_with, position_or_len}
use Rattle.std.proofs.Math.Seq.{drop-append-add, take-append-add}
use Rattle.std.proofs.lemmas.List.{get_or-append-add}
use Rattle.std.proofs.lemmas.Bool.Decides.{nat_tests}
use Rattle.binfarce_logs.specs.Annotated.{File, has_own_name, name_before}
use Rattle.binfarce_logs.specs.Module.{ends_with_mark, ends_with_name, ends_with_plus, ends_with_word, may_begin_name, may_begin_path, may_begin_word, name_len, names_module, names_symbol}
use Rattle.binfarce_logs.specs.Maps.{name_of}
use Rattle.binfarce_logs.specs.Word.{address_len}

ends_more : (front text end : List ℕ) → length end ≤ length text → ends_with nat_eq (front ++ text) end ≡ ends_with nat_eq text end
ends_more front text end le =
    let at : length (front ++ text) - length end ≡ length front + (length text - length end) = omega (arith, le, length-append front text) in
    ap (pointwise nat_eq end) (ap (λ n. drop n (front ++ text)) at ∙ drop-append-add front text (length text - length end))

take_more : (front text : List ℕ) (n : ℕ) → n ≤ length text → take (length (front ++ text) - n) (front ++ text) ≡ front ++ take (length text - n) text
take_more front text n le =
    let at : length (front ++ text) - n ≡ length front + (length text - n) = omega (arith, le, length-append front text) in
    ap (λ k. take k (front ++ text)) at ∙ take-append-add front text (length text - n)

some : (front text : List ℕ) → 0 < length text → nat_eq (length (front ++ text)) 0 ≡ nat_eq (length text) 0
some front text lt = let long = length-append front text in grind (arith, nat_tests, long)

word_more : (front text : List ℕ) → 1 ≤ length text → may_begin_word (front ++ text) ≡ may_begin_word text
word_more front text le = rw (
  some front text (omega (arith, le)),
  ends_more front text (codes " ") (omega (arith, le)),
  ends_more front text (codes "\t") (omega (arith, le)),
  ends_more front text (codes "\n") (omega (arith, le)),
) refl

path_more : (front text : List ℕ) → 1 ≤ length text → may_begin_path (front ++ text) ≡ may_begin_path text
path_more front text le = rw (
  some front text (omega (arith, le)),
  ends_more front text (codes " ") (omega (arith, le)),
  ends_more front text (codes "\t") (omega (arith, le)),
  ends_more front text (codes "\n") (omega (arith, le)),
  ends_more front text (codes "/") (omega (arith, le)),
  ends_more front text (codes "[") (omega (arith, le)),
) refl

may_begin_more : (front text : List ℕ) → 2 ≤ length text → may_begin_name (front ++ text) ≡ may_begin_name text
may_begin_more front text le =
    let left = take (length text - 1) text in
    let long : 1 ≤ length left = omega (arith, le, length-take (length text - 1) text) in
    let P : Bool → Bool → Bool → Bool = λ a b c. a || (b && c) in
    ap (λ a. P a (ends_with nat_eq (front ++ text) (codes "(")) (may_begin_path (take (length (front ++ text) - 1) (front ++ text)))) (path_more front text (omega (arith, le)))
    ∙ ap (λ b. P (may_begin_path text) b (may_begin_path (take (length (front ++ text) - 1) (front ++ text)))) (ends_more front text (codes "(") (omega (arith, le)))
    ∙ ap (λ c. P (may_begin_path text) (ends_with nat_eq text (codes "(")) c) (ap may_begin_path (take_more front text 1 (omega (arith, le))) ∙ path_more front left long)

name_more : (name front text : List ℕ) → length name + 2 ≤ length text → ends_with_name name (front ++ text) ≡ ends_with_name name text
name_more name front text le =
    let left = take (length text - length name) text in
    let long : 2 ≤ length left = omega (arith, le, length-take (length text - length name) text) in
    ap (λ (b : Bool). b && may_begin_name (take (length (front ++ text) - length name) (front ++ text))) (ends_more front text name (omega (arith, le)))
    ∙ ap (λ (b : Bool). ends_with nat_eq text name && b) (ap may_begin_name (take_more front text (length name) (omega (arith, le))) ∙ may_begin_more front left long)

mark_more : (name mark front text : List ℕ) → length mark + (length name + 2) ≤ length text → ends_with_mark name mark (front ++ text) ≡ ends_with_mark name mark text
mark_more name mark front text le =
    let left = take (length text - length mark) text in
    let long : length name + 2 ≤ length left = omega (arith, le, length-take (length text - length mark) text) in
    ap (λ (b : Bool). b && ends_with_name name (take (length (front ++ text) - length mark) (front ++ text))) (ends_more front text mark (omega (arith, le)))
    ∙ ap (λ (b : Bool). ends_with nat_eq text mark && b) (ap (ends_with_name name) (take_more front text (length mark) (omega (arith, le))) ∙ name_more name front left long)

pub module_more : (name front text : List ℕ) → length name + 5 ≤ length text → names_module name (front ++ text) ≡ names_module name text
module_more name front text le =
    let P : Bool → Bool → Bool → Bool = λ a b c. a || (b || c) in
    let one = mark_more name (codes "+") front text (omega (arith, le)) in
    let two = mark_more name (codes "(+") front text (omega (arith, le)) in
    let three = mark_more name (codes " + ") front text (omega (arith, le)) in
    ap (λ a. P a (ends_with_mark name (codes "(+") (front ++ text)) (ends_with_mark name (codes " + ") (front ++ text))) one
    ∙ ap (λ b. P (ends_with_mark name (codes "+") text) b (ends_with_mark name (codes " + ") (front ++ text))) two
    ∙ ap (λ c. P (ends_with_mark name (codes "+") text) (ends_with_mark name (codes "(+") text) c) three

word_end_more : (name front text : List ℕ) → length name + 1 ≤ length text → ends_with_word name (front ++ text) ≡ ends_with_word name text
word_end_more name front text le =
    let left = take (length text - length name) text in
    let long : 1 ≤ length left = omega (arith, le, length-take (length text - length name) text) in
    ap (λ (b : Bool). b && may_begin_word (take (length (front ++ text) - length name) (front ++ text))) (ends_more front text name (omega (arith, le)))
    ∙ ap (λ (b : Bool). ends_with nat_eq text name && b) (ap may_begin_word (take_more front text (length name) (omega (arith, le))) ∙ word_more front left long)

symbol_more : (name front text : List ℕ) → length name + 2 ≤ length text → names_symbol name (front ++ text) ≡ names_symbol name text
symbol_more name front text le =
    let left = take (length text - 1) text in
    let long : length name + 1 ≤ length left = omega (arith, le, length-take (length text - 1) text) in
    ap (λ (b : Bool). b && ends_with_word name (take (length (front ++ text) - 1) (front ++ text))) (ends_more front text (codes "+") (omega (arith, le)))
    ∙ ap (λ (b : Bool). ends_with nat_eq text (codes "+") && b) (ap (ends_with_word name) (take_more front text 1 (omega (arith, le))) ∙ word_end_more name front left long)

name_short : (path : List ℕ) → length (name_of path) ≤ length path
name_short path = omega (arith, length-drop (length path - position_or_len (nat_eq 47) (reverse path)) path)

name_len_more : (path front text : List ℕ) → length path + 5 ≤ length text → name_len path (front ++ text) ≡ name_len path text
name_len_more path front text le =
    let name = name_of path in
    let short = name_short path in
    let P : Bool → Bool → ℕ = λ a b. if a then length path else if b then length name else 0 in
    ap (λ (a : Bool). P a (names_module name (front ++ text))) (module_more path front text le) ∙ ap (P (names_module path text)) (module_more name front text (omega (arith, le, short)))

pub name_before_more : (file : File) (front before : List ℕ) → length file.1.path.now + 5 ≤ length before → name_before file (front ++ before) ≡ name_before file before
name_before_more file front before le =
    let path = file.1.path.now in
    let name = name_of path in
    let short = name_short path in
    let P : Bool → ℕ → ℕ = λ is len. if has_own_name file && is then 0 else len in
    ap (λ (is : Bool). P is (name_len path (front ++ before))) (symbol_more name front before (omega (arith, le, short)))
    ∙ ap (P (names_symbol name before)) (name_len_more path front before le)

-- the name is that of a function, and the text before an offset ends with it as a word
pub of_function : (own file : File) (before path name : List ℕ) → own ≡ file → path ≡ own.1.path.now → name ≡ name_of path → has_own_name own ≡ true → names_symbol name before ≡ true → 0 ≡ name_before file before
of_function own file before path name same is named function symbol =
    let P : Bool → Bool → ℕ = λ a b. if a && b then 0 else name_len own.1.path.now before in
    let word : names_symbol (name_of own.1.path.now) before ≡ true = ap (λ (p : List ℕ). names_symbol (name_of p) before) (sym is) ∙ ap (λ (n : List ℕ). names_symbol n before) (sym named) ∙ symbol in
    sym (ap (λ (f : File). name_before f before) (sym same) ∙ ap (λ (a : Bool). P a (names_symbol (name_of own.1.path.now) before)) function ∙ ap (P true) word)

-- no function has the name
pub of_no_function : (own file : File) (before path : List ℕ) (len : ℕ) → own ≡ file → path ≡ own.1.path.now → has_own_name own ≡ false → len ≡ name_len path before → len ≡ name_before file before
of_no_function own file before path len same is function value =
    let P : Bool → ℕ = λ a. if a && names_symbol (name_of own.1.path.now) before then 0 else name_len own.1.path.now before in
    value ∙ ap (λ (p : List ℕ). name_len p before) is ∙ sym (ap P function) ∙ ap (λ (f : File). name_before f before) same

-- the text before the offset doesn't end with the name as a word
pub of_no_word : (own file : File) (before path name : List ℕ) (len : ℕ) → own ≡ file → path ≡ own.1.path.now → name ≡ name_of path → names_symbol name before ≡ false → len ≡ name_len path before → len ≡ name_before file before
of_no_word own file before path name len same is named symbol value =
    let P : Bool → ℕ = λ b. if has_own_name own && b then 0 else name_len own.1.path.now before in
    let word : names_symbol (name_of own.1.path.now) before ≡ false = ap (λ (p : List ℕ). names_symbol (name_of p) before) (sym is) ∙ ap (λ (n : List ℕ). names_symbol n before) (sym named) ∙ symbol in
    value ∙ ap (λ (p : List ℕ). name_len p before) is ∙ sym (ap P word ∙ never (has_own_name own) (name_len own.1.path.now before)) ∙ ap (λ (f : File). name_before f before) same
  where
    never : (a : Bool) (n : ℕ) → (if a && false then 0 else n) ≡ n
    never true n = refl
    never false n = refl

pub plus_more : (front text : List ℕ) → 2 ≤ length text → ends_with_plus (front ++ text) ≡ ends_with_plus text
plus_more front text le = rw (ends_more front text (codes "+") (omega (arith, le)), ends_more front text (codes "+ ") le) refl

pub address_more : (bare : Bool) (front before text : List ℕ) → 2 ≤ length before → address_len bare (front ++ before) text ≡ address_len bare before text
address_more bare front before text le =
    let at : length (front ++ before) - 1 ≡ length front + (length before - 1) = omega (arith, le, length-append front before) in
    let last : get_or (front ++ before) (length (front ++ before) - 1) 0 ≡ get_or before (length before - 1) 0 =
    ap (λ n. get_or (front ++ before) n 0) at ∙ get_or-append-add front before (length before - 1) 0 in
    rw (last, plus_more front before le) refl
