-- The search among files.
use Rattle.std.proofs.Common.{◌≡◌, ◌≢◌, ℕ, ◌+◌, ◌<◌, ◌≤◌, max, Bool, true, false, cond, List, [], ◌∷◌, ◌++◌, length, take, drop, get_or, Option, Some, None, MatchOption, refl, sym, ◌∙◌, ap, subst, add-one, append-nil, drop-cons, arith}
use Rattle.std.specs.Prelude.{is_some, nat_eq, Result, Ok, Err, if◌then◌else◌}
use Rattle.std.specs.Option.{option_or}
use Rattle.std.proofs.lemmas.Bool.{eq-eqb}
use Rattle.std.proofs.lemmas.Bool.Decides.{nat_tests}
use Rattle.std.proofs.lemmas.List.{get_or_default, take-append-drop, take_all, take_more}
use Rattle.std.proofs.lemmas.List.Elements.{filter-append}
use Rattle.binfarce.specs.Symbol.{Entry}
use Rattle.binfarce_rows.specs.Address.{address_of}
use Rattle.binfarce_logs.specs.Annotated.{File, found_among, found_behind, found_by, found_in_one, longest_name, name_before, named_by}
use Rattle.binfarce_addresses.specs.Lookup.{at_offset, found_at, found_in}
use Rattle.binfarce_logs.specs.Module.{ends_with_plus}
use Rattle.binfarce_addresses.specs.declared.counts.Reply.{Reply}
use Rattle.binfarce_addresses.specs.declared.counts.Reply.TheVariants.{Unasked, Unclear}
use Rattle.binfarce_logs.specs.machine.Annotating.{IsFoundBy, reach}
use Rattle.binfarce_addresses.specs.Places.{IsAtPlace, IsFoundIn}
use Rattle.binfarce_logs.proofs.Contexts.{name_before_more, plus_more}

-- the files from a place on are the one there and those behind it
left_at : (files : List File) (k : ℕ) (d : File) → k < length files → drop k files ≡ get_or files k d ∷ drop (k + 1) files
left_at files k d lt = drop-cons files k d lt ∙ ap (λ (n : ℕ). get_or files k d ∷ drop n files) (sym (add-one k))

-- what is found among the files from a place on
pub among_at : (files : List File) (address k : ℕ) (d : File) → k < length files
    → found_among (drop k files) address ≡ option_or (found_at (get_or files k d).0 (get_or files k d).1 address) (found_among (drop (k + 1) files) address)
among_at files address k d lt = ap (λ (fs : List File). found_among fs address) (left_at files k d lt)

-- five bytes at least
pub five : (files : List File) → 5 ≤ reach files
five [] = omega arith
five (file ∷ files) = omega (arith, five files)

-- one name more
pub reach_more : (files : List File) (file : File) → reach (files ++ file ∷ []) ≡ max (reach files) (length file.1.path.now + 5)
reach_more [] file = omega arith
reach_more (first ∷ files) file = omega (arith, reach_more files file)

-- that of one file more
pub reach_step : (files : List File) (k old own new : ℕ) (item d : File) → k < length files → old ≡ reach (take k files) → item ≡ get_or files k d → own ≡ length item.1.path.now + 5 → new ≡ max old own → new ≡ reach (take (k + 1) files)
reach_step files k old own new item d lt so_far value is next =
    next ∙ ap (λ (n : ℕ). max n own) so_far ∙ ap (max (reach (take k files))) (is ∙ ap (λ (f : File). length f.1.path.now + 5) value) ∙ sym (reach_more (take k files) (get_or files k d)) ∙ ap (λ (fs : List File). reach fs) (sym (take_more files k d lt))

-- one name more
longest_more : (files : List File) (file : File) (before : List ℕ) → longest_name (files ++ file ∷ []) before ≡ max (longest_name files before) (name_before file before)
longest_more [] file before = omega arith
longest_more (first ∷ files) file before = omega (arith, longest_more files file before)

-- that of one file more
pub longest_step : (files : List File) (before : List ℕ) (k old own new : ℕ) (item d : File) → k < length files → old ≡ longest_name (take k files) before → item ≡ get_or files k d → own ≡ name_before item before → new ≡ max old own
    → new ≡ longest_name (take (k + 1) files) before
longest_step files before k old own new item d lt so_far value is next =
    let here : own ≡ name_before (get_or files k d) before = is ∙ ap (λ (f : File). name_before f before) value in
    next ∙ ap (λ (n : ℕ). max n own) so_far ∙ ap (max (longest_name (take k files) before)) here ∙ sym (longest_more (take k files) (get_or files k d) before)
    ∙ ap (λ (fs : List File). longest_name fs before) (sym (take_more files k d lt))

-- the file at this place is the only one of the files up to another place whose name before an offset has this length; or none of them is
abbrev pub IsOnly : (len : ℕ) → List File → (before : List ℕ) → (up_to : ℕ) → (here : Option ℕ) → Type 0
IsOnly len files before up_to here =
    MatchOption here (named_by len (take up_to files) before ≡ []) (λ h. (h < length files) × ((d : File) → named_by len (take up_to files) before ≡ get_or files h d ∷ []))

-- the files whose name has a length, among one more
named_step : (len : ℕ) (files : List File) (before : List ℕ) (k : ℕ) (d : File) → k < length files → named_by len (take (k + 1) files) before ≡ named_by len (take k files) before ++ named_by len (get_or files k d ∷ []) before
named_step len files before k d lt =
    ap (λ (fs : List File). named_by len fs before) (take_more files k d lt) ∙ filter-append (λ (f : File). nat_eq (name_before f before) len) (take k files) (get_or files k d ∷ [])

-- whether the name of the file there has the length
named_if : (len : ℕ) (file : File) (before : List ℕ) (is : Bool) → nat_eq (name_before file before) len ≡ is → named_by len (file ∷ []) before ≡ cond is (file ∷ []) []
named_if len file before is same = ap (λ (b : Bool). cond b (file ∷ []) []) same

is_len : (a b : ℕ) → a ≡ b → nat_eq a b ≡ true
is_len a b same = eq-eqb a b same

is_not_len : (a b : ℕ) → a ≢ b → nat_eq a b ≡ false
is_not_len a b other = grind (arith, nat_tests, other)

has_len : (len own : ℕ) (item file : File) (before : List ℕ) (is : Bool) → item ≡ file → own ≡ name_before item before → nat_eq own len ≡ is → nat_eq (name_before file before) len ≡ is
has_len len own item file before is value own_is same = ap (λ (n : ℕ). nat_eq n len) (sym (own_is ∙ ap (λ (f : File). name_before f before) value)) ∙ same

-- a file with another name
pub only_other : (len own : ℕ) (files : List File) (before : List ℕ) (k : ℕ) (here now : Option ℕ) (item d : File) → k < length files → item ≡ get_or files k d → own ≡ name_before item before → own ≢ len → now ≡ here → IsOnly len files before k here
    → IsOnly len files before (k + 1) now
only_other len own files before k here now item d lt value own_is other stays only =
    let F : File = get_or files k d in
    let same : named_by len (take (k + 1) files) before ≡ named_by len (take k files) before =
    named_step len files before k d lt ∙ ap (λ (x : List File). named_by len (take k files) before ++ x) (named_if len F before false (has_len len own item F before false value own_is (is_not_len own len other))) ∙ append-nil _ in
    subst (IsOnly len files before (k + 1)) (sym stays) (by here same only)
  where
    by : (here : Option ℕ) → named_by len (take (k + 1) files) before ≡ named_by len (take k files) before → IsOnly len files before k here → IsOnly len files before (k + 1) here
    by None same none = same ∙ none
    by (Some h) same (within, is) = (within, λ e. same ∙ is e)

-- the first one with the name
pub only_first : (len own : ℕ) (files : List File) (before : List ℕ) (k : ℕ) (here now : Option ℕ) (item d : File) → k < length files → item ≡ get_or files k d → own ≡ name_before item before → own ≡ len → is_some here ≡ false → now ≡ Some k → IsOnly len files before k here
    → IsOnly len files before (k + 1) now
only_first len own files before k (Some h) now item d lt value own_is named none is only = absurd cc
only_first len own files before k None now item d lt value own_is named none is only =
    let F : File = get_or files k d in
    let one : named_by len (F ∷ []) before ≡ F ∷ [] = named_if len F before true (has_len len own item F before true value own_is (is_len own len named)) in
    subst (IsOnly len files before (k + 1)) (sym is) (
      lt,
      λ e. named_step len files before k d lt ∙ ap (λ (x : List File). x ++ named_by len (F ∷ []) before) only ∙ one ∙ ap (λ (f : File). f ∷ []) (get_or_default files k d e lt),
    )

-- where some file is named, those with the longest name decide
by_longest : (files : List File) (before : List ℕ) (offset longest : ℕ) → longest ≡ longest_name files before → longest ≢ 0 → found_behind files before offset ≡ found_in_one (named_by longest files before) offset
by_longest files before offset longest is some =
    let P : ℕ → Bool → Result (Option (Entry × ℕ)) Reply = λ n b. if b then Err Unasked else found_in_one (named_by n files before) offset in
    ap (λ (n : ℕ). P n (nat_eq n 0)) (sym is) ∙ ap (P longest) (is_not_len longest 0 some)

-- another one with the name
pub only_second : (files : List File) (before : List ℕ) (offset longest own k : ℕ) (here : Option ℕ) (item d : File) → longest ≡ longest_name files before → longest ≢ 0 → k < length files → item ≡ get_or files k d → own ≡ name_before item before
    → own ≡ longest → is_some here ≡ true → IsOnly longest files before k here → found_behind files before offset ≡ Err Unclear
only_second files before offset longest own k None item d is some lt value own_is named another only = absurd cc
only_second files before offset longest own k (Some h) item d is some lt value own_is named another (within, first) =
    let F : File = get_or files k d in
    let one : named_by longest (F ∷ []) before ≡ F ∷ [] = named_if longest F before true (has_len longest own item F before true value own_is (is_len own longest named)) in
    let two : named_by longest (take (k + 1) files) before ≡ get_or files h d ∷ F ∷ [] =
    named_step longest files before k d lt ∙ ap (λ (x : List File). x ++ named_by longest (F ∷ []) before) (first d) ∙ ap (λ (x : List File). get_or files h d ∷ x) one in
    let rest : List File = named_by longest (drop (k + 1) files) before in
    let all : named_by longest files before ≡ get_or files h d ∷ F ∷ rest =
    ap (λ (fs : List File). named_by longest fs before) (sym (take-append-drop (k + 1) files)) ∙ filter-append (λ (f : File). nat_eq (name_before f before) longest) (take (k + 1) files) (drop (k + 1) files)
    ∙ ap (λ (x : List File). x ++ rest) two in
    by_longest files before offset longest is some ∙ ap (λ (x : List File). found_in_one x offset) all

-- no file is named, if none is among all
pub none_named : (files : List File) (before : List ℕ) (offset longest k : ℕ) → longest ≡ longest_name files before → longest ≢ 0 → length files ≤ k → IsOnly longest files before k None → found_behind files before offset ≡ Err Unasked
none_named files before offset longest k is some all none =
    by_longest files before offset longest is some ∙ ap (λ (x : List File). found_in_one x offset) (ap (λ (fs : List File). named_by longest fs before) (sym (take_all k files all)) ∙ none)

-- the only file that is named answers
one_named : (files : List File) (before : List ℕ) (offset longest k h : ℕ) (own e : File) → longest ≡ longest_name files before → longest ≢ 0 → length files ≤ k → IsOnly longest files before k (Some h) → own ≡ get_or files h e
    → found_behind files before offset ≡ Ok (found_in own.0 own.1.is_return (at_offset own.1 offset))
one_named files before offset longest k h own e is some all (within, only) value =
    by_longest files before offset longest is some ∙ ap (λ (x : List File). found_in_one x offset) (ap (λ (fs : List File). named_by longest fs before) (sym (take_all k files all)) ∙ only e ∙ ap (λ (f : File). f ∷ []) (sym value))

pub one_found : (files : List File) (before : List ℕ) (offset longest k h : ℕ) (own e : File) (found : ℕ × ℕ) → longest ≡ longest_name files before → longest ≢ 0 → length files ≤ k → IsOnly longest files before k (Some h) → own ≡ get_or files h e
    → IsFoundIn own.0 own.1.is_return (at_offset own.1 offset) (Some found) → IsFoundBy files (found_behind files before offset) (Ok (Some (h, found)))
one_found files before offset longest k h own e found is some all only value (entry, found_is, at) =
    let P : File → Type 0 = λ f. IsAtPlace f.0 found.0 entry in (
      found_in own.0 own.1.is_return (at_offset own.1 offset),
      one_named files before offset longest k h own e is some all only value,
      (entry, found_is, (only.0, λ x. subst P (value ∙ get_or_default files h e x only.0) at)),
    )

pub none_found : (files : List File) (before : List ℕ) (offset longest k h : ℕ) (own e : File) → longest ≡ longest_name files before → longest ≢ 0 → length files ≤ k → IsOnly longest files before k (Some h) → own ≡ get_or files h e
    → IsFoundIn own.0 own.1.is_return (at_offset own.1 offset) None → IsFoundBy files (found_behind files before offset) (Ok None)
none_found files before offset longest k h own e is some all only value none =
    (found_in own.0 own.1.is_return (at_offset own.1 offset), one_named files before offset longest k h own e is some all only value, none)

-- what is found for a word
pub by_word : (files names : List File) (before word : List ℕ) (number : Option ℕ) (here : Result (Option (ℕ × (ℕ × ℕ))) Reply) → names ≡ files → number ≡ address_of word → IsFoundBy names (found_by names before number) here → IsFoundBy files (found_by files before (address_of word)) here
by_word files names before word number here same is found =
    subst (λ (n : Option ℕ). IsFoundBy files (found_by files before n) here) is (subst (λ (fs : List File). IsFoundBy fs (found_by fs before number) here) same found)

-- what is found behind a name doesn't depend on what comes before enough of the text before
longest_front : (files : List File) (front before : List ℕ) → reach files ≤ length before → longest_name files (front ++ before) ≡ longest_name files before
longest_front [] front before le = refl
longest_front (file ∷ files) front before le =
    ap (λ (n : ℕ). max n (longest_name files (front ++ before))) (name_before_more file front before (omega (arith, le)))
    ∙ ap (max (name_before file before)) (longest_front files front before (omega (arith, le)))

named_front : (len : ℕ) (files : List File) (front before : List ℕ) → reach files ≤ length before → named_by len files (front ++ before) ≡ named_by len files before
named_front len [] front before le = refl
named_front len (file ∷ files) front before le =
    let P : ℕ → List File → List File = λ n rest. cond (nat_eq n len) (file ∷ rest) rest in
    ap (λ (n : ℕ). P n (named_by len files (front ++ before))) (name_before_more file front before (omega (arith, le)))
    ∙ ap (P (name_before file before)) (named_front len files front before (omega (arith, le)))

behind_more : (files : List File) (front before : List ℕ) (n : ℕ) → reach files ≤ length before → found_behind files (front ++ before) n ≡ found_behind files before n
behind_more files front before n le =
    let P : ℕ → List File → Result (Option (Entry × ℕ)) Reply = λ longest named. if nat_eq longest 0 then Err Unasked else found_in_one named n in
    ap (λ (k : ℕ). P k (named_by k files (front ++ before))) (longest_front files front before le)
    ∙ ap (P (longest_name files before)) (named_front (longest_name files before) files front before le)

pub found_more : (files : List File) (front before : List ℕ) (number : Option ℕ) → reach files ≤ length before → found_by files (front ++ before) number ≡ found_by files before number
found_more files front before None le = refl
found_more files front before (Some n) le =
    let P : Bool → Result (Option (Entry × ℕ)) Reply → Result (Option (Entry × ℕ)) Reply = λ plus behind. if plus then behind else Ok (found_among files n) in
    ap (λ (plus : Bool). P plus (found_behind files (front ++ before) n)) (plus_more front before (omega (arith, le, five files)))
    ∙ ap (P (ends_with_plus before)) (behind_more files front before n le)
