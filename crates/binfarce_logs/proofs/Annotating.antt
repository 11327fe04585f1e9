-- A text in which addresses are annotated, one step after the other.
use Rattle.std.proofs.Common.{◌≡◌, inl, inr, false, true, Bool, ℕ, zero, suc, ◌+◌, ◌-◌, ◌<◌, ◌≤◌, List, [], ◌∷◌, ◌++◌, length, map, take, drop, get_or, min, Option, Some, None, refl, sym, ◌∙◌, ap, subst, append_assoc, append-nil, arith, length-drop}
use Rattle.std.specs.Prelude.{codes, Result, Ok, Err}
use Rattle.std.specs.Fmt.{digits}
use Rattle.std.proofs.Math.Seq.{take-add}
use Rattle.std.proofs.lemmas.Bool.{cases_lt}
use Rattle.std.proofs.lemmas.Grind.{flat_map-append}
use Rattle.std.proofs.lemmas.List.{drop-append-le, drop-drop, length-take-le, take-append-drop, take-append-le}
use Rattle.binfarce.specs.Symbol.{Entry}
use Rattle.binfarce_rows.specs.Address.{address_of}
use Rattle.binfarce_logs.specs.Annotated.{ArePiecesAfter, File, IsCounted, IsPieceFor, IsPieceOf, IsPrefixOf, Piece, answers_of, found_by, other, text_of}
use Rattle.binfarce_logs.specs.Annotated.ArePiecesAfter.{nothing, other_then, address_then}
use Rattle.binfarce_addresses.specs.Counts.{AreCountsOf, AddsUp}
use Rattle.binfarce_logs.specs.Word.{address_len}
use Rattle.binfarce_logs.specs.declared.annotate.Annotating.{Annotating}
use Rattle.binfarce_addresses.specs.declared.counts.Counts.{Counts}
use Rattle.binfarce_addresses.specs.declared.counts.Reply.{Reply}
use Rattle.binfarce_addresses.specs.declared.counts.Reply.TheVariants.{Held}
use Rattle.binfarce_logs.specs.machine.Annotating.{Annotates, Grows, HasMade, HasShown, Holds, IsEnough, IsFoundBy, IsSame, Leaves, LeavesAt, ShowsFirst, ShowsTo, reach}
use Rattle.binfarce_addresses.specs.Places.{IsNamedAt}
use Rattle.binfarce_logs.specs.machine.Words.{IsDecided, may_begin}
use Rattle.binfarce_logs.proofs.Among.{five, found_more}
use Rattle.binfarce_logs.proofs.Contexts.{address_more}
use Rattle.binfarce_addresses.proofs.Counting.{adds_both, adds_none}
use Rattle.binfarce_logs.proofs.Outputs.{has_pieces_after}
use Rattle.binfarce_addresses.proofs.Streams.{left_of}
use Rattle.binfarce_logs.proofs.Words.{no_address}

-- equal texts have equal pieces
pub same_pieces : (files : List File) (bare : Bool) (before behind text other : List ℕ) (pieces shown : List Piece) → before ≡ behind → text ≡ other → pieces ≡ shown → ArePiecesAfter files bare before text pieces → ArePiecesAfter files bare behind other shown
same_pieces files bare before behind text other pieces shown from same is are =
    subst (λ x. ArePiecesAfter files bare x other shown) from (subst (λ x. ArePiecesAfter files bare before x shown) same (subst (λ x. ArePiecesAfter files bare before text x) is are))

-- the bytes of pieces, one after the other, and the answers
pub text_both : (first second : List Piece) → text_of (first ++ second) ≡ text_of first ++ text_of second
text_both first second = flat_map-append (λ (piece : Piece). piece.0) first second

pub answers_both : (first second : List Piece) → answers_of (first ++ second) ≡ answers_of first ++ answers_of second
answers_both first second = flat_map-append (λ (piece : Piece). piece.1) first second

-- bytes by themselves
text_others : (bytes : List ℕ) → text_of (map other bytes) ≡ bytes
text_others [] = refl
text_others (b ∷ bytes) = ap (λ (x : List ℕ). b ∷ x) (text_others bytes)

answers_others : (bytes : List ℕ) → answers_of (map other bytes) ≡ []
answers_others [] = refl
answers_others (b ∷ bytes) = answers_others bytes

-- what grows twice
grows_both : (first second : List Piece) (old mid new : List ℕ) (counts between after : Counts) → Grows first old mid counts between → Grows second mid new between after → Grows (first ++ second) old new counts after
grows_both first second old mid new counts between after a b = (
  b.0 ∙ ap (λ (x : List ℕ). x ++ text_of second) a.0 ∙ append_assoc old (text_of first) (text_of second) ∙ ap (λ (x : List ℕ). old ++ x) (sym (text_both first second)),
  subst (AddsUp counts after) (sym (answers_both first second)) (adds_both counts between after (answers_of first) (answers_of second) a.1 b.1),
)

grows_none : (old : List ℕ) (counts : Counts) → Grows [] old old counts counts
grows_none old counts = (sym (append-nil old), adds_none counts)

-- what a word is for, and which address a text begins with, don't depend on what comes before enough of the text before
by_more : (files : List File) (front before : List ℕ) (number : Option ℕ) → IsEnough files front (length before) → found_by files (front ++ before) number ≡ found_by files before number
by_more files front before number (inl none) = ap (λ (x : List ℕ). found_by files (x ++ before) number) none
by_more files front before number (inr le) = found_more files front before number le

len_more : (files : List File) (bare : Bool) (front before text : List ℕ) → IsEnough files front (length before) → address_len bare (front ++ before) text ≡ address_len bare before text
len_more files bare front before text (inl none) = ap (λ (x : List ℕ). address_len bare (x ++ before) text) none
len_more files bare front before text (inr le) = address_more bare front before text (omega (arith, le, five files))

others_stay : (files : List File) (bare : Bool) (before text : List ℕ) (n : ℕ) → n ≤ length text → ((k : ℕ) → k < n → may_begin bare (get_or text k 0) ≡ false) → (more : List ℕ) (pieces : List Piece)
    → ArePiecesAfter files bare (before ++ take n text) (drop n text ++ more) pieces → ArePiecesAfter files bare before (text ++ more) (map other (take n text) ++ pieces)
others_stay files bare before text zero le none more pieces is = same_pieces files bare _ _ _ _ _ _ (append-nil before) refl refl is
others_stay files bare before [] (suc n) le none more pieces is = absurd (omega (arith, le))
others_stay files bare before (b ∷ text) (suc n) le none more pieces is =
    other_then before b (text ++ more) (map other (take n text) ++ pieces) (no_address bare before b (text ++ more) (none 0 (omega arith)))
    (others_stay files bare (before ++ b ∷ []) text n (omega (arith, le)) (λ k lt. none (suc k) (omega (arith, lt))) more pieces
    (same_pieces files bare _ _ _ _ _ _ (sym (append_assoc before (b ∷ []) (take n text))) refl refl is))

-- the first byte, which begins no address, and bytes after it with which none begins stay
pub shows_others : (files : List File) (bare : Bool) (before text : List ℕ) (n : ℕ) (old new : List ℕ) (counts : Counts) → 0 < n → n ≤ length text → address_len bare before text ≡ 0
    → ((k : ℕ) → 0 < k → k < n → may_begin bare (get_or text k 0) ≡ false) → new ≡ old ++ take n text → ShowsFirst files bare before text n old new counts counts
shows_others files bare before text zero old new counts some le len none is = absurd (omega (arith, some))
shows_others files bare before [] (suc n) old new counts some le len none is = absurd (omega (arith, le))
shows_others files bare before (b ∷ text) (suc n) old new counts some le len none is = (
  map other (take (suc n) (b ∷ text)),
  λ front enough more pieces same rest.
      let all : List ℕ = front ++ before in
      other_then all b (text ++ more) (map other (take n text) ++ pieces) (same ∙ len_more files bare front before (b ∷ text) enough ∙ len)
      (others_stay files bare (all ++ b ∷ []) text n (omega (arith, le)) (λ k lt. none (suc k) (omega arith) (omega (arith, lt))) more pieces
      (same_pieces files bare _ _ _ _ _ _ (sym (append_assoc all (b ∷ []) (take n text))) refl refl rest)),
  (
    is ∙ ap (λ (x : List ℕ). old ++ x) (sym (text_others (take (suc n) (b ∷ text)))),
    subst (AddsUp counts counts) (sym (answers_others (take (suc n) (b ∷ text)))) (adds_none counts),
  ),
)

-- the address that a text begins with, and what is added after it
pub shows_address : (files : List File) (bare : Bool) (before text : List ℕ) (piece : Piece) (len : ℕ) (old new : List ℕ) (counts after : Counts) → len ≡ address_len bare before text → 0 < len → len ≤ length text
    → IsPieceOf files before (take len text) piece → new ≡ old ++ piece.0 → AddsUp counts after piece.1 → ShowsFirst files bare before text len old new counts after
shows_address files bare before text piece len old new counts after is some le of grown adds = (
  piece ∷ [],
  λ front enough more pieces same rest.
      let all : List ℕ = front ++ before in
      let P : ℕ → Type 0 = λ n. 0 < n → IsPieceOf files all (take n (text ++ more)) piece → ArePiecesAfter files bare (all ++ take n (text ++ more)) (drop n (text ++ more)) pieces → ArePiecesAfter files bare all (text ++ more) (piece ∷ pieces) in
      let this : address_len bare all (text ++ more) ≡ len = same ∙ len_more files bare front before text enough ∙ sym is in
      let word = take-append-le len text more le in
      let step : P len = subst P this (address_then all (text ++ more) piece pieces) in
      let here : IsPieceOf files all (take len text) piece =
      subst (λ (x : Result (Option (Entry × ℕ)) Reply). IsPieceFor x (take len text) piece) (sym (by_more files front before (address_of (take len text)) enough)) of in
      step some (subst (λ (x : List ℕ). IsPieceOf files all x piece) (sym word) here)
      (same_pieces files bare _ _ _ _ _ _ (ap (λ (x : List ℕ). all ++ x) (sym word)) (sym (drop-append-le len text more le)) refl rest),
  (
    grown ∙ ap (λ (x : List ℕ). old ++ x) (sym (append-nil piece.0)),
    subst (AddsUp counts after) (sym (append-nil piece.1)) adds,
  ),
)

-- this is replied without a search
pub piece_replied : (files : List File) (before word : List ℕ) (old new : List ℕ) (counts after : Counts) (reply : Reply) → IsFoundBy files (found_by files before (address_of word)) (Err reply) → new ≡ old ++ word → AddsUp counts after (reply ∷ [])
    → (piece : Piece) × IsPieceOf files before word piece × (new ≡ old ++ piece.0) × AddsUp counts after piece.1
piece_replied files before word old new counts after reply none is adds =
    let replies : List Reply = reply ∷ [] in
    let P : Result (Option (Entry × ℕ)) Reply → Type 0 = λ f. IsPieceFor f word (word, replies) in
    ((word, replies), subst P (sym none) ([], refl, sym (append-nil word), refl), is, adds)

-- what is asked for isn't found
pub piece_unfound : (files : List File) (before word : List ℕ) (old new : List ℕ) (counts after : Counts) → IsFoundBy files (found_by files before (address_of word)) (Ok None) → new ≡ old ++ word → AddsUp counts after (Held false ∷ [])
    → (piece : Piece) × IsPieceOf files before word piece × (new ≡ old ++ piece.0) × AddsUp counts after piece.1
piece_unfound files before word old new counts after (found, by, none) is adds =
    let replies : List Reply = Held false ∷ [] in
    let P : Result (Option (Entry × ℕ)) Reply → Type 0 = λ f. IsPieceFor f word (word, replies) in
    ((word, replies), subst P (sym (by ∙ ap Ok none)) ([], refl, sym (append-nil word), refl), is, adds)

regroup : (o w l n p d e : List ℕ) → (((o ++ w) ++ l) ++ n) ++ (p ++ (d ++ e)) ≡ o ++ (w ++ (l ++ ((n ++ (p ++ d)) ++ e)))
regroup o w l n p d e = simp append_assoc

-- and what is
pub piece_found : (files : List File) (before word : List ℕ) (at place offset : ℕ) (own d : File) (name old mid angle named new : List ℕ) (counts after : Counts) → IsFoundBy files (found_by files before (address_of word)) (Ok (Some (at, (place, offset)))) → own ≡ get_or files at d
    → IsNamedAt own.0 place name → mid ≡ old ++ word → angle ≡ mid ++ codes " <" → named ≡ angle ++ name → new ≡ named ++ (codes "+0x" ++ (digits 16 false offset ++ codes ">")) → AddsUp counts after (Held true ∷ [])
    → (piece : Piece) × IsPieceOf files before word piece × (new ≡ old ++ piece.0) × AddsUp counts after piece.1
piece_found files before word at place offset own d name old mid angle named new counts after (found, by, (entry, is, (within, there))) value names first second third fourth adds =
    let shown = subst (λ (f : File). IsNamedAt f.0 place name) value names entry (there d) in
    let number = digits 16 false offset in
    let text : List ℕ = name ++ (codes "+0x" ++ number) in
    let added : List ℕ = codes " <" ++ (text ++ codes ">") in
    let replies : List Reply = Held true ∷ [] in
    let P : Result (Option (Entry × ℕ)) Reply → Type 0 = λ f. IsPieceFor f word (word ++ added, replies) in (
      (word ++ added, replies),
      subst P (sym (by ∙ ap Ok is)) (added, (text, (shown.0, shown.1, ap (λ (n : List ℕ). n ++ (codes "+0x" ++ number)) shown.2), refl), refl, refl),
      fourth ∙ ap (λ (x : List ℕ). x ++ (codes "+0x" ++ (number ++ codes ">"))) (third ∙ ap (λ (x : List ℕ). x ++ name) (second ∙ ap (λ (x : List ℕ). x ++ codes " <") first))
          ∙ regroup old word (codes " <") name (codes "+0x") number (codes ">"),
      adds,
    )

-- nothing is shown yet
pub shows_nothing : (files : List File) (bare is_last : Bool) (text : List ℕ) (from : ℕ) (old : List ℕ) (counts : Counts) → ShowsTo files bare is_last text from from old old counts counts
shows_nothing files bare is_last text from old counts =
    ([], (λ front made enough leaves. subst (λ (x : List Piece). LeavesAt files bare is_last front text from x) (sym (append-nil made)) leaves), grows_none old counts)

enough_more : (files : List File) (front : List ℕ) (from at : ℕ) → from ≤ at → IsEnough files front from → IsEnough files front at
enough_more files front from at le (inl none) = inl none
enough_more files front from at le (inr long) = inr (omega (arith, le, long))

-- a text, cut at a position
whole : (front text more : List ℕ) (at : ℕ) → (front ++ take at text) ++ (drop at text ++ more) ≡ front ++ (text ++ more)
whole front text more at =
    append_assoc front (take at text) (drop at text ++ more)
    ∙ ap (λ (x : List ℕ). front ++ x) (sym (append_assoc (take at text) (drop at text) more) ∙ ap (λ (x : List ℕ). x ++ more) (take-append-drop at text))

further : (front text : List ℕ) (at n : ℕ) → (front ++ take at text) ++ take n (drop at text) ≡ front ++ take (at + n) text
further front text at n = append_assoc front (take at text) (take n (drop at text)) ∙ ap (λ (x : List ℕ). front ++ x) (sym (take-add at n text))

-- one step more
pub shows_more : (files : List File) (bare is_last : Bool) (text before rest : List ℕ) (from at n : ℕ) (old mid new : List ℕ) (counts between after : Counts) → ShowsTo files bare is_last text from at old mid counts between → from ≤ at → at ≤ length text
    → before ≡ take at text → rest ≡ take (length text - at) (drop at text) → IsDecided bare is_last rest → ShowsFirst files bare before rest n mid new between after → ShowsTo files bare is_last text from (at + n) old new counts after
shows_more files bare is_last text before rest from at n old mid new counts between after shows le within gone left decided first = (
  shows.0 ++ first.0,
  λ front made enough leaves.
      let here = shows.1 front made enough leaves in
      let all : List ℕ = front ++ take at text in
      let long : length before ≡ at = ap (length {A = ℕ}) gone ∙ length-take-le at text within in
      let behind : rest ≡ drop at text = left ∙ left_of text at in
      let step = first.1 front (enough_more files front from (length before) (omega (arith, le, long)) enough) in
      λ more pieces follows is.
      let next : ArePiecesAfter files bare (front ++ before) (rest ++ more) (first.0 ++ pieces) =
      step more pieces (decided (front ++ before) more follows)
      (same_pieces files bare _ _ _ _ _ _ (sym (ap (λ (x : List ℕ). (front ++ x) ++ take n rest) gone ∙ ap (λ (x : List ℕ). all ++ take n x) behind ∙ further front text at n))
      (ap (λ (x : List ℕ). x ++ more) (sym (ap (drop n) behind ∙ drop-drop n at text))) refl is) in
      same_pieces files bare _ _ _ _ _ _ refl (whole front text more at ∙ sym (whole front text more (at + n)))
      (append_assoc made shows.0 (first.0 ++ pieces) ∙ ap (λ (x : List Piece). made ++ x) (sym (append_assoc shows.0 first.0 pieces)) ∙ sym (append_assoc made (shows.0 ++ first.0) pieces))
      (here more (first.0 ++ pieces) follows (same_pieces files bare _ _ _ _ _ _ (ap (λ (x : List ℕ). front ++ x) gone) (ap (λ (x : List ℕ). x ++ more) behind) refl next)),
  grows_both shows.0 first.0 old mid new counts between after shows.2 first.2,
)

nil : (x : List ℕ) → length x ≡ 0 → x ≡ []
nil [] none = refl
nil (b ∷ x) none = absurd (omega (arith, none))

-- where nothing is left, these are all pieces
all_gone : (files : List File) (bare : Bool) (front text : List ℕ) (at : ℕ) (made : List Piece) → at ≡ length text → LeavesAt files bare true front text at made → ArePiecesAfter files bare [] (front ++ text) made
all_gone files bare front text at made end leaves =
    let left : drop at text ++ [] ≡ [] = append-nil (drop at text) ∙ nil (drop at text) (omega (arith, length-drop at text, end)) in
    same_pieces files bare _ _ _ _ _ _ refl (whole front text [] at ∙ ap (λ (x : List ℕ). front ++ x) (append-nil text)) (append-nil made)
    (leaves [] [] (λ last. refl) (same_pieces files bare _ _ _ _ _ _ refl (sym left) refl (nothing (front ++ take at text))))

-- all is shown
pub shows_all : (files : List File) (bare : Bool) (text : List ℕ) (at : ℕ) (old new : List ℕ) (begun counts : Counts) → AreCountsOf [] begun → ShowsTo files bare true text 0 at old new begun counts → at ≡ length text
    → (annotated : List ℕ) × IsCounted files bare counts text annotated × (new ≡ old ++ annotated)
shows_all files bare text at old new begun counts none shows end =
    (text_of shows.0, (shows.0, all_gone files bare [] text at shows.0 end (shows.1 [] [] (inl refl) (λ more pieces follows is. is)), refl, shows.2.1 [] none), shows.2.0)

-- a part comes after what is kept
grown : (files : List File) (bare is_last : Bool) (front kept part : List ℕ) (made : List Piece) (from : ℕ) → from ≤ length kept → LeavesAt files bare false front kept from made → LeavesAt files bare is_last front (kept ++ part) from made
grown files bare is_last front kept part made from le leaves = λ more pieces follows is.
    let gone = take-append-le from kept part le in
    let left = drop-append-le from kept part le in
    same_pieces files bare _ _ _ _ _ _ refl
    (whole front kept (part ++ more) from ∙ ap (λ (x : List ℕ). front ++ x) (sym (append_assoc kept part more)) ∙ sym (whole front (kept ++ part) more from)) refl
    (leaves (part ++ more) pieces (λ last. absurd cc)
    (same_pieces files bare _ _ _ _ _ _ (ap (λ (x : List ℕ). front ++ x) gone) (ap (λ (x : List ℕ). x ++ more) left ∙ append_assoc (drop from kept) part more) refl is))

-- the beginning of what was shown is dropped
dropped : (files : List File) (bare is_last : Bool) (front text : List ℕ) (made : List Piece) (cut from at : ℕ) → at ≡ cut + from → LeavesAt files bare is_last front text at made → LeavesAt files bare is_last (front ++ take cut text) (drop cut text) from made
dropped files bare is_last front text made cut from at same leaves =
    let gone : front ++ take at text ≡ (front ++ take cut text) ++ take from (drop cut text) = ap (λ n. front ++ take n text) same ∙ sym (further front text cut from) in
    let left : drop at text ≡ drop from (drop cut text) = ap (λ n. drop n text) same ∙ sym (drop-drop from cut text) in
    subst (λ (x : List ℕ). Leaves files bare is_last x (drop from (drop cut text)) made) gone (subst (λ (x : List ℕ). Leaves files bare is_last (front ++ take at text) x made) left leaves)

-- enough is kept
kept_enough : (files : List File) (front bytes : List ℕ) (from at cut next : ℕ) → from ≤ at → next ≡ min at (reach files) → cut ≡ at - next → IsEnough files front from → IsEnough files (front ++ take cut bytes) next
kept_enough files front bytes from at cut next le least less enough = elim (cases_lt at (reach files)) [
  | inr long ↦ inr (omega (arith, long, least))
  | inl short ↦ by enough (omega (arith, short, least, less)) short
]
  where
    by : IsEnough files front from → cut ≡ 0 → at < reach files → IsEnough files (front ++ take cut bytes) next
    by (inl none) cut_none short = inl (ap (λ (n : ℕ). front ++ take n bytes) cut_none ∙ append-nil front ∙ none)
    by (inr more) cut_none short = absurd (omega (arith, more, le, short))

-- all of the kept text and the next part is shown up to what is kept then
shows_part : (files : List File) (bare is_last : Bool) (text kept part bytes next : List ℕ) (made : List Piece) (from at cut to : ℕ) (shown : List Piece) → bytes ≡ kept ++ part → at ≤ length bytes → from ≤ at → to ≡ min at (reach files) → cut ≡ at - to
    → next ≡ drop cut bytes → ((front : List ℕ) (made : List Piece) → IsEnough files front from → LeavesAt files bare is_last front bytes from made → LeavesAt files bare is_last front bytes at (made ++ shown))
    → HasShown files bare false text kept from made → HasShown files bare is_last (text ++ part) next to (made ++ shown)
shows_part files bare is_last text kept part bytes next made from at cut to shown same within le least less rest shows has =
    let now : LeavesAt files bare is_last has.front bytes at (made ++ shown) =
    shows has.front made has.enough
    (subst (λ (x : List ℕ). LeavesAt files bare is_last has.front x from made) (sym same) (grown files bare is_last has.front kept part made from has.within has.leaves)) in
    let sum : at ≡ cut + to = omega (arith, least, less) in
    record {
      front = has.front ++ take cut bytes;
      are = ap (λ (x : List ℕ). x ++ part) has.are ∙ append_assoc has.front kept part ∙ ap (λ (x : List ℕ). has.front ++ x) (sym same ∙ sym (take-append-drop cut bytes))
          ∙ sym (append_assoc has.front (take cut bytes) (drop cut bytes)) ∙ ap (λ (x : List ℕ). (has.front ++ take cut bytes) ++ x) (sym rest);
      within = omega (arith, ap (length {A = ℕ}) rest, length-drop cut bytes, within, sum);
      enough = kept_enough files has.front bytes from at cut to le least less has.enough;
      leaves = subst (λ (x : List ℕ). LeavesAt files bare is_last (has.front ++ take cut bytes) x to (made ++ shown)) (sym rest) (dropped files bare is_last has.front bytes (made ++ shown) cut to at sum now);
    }

-- so with the bytes of its pieces, and the counts
pub makes_part : (files : List File) (bare is_last : Bool) (text kept part bytes next made : List ℕ) (from at cut to : ℕ) (shown : List Piece) (counts after : Counts) → bytes ≡ kept ++ part → at ≤ length bytes → from ≤ at → to ≡ min at (reach files) → cut ≡ at - to
    → next ≡ drop cut bytes → ((front : List ℕ) (made : List Piece) → IsEnough files front from → LeavesAt files bare is_last front bytes from made → LeavesAt files bare is_last front bytes at (made ++ shown)) → AddsUp counts after (answers_of shown)
    → HasMade files bare false text kept from counts made → HasMade files bare is_last (text ++ part) next to after (made ++ text_of shown)
makes_part files bare is_last text kept part bytes next made from at cut to shown counts after same within le least less rest shows adds has = (
  has.0 ++ shown,
  shows_part files bare is_last text kept part bytes next has.0 from at cut to shown same within le least less rest shows has.1,
  ap (λ (x : List ℕ). x ++ text_of shown) has.2 ∙ sym (text_both has.0 shown),
  subst (λ (x : List Reply). AreCountsOf x after) (sym (answers_both has.0 shown)) (adds (answers_of has.0) has.3),
)

-- nothing is shown of no text
pub none_shown : (files : List File) (bare : Bool) (kept : List ℕ) (counts : Counts) → kept ≡ [] → AreCountsOf [] counts → HasMade files bare false [] kept 0 counts []
none_shown files bare kept counts empty none = (
  [],
  record {
    front = [];
    are = sym empty;
    within = omega arith;
    enough = inl refl;
    leaves = λ more pieces follows is. is;
  },
  refl,
  none,
)

-- nothing is left behind the text's end
pub kept_none : (bytes next : List ℕ) (at cut to : ℕ) → next ≡ drop cut bytes → at ≡ cut + to → at ≡ length bytes → to ≡ length next
kept_none bytes next at cut to rest sum end = omega (arith, ap (length {A = ℕ}) rest, length-drop cut bytes, sum, end)

module _ (first old new : Annotating) (part more : List ℕ) where
  here : IsSame first.files old.files → (is_last : Bool) → (text made : List ℕ) → Annotates old new is_last part more → HasMade first.files.names.items first.files.is_bare false text old.kept.items old.from old.files.counts made
      → HasMade first.files.names.items first.files.is_bare is_last (text ++ part) new.kept.items new.from new.files.counts (made ++ more)
  here alike is_last text made pushed is =
      let P : List File → Bool → Type 0 = λ files bare. HasMade files bare false text old.kept.items old.from old.files.counts made → HasMade files bare is_last (text ++ part) new.kept.items new.from new.files.counts (made ++ more) in
      subst (λ (b : Bool). P first.files.names.items b) alike.1 (subst (λ (fs : List File). P fs old.files.is_bare) alike.0 (pushed.1 text made)) is

  -- the next part is annotated
  pub goes_on : Annotates old new false part more → (text made : List ℕ) → Holds first old text made → Holds first new (text ++ part) (made ++ more)
  goes_on pushed text made holds = ((pushed.0.0 ∙ holds.0.0, pushed.0.1 ∙ holds.0.1), here holds.0 false text made pushed holds.1)

  -- all that came is annotated
  pub ends : part ≡ [] → Annotates old new true part more → (text made : List ℕ) → Holds first old text made → IsCounted first.files.names.items first.files.is_bare new.files.counts text (made ++ more)
  ends none pushed text made holds =
      let files = first.files.names.items in
      let bare = first.files.is_bare in
      let has = here holds.0 true text made pushed holds.1 in (
        has.0,
        same_pieces files bare _ _ _ _ _ _ refl (sym has.1.are ∙ ap (λ (x : List ℕ). text ++ x) none ∙ append-nil text) refl
            (all_gone files bare has.1.front new.kept.items new.from has.0 (pushed.2 refl) has.1.leaves),
        has.2,
        has.3,
      )

-- the output may break off after what was made
pub breaks_off : (first now : Annotating) (text part made others : List ℕ) → Holds first now text (made ++ others) → IsPrefixOf first.files.names.items first.files.is_bare (text ++ part) made
breaks_off first now text part made others holds =
    let files = first.files.names.items in
    let bare = first.files.is_bare in
    let made_so = holds.1 in
    let has = made_so.1 in
    let kept = now.kept.items in
    let rest = has_pieces_after files bare (has.front ++ take now.from kept) (drop now.from kept ++ part) in (
      others ++ text_of rest.0,
      (
        made_so.0 ++ rest.0,
        same_pieces files bare _ _ _ _ _ _ refl
            (whole has.front kept part now.from ∙ sym (append_assoc has.front kept part) ∙ ap (λ (x : List ℕ). x ++ part) (sym has.are))
            refl (has.leaves part rest.0 (λ last. absurd cc) rest.1),
        sym (append_assoc made others (text_of rest.0)) ∙ ap (λ (x : List ℕ). x ++ text_of rest.0) made_so.2 ∙ sym (text_both made_so.0 rest.0),
      ),
    )

pub breaks_off_done : (first : Annotating) (counts : Counts) (text made others : List ℕ) → IsCounted first.files.names.items first.files.is_bare counts text (made ++ others) → IsPrefixOf first.files.names.items first.files.is_bare text made
breaks_off_done first counts text made others is = (others, (is.0, is.1, is.2))
