-- The lines of addresses, one after the other.
use Rattle.std.proofs.Common.{◌≡◌, inl, inr, ℕ, ◌+◌, Bool, false, ◌<◌, List, [], ◌∷◌, ◌++◌, length, get_or, take, Option, Some, None, Result, Ok, Err, refl, sym, ap, subst, ◌∙◌, append-nil, append_assoc}
use Rattle.std.specs.List.{AllZip, concat}
use Rattle.std.proofs.lemmas.List.{map-append, take_more}
use Rattle.binfarce_addresses.specs.Counts.{AreCountsOf, answers_at, answers_to, is_held, reply_to, AddsUp}
use Rattle.binfarce_addresses.specs.declared.counts.Counts.{Counts}
use Rattle.binfarce_addresses.specs.declared.counts.Reply.{Reply}
use Rattle.binfarce_addresses.specs.declared.counts.Reply.TheVariants.{Held}
use Rattle.binfarce_addresses.proofs.Counting.{adds_both}
use Rattle.std.proofs.lemmas.List.Folds.{concat-append}
use Rattle.std.specs.Bool.{if◌then◌else◌}
use Rattle.std.specs.Result.{IsErrAnd, OnOk, is_ok}
use Rattle.std.specs.Fmt.{digits}
use Rattle.std.specs.Prelude.{codes, IfOk}
use Rattle.binfarce.specs.Named.{IsShown}
use Rattle.binfarce.specs.Refusal.{Refusal}
use Rattle.binfarce_rows.specs.Json as json
use Rattle.binfarce_rows.specs.Columns.{address_text}
use Rattle.binfarce_tools.specs.Listing.{ListingFits}
use Rattle.binfarce.specs.SectionEntries.{SelectedSymbols}
use Rattle.binfarce.specs.Symbol.{Entry}
use Rattle.binfarce_tools.specs.declared.list.ListError.{ListError}
use Rattle.binfarce_tools.specs.declared.list.ListError.TheVariants.{Unknown, Parse, OutOfMemory, Write}
use Rattle.binfarce_tools.specs.ListWords as list
use Rattle.binfarce_tools.specs.ListWords.{Writes}
use Rattle.binfarce_tools.specs.Writing.{Outcome, EndsAs, Takes}
use Rattle.binfarce_tools.proofs.Lines.{nothing, takes}
use Rattle.binfarce_addresses.specs.Lookup.{found_at, places_in}
use Rattle.binfarce_addresses.specs.declared.lookup.Lookup.{Lookup}
use Rattle.binfarce_addresses.specs.Lines.{IsTextOf, address_line, IsLineAt, IsLineIn, AreLinesOf, AreLinesAt, outcome_of}
use Rattle.binfarce_addresses.specs.PlacesViews.{IsMadeOf}
use Rattle.binfarce_addresses.specs.Stream.{AreAnswersOf, IsAnswerOf}

pub all_zip_both : {A B : Type 0} (R : A → B → Type 0) (xs more : List A) (ys others : List B) → AllZip R xs ys → AllZip R more others → AllZip R (xs ++ more) (ys ++ others)
all_zip_both R [] more [] others all rest = rest
all_zip_both R [] more (b ∷ ys) others all rest = absurd all
all_zip_both R (a ∷ xs) more [] others all rest = absurd all
all_zip_both R (a ∷ xs) more (b ∷ ys) others all rest = (all.0, all_zip_both R xs more ys others all.1 rest)

pub concat_push : (lines : List (List ℕ)) (line : List ℕ) → concat (lines ++ line ∷ []) ≡ concat lines ++ line
concat_push lines line = concat-append lines (line ∷ []) ∙ ap (λ (xs : List ℕ). concat lines ++ xs) (append-nil line)

-- the line of one address more
pub one_line : (entries : List Entry) (lookup : Lookup) (addresses : List ℕ) (i : ℕ) (line text new : List ℕ) → i < length addresses → AreLinesOf entries lookup (take i addresses) text → IsLineAt entries lookup (get_or addresses i 0) line → new ≡ text ++ line
    → AreLinesOf entries lookup (take (i + 1) addresses) new
one_line entries lookup addresses i line text new lt are is grown =
    let P : List ℕ → Type 0 = λ xs. AreLinesOf entries lookup xs new in
    subst P (sym (take_more addresses i 0 lt))
    (are.0 ++ line ∷ [], all_zip_both (IsLineAt entries lookup) (take i addresses) (get_or addresses i 0 ∷ []) are.0 (line ∷ []) are.1 (is, tt), grown ∙ ap (λ (xs : List ℕ). xs ++ line) are.2 ∙ sym (concat_push are.0 line))

-- one address more is counted
pub one_counted : (entries : List Entry) (lookup : Lookup) (addresses : List ℕ) (i : ℕ) (held : Bool) (old new : Counts) → i < length addresses → AreCountsOf (answers_at entries lookup (take i addresses)) old → held ≡ is_held entries lookup (get_or addresses i 0) → AddsUp old new (Held held ∷ [])
    → AreCountsOf (answers_at entries lookup (take (i + 1) addresses)) new
one_counted entries lookup addresses i held old new lt are is adds =
    let P : List Reply → Type 0 = λ xs. AreCountsOf xs new in
    subst P (ap (λ (b : Bool). answers_at entries lookup (take i addresses) ++ Held b ∷ []) is ∙ sym (map-append (λ (a : ℕ). Held (is_held entries lookup a)) (take i addresses) (get_or addresses i 0 ∷ []))
    ∙ ap (answers_at entries lookup) (sym (take_more addresses i 0 lt))) (adds (answers_at entries lookup (take i addresses)) are)

-- and one line more
pub one_line_counted : (entries : List Entry) (lookup : Lookup) (addresses : List (Option ℕ)) (i : ℕ) (reply : Reply) (first old new : Counts) → i < length addresses → AddsUp first old (answers_to entries lookup (take i addresses))
    → reply ≡ reply_to entries lookup (get_or addresses i None) → AddsUp old new (reply ∷ []) → AddsUp first new (answers_to entries lookup (take (i + 1) addresses))
one_line_counted entries lookup addresses i reply first old new lt are is adds =
    let P : List Reply → Type 0 = λ xs. AddsUp first new xs in
    subst P (ap (λ (b : Reply). answers_to entries lookup (take i addresses) ++ b ∷ []) is ∙ sym (map-append (reply_to entries lookup) (take i addresses) (get_or addresses i None ∷ []))
    ∙ ap (answers_to entries lookup) (sym (take_more addresses i None lt))) (adds_both first old new (answers_to entries lookup (take i addresses)) (reply ∷ []) are adds)

-- the answers of lines follow a text
abbrev pub AreBehind : List Entry → Lookup → List (Option ℕ) → List ℕ → List ℕ → Type 0
AreBehind entries lookup addresses old new = (answers : List ℕ) × AreAnswersOf entries lookup addresses answers × (new ≡ old ++ answers)

pub one_behind : (entries : List Entry) (lookup : Lookup) (addresses : List (Option ℕ)) (i : ℕ) (address : Option ℕ) (answer old mid new : List ℕ) → i < length addresses → AreBehind entries lookup (take i addresses) old mid → address ≡ get_or addresses i None → IsAnswerOf entries lookup address answer
    → new ≡ mid ++ answer → AreBehind entries lookup (take (i + 1) addresses) old new
one_behind entries lookup addresses i address answer old mid new lt are here is grown =
    let so_far = are.1 in
    subst (λ (xs : List (Option ℕ)). AreBehind entries lookup xs old new) (sym (take_more addresses i None lt ∙ ap (λ (o : Option ℕ). take i addresses ++ o ∷ []) (sym here))) (
      are.0 ++ answer,
      (
        so_far.0 ++ answer ∷ [],
        all_zip_both (IsAnswerOf entries lookup) (take i addresses) (address ∷ []) so_far.0 (answer ∷ []) so_far.1 (is, tt),
        ap (λ (xs : List ℕ). xs ++ answer) so_far.2 ∙ sym (concat_push so_far.0 answer),
      ),
      grown ∙ ap (λ (xs : List ℕ). xs ++ answer) are.2 ∙ append_assoc old are.0 answer,
    )

-- how the writing of the lines of what a file lists ended
pub outcome : (memory : Result SelectedSymbols Refusal → Type 0) (listed : SelectedSymbols) (text : List ℕ) (old new : Option (List ℕ)) (result : Result (Unit {0}) ListError) → Writes old new text result → EndsAs ListingFits memory (Some (Ok listed)) (list.outcome_of result)
outcome memory listed text old new (Ok x) wrote = inr (inl (tt, inl refl))
outcome memory listed text old new (Err Write) wrote = inr (inl (tt, inr refl))
outcome memory listed text old new (Err Unknown) wrote = let e = wrote.0 in absurd cc
outcome memory listed text old new (Err (Parse p)) wrote = let e = wrote.0 in absurd cc
outcome memory listed text old new (Err OutOfMemory) wrote = let e = wrote.0 in absurd cc

-- so if a write failed
pub err_outcome : (memory : Result SelectedSymbols Refusal → Type 0) (listed : SelectedSymbols) (text : List ℕ) (old new : Option (List ℕ)) (e : ListError) (result : Result Counts ListError) → Writes old new text (Err e) → IsErrAnd result (λ x. x ≡ e) → EndsAs ListingFits memory (Some (Ok listed)) (outcome_of result)
err_outcome memory listed text old new e (Ok x) wrote is = absurd is
err_outcome memory listed text old new e (Err x) wrote is =
    let P : ListError → Type 0 = λ e. EndsAs ListingFits memory (Some (Ok listed)) (outcome_of (Err e)) in subst P (sym is) (outcome memory listed text old new (Err e) wrote)

pub err_takes : (lookup : Lookup) (addresses : List ℕ) (listed : SelectedSymbols) (text : List ℕ) (old new : Option (List ℕ)) (e : ListError) (result : Result Counts ListError) → AreLinesAt lookup addresses listed text → Writes old new text (Err e) → IsErrAnd result (λ x. x ≡ e)
    → Takes (AreLinesAt lookup addresses) (Some (Ok listed)) old new (outcome_of result)
err_takes lookup addresses listed text old new e (Ok x) are wrote is = absurd is
err_takes lookup addresses listed text old new e (Err x) are wrote is =
    let P : ListError → Type 0 = λ e. Takes (AreLinesAt lookup addresses) (Some (Ok listed)) old new (outcome_of (Err e)) in
    subst P (sym is) (takes (AreLinesAt lookup addresses) (λ (l : SelectedSymbols) (entries : List Entry). entries ≡ places_in l) (λ _. ⊥) (Some (Ok listed)) (places_in listed) text old new (Err e) refl
    (λ all answer same. let P : SelectedSymbols → Type 0 = λ l. AreLinesAt lookup addresses l text in all_of listed all answer P are) wrote)
  where
    all_of : (listed all : SelectedSymbols) → Path (Option (Result SelectedSymbols Refusal)) (Some (Ok listed)) (Some (Ok all)) → (P : SelectedSymbols → Type 0) → P listed → P all
    all_of listed all same P is = subst P (ok_of same) is
      where
        ok_or_this : Option (Result SelectedSymbols Refusal) → SelectedSymbols
        ok_or_this (Some (Ok x)) = x
        ok_or_this (Some (Err e)) = listed
        ok_or_this None = listed

        ok_of : Path (Option (Result SelectedSymbols Refusal)) (Some (Ok listed)) (Some (Ok all)) → listed ≡ all
        ok_of same = ap ok_or_this same

-- none is taken if an allocation failed
pub takes_none : (lookup : Lookup) (addresses : List ℕ) (listed : SelectedSymbols) (old : Option (List ℕ)) (result : Result Counts ListError) → IsErrAnd result (λ e. e ≡ OutOfMemory) → Takes (AreLinesAt lookup addresses) (Some (Ok listed)) old old (outcome_of result)
takes_none lookup addresses listed old (Ok x) is = absurd is
takes_none lookup addresses listed old (Err e) is =
    let P : ListError → Type 0 = λ e. Takes (AreLinesAt lookup addresses) (Some (Ok listed)) old old (outcome_of (Err e)) in subst P (sym is) (nothing old)

-- so if an allocation failed
pub no_memory : (memory : Result SelectedSymbols Refusal → Type 0) (listed : SelectedSymbols) (result : Result Counts ListError) → IsErrAnd result (λ e. e ≡ OutOfMemory) → EndsAs ListingFits memory (Some (Ok listed)) (outcome_of result)
no_memory memory listed (Ok x) is = absurd is
no_memory memory listed (Err e) is =
    let P : ListError → Type 0 = λ e. EndsAs ListingFits memory (Some (Ok listed)) (outcome_of (Err e)) in subst P (sym is) (inl refl)

-- the end, and what is taken of the lines, are those of the answer that the places are made of
pub ends_of : (memory : Result SelectedSymbols Refusal → Type 0) (answer : Option (Result SelectedSymbols Refusal)) (entries : List Entry) (o : Outcome) → IsMadeOf memory answer (Ok entries)
    → ((listed : SelectedSymbols) → entries ≡ places_in listed → EndsAs ListingFits (λ _. ⊥) (Some (Ok listed)) o) → EndsAs ListingFits memory answer o
ends_of memory None entries o made ends = absurd made
ends_of memory (Some (Err refusal)) entries o made ends = absurd made
ends_of memory (Some (Ok listed)) entries o made ends = ends listed made

pub takes_of : (memory : Result SelectedSymbols Refusal → Type 0) (answer : Option (Result SelectedSymbols Refusal)) (entries : List Entry) (lookup : Lookup) (addresses : List ℕ) (old new : Option (List ℕ)) (o : Outcome) → IsMadeOf memory answer (Ok entries)
    → ((listed : SelectedSymbols) → entries ≡ places_in listed → Takes (AreLinesAt lookup addresses) (Some (Ok listed)) old new o) → Takes (AreLinesAt lookup addresses) answer old new o
takes_of memory None entries lookup addresses old new o made takes = absurd made
takes_of memory (Some (Err refusal)) entries lookup addresses old new o made takes = absurd made
takes_of memory (Some (Ok listed)) entries lookup addresses old new o made takes = takes listed made

-- so are the counts
pub counts_of : (memory : Result SelectedSymbols Refusal → Type 0) (answer : Option (Result SelectedSymbols Refusal)) (entries : List Entry) (listed : SelectedSymbols) (lookup : Lookup) (addresses : List ℕ) (counts : Counts) → IsMadeOf memory answer (Ok entries) → answer ≡ Some (Ok listed)
    → AreCountsOf (answers_at entries lookup addresses) counts → AreCountsOf (answers_at (places_in listed) lookup addresses) counts
counts_of memory answer entries listed lookup addresses counts made is are =
    let same : entries ≡ places_in listed = subst (λ (a : Option (Result SelectedSymbols Refusal)). IsMadeOf memory a (Ok entries)) is made in
    subst (λ (es : List Entry). AreCountsOf (answers_at es lookup addresses) counts) same are

-- where it is answered
pub if_counts_of : (memory : Result SelectedSymbols Refusal → Type 0) (answer : Option (Result SelectedSymbols Refusal)) (entries : List Entry) (listed : SelectedSymbols) (lookup : Lookup) (addresses : List ℕ) (result : Result Counts ListError) → IsMadeOf memory answer (Ok entries) → answer ≡ Some (Ok listed)
    → IfOk result (AreCountsOf (answers_at entries lookup addresses)) → IfOk result (AreCountsOf (answers_at (places_in listed) lookup addresses))
if_counts_of memory answer entries listed lookup addresses (Ok counts) made is are = counts_of memory answer entries listed lookup addresses counts made is are
if_counts_of memory answer entries listed lookup addresses (Err e) made is are = tt

regroup : (t a b n p d e : List ℕ) → ((t ++ (a ++ b)) ++ n) ++ (p ++ (d ++ e)) ≡ t ++ (a ++ (b ++ ((n ++ (p ++ d)) ++ e)))
regroup t a b n p d e = simp append_assoc

-- the line of an address that an entry holds
pub shown_line : (entries : List Entry) (lookup : Lookup) (address offset : ℕ) (entry : Entry) (name : List ℕ) (text addressed named new : List ℕ) → found_at entries lookup address ≡ Some (entry, offset) → IsShown entry.name name
    → addressed ≡ text ++ (address_text address ++ codes " ") → named ≡ addressed ++ name → new ≡ named ++ (codes "+0x" ++ (digits 16 false offset ++ codes "\n"))
    → (line : List ℕ) × IsLineIn json.lines entries lookup address line × (new ≡ text ++ line)
shown_line entries lookup address offset entry name text addressed named new found names a b c =
    let shown = name ++ (codes "+0x" ++ digits 16 false offset) in
    let P : Option (Entry × ℕ) → Type 0 = λ o. IsTextOf o shown in (
      address_line address shown,
      (shown, subst P (sym found) (name, names, refl), refl),
      c ∙ ap (λ (xs : List ℕ). xs ++ (codes "+0x" ++ (digits 16 false offset ++ codes "\n"))) (b ∙ ap (λ (xs : List ℕ). xs ++ name) a)
          ∙ regroup text (address_text address) (codes " ") name (codes "+0x") (digits 16 false offset) (codes "\n"),
    )

-- and of one that none holds
pub unknown_line : (entries : List Entry) (lookup : Lookup) (address : ℕ) (text addressed new : List ℕ) → found_at entries lookup address ≡ None → addressed ≡ text ++ (address_text address ++ codes " ") → new ≡ addressed ++ codes "??\n"
    → (line : List ℕ) × IsLineIn json.lines entries lookup address line × (new ≡ text ++ line)
unknown_line entries lookup address text addressed new found a b =
    let P : Option (Entry × ℕ) → Type 0 = λ o. IsTextOf o (codes "??") in (
      address_line address (codes "??"),
      (codes "??", subst P (sym found) refl, refl),
      b ∙ ap (λ (xs : List ℕ). xs ++ codes "??\n") a ∙ append_assoc text (address_text address ++ codes " ") (codes "??\n") ∙ ap (λ (xs : List ℕ). text ++ xs) (append_assoc (address_text address) (codes " ") (codes "??\n")),
    )

-- what was added, if memory sufficed
pub added : {E : Type 0} (r : Result (Unit {0}) E) (new more old : List ℕ) → new ≡ (if is_ok r then more else old) → OnOk r (new ≡ more)
added (Ok x) new more old is = is
added (Err e) new more old is = tt

pub ruleset endings = (no_memory, takes_none)
