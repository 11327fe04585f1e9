-- The lines of a text, answered one after the other.
use Rattle.std.proofs.Common.{◌≡◌, ◌≢◌, Bool, true, false, ℕ, ◌+◌, ◌-◌, ◌<◌, ◌≤◌, add-one, drop-cons, List, [], ◌∷◌, ◌++◌, length, drop, take, get_or, Option, Some, None, Result, Ok, Err, refl, sym, ap, subst, ◌∙◌, arith, append-nil, append_assoc, length-append}
use Rattle.std.proofs.Math.Seq.{drop-append-add}
use Rattle.std.proofs.lemmas.List.{drop-drop, take_all, length-drop, length-take-le, get_or-take, take-append-drop}
use Rattle.std.proofs.lemmas.List.Elements.{All-from_get_or}
use Rattle.std.proofs.lemmas.Grind.{flat_map-append}
use Rattle.binfarce_addresses.specs.Stream.{line_address, with_line_feeds, Begins, HasNoLineFeed, Writes}
use Rattle.std.proofs.KnownBytes.{Appends-nil, Consumes-nil}
use Rattle.std.specs.Result.{IsErrAnd}
use Rattle.binfarce_text.specs.Streams.{Streams}
use Rattle.binfarce_text.specs.declared.streams.StreamError.{StreamError}
use Rattle.binfarce_text.specs.declared.streams.StreamError.TheVariants.{OutOfMemory}
use Rattle.binfarce_addresses.proofs.AddressLines.{all_zip_both}

behind_line : (line others left : List ℕ) → left ≡ line ++ 10 ∷ others → drop (length line + 1) left ≡ others
behind_line line others left is = ap (drop (length line + 1)) is ∙ drop-append-add line (10 ∷ others) 1

-- what a search for a line goes over
pub left_of : (bytes : List ℕ) (len : ℕ) → take (length bytes - len) (drop len bytes) ≡ drop len bytes
left_of bytes len = take_all (length bytes - len) (drop len bytes) (omega (arith, length-drop len bytes))

-- a line that is found ends within the text
pub line_within : (bytes line others : List ℕ) (len : ℕ) → len ≤ length bytes → drop len bytes ≡ line ++ 10 ∷ others → len + (length line + 1) ≤ length bytes
line_within bytes line others len le is = omega (arith, ap (length {A = ℕ}) is, length-drop len bytes, length-append line (10 ∷ others))

-- the first line ends at the first line feed
pub line_before : (bytes : List ℕ) (i : ℕ) → i < length bytes → get_or bytes i 0 ≡ 10 → ((k : ℕ) → k < i → get_or bytes k 0 ≡ 10 → ⊥) → HasNoLineFeed (take i bytes) × ((others : List ℕ) × (bytes ≡ take i bytes ++ 10 ∷ others))
line_before bytes i lt is before = (
  All-from_get_or (λ byte. byte ≢ 10) (take i bytes) 0 (λ k low. let within : k < i = omega (arith, length-take-le i bytes) in rw (get_or-take i bytes k 0) (before k within)),
  (drop (i + 1) bytes, sym (take-append-drop i bytes) ∙ ap (λ (xs : List ℕ). take i bytes ++ xs) (rest i lt is)),
)
  where
    rest : (i : ℕ) → i < length bytes → get_or bytes i 0 ≡ 10 → drop i bytes ≡ 10 ∷ drop (i + 1) bytes
    rest i lt is = rw (add-one, drop-cons bytes i 0, is) refl

-- the lines of a text up to a place write these addresses
pub record ReadTo (bytes : List ℕ) (addresses : List (Option ℕ)) (len : ℕ) : Type 0 where
  pub within : len ≤ length bytes
  pub begins : Begins bytes addresses (drop len bytes)

-- what is left of a text is read further
pub begins_both : (text : List ℕ) (first : List (Option ℕ)) (left : List ℕ) (second : List (Option ℕ)) (rest : List ℕ) → Begins text first left → Begins left second rest → Begins text (first ++ second) rest
begins_both text first left second rest a b = record {
  lines = a.lines ++ b.lines;
  each = all_zip_both Writes a.lines b.lines first second a.each b.each;
  are = a.are ∙ ap (λ (xs : List ℕ). with_line_feeds a.lines ++ xs) b.are
      ∙ sym (append_assoc (with_line_feeds a.lines) (with_line_feeds b.lines) rest)
      ∙ ap (λ (xs : List ℕ). xs ++ rest) (sym (flat_map-append (λ (line : List ℕ). line ++ 10 ∷ []) a.lines b.lines));
}

-- one line more
pub one_more : (bytes : List ℕ) (addresses : List (Option ℕ)) (line others : List ℕ) (len : ℕ) (address : Option ℕ) → Begins bytes addresses (drop len bytes) → drop len bytes ≡ line ++ 10 ∷ others → Writes line address → Begins bytes (addresses ++ address ∷ []) (drop (len + (length line + 1)) bytes)
one_more bytes addresses line others len address begins is writes =
    let left : drop (len + (length line + 1)) bytes ≡ others = sym (drop-drop (length line + 1) len bytes) ∙ behind_line line others (drop len bytes) is in
    begins_both bytes addresses (drop len bytes) (address ∷ []) (drop (len + (length line + 1)) bytes) begins (record {
      lines = line ∷ [];
      each = (writes, tt);
      are = is ∙ ap (λ (xs : List ℕ). line ++ 10 ∷ xs) (sym left) ∙ one_feed line (drop (len + (length line + 1)) bytes);
    })
  where
    one_feed : (l o : List ℕ) → l ++ 10 ∷ o ≡ ((l ++ 10 ∷ []) ++ []) ++ o
    one_feed l o = simp (append_assoc, append-nil)

-- the first line of what is left is read
pub line_read : (bytes line : List ℕ) (addresses new : List (Option ℕ)) (len : ℕ) (address : Option ℕ) → ReadTo bytes addresses len
    → HasNoLineFeed line × ((others : List ℕ) × (take (length bytes - len) (drop len bytes) ≡ line ++ 10 ∷ others)) → line_address line ≡ address
    → new ≡ addresses ++ address ∷ [] → ReadTo bytes new (len + (length line + 1))
line_read bytes line addresses new len address so_far first writes grown =
    let is : drop len bytes ≡ line ++ 10 ∷ first.1.0 = sym (left_of bytes len) ∙ first.1.1 in
    subst (λ (xs : List (Option ℕ)). ReadTo bytes xs (len + (length line + 1))) (sym grown) (record {
      within = line_within bytes line first.1.0 len so_far.within is;
      begins = one_more bytes addresses line first.1.0 len address so_far.begins is (first.0, writes);
    })

-- no memory sufficed for a first step
pub stopped : {T : Type 0} (All : T → List ℕ → List ℕ → Type 0) (Whole Begun : List ℕ → List ℕ → Type 0) (given old : Option (List ℕ)) (result : Result T StreamError) → Begun [] [] → IsErrAnd result (λ e. e ≡ OutOfMemory) → Streams All Whole Begun given given old old result
stopped All Whole Begun given old (Ok x) begun is = absurd is
stopped All Whole Begun given old (Err e) begun is =
    let P : StreamError → Type 0 = λ e. Streams All Whole Begun given given old old (Err e) in subst P (sym is) ([], [], Consumes-nil given, begun, Appends-nil old)
