-- The addresses of words, word after word.
use Rattle.std.proofs.Common.{◌≡◌, ◌∙◌, ℕ, ◌+◌, ◌<◌, ◌≤◌, List, [], ◌∷◌, ◌++◌, map, length, drop, get_or, Option, Some, None, Result, Ok, Err, refl, sym, ap, add-one, append-nil, append_assoc, drop-cons, Bor}
use Rattle.std.proofs.Math.ListN.{drop_of_length-le}
use Rattle.binfarce_rows.specs.Address.{address_of}
use Rattle.binfarce_jobs.specs.At.{addresses_of, and_others, first_and_others}
use Rattle.binfarce_words.specs.Words.{Wrong, no_address}

-- these addresses, and then others
abbrev pub after : List ℕ → Result (List ℕ) Wrong → Result (List ℕ) Wrong
after addresses (Err wrong) = Err wrong
after addresses (Ok others) = Ok (addresses ++ others)

-- the addresses so far, and those of the words that are left, are those of all
abbrev pub Reads : List (Bor (List ℕ)) → ℕ → List ℕ → Type 0
Reads words i addresses = addresses_of (map (λ w. w.now) words) ≡ after addresses (addresses_of (map (λ w. w.now) (drop i words)))

after_none : (others : Result (List ℕ) Wrong) → others ≡ after [] others
after_none (Err wrong) = refl
after_none (Ok xs) = refl

pub begun : (words : List (Bor (List ℕ))) → Reads words 0 []
begun words = after_none (addresses_of (map (λ (w : Bor (List ℕ)). w.now) words))

one_more : (address : ℕ) (addresses : List ℕ) (others : Result (List ℕ) Wrong) → after addresses (and_others address others) ≡ after (addresses ++ address ∷ []) others
one_more address addresses (Err wrong) = refl
one_more address addresses (Ok more) = ap Ok (sym (append_assoc addresses (address ∷ []) more))

-- no word is left
pub all_words : (words : List (Bor (List ℕ))) (i : ℕ) (addresses : List ℕ) → length words ≤ i → Reads words i addresses → addresses_of (map (λ w. w.now) words) ≡ Ok addresses
unfolding addresses_of
all_words words i addresses le reads =
    reads ∙ ap (λ (ws : List (Bor (List ℕ))). after addresses (addresses_of (map (λ (w : Bor (List ℕ)). w.now) ws))) (drop_of_length-le words le) ∙ ap Ok (append-nil addresses)

module _ (words : List (Bor (List ℕ))) (i : ℕ) (d : Bor (List ℕ)) (bytes addresses : List ℕ) (lt : i < length words) (are : bytes ≡ (get_or words i d).now) (reads : Reads words i addresses) where
  at_word : addresses_of (map (λ w. w.now) words) ≡ after addresses (first_and_others (get_or words i d).now (address_of (get_or words i d).now) (addresses_of (map (λ w. w.now) (drop (i + 1) words))))
  unfolding addresses_of
  at_word =
      let next : map (λ (w : Bor (List ℕ)). w.now) (drop i words) ≡ (get_or words i d).now ∷ map (λ (w : Bor (List ℕ)). w.now) (drop (i + 1) words) =
      rw (add-one, drop-cons words i d) refl in
      reads ∙ ap (λ (ws : List (List ℕ)). after addresses (addresses_of ws)) next

  -- a word writes no address
  pub stops : None ≡ address_of bytes → addresses_of (map (λ w. w.now) words) ≡ Err (no_address (get_or words i d).now)
  stops none = at_word ∙ ap (λ (o : Option ℕ). after addresses (first_and_others (get_or words i d).now o (addresses_of (map (λ (w : Bor (List ℕ)). w.now) (drop (i + 1) words))))) (sym (none ∙ ap address_of are))

  -- a word writes an address
  pub goes_on : (address : ℕ) (new : List ℕ) → Some address ≡ address_of bytes → new ≡ addresses ++ address ∷ [] → Reads words (i + 1) new
  goes_on address new is grown =
      at_word ∙ ap (λ (o : Option ℕ). after addresses (first_and_others (get_or words i d).now o (addresses_of (map (λ (w : Bor (List ℕ)). w.now) (drop (i + 1) words))))) (sym (is ∙ ap address_of are))
      ∙ one_more address addresses (addresses_of (map (λ (w : Bor (List ℕ)). w.now) (drop (i + 1) words)))
      ∙ ap (λ (xs : List ℕ). after xs (addresses_of (map (λ (w : Bor (List ℕ)). w.now) (drop (i + 1) words)))) (sym grown)
