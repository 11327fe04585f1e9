-- Laws of a Mach-O answer's entries, from the rule of sizes.
use Rattle.std.proofs.Common.{◌≡◌, ℕ, zero, suc, ◌+◌, ◌-◌, ◌/◌, ◌<◌, ◌≤◌, Bool, true, false, cond, List, [], ◌∷◌, length, All, Option, Some, None, Result, Ok, Err, refl, sym, ap, subst, ◌∙◌, arith}
use Rattle.std.specs.List.{range_with_len, filter_map, cons_option}
use Rattle.std.proofs.lemmas.List.Elements.{All-nil, All-cons, All-weaker}
use Rattle.binfarce_bytes.specs.Refusal.{◌>>=◌, Refusal}
use Rattle.binfarce_bytes.specs.Entries.{Entry, Listed}
use Rattle.binfarce_bytes.specs.Text.{text_at}
use Rattle.binfarce_bytes.specs.Sizes.{RowAddress, ListsArranged, addresses_of, arranged, least_above}
use Rattle.binfarce_macho.specs.MachoSymbols.{Located, located, symbol_of, is_candidate, size_up_to, macho_size, sized_entry, entry_of, kept, address_of, row_addresses, answer_of, macho_answer, AreSized}
use Rattle.binfarce_bytes.proofs.Above.{LeastAbove, least_above_is}
use Rattle.binfarce_bytes.proofs.Arrangement.{Rising, arrangement_of}
use Rattle.binfarce_macho.proofs.Kept.{address_row}

-- the entry has the size that the rule gives at its address
abbrev Sized : List ℕ → ℕ → Entry → Type 0
Sized addresses text_end e = macho_size addresses text_end e.address ≡ Ok (Some e.size)

entry_sized : (found : Located) (x : RowAddress) (e : Entry) → entry_of found x ≡ Ok (Some e) → Sized (addresses_of (row_addresses found.rows)) found.text_end e
unfolding entry_of
entry_sized found x e is =
    let parts = by_parts (is_candidate (symbol_of found.rows x.row)) (macho_size (addresses_of (row_addresses found.rows)) found.text_end x.address) (text_at found.strings (symbol_of found.rows x.row).name) is in
    ap (λ (a : ℕ). macho_size (addresses_of (row_addresses found.rows)) found.text_end a) (sym parts.1) ∙ parts.0
  where
    by_parts : (b : Bool) (s : Result (Option ℕ) Refusal) (name : Option (List ℕ)) → cond b (s >>= λ size. Ok (sized_entry x.address size name)) (Ok None) ≡ Ok (Some e) → (s ≡ Ok (Some e.size)) × (x.address ≡ e.address)
    by_parts false s name is = absurd cc
    by_parts true (Err why) name is = absurd cc
    by_parts true (Ok None) name is = absurd cc
    by_parts true (Ok (Some size)) None is = absurd cc
    by_parts true (Ok (Some size)) (Some text) is =
        let same : record { name = text; address = x.address; size = size } ≡ e = cc in
        (ap (λ (e : Entry). Ok (Some e.size)) same, ap (λ (e : Entry). e.address) same)

pub kept_each : {X Y : Type 0} (P : Y → Type 0) (f : X → Result (Option Y) Refusal) (xs : List X) (ys : List Y) → ((x : X) (y : Y) → f x ≡ Ok (Some y) → P y) → kept f xs ≡ Ok ys → All P ys
unfolding kept
kept_each P f [] ys each is = let none : [] ≡ ys = cc in subst (λ (zs : List _). All P zs) none (All-nil P)
kept_each {X} {Y} P f (x ∷ xs) ys each is = by_parts (f x) (kept f xs) refl refl is (λ zs e. kept_each P f xs zs each e)
  where
    one : (o : Option Y) (zs : List Y) → f x ≡ Ok o → All P zs → All P (cons_option o zs)
    one None zs e all = all
    one (Some y) zs e all = All-cons P y zs (each x y e) all

    by_parts : (r : Result (Option Y) Refusal) (s : Result (List Y) Refusal) → f x ≡ r → kept f xs ≡ s → (r >>= λ y. s >>= λ zs. Ok (cons_option y zs)) ≡ Ok ys → ((zs : List Y) → kept f xs ≡ Ok zs → All P zs) → All P ys
    by_parts (Err why) s fx rest is after = absurd cc
    by_parts (Ok o) (Err why) fx rest is after = absurd cc
    by_parts (Ok o) (Ok zs) fx rest is after =
        let whole : cons_option o zs ≡ ys = cc in
        subst (λ (zs : List Y). All P zs) whole (one o zs fx (after zs rest))

-- every greater address is at or past the end of a sized range
apart_at : (addresses : List ℕ) (a size text_end : ℕ) (o : Option ℕ) → LeastAbove addresses a o → size_up_to o text_end a ≡ Ok (Some size) → All (λ c. a < c → a + size ≤ c) addresses
apart_at addresses a size text_end None none is = All-weaker (λ c. c ≤ a) (λ c. a < c → a + size ≤ c) (λ c le lt. absurd (omega arith)) addresses none
apart_at addresses a size text_end (Some b) above is =
    let distance : b - a ≡ size = cc in
    let lt = above.above in
    All-weaker (λ c. a < c → b ≤ c) (λ c. a < c → a + size ≤ c) (λ c h gt. let le : b ≤ c = h gt in omega arith) addresses above.least

sized_apart : (addresses : List ℕ) (text_end : ℕ) (e : Entry) → Sized addresses text_end e → All (λ c. e.address < c → e.address + e.size ≤ c) addresses
unfolding macho_size
sized_apart addresses text_end e is = apart_at addresses e.address e.size text_end (least_above addresses e.address) (least_above_is addresses e.address) is

sized_agree : (addresses : List ℕ) (text_end : ℕ) (e f : Entry) → Sized addresses text_end e → Sized addresses text_end f → e.address ≡ f.address → e.size ≡ f.size
sized_agree addresses text_end e f one other same =
    let sizes : ◌≡◌ {A = Result (Option ℕ) Refusal} (Ok (Some e.size)) (Ok (Some f.size)) = sym one ∙ ap (macho_size addresses text_end) same ∙ other in
    cc

-- the entries of a table obey the laws
pub are_sized : (found : Located) (entries : List Entry) → kept (entry_of found) (arranged (row_addresses found.rows)) ≡ Ok entries → AreSized (addresses_of (row_addresses found.rows)) entries
are_sized found entries is =
    let addresses = addresses_of (row_addresses found.rows) in
    let sized : All (Sized addresses found.text_end) entries = kept_each (Sized addresses found.text_end) (entry_of found) (arranged (row_addresses found.rows)) entries (entry_sized found) is in
    record {
      apart = All-weaker (Sized addresses found.text_end) (λ e. All (λ c. e.address < c → e.address + e.size ≤ c) addresses) (sized_apart addresses found.text_end) entries sized;
      agree = All-weaker (Sized addresses found.text_end) (λ e. All (λ f. e.address ≡ f.address → e.size ≡ f.size) entries)
          (λ e one. All-weaker (Sized addresses found.text_end) (λ f. e.address ≡ f.address → e.size ≡ f.size) (λ f other. sized_agree addresses found.text_end e f one other) entries sized) entries sized;
    }

-- what an answer lists of its table
pub kept_of : (file : List ℕ) (found : Located) (listed : Listed) → located file ≡ Ok (Some found) → macho_answer file ≡ Ok listed → kept (entry_of found) (arranged (row_addresses found.rows)) ≡ Ok listed.entries
unfolding macho_answer answer_of
kept_of file found listed at is = by_parts (kept (entry_of found) (arranged (row_addresses found.rows))) (rw at at is)
  where
    by_parts : (k : Result (List Entry) Refusal) → (k >>= λ entries. Ok (record { entries = entries; section_size = found.text_size })) ≡ Ok listed → k ≡ Ok listed.entries
    by_parts (Err why) is = absurd cc
    by_parts (Ok entries) is =
        let whole : record { entries = entries; section_size = found.text_size } ≡ listed = cc in
        ap (λ (l : Listed). Ok l.entries) whole

pub answer_sized : (file : List ℕ) (found : Located) (listed : Listed) → located file ≡ Ok (Some found) → macho_answer file ≡ Ok listed → AreSized (addresses_of (row_addresses found.rows)) listed.entries
answer_sized file found listed at is = are_sized found listed.entries (kept_of file found listed at is)

module _ (f : ℕ → Option RowAddress) (own : (k : ℕ) (x : RowAddress) → f k ≡ Some x → x.row ≡ k) where
  numbered_from : (a b n : ℕ) → b ≤ a → All (λ x. b ≤ x.row) (filter_map f (range_with_len a n))
  numbered_from a b zero le = All-nil _
  numbered_from a b (suc n) le = by_row (f a) refl (numbered_from (a + 1) b n (omega arith))
    where
      by_row : (o : Option RowAddress) → f a ≡ o → All (λ x. b ≤ x.row) (filter_map f (range_with_len (a + 1) n)) → All (λ x. b ≤ x.row) (cons_option o (filter_map f (range_with_len (a + 1) n)))
      by_row None e rest = rest
      by_row (Some x) e rest = All-cons (λ x. b ≤ x.row) x _ (let at : x.row ≡ a = own a x e in omega arith) rest

  numbers_rise : (a n : ℕ) → Rising (filter_map f (range_with_len a n))
  numbers_rise a zero = tt
  numbers_rise a (suc n) = by_row (f a) refl (numbers_rise (a + 1) n)
    where
      by_row : (o : Option RowAddress) → f a ≡ o → Rising (filter_map f (range_with_len (a + 1) n)) → Rising (cons_option o (filter_map f (range_with_len (a + 1) n)))
      by_row None e rest = rest
      by_row (Some x) e rest =
          let at : x.row ≡ a = own a x e in
          (All-weaker (λ y. a + 1 ≤ y.row) (λ y. x.row < y.row) (λ y le. omega arith) _ (numbered_from (a + 1) (a + 1) n (omega arith)), rest)

pub answer_in_order : (file : List ℕ) (found : Located) (listed : Listed) → located file ≡ Ok (Some found) → macho_answer file ≡ Ok listed
    → ListsArranged (row_addresses found.rows) (λ rows entries. kept (entry_of found) rows ≡ Ok entries) listed.entries
answer_in_order file found listed at is = record {
  in_order = arranged (row_addresses found.rows);
  arrangement = arrangement_of (row_addresses found.rows) (numbers_rise (address_of found.rows) (address_row found.rows) 0 (length found.rows / 16));
  given = kept_of file found listed at is;
}
