-- Where the functions are that have descriptors: the sections of code by their ends, and the rows that are written.
use Rattle.std.proofs.Common.{◌≡◌, ℕ, zero, suc, ◌+◌, drop, length-drop, ◌*◌, ◌<◌, ◌≤◌, Bool, true, false, cond, List, [], ◌∷◌, ◌++◌, filter, length, map, min, take, Option, Some, None, refl, sym, ap, ◌∙◌, arith, IsPermutation}
use Rattle.std.specs.Prelude.{slice_get}
use Rattle.std.specs.List.{range_with_len, flat_map}
use Rattle.std.proofs.lemmas.Grind.{flat_map-append}
use Rattle.std.proofs.lemmas.List.{length-take-le, map-append, take_all}
use Rattle.std.proofs.lemmas.List.Elements.{filter-append}
use Rattle.std.proofs.lemmas.List.FromFn.{length-range_with_len}
use Rattle.std.proofs.lemmas.List.Sorted.{All-permutation, Contains-permutation}
use Rattle.binfarce_bytes.specs.declared.ByteOrder.{ByteOrder}
use Rattle.binfarce_bytes.specs.Number.{bytes_at}
use Rattle.binfarce_bytes.specs.Sizes.{least_above}
use Rattle.binfarce_bytes.specs.Walk.{Walk}
use Rattle.binfarce_bytes.proofs.Above.{LeastAbove, above_is, least_above_is}
use Rattle.binfarce_bytes.proofs.Rows.{range_more}
use Rattle.binfarce_elf.specs.Classes.{class_of}
use Rattle.binfarce_elf.specs.ElfSymbols.{symbol_at}
use Rattle.binfarce_elf.specs.declared.class.Width.TheVariants.{Bits64}
use Rattle.binfarce_elf.specs.Elf.{ElfClass, Section, SectionTable, SymbolRow, elf64, section_at, section_of, walk, whole_headers}
use Rattle.binfarce_elf.proofs.Walks.{is_truncated, is_whole}
use Rattle.binfarce_elf_memory.specs.Descriptors.{code_bytes, code_ends, end_number, has_code, has_descriptor, holding_by, in_code, row_in_code, section_holding}
use Rattle.binfarce_elf_memory.specs.machine.RawSelection.{ends_of}
use Rattle.binfarce_elf_memory.proofs.Numbered.{no_section, section_is}

-- numbers in another order have the same least one above
pub same_above : (keys sorted : List ℕ) (key : ℕ) → IsPermutation keys sorted → least_above keys key ≡ least_above sorted key
same_above keys sorted key same = above_is sorted key (least_above keys key) (there (least_above keys key) (least_above_is keys key))
  where
    there : (o : Option ℕ) → LeastAbove keys key o → LeastAbove sorted key o
    there None none = All-permutation (λ c. c ≤ key) keys sorted same none
    there (Some n) is = record {
      member = Contains-permutation keys sorted n same is.member;
      above = is.above;
      least = All-permutation (λ c. key < c → n ≤ c) keys sorted same is.least;
    }

-- one section more
taken_more : (xs : List Section) (i : ℕ) (x : Section) → slice_get xs i ≡ Some x → take (suc i) xs ≡ take i xs ++ x ∷ []
taken_more [] i x e = absurd cc
taken_more (y ∷ ys) zero x e = let same : y ≡ x = cc in ap (λ (s : Section). s ∷ []) same
taken_more (y ∷ ys) (suc i) x e = ap (λ (l : List Section). y ∷ l) (taken_more ys i x e)

-- none more
taken_same : (xs : List Section) (i : ℕ) → slice_get xs i ≡ None → take (suc i) xs ≡ take i xs
taken_same [] zero e = refl
taken_same [] (suc i) e = refl
taken_same (y ∷ ys) zero e = absurd cc
taken_same (y ∷ ys) (suc i) e = ap (λ (l : List Section). y ∷ l) (taken_same ys i e)

without : (xs : List ℕ) → xs ++ [] ≡ xs
without [] = refl
without (x ∷ xs) = ap (λ (l : List ℕ). x ∷ l) (without xs)

-- the ends of one section more, with code and without
ends_more : (xs : List Section) (s : Section) → code_ends (xs ++ s ∷ []) ≡ code_ends xs ++ map end_number (cond (has_code s) (s ∷ []) [])
ends_more xs s = ap (map end_number) (filter-append has_code xs (s ∷ [])) ∙ map-append end_number (filter has_code xs) (cond (has_code s) (s ∷ []) [])

pub end_pushed : (xs : List Section) (i : ℕ) → code_ends (take (i + 1) xs) ≡ code_ends (take i xs) ++ ends_of (slice_get xs i)
end_pushed xs i = ap (λ (n : ℕ). code_ends (take n xs)) (next i) ∙ by_section (slice_get xs i) refl
  where
    by_test : (s : Section) (b : Bool) → map end_number (cond b (s ∷ []) []) ≡ cond b (end_number s ∷ []) []
    by_test s true = refl
    by_test s false = refl

    next : (n : ℕ) → n + 1 ≡ suc n
    next n = omega arith

    by_section : (o : Option Section) → slice_get xs i ≡ o → code_ends (take (suc i) xs) ≡ code_ends (take i xs) ++ ends_of o
    by_section None none = ap code_ends (taken_same xs i none) ∙ sym (without (code_ends (take i xs)))
    by_section (Some s) there = ap code_ends (taken_more xs i s there) ∙ ends_more (take i xs) s ∙ ap (λ (l : List ℕ). code_ends (take i xs) ++ l) (by_test s (has_code s))

-- by the least of the numbers in order that is above
pub holding_is : (sections : Walk Section) (address key : ℕ) (sorted : List ℕ) (found : Option ℕ) → IsPermutation (code_ends sections.items) sorted → key ≡ address * 65536 + 65535 → found ≡ least_above sorted key
    → holding_by sections address found ≡ section_holding sections address
unfolding section_holding
holding_is sections address key sorted found same at is =
    ap (holding_by sections address) (is ∙ sym (same_above (code_ends sections.items) sorted key same) ∙ ap (least_above (code_ends sections.items)) at)

-- no sections are past the count
pub all_taken : (class : ElfClass) (table : SectionTable) (n : ℕ) → table.shnum ≤ n → take n (walk class table).items ≡ (walk class table).items
unfolding walk
all_taken class table n past =
    let count = min table.shnum (whole_headers class table) in
    take_all n (map (section_of class table) (range_with_len 0 count)) (rw (length-mapped (section_of class table) (range_with_len 0 count), length-range_with_len 0 count) (omega arith))
  where
    length-mapped : {X Y : Type 0} (f : X → Y) (xs : List X) → length (map f xs) ≡ length xs
    length-mapped f [] = refl
    length-mapped f (x ∷ xs) = ap suc (length-mapped f xs)

module _ (class : ElfClass) (table : SectionTable) (i : ℕ) where
  pub none_numbered : table.shnum ≤ i → None ≡ slice_get (walk class table).items i
  none_numbered past = sym (no_section class table i (omega arith))

  pub none_whole : 0 < class.section_length → length table.file < (table.shoff + i * class.section_length) + class.section_length → None ≡ slice_get (walk class table).items i
  none_whole some truncated =
      let past : whole_headers class table ≤ i = is_truncated (length table.file) table.shoff (table.shoff + i * class.section_length) class.section_length i some refl truncated in
      sym (no_section class table i (omega arith))

  pub numbered_is : (start : ℕ) → 0 < class.section_length → start ≡ table.shoff + i * class.section_length → i < table.shnum → start + class.section_length ≤ length table.file
      → (s : Section) → s ≡ section_at class table.order table.file start i → Some s ≡ slice_get (walk class table).items i
  numbered_is start some at lt fits s read =
      let whole : i < whole_headers class table = is_whole (length table.file) table.shoff start class.section_length i some at fits in
      ap Some (read ∙ ap (λ (n : ℕ). section_at class table.order table.file n i) at) ∙ sym (section_is class table i lt whole)

-- the bytes of a row that is there
pub row_long : (rows : List ℕ) (start : ℕ) (own : List ℕ) → start + 24 ≤ length rows → own ≡ bytes_at rows start 24 → length own ≡ 24
row_long rows start own inside is = ap length is ∙ length-take-le 24 (drop start rows) (rw (length-drop start rows) (omega arith))

-- a row, as it was read
module _ (order : ByteOrder) (sections : Walk Section) (section : Section) (descriptors rows : List ℕ) (k : ℕ) (row : SymbolRow ℕ) (is : row ≡ symbol_at (class_of Bits64) order rows (k * 24)) where
  abbrev own : List ℕ
  own = bytes_at rows (k * 24) 24

  abbrev by_row : SymbolRow ℕ → List ℕ
  by_row r = cond (has_descriptor section r) (in_code order sections own (code_bytes section descriptors r.value)) own

  by_read : by_row row ≡ row_in_code order sections section descriptors rows k
  unfolding row_in_code elf64
  by_read = ap by_row is

  pub as_stored : has_descriptor section row ≡ false → own ≡ row_in_code order sections section descriptors rows k
  as_stored none = sym (ap (λ (b : Bool). cond b (in_code order sections own (code_bytes section descriptors row.value)) own) none) ∙ by_read

  pub as_placed : has_descriptor section row ≡ true → in_code order sections own (code_bytes section descriptors row.value) ≡ row_in_code order sections section descriptors rows k
  as_placed has = sym (ap (λ (b : Bool). cond b (in_code order sections own (code_bytes section descriptors row.value)) own) has) ∙ by_read

-- one row more
pub rows_more : (f : ℕ → List ℕ) (k : ℕ) → flat_map f (range_with_len 0 (k + 1)) ≡ flat_map f (range_with_len 0 k) ++ f k
rows_more f k =
    ap (flat_map f) (range_more 0 k ∙ ap (λ (m : ℕ). range_with_len 0 k ++ m ∷ []) (omega arith)) ∙ flat_map-append f (range_with_len 0 k) (k ∷ [])
    ∙ ap (λ (l : List ℕ). flat_map f (range_with_len 0 k) ++ l) (without (f k))
