-- What the loops over sections and rows add.
use Rattle.std.proofs.Common.{◌≡◌, ℕ, ◌+◌, ◌^◌, ◌*◌, ◌<◌, ◌≤◌, List, [], ◌∷◌, ◌++◌, All, map, min, Option, Some, None, refl, sym, ap, ap₂, subst, ◌∙◌, arith, IsPermutation}
use Rattle.std.specs.List.{range_with_len, filter_map}
use Rattle.std.specs.List.Sorted.{IsNonDecreasingBy}
use Rattle.std.proofs.lemmas.List.{map-append, append_assoc}
use Rattle.std.proofs.lemmas.List.Elements.{All-nil, All-cons, All-append}
use Rattle.binfarce_bytes.proofs.Rows.{range_more, one_more}
use Rattle.binfarce_elf.specs.Elf.{ElfClass, SectionTable, section_at, section_of}
use Rattle.binfarce_elf_memory.specs.ElfEnds.{End, FileKind, section_end}
use Rattle.binfarce_elf_memory.specs.machine.RawSelection.{key_of, AreKeysOf}

-- one number more
pub mapped_more : {X : Type 0} (f : ℕ → X) (k : ℕ) → map f (range_with_len 0 (k + 1)) ≡ map f (range_with_len 0 k) ++ f k ∷ []
mapped_more f k = ap (map f) (range_more 0 k ∙ ap (λ (m : ℕ). range_with_len 0 k ++ m ∷ []) (omega arith)) ∙ map-append f (range_with_len 0 k) (k ∷ [])

-- one row more that gives something, and one that gives nothing
pub row_added : {X : Type 0} (f : ℕ → Option X) (k : ℕ) (x : X) → f k ≡ Some x → filter_map f (range_with_len 0 (k + 1)) ≡ filter_map f (range_with_len 0 k) ++ x ∷ []
row_added f k x e = one_more f k ∙ rw e refl

pub row_passed : {X : Type 0} (f : ℕ → Option X) (k : ℕ) → f k ≡ None → filter_map f (range_with_len 0 (k + 1)) ≡ filter_map f (range_with_len 0 k)
row_passed f k e = one_more f k ∙ rw e (nothing (filter_map f (range_with_len 0 k)))
  where
    nothing : {X : Type 0} (xs : List X) → xs ++ [] ≡ xs
    nothing [] = refl
    nothing (x ∷ xs) = ap (λ (ys : List _). x ∷ ys) (nothing xs)

-- the keys of these ends were added to what was there
abbrev pub AreAdded : List ℕ → List ℕ → List End → Type 0
AreAdded old items ends = (items ≡ old ++ map key_of ends) × All (λ e. e.address < 2 ^ 64) ends

pub pushed : (old items : List ℕ) (ends : List End) (e : End) (key : ℕ) → AreAdded old items ends → key ≡ key_of e → e.address < 2 ^ 64 → AreAdded old (items ++ key ∷ []) (ends ++ e ∷ [])
pushed old items ends e key are is small = (
  ap₂ (λ (xs : List ℕ) (k : ℕ). xs ++ k ∷ []) are.0 is ∙ append_assoc old (map key_of ends) (key_of e ∷ []) ∙ ap (λ (xs : List ℕ). old ++ xs) (sym (map-append key_of ends (e ∷ []))),
  All-append (λ e. e.address < 2 ^ 64) ends (e ∷ []) are.1 (All-cons (λ e. e.address < 2 ^ 64) e [] small (All-nil (λ e. e.address < 2 ^ 64))),
)

-- the keys that were added to none, in order
pub keys_are : (sections rows : List End) (none half items keys : List ℕ) → none ≡ [] → AreAdded none half sections → AreAdded half items rows → IsPermutation items keys → IsNonDecreasingBy (λ k. k) keys → AreKeysOf (sections ++ rows) keys
keys_are sections rows none half items keys is first second same rises = record {
  same = subst (λ (xs : List ℕ). IsPermutation xs keys) (second.0 ∙ ap (λ (xs : List ℕ). xs ++ map key_of rows) (first.0 ∙ ap (λ (xs : List ℕ). xs ++ map key_of sections) is) ∙ sym (map-append key_of sections rows)) same;
  rises = rises;
  small = All-append (λ e. e.address < 2 ^ 64) sections rows first.1 second.1;
}

pub product : (a b size index : ℕ) → a ≡ size → b ≡ index → a * b ≡ index * size
product a b size index is also = rw (is, also) (turned size index)
  where
    turned : (m n : ℕ) → m * n ≡ n * m
    turned m n = grind arith

module _ (class : ElfClass) (t : SectionTable) (kind : FileKind) where
  -- the ends of the first n sections
  abbrev pub ends_to : ℕ → List End
  ends_to n = map (section_end kind) (map (section_of class t) (range_with_len 0 n))

  ends_more : (n : ℕ) → ends_to (n + 1) ≡ ends_to n ++ section_end kind (section_of class t n) ∷ []
  ends_more n = ap (map (section_end kind)) (mapped_more (section_of class t) n) ∙ map-append (section_end kind) (map (section_of class t) (range_with_len 0 n)) (section_of class t n ∷ [])

  module _ (old items : List ℕ) (index whole : ℕ) (are : AreAdded old items (ends_to (min index whole))) where
    pub section_passed : whole ≤ index → AreAdded old items (ends_to (min (index + 1) whole))
    section_passed past = subst (λ (n : ℕ). AreAdded old items (ends_to n)) (omega arith) are

    pub section_added : (key start : ℕ) → index < whole → start ≡ t.shoff + index * class.section_length → key ≡ index * 2 ^ 64 + (section_end kind (section_at class t.order t.file start index)).address
        → AreAdded old (items ++ key ∷ []) (ends_to (min (index + 1) whole))
    unfolding section_at
    section_added key start inside at is =
        let here : AreAdded old items (ends_to index) = subst (λ (n : ℕ). AreAdded old items (ends_to n)) (omega arith) are in
        let own : key ≡ key_of (section_end kind (section_of class t index)) = is ∙ ap (λ (n : ℕ). key_of (section_end kind (section_at class t.order t.file n index))) at in
        let more : AreAdded old (items ++ key ∷ []) (ends_to index ++ section_end kind (section_of class t index) ∷ []) =
        pushed old items (ends_to index) (section_end kind (section_of class t index)) key here own (omega arith) in
        subst (λ (n : ℕ). AreAdded old (items ++ key ∷ []) (ends_to n)) (omega arith) (subst (λ (ends : List End). AreAdded old (items ++ key ∷ []) ends) (sym (ends_more index)) more)
