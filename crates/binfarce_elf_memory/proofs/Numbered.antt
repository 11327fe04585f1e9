-- The section of an index, by the walk.
use Rattle.std.proofs.Common.{◌≡◌, ℕ, suc, zero, ◌+◌, ◌*◌, ◌<◌, ◌≤◌, List, length, map, min, Option, Some, None, refl, sym, ap, ◌∙◌, arith}
use Rattle.std.specs.Prelude.{slice_get}
use Rattle.std.specs.Option.{option_and_then}
use Rattle.std.specs.List.{range_with_len}
use Rattle.binfarce_bytes.specs.declared.ByteOrder.{ByteOrder}
use Rattle.binfarce_elf.specs.Elf.{ElfClass, SectionTable, Section, section_at, section_of, whole_headers, walk, name_among}
use Rattle.binfarce_elf_memory.specs.ElfSelection.{name_of_index}
use Rattle.binfarce_elf_memory.specs.ElfParts.{headers_alone}
use Rattle.binfarce_elf.proofs.Walks.{is_whole, is_truncated}

nth_numbered : {X : Type 0} (f : ℕ → X) (a n i : ℕ) → i < n → slice_get (map f (range_with_len a n)) i ≡ Some (f (a + i))
nth_numbered f a zero i lt = absurd (omega arith)
nth_numbered f a (suc n) zero lt = ap (λ (k : ℕ). Some (f k)) (omega arith)
nth_numbered f a (suc n) (suc i) lt = nth_numbered f (a + 1) n i (omega arith) ∙ ap (λ (k : ℕ). Some (f k)) (omega arith)

nth_past : {X : Type 0} (f : ℕ → X) (a n i : ℕ) → n ≤ i → slice_get (map f (range_with_len a n)) i ≡ None
nth_past f a zero i past = refl
nth_past f a (suc n) zero past = absurd (omega arith)
nth_past f a (suc n) (suc i) past = nth_past f (a + 1) n i (omega arith)

-- a section whose header is whole and below the count
pub section_is : (class : ElfClass) (table : SectionTable) (i : ℕ) → i < table.shnum → i < whole_headers class table → slice_get (walk class table).items i ≡ Some (section_of class table i)
unfolding walk
section_is class table i lt whole = nth_numbered (section_of class table) 0 (min table.shnum (whole_headers class table)) i (omega arith) ∙ ap (λ (k : ℕ). Some (section_of class table k)) (omega arith)

pub no_section : (class : ElfClass) (table : SectionTable) (i : ℕ) → min table.shnum (whole_headers class table) ≤ i → slice_get (walk class table).items i ≡ None
unfolding walk
no_section class table i past = nth_past (section_of class table) 0 (min table.shnum (whole_headers class table)) i past

module _ (class : ElfClass) (order : ByteOrder) (headers : List ℕ) (names : Option (List ℕ)) (count i : ℕ) where
  abbrev alone : SectionTable
  alone = headers_alone order headers count

  abbrev named : Option Section → Option (List ℕ)
  named found = option_and_then (λ s. name_among names s.name_offset) found

  -- the name of a section past the count
  pub none_past : count ≤ i → None ≡ name_of_index names (walk class alone) i
  none_past past = sym (ap named (no_section class alone i (omega arith)))

  -- the name of a section whose header is truncated
  pub none_truncated : (start : ℕ) → 0 < class.section_length → start ≡ i * class.section_length → length headers < start + class.section_length → None ≡ name_of_index names (walk class alone) i
  none_truncated start some at truncated =
      let past : whole_headers class alone ≤ i = is_truncated (length headers) 0 start class.section_length i some (omega (arith, at)) truncated in
      sym (ap named (no_section class alone i (omega arith)))

  -- the name of a section whose header was read
  pub name_is : (start index offset : ℕ) → 0 < class.section_length → i < count → start ≡ i * class.section_length → start + class.section_length ≤ length headers
      → offset ≡ (section_at class order headers start index).name_offset → name_among names offset ≡ name_of_index names (walk class alone) i
  unfolding section_at
  name_is start index offset some lt at fits read =
      let whole : i < whole_headers class alone = is_whole (length headers) 0 start class.section_length i some (omega (arith, at)) fits in
      let same : start ≡ 0 + i * class.section_length = omega (arith, at) in
      ap (name_among names) (read ∙ ap (λ (k : ℕ). (section_at class order headers k i).name_offset) same) ∙ sym (ap named (section_is class alone i lt whole))
