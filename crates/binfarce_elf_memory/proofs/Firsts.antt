-- The first of several values.
use Rattle.std.proofs.Common.{◌≡◌, ℕ, suc, ◌+◌, List, Option, Some, None, refl, ap, ◌∙◌}
use Rattle.std.specs.List.{cons_option, filter_map, range_with_len}
use Rattle.std.specs.Option.{option_or}
use Rattle.binfarce_elf_memory.specs.ElfSegments.{first_of}

-- one more, which may be missing, comes before the others
first_with : {X : Type 0} (one : Option X) (others : List X) → first_of (cons_option one others) ≡ option_or one (first_of others)
first_with None others = refl
first_with (Some x) others = refl

-- a range and the number before it
pub first_before : {X : Type 0} (h : ℕ → Option X) (j i n m : ℕ) → j + 1 ≡ i → m ≡ suc n → first_of (filter_map h (range_with_len j m)) ≡ option_or (h j) (first_of (filter_map h (range_with_len i n)))
first_before h j i n m next more =
    ap (λ (k : ℕ). first_of (filter_map h (range_with_len j k))) more ∙ first_with (h j) (filter_map h (range_with_len (j + 1) n))
    ∙ ap (λ (k : ℕ). option_or (h j) (first_of (filter_map h (range_with_len k n)))) next
