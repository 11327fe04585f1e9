-- The entries by the sizes of all rows are those that a selection takes.
use Rattle.std.proofs.Common.{◌≡◌, ℕ, zero, suc, ◌+◌, ◌<◌, Bool, true, List, get_or, map, Option, Result, Ok, Err, refl, ap, subst, ◌∙◌, arith}
use Rattle.std.specs.Prelude.{is_some, IfOk}
use Rattle.std.specs.List.{range_with_len, filter_map}
use Rattle.binfarce_bytes.specs.declared.ByteOrder.{ByteOrder}
use Rattle.binfarce_bytes.specs.Walk.{Walk}
use Rattle.binfarce_elf.specs.Elf.{ElfClass, Section, SectionTable, SymbolRow, walk}
use Rattle.binfarce_elf_memory.specs.ElfEnds.{FileKind, ends_of, has_modes, size_of}
use Rattle.binfarce_elf_memory.specs.ElfSelection.{Taken, one_section, all_sections, size_taken, entry_taken, taken_from}
use Rattle.binfarce_elf.specs.SymbolTables.{TableRows}
use Rattle.binfarce_elf.specs.ElfSymbols.{row_count, row_of}
use Rattle.binfarce_elf_memory.specs.SelectionViews.{sized_from}
use Rattle.binfarce_elf_memory.specs.Versions.{version_of}
use Rattle.binfarce_elf_memory.specs.machine.RawSelection.{AreKeysOf}

-- two functions that agree on the numbers give the same
agree_on : {X : Type 0} (f g : ℕ → Option X) (a n : ℕ) → ((k : ℕ) → a < suc k → k < a + n → f k ≡ g k) → filter_map f (range_with_len a n) ≡ filter_map g (range_with_len a n)
agree_on f g a zero same = refl
agree_on f g a (suc n) same = rw (same a (omega arith) (omega arith), agree_on f g (a + 1) n (λ k from to. same k (omega arith) (omega arith))) refl

at_number : (f : ℕ → ℕ) (a n k : ℕ) → k < n → get_or (map f (range_with_len a n)) k 0 ≡ f (a + k)
at_number f a zero k lt = absurd (omega arith)
at_number f a (suc n) zero lt = ap f (omega arith)
at_number f a (suc n) (suc k) lt = at_number f (a + 1) n k (omega arith) ∙ ap f (omega arith)

-- of one section, neither modes nor sizes in memory matter
one_same : (strings : List ℕ) (taken : Taken) (any modes : Bool) (row : SymbolRow ℕ) (version size other : ℕ) → is_some (size_taken taken) ≡ true → entry_taken strings taken any row version size ≡ entry_taken strings taken modes row version other
one_same strings (one_section index total indirect) any modes row version size other one = refl
one_same strings (all_sections count) any modes row version size other one = absurd cc

module _ (class : ElfClass) (order : ByteOrder) (sections : Walk Section) (kind : FileKind) (taken : Taken) (found : TableRows) (versions sizes : List ℕ) where
  abbrev count : ℕ
  count = row_count class found.rows

  abbrev modes : Bool
  modes = has_modes kind

  abbrev row : ℕ → SymbolRow ℕ
  row k = row_of class order found.rows k

  abbrev sized : ℕ → ℕ
  sized k = size_of (ends_of class order sections kind found) modes (row k)

  -- where these are the sizes by the ends
  pub sizes_taken : sizes ≡ map sized (range_with_len 0 count) → sized_from class order taken modes found versions sizes 0 ≡ taken_from class order sections kind taken found versions
  sizes_taken are =
      ap (λ (n : ℕ). filter_map (λ k. entry_taken found.strings taken modes (row k) (version_of order versions k) (get_or sizes k 0)) (range_with_len 0 n)) (omega arith)
      ∙ agree_on (λ k. entry_taken found.strings taken modes (row k) (version_of order versions k) (get_or sizes k 0)) (λ k. entry_taken found.strings taken modes (row k) (version_of order versions k) (sized k)) 0 count
      (λ k from lt. ap (entry_taken found.strings taken modes (row k) (version_of order versions k)) (ap (λ (xs : List ℕ). get_or xs k 0) are ∙ at_number sized 0 count k (omega arith) ∙ ap sized (omega arith)))

  -- of one section, whatever the sizes are, and whether or not functions have modes
  pub one_taken : (modes : Bool) → is_some (size_taken taken) ≡ true → sized_from class order taken modes found versions sizes 0 ≡ taken_from class order sections kind taken found versions
  one_taken any one =
      ap (λ (n : ℕ). filter_map (λ k. entry_taken found.strings taken any (row k) (version_of order versions k) (get_or sizes k 0)) (range_with_len 0 n)) (omega arith)
      ∙ agree_on (λ k. entry_taken found.strings taken any (row k) (version_of order versions k) (get_or sizes k 0)) (λ k. entry_taken found.strings taken modes (row k) (version_of order versions k) (sized k)) 0 count
      (λ k from lt. one_same found.strings taken any modes (row k) (version_of order versions k) (get_or sizes k 0) (sized k) one)

-- so in the result of a call
pub sizes_all : {V E : Type 0} (class : ElfClass) (order : ByteOrder) (sections : Walk Section) (kind : FileKind) (taken : Taken) (found : TableRows) (versions : List ℕ) (items : V → List ℕ) (r : Result V E) (read : Bool) → read ≡ has_modes kind
    → IfOk r (λ v. items v ≡ map (λ k. size_of (ends_of class order sections kind found) read (row_of class order found.rows k)) (range_with_len 0 (row_count class found.rows)))
    → IfOk r (λ v. sized_from class order taken (has_modes kind) found versions (items v) 0 ≡ taken_from class order sections kind taken found versions)
sizes_all class order sections kind taken found versions items (Ok v) read is given =
    sizes_taken class order sections kind taken found versions (items v)
    (given ∙ ap (λ (m : Bool). map (λ k. size_of (ends_of class order sections kind found) m (row_of class order found.rows k)) (range_with_len 0 (row_count class found.rows))) is)
sizes_all class order sections kind taken found versions items (Err e) read is given = tt

-- the keys of the ends of a table by another description of it
pub keys_by : (class : ElfClass) (kind : FileKind) (found : TableRows) (keys : List ℕ) (t alone : SectionTable) → t ≡ alone
    → AreKeysOf (ends_of class t.order (walk class t) kind found) keys → AreKeysOf (ends_of class alone.order (walk class alone) kind found) keys
keys_by class kind found keys t alone same are = subst (λ (s : SectionTable). AreKeysOf (ends_of class s.order (walk class s) kind found) keys) same are
