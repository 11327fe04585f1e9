-- A file with other bytes at some offsets, byte by byte and patch by patch.
use Rattle.std.proofs.Common.{◌≡◌, ◌⊎◌, inl, inr, ℕ, suc, ◌+◌, ◌-◌, ◌^◌, ◌<◌, ◌≤◌, Bor, List, length, get_or, drop, set, map, min, refl, sym, ap, ◌∙◌, arith}
use Rattle.std.proofs.Math.Nat.{min-eq_left, min-eq_right}
use Rattle.std.proofs.Math.Seq.{drop-cons}
use Rattle.std.proofs.Math.ListN.{drop_of_length-le}
use Rattle.std.proofs.lemmas.Bool.{cases_lt}
use Rattle.std.proofs.lemmas.List.{set_past}
use Rattle.test_samples.specs.Patched.{patched_at, patched}

-- a byte past all numbers changes nothing, nor does the byte in its place
pub set_saturated : (file : List ℕ) (at place byte : ℕ) → length file < 2 ^ 64 → place ≡ min at (2 ^ 64 - 1) → set file place byte ≡ set file at byte
set_saturated file at place byte small is = by_order (cases_lt at (2 ^ 64))
  where
    by_order : (at < 2 ^ 64) ⊎ (2 ^ 64 ≤ at) → set file place byte ≡ set file at byte
    by_order (inl below) = ap (λ (n : ℕ). set file n byte) (is ∙ min-eq_left (omega arith))
    by_order (inr past) = set_past file place byte (omega (arith, is, min-eq_right {n = 2 ^ 64 - 1} {m = at} (omega arith))) ∙ sym (set_past file at byte (omega arith))

pub byte_patched : (bytes : List ℕ) (offset i : ℕ) (file : List ℕ) → i < length bytes → patched_at (drop i bytes) (offset + i) file ≡ patched_at (drop (i + 1) bytes) (offset + (i + 1)) (set file (offset + i) (get_or bytes i 0))
unfolding patched_at
byte_patched bytes offset i file lt =
    let next : suc i ≡ i + 1 = omega arith in
    let after : suc (offset + i) ≡ offset + (i + 1) = omega arith in
    let changed = set file (offset + i) (get_or bytes i 0) in
    rw (drop-cons bytes i 0 lt) (ap (λ (n : ℕ). patched_at (drop n bytes) (suc (offset + i)) changed) next ∙ ap (λ (n : ℕ). patched_at (drop (i + 1) bytes) n changed) after)

pub all_patched : (bytes : List ℕ) (offset i : ℕ) (file : List ℕ) → length bytes ≤ i → patched_at (drop i bytes) (offset + i) file ≡ file
unfolding patched_at
all_patched bytes offset i file past = rw (drop_of_length-le bytes past) refl

-- patches as they are seen
abbrev pub seen : List (ℕ × Bor (List ℕ)) → List (ℕ × List ℕ)
seen patches = map (λ patch. (patch.0, patch.1.now)) patches

pub patch_applied : (patches : List (ℕ × Bor (List ℕ))) (none : ℕ × Bor (List ℕ)) (i : ℕ) (file : List ℕ) → i < length patches → patched (seen (drop i patches)) file ≡ patched (seen (drop (i + 1) patches)) (patched_at (get_or patches i none).1.now (get_or patches i none).0 file)
unfolding patched
patch_applied patches none i file lt =
    let next : suc i ≡ i + 1 = omega arith in
    rw (drop-cons patches i none lt) (ap (λ (n : ℕ). patched (seen (drop n patches)) (patched_at (get_or patches i none).1.now (get_or patches i none).0 file)) next)

pub all_applied : (patches : List (ℕ × Bor (List ℕ))) (i : ℕ) (file : List ℕ) → length patches ≤ i → patched (seen (drop i patches)) file ≡ file
unfolding patched
all_applied patches i file past = rw (drop_of_length-le patches past) refl
