-- The steps of the search among notes.
use Rattle.std.proofs.Common.{◌≡◌, ℕ, zero, suc, ◌+◌, ◌-◌, ◌<◌, ◌≤◌, true, false, List, length, Some, None, Ok, Err, refl, sym, subst, arith}
use Rattle.std.proofs.lemmas.Bool.{lt-ltb, le-ltb}
use Rattle.binfarce_bytes.specs.declared.ByteOrder.{ByteOrder}
use Rattle.binfarce_bytes.specs.Number.{bytes_at}
use Rattle.binfarce_bytes.specs.Refusal.{malformed_input}
use Rattle.binfarce_identity.specs.Notes.{Head, build_id_from, head_at, is_build_id, padded, descriptor_end, descriptor_offset}

module _ (order : ByteOrder) (word : ℕ) (notes : List ℕ) where
  -- no more are wanted
  pub none_wanted : (n start : ℕ) → n ≡ 0 → build_id_from order word notes n start ≡ Ok None
  unfolding build_id_from
  none_wanted zero start e = refl
  none_wanted (suc n) start e = absurd (omega arith)

  -- no head fits
  pub no_head : (n start : ℕ) → length notes < start + 12 → build_id_from order word notes n start ≡ Ok None
  unfolding build_id_from
  no_head zero start lt = refl
  no_head (suc n) start lt = rw (lt-ltb (length notes) (start + 12) lt) refl

  abbrev TooLong : (n start : ℕ) → Head ℕ → Type 0
  TooLong n start head = length notes < start + descriptor_end word head → build_id_from order word notes n start ≡ Err malformed_input

  too_long_here : (n start : ℕ) → 0 < n → start + 12 ≤ length notes → TooLong n start (head_at order notes start)
  unfolding build_id_from
  too_long_here zero start some whole = absurd (omega arith)
  too_long_here (suc n) start some whole = λ lt. rw (le-ltb (length notes) (start + 12) whole, lt-ltb (length notes) (start + descriptor_end word (head_at order notes start)) lt) refl

  -- the descriptor ends past the notes
  pub too_long : (n start : ℕ) (head : Head ℕ) → 0 < n → start + 12 ≤ length notes → head ≡ head_at order notes start → TooLong n start head
  too_long n start head some whole is = subst (TooLong n start) (sym is) (too_long_here n start some whole)

  abbrev Found : (n start : ℕ) → Head ℕ → Type 0
  Found n start head =
      start + descriptor_end word head ≤ length notes → is_build_id notes start head ≡ true
      → build_id_from order word notes n start ≡ Ok (Some (bytes_at notes (start + descriptor_offset word head) head.descsz))

  found_here : (n start : ℕ) → 0 < n → start + 12 ≤ length notes → Found n start (head_at order notes start)
  unfolding build_id_from
  found_here zero start some whole = absurd (omega arith)
  found_here (suc n) start some whole = λ le id. rw (le-ltb (length notes) (start + 12) whole, le-ltb (length notes) (start + descriptor_end word (head_at order notes start)) le, id) refl

  -- the note is a build ID
  pub found : (n start : ℕ) (head : Head ℕ) → 0 < n → start + 12 ≤ length notes → head ≡ head_at order notes start → Found n start head
  found n start head some whole is = subst (Found n start) (sym is) (found_here n start some whole)

  abbrev Next : (n start : ℕ) → Head ℕ → Type 0
  Next n start head =
      start + descriptor_end word head ≤ length notes → is_build_id notes start head ≡ false
      → build_id_from order word notes n start ≡ build_id_from order word notes (n - 1) (start + padded word (descriptor_end word head))

  next_here : (n start : ℕ) → 0 < n → start + 12 ≤ length notes → Next n start (head_at order notes start)
  unfolding build_id_from
  next_here zero start some whole = absurd (omega arith)
  next_here (suc n) start some whole =
      λ le id. rw (le-ltb (length notes) (start + 12) whole, le-ltb (length notes) (start + descriptor_end word (head_at order notes start)) le, id, less n) refl
    where
      less : (n : ℕ) → suc n - 1 ≡ n
      less n = omega arith

  -- it isn't, and one after it may be
  pub next : (n start : ℕ) (head : Head ℕ) → 0 < n → start + 12 ≤ length notes → head ≡ head_at order notes start → Next n start head
  next n start head some whole is = subst (Next n start) (sym is) (next_here n start some whole)
