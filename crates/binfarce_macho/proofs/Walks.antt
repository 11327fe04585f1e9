-- The sections of a Mach-O file, as loops go over the commands and over one segment's structures.
use Rattle.std.proofs.Common.{◌≡◌, ◌≢◌, ℕ, ◌+◌, ◌-◌, ◌<◌, ◌≤◌, cond, List, [], ◌∷◌, ◌++◌, length, take, drop, map, Option, Some, None, nat_le, refl, sym, ap, ◌∙◌, append_assoc, arith}
use Rattle.std.specs.List.{range_with_len, filter_map, cons_option}
use Rattle.std.proofs.lemmas.Bool.{lt-ltb, le-ltb, eq-eqb, ne_eqb}
use Rattle.std.proofs.lemmas.Nat.{le-div, div_below}
use Rattle.std.proofs.lemmas.List.{take-append-drop}
use Rattle.std.proofs.lemmas.List.FromFn.{take-map-range_with_len, map-range_with_len_more}
use Rattle.std.proofs.lemmas.List.Elements.{filter_map-append}
use Rattle.binfarce_bytes.specs.Refusal.{Refusal, unexpected_eof}
use Rattle.binfarce_bytes.specs.Walk.{Walk, ended, ahead_of, and_then}
use Rattle.binfarce_bytes.specs.Field.{field, number_in}
use Rattle.binfarce_macho.specs.Macho.{Command, Section, section_offset, whole_headers, segment, sections_of, body_of, walk, commands}

-- a structure whose fields are there is one of those that the file has room for
pub is_whole : (file : List ℕ) (body i : ℕ) → section_offset body i + 52 ≤ length file → i < whole_headers file body
is_whole file body i fits = omega (arith, le-div (i + 1) (length file + 28 - (body + 64)) 80 (omega arith) (omega arith))

-- one that is truncated is none of them
pub is_truncated : (file : List ℕ) (body i : ℕ) → length file < section_offset body i + 52 → whole_headers file body ≤ i
is_truncated file body i truncated = omega (arith, div_below (length file + 28 - (body + 64)) 80 (i + 1) (omega arith) (omega arith))

-- the count is truncated
pub segment_truncated : (file : List ℕ) (body : ℕ) → length file < body + 60 → segment file body ≡ ended (Some unexpected_eof)
unfolding segment
segment_truncated file body truncated = rw (lt-ltb (length file) (body + 60) truncated) refl

pub segment_refusal : (file : List ℕ) (body count : ℕ) → body + 60 ≤ length file → count ≡ number_in file body (field 56 4) → (segment file body).refusal ≡ cond (nat_le count (whole_headers file body)) None (Some unexpected_eof)
unfolding segment
segment_refusal file body count whole is = rw (le-ltb (length file) (body + 60) whole, ← is) refl

-- a filtered list is that of the numbered answers
kept_of_answers : {X : Type 0} (f : ℕ → Option X) (xs : List ℕ) → filter_map f xs ≡ filter_map (λ o. o) (map f xs)
kept_of_answers f [] = refl
kept_of_answers f (x ∷ xs) = ap (cons_option (f x)) (kept_of_answers f xs)

-- a list of numbered things goes on after those below i with the thing numbered i
numbered_after : {X : Type 0} (f : ℕ → X) (n i : ℕ) → i < n → (after : List X) × (map f (range_with_len 0 n) ≡ map f (range_with_len 0 i) ++ f i ∷ after)
numbered_after f n i lt =
    let xs = map f (range_with_len 0 n) in
    let front : take (i + 1) xs ≡ map f (range_with_len 0 i) ++ f i ∷ [] = take-map-range_with_len f 0 n (i + 1) (omega arith) ∙ map-range_with_len_more f 0 i i (omega arith) in
    (drop (i + 1) xs, sym (take-append-drop (i + 1) xs) ∙ ap (λ (ys : List _). ys ++ drop (i + 1) xs) front ∙ append_assoc (map f (range_with_len 0 i)) (f i ∷ []) (drop (i + 1) xs))

-- what is kept of numbered things goes on after those below i with what i gives
pub kept_after : {X : Type 0} (f : ℕ → Option X) (n i : ℕ) → i < n → (after : List X) × (filter_map f (range_with_len 0 n) ≡ filter_map f (range_with_len 0 i) ++ cons_option (f i) after)
kept_after f n i lt =
    let b = numbered_after f n i lt in (
      filter_map (λ o. o) b.0,
      kept_of_answers f (range_with_len 0 n)
          ∙ ap (filter_map (λ o. o)) b.1
          ∙ filter_map-append (λ o. o) (map f (range_with_len 0 i)) (f i ∷ b.0)
          ∙ ap (λ (xs : List _). xs ++ cons_option (f i) (filter_map (λ o. o) b.0)) (sym (kept_of_answers f (range_with_len 0 i))),
    )

-- the sections that commands have left
abbrev pub sections_left : List ℕ → Walk Command → Walk Section
sections_left file commands = sections_of file commands.items commands.refusal

pub segment_left : (file : List ℕ) (command : Command) (left : Walk Command) → command.kind ≡ 0x19
    → sections_left file (ahead_of command left) ≡ and_then (segment file (body_of command)).items (segment file (body_of command)).refusal (sections_left file left)
unfolding sections_of
segment_left file command left e = rw (eq-eqb command.kind 0x19 e) refl

pub other_left : (file : List ℕ) (command : Command) (left : Walk Command) → command.kind ≢ 0x19 → sections_left file (ahead_of command left) ≡ sections_left file left
unfolding sections_of
other_left file command left e = rw (ne_eqb command.kind 0x19 e) refl

pub no_left : (file : List ℕ) (end : Option Refusal) → sections_left file (ended end) ≡ ended end
unfolding sections_of
no_left file end = refl

pub walk_is : (file : List ℕ) → walk file ≡ sections_left file (commands file)
unfolding walk
walk_is file = refl
