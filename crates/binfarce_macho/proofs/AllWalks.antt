-- The starts of all sections, as a loop goes over the commands.
use Rattle.std.proofs.Common.{◌≡◌, ◌≢◌, ℕ, zero, suc, ◌+◌, ◌*◌, ◌-◌, ◌/◌, ◌<◌, ◌≤◌, Bool, true, false, cond, ◌&&◌, nat_le, List, [], ◌∷◌, ◌++◌, length, take, map, min, All, Option, Some, None, Result, Ok, Err, IsErrAnd, MatchResult, ◌⊎◌, inl, inr, refl, sym, ap, subst, ◌∙◌, append_assoc, arith}
use Rattle.std.proofs.Math.Nat.{div-mul-le_self}
use Rattle.std.specs.List.{range_with_len}
use Rattle.std.proofs.lemmas.Bool.{cases_lt, le-leb, lt-leb, leb-true, eq-eqb, ne_eqb}
use Rattle.std.proofs.lemmas.List.{append-nil, length-take, length-append, length-map, take_all}
use Rattle.std.proofs.lemmas.List.Elements.{All-nil, All-cons, All-same, All-append}
use Rattle.std.proofs.lemmas.List.FromFn.{take-map-range_with_len, map-range_with_len_more}
use Rattle.binfarce_bytes.specs.declared.error.ParseError.{ParseError}
use Rattle.binfarce_bytes.specs.declared.error.ParseError.TheVariants.{OutOfMemory}
use Rattle.binfarce_bytes.specs.Refusal.{Refusal, refusal_of, out_of_memory, unexpected_eof}
use Rattle.binfarce_bytes.specs.Walk.{Walk, ended, ahead_of, and_then}
use Rattle.binfarce_macho.specs.Macho.{Command, Section, commands, body_of, section_offset, section_count, whole_headers, segment, walk}
use Rattle.binfarce_macho.specs.MachoSections.{first_starts, starts_in, starts_among, section_starts, HasSection}
use Rattle.binfarce_macho.proofs.Walks.{segment_truncated, segment_refusal, sections_left, segment_left, other_left, no_left, walk_is}

module _ {A : Type 0} where
  -- what is cut off is cut off anyway
  take_again : (n : ℕ) (xs ys : List A) → take n (take n xs ++ ys) ≡ take n (xs ++ ys)
  take_again zero xs ys = refl
  take_again (suc n) [] ys = refl
  take_again (suc n) (x ∷ xs) ys = ap (λ (zs : List A). x ∷ zs) (take_again n xs ys)

  take_behind : (n : ℕ) (xs ys : List A) → length xs ≤ n → take n (xs ++ ys) ≡ xs ++ take (n - length xs) ys
  take_behind n [] ys le = ap (λ (m : ℕ). take m ys) (omega arith)
  take_behind zero (x ∷ xs) ys le = absurd (omega arith)
  take_behind (suc n) (x ∷ xs) ys le = ap (λ (zs : List A). x ∷ zs) (take_behind n xs ys (omega arith) ∙ ap (λ (m : ℕ). xs ++ take m ys) (omega arith))

range_long : (a n : ℕ) → length (range_with_len a n) ≡ n
range_long a zero = refl
range_long a (suc n) = ap suc (range_long (a + 1) n)

first_of : (f : ℕ → ℕ) (count room n : ℕ) → n ≡ min room count → take room (map f (range_with_len 0 count)) ≡ map f (range_with_len 0 n)
first_of f count room n is = elim (cases_lt count room) [
  | inl less ↦ take_all room (map f (range_with_len 0 count)) (omega (arith, length-map (range_with_len 0 count) f, range_long 0 count)) ∙ ap (λ (m : ℕ). map f (range_with_len 0 m)) (omega arith)
  | inr fits ↦ take-map-range_with_len f 0 count room fits ∙ ap (λ (m : ℕ). map f (range_with_len 0 m)) (omega arith)
]

-- what is known of a segment whose sections are whole, or aren't
pub held_whole : (file : List ℕ) (body : ℕ) (b : Bool) → (nat_le (body + 60) (length file) && nat_le (section_count file body) (whole_headers file body)) ≡ b → (segment file body).refusal ≡ cond b None (Some unexpected_eof)
held_whole file body b e = elim (cases_lt (length file) (body + 60)) [
  | inl lt ↦
      let none : false ≡ b = rw (lt-leb (body + 60) (length file) lt) at e in
      ap (λ (w : Walk Section). w.refusal) (segment_truncated file body lt) ∙ ap (λ (b : Bool). cond b None (Some unexpected_eof)) none
  | inr whole ↦
      let room : nat_le (section_count file body) (whole_headers file body) ≡ b = rw (le-leb (body + 60) (length file) whole) at e in
      segment_refusal file body (section_count file body) whole refl ∙ ap (λ (b : Bool). cond b None (Some unexpected_eof)) room
]

pub held_room : (file : List ℕ) (body : ℕ) → (nat_le (body + 60) (length file) && nat_le (section_count file body) (whole_headers file body)) ≡ true → section_count file body ≤ whole_headers file body
held_room file body e = leb-true (section_count file body) (whole_headers file body) (second (nat_le (body + 60) (length file)) (nat_le (section_count file body) (whole_headers file body)) e)
  where
    second : (a b : Bool) → a && b ≡ true → b ≡ true
    second true b e = e
    second false b e = absurd cc

-- what room is left is filled
pub filled : (file : List ℕ) (body count n : ℕ) (old new : List ℕ) → length old ≤ 255 → count ≡ section_count file body → n ≡ min (255 - length old) count
    → new ≡ old ++ first_starts body n → new ≡ take 255 (old ++ starts_in file body)
filled file body count n old new few is room pushed =
    pushed
    ∙ ap (λ (es : List ℕ). old ++ es) (sym (first_of (λ i. section_offset body i) (section_count file body) (255 - length old) n (omega (arith, is, room))))
    ∙ sym (take_behind 255 old (starts_in file body) few)

-- one more
pub one_more : (body i : ℕ) (old starts : List ℕ) → starts ≡ old ++ first_starts body i → starts ++ section_offset body i ∷ [] ≡ old ++ first_starts body (i + 1)
one_more body i old starts so_far =
    ap (λ (es : List ℕ). es ++ section_offset body i ∷ []) so_far
    ∙ append_assoc old (first_starts body i) (section_offset body i ∷ [])
    ∙ ap (λ (es : List ℕ). old ++ es) (sym (map-range_with_len_more (λ i. section_offset body i) 0 i i (omega arith)))

pub each_start : (P : ℕ → Type 0) (body a n : ℕ) → ((i : ℕ) → i < a + n → P (section_offset body i)) → All P (map (λ i. section_offset body i) (range_with_len a n))
each_start P body a zero holds = All-nil P
each_start P body a (suc n) holds =
    All-cons P (section_offset body a) (map (λ i. section_offset body i) (range_with_len (a + 1) n)) (holds a (omega arith)) (each_start P body (a + 1) n (λ i lt. holds i (omega arith)))

-- the sections that were added have room
pub with_room : (len body n : ℕ) (old new : List ℕ) → n ≤ (len + 28 - (body + 64)) / 80 → All (λ s. s + 52 ≤ len) old → new ≡ old ++ first_starts body n → All (λ s. s + 52 ≤ len) new
with_room len body n old new le held is =
    All-same (λ s. s + 52 ≤ len) new (old ++ first_starts body n) is
    (All-append (λ s. s + 52 ≤ len) old (first_starts body n) held
    (each_start (λ s. s + 52 ≤ len) body 0 n (λ i lt. let all : (len + 28 - (body + 64)) / 80 * 80 ≤ len + 28 - (body + 64) = div-mul-le_self (len + 28 - (body + 64)) 80 in omega (arith, all, le, lt))))

module _ (file : List ℕ) where
  -- the starts so far, and what is left of the walk
  pub record SoFar (left : Walk Command) (starts : List ℕ) : Type 0 where
    pub few : length starts ≤ 255
    pub whole : take 255 (starts_among file (commands file).items) ≡ take 255 (starts ++ starts_among file left.items)
    pub end : (walk file).refusal ≡ (sections_left file left).refusal

  pub none_so_far : (left : Walk Command) (starts : List ℕ) → left ≡ commands file → starts ≡ [] → SoFar left starts
  none_so_far left starts is none = rw (is, none) (record { few = omega arith; whole = refl; end = ap (λ (w : Walk Section). w.refusal) (walk_is file) })

  module _ (command : Command) (left after : Walk Command) (starts : List ℕ) (is : left ≡ ahead_of command after) (h : SoFar left starts) where
    end_here : (walk file).refusal ≡ (sections_left file (ahead_of command after)).refusal
    end_here = h.end ∙ ap (λ (w : Walk Command). (sections_left file w).refusal) is

    whole_here : take 255 (starts_among file (commands file).items) ≡ take 255 (starts ++ starts_among file (command ∷ after.items))
    whole_here = h.whole ∙ ap (λ (w : Walk Command). take 255 (starts ++ starts_among file w.items)) is

    -- a command that isn't a segment's
    pub passed : command.kind ≢ 0x19 → SoFar after starts
    passed other = record {
      few = h.few;
      whole = whole_here ∙ ap (λ (b : Bool). take 255 (starts ++ (cond b (starts_in file (body_of command)) [] ++ starts_among file after.items))) (ne_eqb command.kind 0x19 other);
      end = end_here ∙ ap (λ (w : Walk Section). w.refusal) (other_left file command after other);
    }

    segment_here : command.kind ≡ 0x19 → take 255 (starts_among file (commands file).items) ≡ take 255 (starts ++ (starts_in file (body_of command) ++ starts_among file after.items))
    segment_here kind = whole_here ∙ ap (λ (b : Bool). take 255 (starts ++ (cond b (starts_in file (body_of command)) [] ++ starts_among file after.items))) (eq-eqb command.kind 0x19 kind)

    segment_end : command.kind ≡ 0x19 → (o : Option Refusal) → (segment file (body_of command)).refusal ≡ o → (walk file).refusal ≡ (and_then (segment file (body_of command)).items o (sections_left file after)).refusal
    segment_end kind o none =
        end_here ∙ ap (λ (w : Walk Section). w.refusal) (segment_left file command after kind)
        ∙ ap (λ (o : Option Refusal). (and_then (segment file (body_of command)).items o (sections_left file after)).refusal) none

    -- the sections of a segment are added
    pub added : (new : List ℕ) → command.kind ≡ 0x19 → (segment file (body_of command)).refusal ≡ None → new ≡ take 255 (starts ++ starts_in file (body_of command)) → SoFar after new
    added new kind none new_is = record {
      few = omega (arith, ap length new_is, length-take 255 (starts ++ starts_in file (body_of command)));
      whole =
          segment_here kind
          ∙ ap (take 255) (sym (append_assoc starts (starts_in file (body_of command)) (starts_among file after.items)))
          ∙ sym (take_again 255 (starts ++ starts_in file (body_of command)) (starts_among file after.items))
          ∙ ap (λ (es : List ℕ). take 255 (es ++ starts_among file after.items)) (sym new_is);
      end = segment_end kind None none;
    }

    -- a segment is refused, and so is the file
    pub segment_refused : (why : Refusal) → command.kind ≡ 0x19 → (segment file (body_of command)).refusal ≡ Some why → section_starts file ≡ Err why
    unfolding section_starts
    segment_refused why kind some = rw (segment_end kind (Some why) some) refl

    -- a segment has a section, and so has the file
    pub has_section : command.kind ≡ 0x19 → starts_in file (body_of command) ≢ [] → HasSection file
    has_section kind some none =
        some (nil_is (starts_in file (body_of command))
        (omega (arith, ap length (sym (ap (take 255) none) ∙ segment_here kind), length-take 255 (starts ++ (starts_in file (body_of command) ++ starts_among file after.items)), length-append starts (starts_in file (body_of command) ++ starts_among file after.items), length-append (starts_in file (body_of command)) (starts_among file after.items))))
      where
        nil_is : (xs : List ℕ) → length xs ≡ 0 → xs ≡ []
        nil_is [] e = refl
        nil_is (x ∷ xs) e = absurd (omega arith)

  -- a command is refused, and so is the file
  pub command_refused : (left : Walk Command) (starts : List ℕ) (why : Refusal) → left ≡ ended (Some why) → SoFar left starts → section_starts file ≡ Err why
  unfolding section_starts
  command_refused left starts why is h = rw (h.end ∙ ap (λ (w : Walk Command). (sections_left file w).refusal) is ∙ ap (λ (w : Walk Section). w.refusal) (no_left file (Some why))) refl

  -- nothing is left
  pub all_so_far : (left : Walk Command) (starts : List ℕ) → left ≡ ended None → SoFar left starts → section_starts file ≡ Ok starts
  unfolding section_starts
  all_so_far left starts is h =
      rw (h.end ∙ ap (λ (w : Walk Command). (sections_left file w).refusal) is ∙ ap (λ (w : Walk Section). w.refusal) (no_left file None))
      (ap Ok (h.whole ∙ ap (λ (w : Walk Command). take 255 (starts ++ starts_among file w.items)) is ∙ ap (take 255) (append-nil starts) ∙ take_all 255 starts h.few))

-- what the call returns of a refusal, and of an error that a `?` passes on
abbrev Starts : List ℕ → ParseError → Type 0
Starts file e = (section_starts file ≡ Err (refusal_of e)) ⊎ ((refusal_of e ≡ out_of_memory) × HasSection file)

pub returns_refusal : {X : Type 0} (file : List ℕ) (result : Result X ParseError) (Q : X → Type 0) (why : Refusal) → IsErrAnd result (λ e. refusal_of e ≡ why) → section_starts file ≡ Err why → MatchResult result Q (Starts file)
returns_refusal file (Ok x) Q why is at = absurd is
returns_refusal file (Err e) Q why is at = inl (at ∙ ap Err (sym is))

pub returns_error : {X : Type 0} (file : List ℕ) (result : Result X ParseError) (Q : X → Type 0) (error : ParseError) → IsErrAnd result (λ e. e ≡ error) → Starts file error → MatchResult result Q (Starts file)
returns_error file (Ok x) Q error is p = absurd is
returns_error file (Err e) Q error is p = subst (Starts file) (sym is) p

-- an allocation failed
pub out_of_memory_returns : {X : Type 0} (N : Type 0) (P : ParseError → Type 0) (Q : X → Type 0) (result : Result X ParseError) → N → IsErrAnd result (λ e. e ≡ OutOfMemory)
    → MatchResult result Q (λ e. P e ⊎ ((refusal_of e ≡ out_of_memory) × N))
out_of_memory_returns N P Q (Ok x) needs is = absurd is
out_of_memory_returns N P Q (Err e) needs is = inr (ap refusal_of is, needs)
