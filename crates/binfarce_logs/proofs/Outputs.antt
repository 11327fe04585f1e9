-- Each text has exactly one annotated text.
use Rattle.std.proofs.Common.{◌≡◌, ℕ, zero, suc, ◌<◌, ◌≤◌, Bool, true, false, List, [], ◌∷◌, ◌++◌, length, take, drop, get_or, codes, Option, Some, None, inl, inr, refl, sym, ◌∙◌, ap, subst, arith, length-drop}
use Rattle.std.proofs.lemmas.Bool.{cases_lt}
use Rattle.std.specs.Prelude.{Result, Ok, Err}
use Rattle.std.specs.Fmt.{digits}
use Rattle.binfarce.specs.Symbol.{Entry}
use Rattle.binfarce_filtering.specs.Laws.{HasAnOutput, HasOneOutput}
use Rattle.binfarce_filtering.proofs.Suffixed.{has_shown, one_shown}
use Rattle.binfarce_rows.specs.Address.{address_of}
use Rattle.binfarce_logs.specs.Annotated.{ArePiecesAfter, File, IsAddedFor, IsAnnotated, IsPieceFor, IsPieceOf, Piece, found_by, other, reply_for, text_of}
use Rattle.binfarce_logs.specs.Annotated.ArePiecesAfter.{nothing, other_then, address_then}
use Rattle.binfarce_addresses.specs.declared.counts.Reply.{Reply}
use Rattle.binfarce_addresses.specs.Lines.{IsPlaceOf}
use Rattle.binfarce_logs.specs.Word.{address_len}

place : (entry : Entry) (offset : ℕ) → (text : List ℕ) × IsPlaceOf entry offset text
place entry offset = let name = has_shown entry.name in (_, (name.0, name.1, refl))

one_place : (entry : Entry) (offset : ℕ) (first second : List ℕ) → IsPlaceOf entry offset first → IsPlaceOf entry offset second → first ≡ second
one_place entry offset first second is also =
    let number : List ℕ = codes "+0x" ++ digits 16 false offset in
    is.2 ∙ ap (λ (x : List ℕ). x ++ number) (one_shown entry.name is.0 also.0 is.1 also.1) ∙ sym also.2

added_for : (found : Result (Option (Entry × ℕ)) Reply) → (added : List ℕ) × IsAddedFor found added
added_for (Err reply) = ([], refl)
added_for (Ok None) = ([], refl)
added_for (Ok (Some (entry, offset))) = let at = place entry offset in (_, (at.0, at.1, refl))

one_added_for : (found : Result (Option (Entry × ℕ)) Reply) (first second : List ℕ) → IsAddedFor found first → IsAddedFor found second → first ≡ second
one_added_for (Err reply) first second is also = is ∙ sym also
one_added_for (Ok None) first second is also = is ∙ sym also
one_added_for (Ok (Some (entry, offset))) first second is also =
    is.2 ∙ ap (λ (x : List ℕ). codes " <" ++ (x ++ codes ">")) (one_place entry offset is.0 also.0 is.1 also.1) ∙ sym also.2

piece_for : (found : Result (Option (Entry × ℕ)) Reply) (word : List ℕ) → (piece : Piece) × IsPieceFor found word piece
piece_for found word = let added = added_for found in ((word ++ added.0, reply_for found ∷ []), (added.0, added.1, refl, refl))

one_piece_for : (found : Result (Option (Entry × ℕ)) Reply) (word : List ℕ) (first second : Piece) → IsPieceFor found word first → IsPieceFor found word second → first ≡ second
one_piece_for found word (a, x) (b, y) (added, is, text, answers) (more, also, other_text, others) =
    let same = one_added_for found added more is also in
    let texts : a ≡ b = text ∙ ap (λ (t : List ℕ). word ++ t) same ∙ sym other_text in
    let marks : x ≡ y = answers ∙ sym others in
    ap (λ (t : List ℕ). (t, x)) texts ∙ ap (λ (m : List Reply). (b, m)) marks

pieces_within : (files : List File) (bare : Bool) (most : ℕ) (before text : List ℕ) → length text ≤ most → (pieces : List Piece) × ArePiecesAfter files bare before text pieces
pieces_within files bare most before [] short = ([], nothing before)
pieces_within files bare zero before (b ∷ text) short = absurd (omega (arith, short))
pieces_within files bare (suc most) before (b ∷ text) short =
    let all : List ℕ = b ∷ text in
    let len : ℕ = address_len bare before all in
    elim (cases_lt 0 len) [
      | inl some ↦
          let piece = piece_for (found_by files before (address_of (take len all))) (take len all) in
          let rest = pieces_within files bare most (before ++ take len all) (drop len all) (omega (arith, short, some, length-drop len all)) in
          (piece.0 ∷ rest.0, address_then before all piece.0 rest.0 some piece.1 rest.1)
      | inr none ↦
          let rest = pieces_within files bare most (before ++ b ∷ []) text (omega (arith, short)) in
          (other b ∷ rest.0, other_then before b text rest.0 (omega (arith, none)) rest.1)
    ]

pub has_pieces_after : (files : List File) (bare : Bool) (before text : List ℕ) → (pieces : List Piece) × ArePiecesAfter files bare before text pieces
has_pieces_after files bare before text = pieces_within files bare (length text) before text (omega arith)

pub has_output : (files : List File) (bare : Bool) (text : List ℕ) → HasAnOutput (IsAnnotated files bare) text
has_output files bare text = let pieces = has_pieces_after files bare [] text in (text_of pieces.0, (pieces.0, pieces.1, refl))

apart : (bare : Bool) (before behind text other : List ℕ) → address_len bare before text ≡ 0 → 0 < address_len bare behind other → before ≡ behind → text ≡ other → ⊥
apart bare before behind text other none some from same =
    let both = ap (address_len bare before) same ∙ ap (λ (x : List ℕ). address_len bare x other) from in omega (arith, none, some, both)

empty : (bare : Bool) (before : List ℕ) → address_len bare before [] ≡ 0
empty false before = refl
empty true before = refl

first_of : (b c : ℕ) (text other : List ℕ) → b ∷ text ≡ c ∷ other → b ≡ c
first_of b c text other same = ap (λ (x : List ℕ). get_or x 0 0) same

same_pieces : (files : List File) (bare : Bool) (before behind text rest : List ℕ) (pieces also : List Piece) → ArePiecesAfter files bare before text pieces → ArePiecesAfter files bare behind rest also → before ≡ behind → text ≡ rest → pieces ≡ also
same_pieces files bare _ _ _ _ _ _ (nothing before) (nothing behind) from same = refl
same_pieces files bare _ _ _ _ _ _ (nothing before) (other_then behind c rest also none more) from same = absurd cc
same_pieces files bare _ _ _ _ _ _ (nothing before) (address_then behind rest piece also some is more) from same = absurd (apart bare before behind [] rest (empty bare before) some from same)
same_pieces files bare _ _ _ _ _ _ (other_then before b text pieces none more) (nothing behind) from same = absurd cc
same_pieces files bare _ _ _ _ _ _ (other_then before b text pieces none more) (other_then behind c rest also too others) from same =
    let first = first_of b c text rest same in
    ap (λ (x : List Piece). other b ∷ x) (same_pieces files bare (before ++ b ∷ []) (behind ++ c ∷ []) text rest pieces also more others (ap (λ (x : List ℕ). x ++ b ∷ []) from ∙ ap (λ (x : ℕ). behind ++ x ∷ []) first) (ap (drop 1) same)) ∙ ap (λ (x : ℕ). other x ∷ also) first
same_pieces files bare _ _ _ _ _ _ (other_then before b text pieces none more) (address_then behind rest piece also some is others) from same = absurd (apart bare before behind (b ∷ text) rest none some from same)
same_pieces files bare _ _ _ _ _ _ (address_then before text piece pieces some is more) (nothing behind) from same = absurd (apart bare behind before [] text (empty bare behind) some (sym from) (sym same))
same_pieces files bare _ _ _ _ _ _ (address_then before text piece pieces some is more) (other_then behind c rest also none others) from same = absurd (apart bare behind before (c ∷ rest) text none some (sym from) (sym same))
same_pieces files bare _ _ _ _ _ _ (address_then before text piece pieces some is more) (address_then behind rest last also too this others) from same =
    let len : List ℕ → List ℕ → ℕ = λ x y. address_len bare x y in
    let front : List ℕ → List ℕ → List ℕ = λ x y. take (len x y) y in
    let left : List ℕ → List ℕ → List ℕ = λ x y. drop (len x y) y in
    let fronts : front before text ≡ front behind rest = ap (front before) same ∙ ap (λ (x : List ℕ). front x rest) from in
    let lefts : left before text ≡ left behind rest = ap (left before) same ∙ ap (λ (x : List ℕ). left x rest) from in
    let heads : piece ≡ last = one_piece_for (found_by files behind (address_of (front behind rest))) (front behind rest) piece last
    (subst (λ x. IsPieceOf files x (front behind rest) piece) from (subst (λ x. IsPieceOf files before x piece) fronts is)) this in
    let tails : pieces ≡ also = same_pieces files bare (before ++ front before text) (behind ++ front behind rest) (left before text) (left behind rest) pieces also more others
    (ap (λ (x : List ℕ). x ++ front before text) from ∙ ap (λ (x : List ℕ). behind ++ x) fronts) lefts in
    ap (λ (x : Piece). x ∷ pieces) heads ∙ ap (λ (x : List Piece). last ∷ x) tails

pub one_output : (files : List File) (bare : Bool) (text : List ℕ) → HasOneOutput (IsAnnotated files bare) text
one_output files bare text first second is also = is.2 ∙ ap text_of (same_pieces files bare [] [] text text is.0 also.0 is.1 also.1 refl refl) ∙ sym also.2
