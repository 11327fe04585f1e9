use Rattle.std.proofs.Common.{◌≡◌, ℕ, List, ◌∷◌, [], ◌++◌, length, get_or, true, false, nat_eq, codes, ap, sym, ◌∙◌}
use Rattle.std.proofs.lemmas.Str.{encodes-IsAscii}
use Rattle.std.specs.List.{starts_with}
use Rattle.std.specs.Str.{encode_utf8_all}
use Rattle.std.specs.String.{string_bytes}
use Rattle.binfarce_legacy.specs.Legacy.{Piece, first_piece}
use Rattle.binfarce_legacy.proofs.PieceLemmas.{first_piece-dots, first_piece-dot}
use Rattle.binfarce_text.proofs.TextLemmas.{take_one}
use Rattle.binfarce_legacy.proofs.legacy.push_piece.Goals as goal

pub returns-then-starts_with-clause-len : goal.returns-then-starts_with-clause-len
returns-then-starts_with-clause-len c =
    let h : starts_with nat_eq c.args.name.now (codes "..") ≡ true =
    ap (λ (x : List ℕ). starts_with nat_eq x (codes "..")) (sym c.as_bytes-bytes.ensures.value) ∙ sym c.if-starts_with.ensures.value in
    ap (λ (p : Piece). p.len) (sym (first_piece-dots c.args.name.now h))

pub returns-then-starts_with-clause-bytes : goal.returns-then-starts_with-clause-bytes
unfolding lib.Utf8.encode
returns-then-starts_with-clause-bytes c =
    let h : starts_with nat_eq c.args.name.now (codes "..") ≡ true =
    ap (λ (x : List ℕ). starts_with nat_eq x (codes "..")) (sym c.as_bytes-bytes.ensures.value) ∙ sym c.if-starts_with.ensures.value in
    c.in_ok-push_str.ensures.bytes
    ∙ ap (λ (p : Piece). string_bytes c.args.text.now ++ encode_utf8_all p.chars) (sym (first_piece-dots c.args.name.now h))

pub returns-then-bytes-eq46-clause-len : goal.returns-then-bytes-eq46-clause-len
returns-then-bytes-eq46-clause-len c =
    let h : starts_with nat_eq c.args.name.now (codes "..") ≡ false =
    ap (λ (x : List ℕ). starts_with nat_eq x (codes "..")) (sym c.as_bytes-bytes.ensures.value) ∙ sym c.if-starts_with.ensures.value in
    let dot : get_or c.args.name.now 0 0 ≡ 46 = ap (λ (x : List ℕ). get_or x 0 0) (sym c.as_bytes-bytes.ensures.value) ∙ c.if-bytes-eq46.true in
    ap (λ (p : Piece). p.len) (sym (first_piece-dot c.args.name.now h dot))

pub returns-then-bytes-eq46-clause-bytes : goal.returns-then-bytes-eq46-clause-bytes
unfolding lib.Utf8.encode
returns-then-bytes-eq46-clause-bytes c =
    let h : starts_with nat_eq c.args.name.now (codes "..") ≡ false =
    ap (λ (x : List ℕ). starts_with nat_eq x (codes "..")) (sym c.as_bytes-bytes.ensures.value) ∙ sym c.if-starts_with.ensures.value in
    let dot : get_or c.args.name.now 0 0 ≡ 46 = ap (λ (x : List ℕ). get_or x 0 0) (sym c.as_bytes-bytes.ensures.value) ∙ c.if-bytes-eq46.true in
    let old : List ℕ = string_bytes c.args.text.now in
    c.in_ok-push.ensures.bytes
    ∙ ap (λ (x : List ℕ). old ++ encode_utf8_all x) (sym (take_one c.args.name.now c.requires.some ∙ ap (λ (x : ℕ). x ∷ []) dot))
    ∙ ap (λ (p : Piece). old ++ encode_utf8_all p.chars) (sym (first_piece-dot c.args.name.now h dot))

pub returns-in_ok-push_str-in-None-clause-bytes : goal.returns-in_ok-push_str-in-None-clause-bytes
returns-in_ok-push_str-in-None-clause-bytes c =
    let name : List ℕ = c.args.name.now in
    let old : List ℕ = string_bytes c.args.text.now in
    let same = c.as_bytes-bytes.ensures.value in
    let whole : List ℕ → Piece = λ x. record { len = length x; chars = x } in
    let piece : first_piece name ≡ whole name = ap first_piece (sym same) ∙ c.in-None.ensures.value ∙ ap whole same in
    c.in_ok-push_str-in-None.ensures.bytes
    ∙ ap (λ (x : List ℕ). old ++ x) (sym (encodes-IsAscii name c.requires.ascii))
    ∙ ap (λ (p : Piece). old ++ encode_utf8_all p.chars) (sym piece)
