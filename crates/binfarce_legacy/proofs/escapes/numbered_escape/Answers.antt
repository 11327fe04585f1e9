use Rattle.std.proofs.Common.{◌≡◌, ℕ, ◌+◌, ◌-◌, List, [], ◌∷◌, length, drop, take, get_or, min, Option, Some, ap, sym, ◌∙◌, arith}
use Rattle.std.proofs.lemmas.Bool.{both_ways}
use Rattle.std.proofs.lemmas.List.{take_rest, get_or_past}
use Rattle.std.specs.List.{prefix_len}
use Rattle.std.specs.Str.Parse.{digits_value}
use Rattle.binfarce_text.specs.Letters.{is_hex_digit}
use Rattle.binfarce_legacy.specs.Legacy.{Piece, is_printed}
use Rattle.binfarce_legacy.proofs.PieceLemmas.{IsNumbered, numbered-some, numbered-none, printed_held, not_printed_held}
use Rattle.binfarce_legacy.proofs.escapes.numbered_escape.Goals as goal
use Rattle.binfarce_legacy.proofs.escapes.numbered_escape.Goals.{else-digits-gt0-via-then-digits-gt0+then-end-name+then-name-end-eq36+else-is_printed, else-digits-gt0-via-then-digits-gt0+then-end-name+else-name-end-eq36, else-digits-gt0-via-then-digits-gt0+else-end-name, else-digits-gt0-via-else-digits-gt0}

pub returns-in_ok-from_u32-clause-value : goal.returns-in_ok-from_u32-clause-value
returns-in_ok-from_u32-clause-value c =
    let name : List ℕ = c.args.name.now in
    let u : List ℕ = drop 2 name in
    let same = take_rest name 2 in
    let n : ℕ = prefix_len is_hex_digit u in
    let v : ℕ = digits_value 16 (take n u) in
    let run : c.hex_count-digits.result.0 ≡ n = c.hex_count-digits.ensures.digits ∙ ap (prefix_len is_hex_digit) same in
    let value : digits_value 16 (take c.hex_count-digits.result.0 (take (length name - 2) u)) ≡ v =
    ap (λ (x : List ℕ). digits_value 16 (take c.hex_count-digits.result.0 x)) same ∙ ap (λ k. digits_value 16 (take k u)) run in
    let held : c.hex_count-digits.result.1 ≡ min v 0x110000 = c.hex_count-digits.ensures.number ∙ ap (λ k. min k 0x110000) value in
    let code : v ≡ c.hex_count-digits.result.1 = printed_held v c.hex_count-digits.result.1 held (sym c.if-is_printed.ensures) in
    let is : IsNumbered name = record {
      begins = c.requires;
      some = omega (arith, run);
      ends = ap (λ k. get_or name (2 + k) 0) (sym run) ∙ c.if-name-end-eq36.true;
      printed = ap is_printed code ∙ sym c.if-is_printed.ensures;
    } in
    let make : ℕ → ℕ → Option Piece = λ len c. Some (record { len = len; chars = c ∷ [] }) in
    sym (numbered-some name is
    ∙ ap (λ k. make k v) (let e : 3 + n ≡ 2 + c.hex_count-digits.result.0 + 1 = omega (arith, run) in e)
    ∙ ap (make (2 + c.hex_count-digits.result.0 + 1)) (code ∙ sym c.in_ok-from_u32.ensures.value.1))

pub returns-else-digits-gt0-clause-value : goal.returns-else-digits-gt0-clause-value
returns-else-digits-gt0-clause-value c =
    let name : List ℕ = c.args.name.now in
    let u : List ℕ = drop 2 name in
    let same = take_rest name 2 in
    let n : ℕ = prefix_len is_hex_digit u in
    let v : ℕ = digits_value 16 (take n u) in
    let run : c.hex_count-digits.result.0 ≡ n = c.hex_count-digits.ensures.digits ∙ ap (prefix_len is_hex_digit) same in
    let value : digits_value 16 (take c.hex_count-digits.result.0 (take (length name - 2) u)) ≡ v =
    ap (λ (x : List ℕ). digits_value 16 (take c.hex_count-digits.result.0 x)) same ∙ ap (λ k. digits_value 16 (take k u)) run in
    let held : c.hex_count-digits.result.1 ≡ min v 0x110000 = c.hex_count-digits.ensures.number ∙ ap (λ k. min k 0x110000) value in
    sym (numbered-none name (λ is. elim c.else-digits-gt0.branch [
      | else-digits-gt0-via-then-digits-gt0+then-end-name+then-name-end-eq36+else-is_printed w ↦
          both_ways (is_printed v) (not_printed_held v c.hex_count-digits.result.1 held (sym w.if-is_printed.ensures)) is.printed
      | else-digits-gt0-via-then-digits-gt0+then-end-name+else-name-end-eq36 w ↦
          w.if-name-end-eq36.false (ap (λ k. get_or name (2 + k) 0) run ∙ is.ends)
      | else-digits-gt0-via-then-digits-gt0+else-end-name w ↦
          omega (arith, is.ends, get_or_past name (2 + n) 0 (omega (arith, run, w.if-end-name.false)))
      | else-digits-gt0-via-else-digits-gt0 w ↦ omega (arith, is.some, run, w.if-digits-gt0.false)
    ]))
