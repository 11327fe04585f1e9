use Rattle.std.proofs.Common.{◌≡◌, ℕ, ◌+◌, List, length, drop, take, refl, ap, ◌∙◌, arith}
use Rattle.std.proofs.lemmas.List.{take_rest}
use Rattle.std.proofs.lemmas.List.Sums.{prefix_len-le-length}
use Rattle.std.specs.Char.{is_ascii_digit}
use Rattle.std.specs.List.{prefix_len}
use Rattle.std.specs.Str.Parse.{digits_value}
use Rattle.binfarce_legacy.specs.machine.Reading.{name_start, name_end}
use Rattle.binfarce_legacy.proofs.elements.element.Goals as goal

pub returns-then-digits-eq0 : goal.returns-then-digits-eq0
unfolding name_start
returns-then-digits-eq0 c =
    let u : List ℕ = drop c.args.at c.args.text.now in
    let run : c.count-digits.result.0 ≡ name_start u = c.count-digits.ensures.digits ∙ ap (prefix_len is_ascii_digit) (take_rest c.args.text.now c.args.at) in
    λ h. omega (arith, run, h.0)

pub returns-then-rest-digits : goal.returns-then-rest-digits
unfolding name_start name_end
returns-then-rest-digits c =
    let u : List ℕ = drop c.args.at c.args.text.now in
    let same = take_rest c.args.text.now c.args.at in
    let run : c.count-digits.result.0 ≡ name_start u = c.count-digits.ensures.digits ∙ ap (prefix_len is_ascii_digit) same in
    let value = ap (λ (x : List ℕ). digits_value 10 (take c.count-digits.result.0 x)) same ∙ ap (λ n. digits_value 10 (take n u)) run in
    let end : name_end u ≡ name_start u + digits_value 10 (take (name_start u) u) = refl in
    λ h. omega (arith, run, value, end, c.count-digits.ensures.number, ap length same, h.0, h.1)

pub returns : goal.returns
unfolding name_start name_end
returns c =
    let u : List ℕ = drop c.args.at c.args.text.now in
    let same = take_rest c.args.text.now c.args.at in
    let run : c.count-digits.result.0 ≡ name_start u = c.count-digits.ensures.digits ∙ ap (prefix_len is_ascii_digit) same in
    let value = ap (λ (x : List ℕ). digits_value 10 (take c.count-digits.result.0 x)) same ∙ ap (λ n. digits_value 10 (take n u)) run in
    let end : name_end u ≡ name_start u + digits_value 10 (take (name_start u) u) = refl in
    let first : c.args.at + c.count-digits.result.0 ≡ c.args.at + name_start u = omega (arith, run) in
    let last : c.args.at + c.count-digits.result.0 + c.count-digits.result.1 ≡ c.args.at + name_end u =
    omega (arith, run, value, end, c.count-digits.ensures.number, ap length same) in
    ((omega (arith, run), omega (arith, run, value, end, c.count-digits.ensures.number, ap length same, prefix_len-le-length is_ascii_digit u)), cc)
