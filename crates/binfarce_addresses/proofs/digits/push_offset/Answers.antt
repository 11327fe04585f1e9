use Rattle.std.proofs.Common.{◌≡◌, ◌∙◌, ◌-◌, ◌++◌, ◌∷◌, [], List, ℕ, false, take, drop, ap, arith, append_assoc, length-drop}
use Rattle.std.specs.Prelude.{codes}
use Rattle.std.specs.Fmt.{digits}
use Rattle.std.proofs.lemmas.List.{take_all}
use Rattle.binfarce_addresses.proofs.Numbers.{shown_from}
use Rattle.binfarce_addresses.proofs.digits.push_offset.Goals as goal

pub returns : goal.returns
returns c =
    let zeros = c.min-zeros.result in
    let all = c.digits_of.result in
    let number = digits 16 false c.args.offset in
    let part : take (16 - zeros) (drop zeros all) ≡ number =
    take_all (16 - zeros) (drop zeros all) (omega (arith, length-drop zeros all)) ∙ ap (drop zeros) c.digits_of.ensures ∙ shown_from c.args.offset zeros (omega arith) c.min-zeros.ensures in
    let signed = c.in_ok-extend_from_slice-2.ensures.items ∙ ap (λ (xs : List ℕ). c.extend_from_slice.new.self.items ++ xs) part ∙ ap (λ (xs : List ℕ). xs ++ number) c.in_ok-extend_from_slice.ensures.items in
    c.in_ok-push.ensures.items ∙ ap (λ (xs : List ℕ). xs ++ c.args.end ∷ []) signed ∙ append_assoc (c.args.text.now.items ++ codes "+0x") number (c.args.end ∷ [])
    ∙ append_assoc c.args.text.now.items (codes "+0x") (number ++ c.args.end ∷ [])
