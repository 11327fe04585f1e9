use Rattle.std.proofs.Common.{◌≡◌, ◌++◌, ℕ, List, Option, Some, None, ap, sym, subst, ◌∙◌}
use Rattle.std.proofs.lemmas.Result.{on_ok_weaker}
use Rattle.binfarce_rows.specs.Json as json
use Rattle.binfarce_addresses.specs.Stream.{IsAnswerIn}
use Rattle.binfarce_addresses.specs.Places.{IsShownAt}
use Rattle.binfarce_addresses.specs.machine.Places.{IsFoundFor}
use Rattle.binfarce_addresses.proofs.AddressLines.{added, shown_line, unknown_line}
use Rattle.binfarce_addresses.proofs.names.Names.push_plain.Goals as goal

pub returns-in_ok-push_name-in-Some-found-clause-answer : goal.returns-in_ok-push_name-in-Some-found-clause-answer
returns-in_ok-push_name-in-Some-found-clause-answer c =
    let entries = c.args.self.now.0 in
    let lookup = c.args.self.now.1 in
    let address = c.in-Some.address in
    let found = c.in-Some-found in
    let shown : IsShownAt entries lookup address (Some (found.place, found.offset)) =
    subst (λ (o : Option (ℕ × ℕ)). IsFoundFor entries lookup (Some address) o) found.is (subst (λ (a : Option ℕ). IsFoundFor entries lookup a c.args.answer.found) c.in-Some.is c.requires) in
    let written = c.in_ok-push_name-in-Some-found.ensures.name in
    let named = written.1 shown.0 shown.2 in
    let A : Option ℕ → Type 0 = λ a. (answer : List ℕ) × IsAnswerIn json.lines entries lookup a answer × (c.push_offset.new.text.items ≡ c.args.text.now.items ++ answer) in
    on_ok_weaker c.push_offset.result (λ offset. subst A (sym c.in-Some.is)
    (shown_line entries lookup address found.offset shown.0 named.0 c.args.text.now.items c.push_address.new.text.items c.push_name.new.text.items c.push_offset.new.text.items shown.1 named.1 c.in_ok-push_address.ensures
    (written.2 ∙ ap (λ (xs : List ℕ). c.push_address.new.text.items ++ xs) named.2) offset)) c.push_offset.ensures

pub returns-in-None-clause-answer : goal.returns-in-None-clause-answer
returns-in-None-clause-answer c =
    let entries = c.args.self.now.0 in
    let lookup = c.args.self.now.1 in
    let address = c.in-Some.address in
    let none : IsShownAt entries lookup address None =
    subst (λ (o : Option (ℕ × ℕ)). IsFoundFor entries lookup (Some address) o) c.in-None.is (subst (λ (a : Option ℕ). IsFoundFor entries lookup a c.args.answer.found) c.in-Some.is c.requires) in
    let new = c.extend_from_slice-in-None.new.self.items in
    let A : Option ℕ → Type 0 = λ a. (answer : List ℕ) × IsAnswerIn json.lines entries lookup a answer × (new ≡ c.args.text.now.items ++ answer) in
    on_ok_weaker c.extend_from_slice-in-None.result (λ items. subst A (sym c.in-Some.is) (unknown_line entries lookup address c.args.text.now.items c.push_address.new.text.items new none c.in_ok-push_address.ensures items)) (added c.extend_from_slice-in-None.result _ _ _ c.extend_from_slice-in-None.ensures.items)
