use Rattle.std.proofs.Common.{◌≡◌, ◌++◌, ◌∙◌, ℕ, List, Option, Some, refl, sym, ap, subst, append_assoc}
use Rattle.std.specs.Prelude.{codes}
use Rattle.std.specs.String.{string_bytes}
use Rattle.std.proofs.lemmas.Result.{on_ok_weaker}
use Rattle.binfarce_rows.specs.Json.{number_member, text_member}
use Rattle.binfarce.specs.Symbol.{Entry}
use Rattle.binfarce.specs.SymbolViews.{function_view}
use Rattle.binfarce_addresses.specs.declared.lookup.Lookup.{Lookup}
use Rattle.binfarce_addresses.specs.Places.{IsAtPlace, IsNamedAt}
use Rattle.binfarce_addresses.specs.machine.Places.{IsSymbolAt}
use Rattle.binfarce_addresses.proofs.Kept.{named}
use Rattle.binfarce_addresses.proofs.names.Names.push_symbol.Goals as goal

pub returns-clause-symbol : goal.returns-clause-symbol
returns-clause-symbol c =
    let entries = c.args.self.now.0 in
    let offset_is = c.in-Some.offset in
    let member = c.in_ok-push_name_member.ensures.name in
    let symbol : Option (List ℕ × ℕ) = Some (member.0, offset_is) in
    let shift = number_member (codes "offset") offset_is in
    on_ok_weaker c.push_number_member.result (λ offset. (
      symbol,
      subst (λ (o : Option (ℕ × ℕ)). IsSymbolAt entries o symbol) (sym c.in-Some.is) (member.0, member.1, refl),
      offset ∙ ap (λ (xs : List ℕ). xs ++ shift) member.2 ∙ append_assoc (string_bytes c.args.text.now) (text_member (codes "name") (Some member.0)) shift,
    )) c.push_number_member.ensures
