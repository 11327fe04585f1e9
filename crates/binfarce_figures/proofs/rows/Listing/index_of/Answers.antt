use Rattle.std.proofs.Common.{◌≡◌, List, length, rules, subst, sym}
use Rattle.std.specs.Global.{Global}
use Rattle.std.specs.Prelude.{String}
use Rattle.binfarce_figures.specs.machine.Listings.{IsTextAt}
use Rattle.binfarce_figures.proofs.NamedRows.{last_at}
use Rattle.binfarce_figures.proofs.rows.Listing.index_of.Goals.{In_ok-push}

at_last : (c : In_ok-push) → IsTextAt c.args.self.now.shown.now.naming c.push.new.self.items c.args.name.now c.len-index.result
at_last c =
    let naming = c.args.self.now.shown.now.naming in
    let texts = c.args.texts.now.texts.items in
    let is : c.len-index.result ≡ length texts = search rules in
    subst (λ (ts : List (String Global)). IsTextAt naming ts c.args.name.now c.len-index.result) (sym c.in_ok-push.ensures.items) (last_at naming texts c.put_name.new.text c.args.name.now c.len-index.result is c.in_ok-put_name.ensures)
