use Rattle.std.proofs.Common.{◌≡◌, ℕ, Bor, List, nat_cmp, rules}
use Rattle.std.proofs.lemmas.Fn.{always_returns_same}
use Rattle.std.specs.Cmp.Lexicographic.{slice_cmp}
use Rattle.binfarce_figures.specs.declared.order.Row.{Row}
use Rattle.binfarce_figures.proofs.Ordered.{by_key_as}
use Rattle.binfarce_figures.proofs.order.sort_by_name.Goals as goal

pub returns : goal.returns
returns c =
    let sorted = c.sort_by_key.ensures in
    by_key_as _ _ (λ (r : Row). r.name) (λ (a b : Bor (List ℕ)). slice_cmp nat_cmp a.now b.now) (λ (r : Row). r.name.now) (slice_cmp nat_cmp) c.args.rows.now.items c.sort_by_key.new.self.items c.sort_by_key.result
    (always_returns_same _ (λ a r. r ≡ a.0.now.name) _ (λ a r q k. search rules)) sorted.permutation sorted.sorted sorted.stable (λ s. s) (λ s. s)
