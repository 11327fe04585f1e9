use Rattle.std.proofs.Common.{◌≡◌, ◌∙◌, List, ap, map, rules, subst, sym}
use Rattle.std.proofs.lemmas.Fn.{always_returns_same}
use Rattle.std.proofs.lemmas.List.Sorted.{IsPermutation-map}
use Rattle.std.proofs.lemmas.Result.{IfOk-weaker}
use Rattle.binfarce.specs.SymbolViews.{section_function_view}
use Rattle.binfarce_bytes.specs.declared.functions.SectionFunction.{SectionFunction}
use Rattle.binfarce_figures.specs.Claims.{IsInward, claimed, inner_cmp}
use Rattle.binfarce_figures.specs.machine.Falling.{Falls, inner_key}
use Rattle.binfarce_figures.proofs.Falling.{falls}
use Rattle.binfarce_figures.proofs.Ordered.{sorted_map}
use Rattle.binfarce_figures.proofs.claims.claims_of.Goals.{In_ok-sort_by_key}
use Rattle.binfarce_figures.proofs.claims.claims_of.Goals as goal

inward : (c : In_ok-sort_by_key) → IsInward (map section_function_view c.args.functions.items) (map section_function_view c.sort_by_key.new.self.items)
inward c =
    let sorted = c.in_ok-sort_by_key.ensures in
    record {
      same = IsPermutation-map section_function_view _ _ sorted.permutation;
      rises = sorted_map section_function_view inner_cmp c.sort_by_key.new.self.items (sorted.sorted inner_key (always_returns_same _ (λ a r. r ≡ inner_key a.0.now) _ (λ a r q k. search rules)));
    }

pub claimed-requires : goal.claimed-requires
claimed-requires c = subst (λ (fs : List SectionFunction). Falls (map section_function_view fs)) (sym c.deref.ensures.value) (falls (map section_function_view c.sort_by_key.new.self.items) (inward (goal.at.claimed-requires c).In_ok-sort_by_key).rises)

pub returns : goal.returns
returns c =
    IfOk-weaker c.claimed.result _ _ (λ v is. (map section_function_view c.sort_by_key.new.self.items, inward (goal.at.returns c).In_ok-sort_by_key, is ∙ ap (λ (fs : List SectionFunction). claimed (map section_function_view fs)) c.deref.ensures.value)) c.claimed.ensures
