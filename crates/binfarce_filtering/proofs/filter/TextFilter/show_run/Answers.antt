use Rattle.std.proofs.Common.{ℕ, List, ◌≡◌, ◌++◌, ◌∙◌, true, false, ap, sym, subst}
use Rattle.binfarce_filtering.specs.Filter.{IsShown, is_run, is_too_long}
use Rattle.binfarce_filtering.specs.FilterViews.{Shows}
use Rattle.binfarce_filtering.proofs.Parts.{kept_shows, last_write, on_ok, passed_shows}
use Rattle.binfarce_filtering.proofs.filter.TextFilter.show_run.Goals as goal

pub returns-then-is_too_long-clause-shown : goal.returns-then-is_too_long-clause-shown
returns-then-is_too_long-clause-shown c =
    let old = c.args.self.now in
    let bytes = c.args.bytes.now in
    let too_long : is_too_long old.run.items ≡ true = ap is_too_long (sym c.as_slice.ensures.value) ∙ sym c.if-is_too_long.ensures in
    last_write c.extend_from_slice.result (Shows old bytes) c.args.out.now.items c.extend_from_slice.new.self.items bytes c.extend_from_slice.ensures.items (passed_shows old bytes too_long)

pub push_run-requires : goal.push_run-requires
push_run-requires c =
    let P : List ℕ → Type 0 = λ x. is_run x ≡ true in
    subst P (sym (c.as_slice-2.ensures.value ∙ c.in_ok-extend_from_slice.ensures.items)) c.requires

pub returns-clause-shown : goal.returns-clause-shown
returns-clause-shown c =
    let old = c.args.self.now in
    let bytes = c.args.bytes.now in
    let all = c.as_slice-2.result.now in
    let out = c.args.out.now.items in
    let short : is_too_long old.run.items ≡ false = ap is_too_long (sym c.as_slice.ensures.value) ∙ sym c.if-is_too_long.ensures in
    on_ok ((shown : List ℕ) × IsShown old.full all shown × (c.push_run.new.out.items ≡ out ++ shown)) ((more : List ℕ) × Shows old bytes more × (c.push_run.new.out.items ≡ out ++ more)) c.push_run.result
    (λ s. (s.0, kept_shows old bytes all s.0 short (c.as_slice-2.ensures.value ∙ c.in_ok-extend_from_slice.ensures.items) s.1, s.2)) c.push_run.ensures
