use Rattle.std.proofs.Common.{ℕ, List, ◌≡◌, ◌++◌, ◌+◌, ◌-◌, ◌<◌, [], ◌∷◌, true, length, take, drop, get_or, refl, subst, arith}
use Rattle.std.specs.List.{list_all}
use Rattle.std.proofs.lemmas.List.{take_all}
use Rattle.binfarce_filtering.specs.Filter.{is_run_byte}
use Rattle.binfarce_filtering.specs.FilterViews.{Goes}
use Rattle.binfarce_filtering.proofs.Parts.{after_run, both_parts, none_kept, on_ok, some_kept}
use Rattle.binfarce_filtering.proofs.Runs.{from_here}
use Rattle.binfarce_filtering.proofs.Scans.{run_grows}
use Rattle.binfarce_filtering.proofs.filter.TextFilter.push.Goals as goal

pub push_text-requires : goal.push_text-requires
push_text-requires c = none_kept c.args.self.now.run.items _ c.args.self.now.run.ok.0 c.if-is_empty.ensures

pub grow-requires : goal.grow-requires
grow-requires c =
    let part = c.args.part.now in
    let P : List ℕ → Type 0 = λ x. list_all is_run_byte x ≡ true in
    run_grows c.args.self.now.run.items part c.args.self.now.is_run (some_kept c.args.self.now.run.items _ c.args.self.now.run.ok.0 c.if-is_empty.ensures) (subst P (take_all c.run_len-len.result part (omega (arith, c.if-len-part.true))) c.run_len-len.ensures.run)

pub end_run-requires-clause-run : goal.end_run-requires-clause-run
end_run-requires-clause-run c = run_grows c.args.self.now.run.items (take c.run_len-len.result c.args.part.now) c.args.self.now.is_run (some_kept c.args.self.now.run.items _ c.args.self.now.run.ok.0 c.if-is_empty.ensures) c.run_len-len.ensures.run

pub returns : goal.returns
returns c =
    let part = c.args.part.now in
    let len = c.run_len-len.result in
    let rest = take (length part - (len + 1)) (drop (len + 1) part) in
    let out = c.args.out.now.items in
    let first = c.in_ok-end_run.ensures.goes in
    let within : len < length part = omega (arith, c.run_len-len.ensures.within, c.if-len-part.false) in
    let whole = after_run part rest len (get_or part len 0) within refl (from_here part (len + 1)) in
    on_ok ((more : List ℕ) × Goes c.end_run.new.self c.push_text-2.new.self rest more × (c.push_text-2.new.out.items ≡ c.end_run.new.out.items ++ more))
    ((more : List ℕ) × Goes c.args.self.now c.push_text-2.new.self part more × (c.push_text-2.new.out.items ≡ out ++ more)) c.push_text-2.result
    (λ second. both_parts c.args.self.now c.end_run.new.self c.push_text-2.new.self (take len part ++ get_or part len 0 ∷ []) rest part out c.end_run.new.out.items c.push_text-2.new.out.items first.0 second.0 whole first.1 second.1 first.2 second.2)
    c.push_text-2.ensures
