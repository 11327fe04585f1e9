use Rattle.std.proofs.Common.{ℕ, List, ◌≡◌, ◌-◌, true, drop, length, take, arith, length-drop, ap, subst, sym}
use Rattle.std.specs.List.{list_all}
use Rattle.std.proofs.lemmas.List.{take_rest}
use Rattle.binfarce_filtering.specs.Filter.{is_run_byte}
use Rattle.binfarce_filtering.proofs.Names.{reads_all, reads_more}
use Rattle.binfarce_filtering.proofs.Runs.{end_is_run}
use Rattle.binfarce_filtering.proofs.filter.push_names.Goals as goal

pub push_next-requires-clause-run : goal.push_next-requires-clause-run
push_next-requires-clause-run c = let P : List ℕ → Type 0 = λ x. list_all is_run_byte x ≡ true in subst P (sym (take_rest c.args.run.now c.loop-at.at)) (end_is_run c.args.run.now c.loop-at.at c.requires)

pub loop-at-preserved : goal.loop-at-preserved
loop-at-preserved c =
    let run = c.args.run.now in
    let at = c.loop-at.at in
    let part = take (length run - at) (drop at run) in
    let step = c.in_ok-len.ensures in
    let from = take_rest run at in
    record {
      within = omega (arith, step.within, ap length from, length-drop at run);
      reads = reads_more c.args.full run part at c.in_ok-len.len step.shown.0 c.args.out.now.items c.loop-at.out.items c.push_next.new.out.items c.loop-at.invariant.reads from step.within.0 step.shown.1 step.shown.2;
    }

pub returns : goal.returns
returns c = reads_all c.args.full c.args.run.now c.loop-at.at c.args.out.now.items c.loop-at.out.items c.loop-at.invariant.reads (omega (arith, c.loop-at-test.false))
