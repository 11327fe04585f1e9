use Rattle.std.proofs.Common.{◌≡◌, ◌+◌, ◌-◌, ◌<◌, ℕ, true, length, drop, take, get_or, refl, ◌∙◌, ap, subst, arith, length-drop}
use Rattle.std.proofs.lemmas.List.{drop-drop}
use Rattle.binfarce_filtering.specs.Filter.{is_run}
use Rattle.binfarce_filtering.proofs.Runs.{Reaches, ends_in_run, from_here, one_run, plain_reaches, run_here}
use Rattle.binfarce_filtering.proofs.filter.push_ended.Goals as goal

pub returns-then-len-run-clause-run : goal.returns-then-len-run-clause-run
returns-then-len-run-clause-run c =
    let text = c.args.text.now in
    let at = c.loop-run.at in
    let rest = take (length text - at) (drop at text) in
    let plain = c.plain_len-plain.result in
    let run = take (length rest - plain) (drop plain rest) in
    let len = c.run_len-len.result in
    let here : run ≡ drop (at + plain) text = from_here rest plain ∙ ap (drop plain) (from_here text at) ∙ drop-drop plain at text in
    let is : is_run (take len run) ≡ true = run_here rest run plain len c.plain_len-plain.ensures.run (from_here rest plain) c.run_len-len.ensures.run in
    ends_in_run text run (at + plain) len here is c.if-len-run.true

pub returns-then-len-run-clause-shown : goal.returns-then-len-run-clause-shown
returns-then-len-run-clause-shown c =
    let text = c.args.text.now in
    let at = c.loop-run.at in
    let rest = take (length text - at) (drop at text) in
    plain_reaches c.args.full text rest at c.plain_len-plain.result c.args.out.now.items c.loop-run.out.items c.extend_from_slice.new.self.items (from_here text at) c.loop-run.invariant.reaches
    (c.plain_len-plain.ensures.stays c.args.full) c.in_ok-extend_from_slice.ensures.items

pub push_run-requires : goal.push_run-requires
push_run-requires c =
    let text = c.args.text.now in
    let at = c.loop-run.at in
    let rest = take (length text - at) (drop at text) in
    let plain = c.plain_len-plain.result in
    run_here rest (take (length rest - plain) (drop plain rest)) plain c.run_len-len.result c.plain_len-plain.ensures.run (from_here rest plain) c.run_len-len.ensures.run

pub loop-run-preserved : goal.loop-run-preserved
loop-run-preserved c =
    let text = c.args.text.now in
    let at = c.loop-run.at in
    let rest = take (length text - at) (drop at text) in
    let plain = c.plain_len-plain.result in
    let run = take (length rest - plain) (drop plain rest) in
    let len = c.run_len-len.result in
    let b = get_or run len 0 in
    let shown = c.in_ok-push_run.ensures in
    let here : run ≡ drop (at + plain) text = from_here rest plain ∙ ap (drop plain) (from_here text at) ∙ drop-drop plain at text in
    let is : is_run (take len run) ≡ true = run_here rest run plain len c.plain_len-plain.ensures.run (from_here rest plain) c.run_len-len.ensures.run in
    let within : len < length run = omega (arith, c.run_len-len.ensures.within, c.if-len-run.false) in
    let reached : Reaches c.args.full text (at + plain) c.args.out.now.items c.extend_from_slice.new.self.items =
    plain_reaches c.args.full text rest at plain c.args.out.now.items c.loop-run.out.items c.extend_from_slice.new.self.items (from_here text at) c.loop-run.invariant.reaches
    (c.plain_len-plain.ensures.stays c.args.full) c.in_ok-extend_from_slice.ensures.items in
    let further : Reaches c.args.full text ((at + plain) + (len + 1)) c.args.out.now.items c.push.new.self.items =
    one_run c.args.full text run (at + plain) len b shown.0 c.args.out.now.items c.extend_from_slice.new.self.items c.push_run.new.out.items c.push.new.self.items
    here reached is shown.1 within refl (c.run_len-len.ensures.ends within) shown.2 c.in_ok-push.ensures.items in
    let same : (at + plain) + (len + 1) ≡ at + (plain + len + 1) = omega arith in
    record {
      within = omega (arith, within, ap length here, length-drop (at + plain) text);
      reaches = subst (λ (n : ℕ). Reaches c.args.full text n c.args.out.now.items c.push.new.self.items) same further;
    }
