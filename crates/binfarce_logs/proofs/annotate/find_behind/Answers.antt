use Rattle.std.proofs.Common.{◌∙◌, arith, subst, sym}
use Rattle.binfarce_addresses.specs.Lookup.{at_offset}
use Rattle.binfarce_addresses.specs.Places.{IsFoundIn}
use Rattle.binfarce_logs.proofs.Among.{IsOnly, one_found, only_first, only_other, only_second}
use Rattle.binfarce_logs.proofs.annotate.find_behind.Goals as goal
use Rattle.binfarce_logs.proofs.annotate.find_behind.Goals.{then-name_before-longest+else-is_some, else-name_before-longest}

pub returns-then-is_some : goal.returns-then-is_some
returns-then-is_some c =
    only_second c.args.names.now c.args.before.now c.args.offset c.longest_name-longest.result c.name_before.result c.loop-at.at c.loop-at.here c.index-names-at.result _ c.longest_name-longest.ensures c.if-longest-eq0.false c.loop-at-test.true c.index-names-at.is c.name_before.ensures c.if-name_before-longest.true
    (sym c.is_some.ensures ∙ c.if-is_some.true) c.loop-at.invariant

pub loop-at-preserved : goal.loop-at-preserved
loop-at-preserved c =
    let files = c.args.names.now in
    let before = c.args.before.now in
    let longest = c.longest_name-longest.result in
    elim c.if-name_before-longest.branch [
      | then-name_before-longest+else-is_some w ↦
          only_first longest c.name_before.result files before c.loop-at.at c.loop-at.here c.if-name_before-longest.here c.index-names-at.result _ c.loop-at-test.true c.index-names-at.is c.name_before.ensures w.if-name_before-longest.true (sym w.is_some.ensures ∙ w.if-is_some.false) w.here-is c.loop-at.invariant
      | else-name_before-longest w ↦
          only_other longest c.name_before.result files before c.loop-at.at c.loop-at.here c.if-name_before-longest.here c.index-names-at.result _ c.loop-at-test.true c.index-names-at.is c.name_before.ensures w.if-name_before-longest.false w.here-is c.loop-at.invariant
    ]

pub returns-in-Some-find_offset : goal.returns-in-Some-find_offset
returns-in-Some-find_offset c =
    let own = c.index-names-at-2.result in
    let found = subst (IsFoundIn own.0 own.1.is_return (at_offset own.1 c.args.offset)) c.in-Some-find_offset.is c.find_offset.ensures in
    one_found c.args.names.now c.args.before.now c.args.offset c.longest_name-longest.result c.loop-at.at c.in-Some.at own _ c.in-Some-find_offset.found c.longest_name-longest.ensures c.if-longest-eq0.false (omega (arith, c.loop-at-test.false))
    (subst (IsOnly c.longest_name-longest.result c.args.names.now c.args.before.now c.loop-at.at) c.in-Some.is c.loop-at.invariant) c.index-names-at-2.is found
