use Rattle.std.proofs.Common.{◌≡◌, ◌+◌, ◌-◌, ℕ, sym, ap, ◌∙◌, arith}
use Rattle.std.specs.Option.{option_map}
use Rattle.std.proofs.lemmas.Bool.{ne_eqb}
use Rattle.binfarce_needs.specs.machine.Views.{version_view}
use Rattle.binfarce_needs.proofs.VersionSteps.{further, last, no_room, no_version, not_there}
use Rattle.binfarce_needs.proofs.versions.push_versions.Goals as goal

pub returns-in_default : goal.returns-in_default
returns-in_default c = λ others all before.
    let loop = c.loop-passed in
    let file = c.args.file in
    not_there c.args.byte_order c.args.section.now file.name (file.count - loop._passed) loop.at loop.left loop.offsets others all (loop.invariant others all before)
    (omega (arith, c.loop-passed-test.true)) (sym c.version_at.ensures.is ∙ ap (option_map version_view) c.in_default.is)

pub returns-then-left-eq0 : goal.returns-then-left-eq0
returns-then-left-eq0 c = λ others all before.
    let loop = c.loop-passed in
    let file = c.args.file in
    no_room c.args.byte_order c.args.section.now file.name (file.count - loop._passed) loop.at loop.left loop.offsets others all (loop.invariant others all before) c.if-left-eq0.true

pub returns-then-version-eq0 : goal.returns-then-version-eq0
returns-then-version-eq0 c = λ others all before.
    let loop = c.loop-passed in
    let file = c.args.file in
    last c.args.byte_order c.args.section.now file.name (file.count - loop._passed) loop.at loop.left loop.offsets others all (loop.invariant others all before)
    (version_view c.in-Some.version) _ (omega (arith, c.loop-passed-test.true)) (omega (arith, c.if-left-eq0.false)) (sym c.version_at.ensures.is ∙ ap (option_map version_view) c.in-Some.is)
    c.in_ok-define.ensures c.in_ok-define-2.ensures c.if-version-eq0.true

pub loop-passed-preserved : goal.loop-passed-preserved
loop-passed-preserved c = λ others all before.
    let loop = c.loop-passed in
    let file = c.args.file in
    let fewer : file.count - (loop._passed + 1) ≡ file.count - loop._passed - 1 = omega arith in
    further c.args.byte_order c.args.section.now file.name (file.count - loop._passed) loop.at loop.left loop.offsets others all (loop.invariant others all before)
    (version_view c.in-Some.version) _ (omega (arith, c.loop-passed-test.true)) (omega (arith, c.if-left-eq0.false)) (sym c.version_at.ensures.is ∙ ap (option_map version_view) c.in-Some.is)
    c.in_ok-define.ensures c.in_ok-define-2.ensures (file.count - (loop._passed + 1)) (loop.at + c.from-at.result) fewer (ap (λ (m : ℕ). loop.at + m) c.from-at.ensures) (ne_eqb c.in-Some.version.next 0 c.if-version-eq0.false)

pub returns : goal.returns
returns c = λ others all before.
    let loop = c.loop-passed in
    let file = c.args.file in
    no_version c.args.byte_order c.args.section.now file.name (file.count - loop._passed) loop.at loop.left loop.offsets others all (loop.invariant others all before) (omega (arith, c.loop-passed-test.false))
