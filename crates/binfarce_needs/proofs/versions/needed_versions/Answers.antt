use Rattle.std.proofs.Common.{◌≡◌, ◌+◌, ◌-◌, ◌++◌, ℕ, List, length, take, sym, subst, ap, ◌∙◌, arith}
use Rattle.std.specs.Option.{option_map}
use Rattle.std.proofs.lemmas.Bool.{ne_eqb}
use Rattle.binfarce_needs.specs.NeededVersions.{Version, files_from, needed_versions, versions_from}
use Rattle.binfarce_needs.specs.machine.Views.{Found, file_view}
use Rattle.binfarce_needs.proofs.FileSteps.{further, last, no_file, not_there}
use Rattle.binfarce_needs.proofs.versions.needed_versions.Goals as goal

pub returns-in_default : goal.returns-in_default
returns-in_default c =
    let loop = c.loop-passed in
    let bytes = c.args.section.now in
    not_there c.args.byte_order bytes (length bytes - loop._passed) loop.start loop.room loop.offsets (needed_versions c.args.byte_order bytes) loop.invariant
    (omega (arith, c.loop-passed-test.true)) (sym c.file_at.ensures.is ∙ ap (option_map file_view) c.in_default.is)

pub returns-then-file-eq0 : goal.returns-then-file-eq0
returns-then-file-eq0 c =
    let loop = c.loop-passed in
    let bytes = c.args.section.now in
    let file = c.in-Some.file in
    let pushed = λ (others all : List Version) (before : Found loop.offsets (take loop.room (versions_from c.args.byte_order bytes file.name file.count (loop.start + file.versions) ++ others)) all).
    c.in_ok-room.ensures others all (subst (λ (n : ℕ). Found loop.offsets (take loop.room (versions_from c.args.byte_order bytes file.name file.count (loop.start + n) ++ others)) all) (sym c.from.ensures) before) in
    last c.args.byte_order bytes (length bytes - loop._passed) loop.start loop.room loop.offsets (needed_versions c.args.byte_order bytes) loop.invariant
    (file_view file) c.push_versions.new.offsets c.in_ok-room.room (omega (arith, c.loop-passed-test.true)) (sym c.file_at.ensures.is ∙ ap (option_map file_view) c.in-Some.is) pushed c.if-file-eq0.true

pub loop-passed-preserved : goal.loop-passed-preserved
loop-passed-preserved c =
    let loop = c.loop-passed in
    let bytes = c.args.section.now in
    let file = c.in-Some.file in
    let n = length bytes - loop._passed in
    let all = needed_versions c.args.byte_order bytes in
    let pushed = λ (others all : List Version) (before : Found loop.offsets (take loop.room (versions_from c.args.byte_order bytes file.name file.count (loop.start + file.versions) ++ others)) all).
    c.in_ok-room.ensures others all (subst (λ (n : ℕ). Found loop.offsets (take loop.room (versions_from c.args.byte_order bytes file.name file.count (loop.start + n) ++ others)) all) (sym c.from.ensures) before) in
    let next : loop.start + file.next ≡ loop.start + c.from-start.result = ap (λ (m : ℕ). loop.start + m) (sym c.from-start.ensures) in
    let fewer : n - 1 ≡ length bytes - (loop._passed + 1) = omega arith in
    subst (λ (m : ℕ). Found c.push_versions.new.offsets (take c.in_ok-room.room (files_from c.args.byte_order bytes m (loop.start + c.from-start.result))) all) fewer
    (subst (λ (at : ℕ). Found c.push_versions.new.offsets (take c.in_ok-room.room (files_from c.args.byte_order bytes (n - 1) at)) all) next
    (further c.args.byte_order bytes n loop.start loop.room loop.offsets all loop.invariant
    (file_view file) c.push_versions.new.offsets c.in_ok-room.room (omega (arith, c.loop-passed-test.true)) (sym c.file_at.ensures.is ∙ ap (option_map file_view) c.in-Some.is) pushed (ne_eqb file.next 0 c.if-file-eq0.false)))

pub returns : goal.returns
returns c =
    let loop = c.loop-passed in
    let bytes = c.args.section.now in
    no_file c.args.byte_order bytes (length bytes - loop._passed) loop.start loop.room loop.offsets (needed_versions c.args.byte_order bytes) loop.invariant (omega (arith, c.loop-passed-test.false))
